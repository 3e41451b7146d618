-- `plan::states::check_transitions` meets its contract. Invariant: the first t transitions pass. Assumes nothing.
use Prim.Native.Nat.{◌+◌, ◌*◌}
use Rattle.plan.specs.Parts.{check_transition_at}
use Rattle.plan.proofs.Laws.{Passing}
use Rattle.plan.proofs.states.check_transitions.Given as goal

abbrev pub invariant-loop-t : goal.invariant-loop-t
invariant-loop-t l = Passing (λ t. check_transition_at l.plan l.counts (l.from + 3 * t)) l.n l.t
