-- `transitions::first_passing` meets its contract. Invariant: what wins from transition t on wins from the first on. Assumes nothing.
use Prim.Native.Nat.{◌-◌, ◌≤◌}
use mathlib.Core.Path.{◌≡◌}
use Rattle.model.specs.Controller.{first_passing}
use Rattle.transitions.proofs.first_passing.Given as goal

abbrev pub invariant-loop-t : goal.invariant-loop-t
invariant-loop-t l =
    (l.t ≤ l.state.here.transitions) × (first_passing l.state.plan.words.now l.numbers l.parameters l.state.here.state 0 l.state.here.transitions ≡ first_passing l.state.plan.words.now l.numbers l.parameters l.state.here.state l.t (l.state.here.transitions - l.t))

abbrev pub decreases-loop-t : goal.decreases-loop-t
decreases-loop-t l = l.state.here.transitions - l.t
