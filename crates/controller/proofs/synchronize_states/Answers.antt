-- `controller::synchronize_states` meets its contract. Invariant: the first s states are synchronised. Assumes nothing.
use native.Mathlib.Omega.{arith}
use mathlib.Core.Path.{◌≡◌, refl}
use Rattle.model.specs.Controller.{synchronize_states}
use Rattle.layout.proofs.Laws.{states_found, in_plan}
use Rattle.controller.proofs.Laws.{one_more_state}
use Rattle.controller.proofs.synchronize_states.Goals as goal

pub loop-s-init : goal.loop-s-init
unfolding synchronize_states
loop-s-init c = refl

pub state_layout-requires : goal.state_layout-requires
state_layout-requires c = rw (← states_found _ c.args.figure.now.plan.laid.found) c.loop-s-test.true

pub invariant_of-state : goal.invariant_of-state
invariant_of-state c = record { place = in_plan _ _ c.state_layout.ensures (rw (← states_found _ c.args.figure.now.plan.laid.found) c.loop-s-test.true) }

pub loop-s-preserved : goal.loop-s-preserved
unfolding synchronize_states
loop-s-preserved c = one_more_state _ _ _ _ _ _ _ _ c.state_layout.ensures c.requires c.loop-s.invariant c.synchronize.ensures.1

pub returns : goal.returns
returns c =
    let e : c.loop-s.s ≡ c.args.figure.now.plan.layout.states = omega arith in
    rw (← states_found _ c.args.figure.now.plan.laid.found, ← e) c.loop-s.invariant
