-- `transitions::condition_holds` meets its contract: the parameter is one of the player's. Assumes nothing.
use Prim.Native.Nat.{◌<◌}
use native.Mathlib.Omega.{arith}
use Rattle.model.specs.Plan.{max_parameters}
use Rattle.layout.specs.Layout.{condition_of, numbers_of}
use Rattle.layout.proofs.Laws.{laid_passes}
use Rattle.layout.proofs.NodeLaws.{parameter_there}
use Rattle.transitions.proofs.Laws.{compares_holds}
use Rattle.transitions.proofs.condition_holds.Goals as goal
use Rattle.transitions.proofs.condition_holds.Goals.{After-condition-condition}

there : (c : After-condition-condition) → c.condition-condition.result.parameter < max_parameters
there c = let s = c.args.state.now in parameter_there (laid_passes s.plan.laid) s.place c.requires c.condition-condition.ensures

pub returns : goal.returns
unfolding condition_of numbers_of
returns c =
    rw (c.holds.ensures, c.numbers_at-compared.ensures _ c.args.state.now.place, c.condition-condition.ensures) (compares_holds _ _ _)

pub offset_bounds-parameters-condition : goal.offset_bounds-parameters-condition
offset_bounds-parameters-condition c = omega (arith, there (goal.at.offset_bounds-parameters-condition c).After-condition-condition)

pub bounds-parameters-condition : goal.bounds-parameters-condition
bounds-parameters-condition c = there (goal.at.bounds-parameters-condition c).After-condition-condition
