-- `layout::passed::Plan::state` meets its contract: the layout is the state's. Assumes nothing.
use Rattle.layout.proofs.Laws.{in_plan}
use Rattle.layout.proofs.passed.Plan.state.Goals as goal

pub invariant_of-result : goal.invariant_of-result
invariant_of-result c = record { place = in_plan _ _ c.state_layout.ensures c.requires }
