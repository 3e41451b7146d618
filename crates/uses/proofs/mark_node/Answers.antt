-- `uses::mark_node` meets its contract: one mark, by the node's kind. Assumes nothing.
use native.Mathlib.Omega.{arith}
use Rattle.layout.proofs.Laws.{laid_passes}
use Rattle.layout.proofs.NodeLaws.{NodeRead}
use Rattle.uses.proofs.Laws.{clip_small, clip_marked, blend_small, blend_marked}
use Rattle.uses.proofs.mark_node.Goals as goal
use Rattle.uses.proofs.mark_node.Goals.{After-node-node}

read : (c : After-node-node) → let s = c.args.state.now in NodeRead s.plan.words.now s.here c.args.i c.node-node.result
read c = let s = c.args.state.now in record { passes = laid_passes s.plan.laid; state = s.place; below = c.requires; found = c.node-node.ensures }

pub bounds-marks-node : goal.bounds-marks-node
bounds-marks-node c = clip_small (read (goal.at.bounds-marks-node c).After-node-node) c.args.marks.now c.in-Clip.is

pub returns-in-Clip : goal.returns-in-Clip
returns-in-Clip c = clip_marked (read (goal.at.returns-in-Clip c).After-node-node) _ c.in-Clip.is (omega arith)

pub bounds-marks-node-in_default : goal.bounds-marks-node-in_default
bounds-marks-node-in_default c = blend_small (read (goal.at.bounds-marks-node-in_default c).After-node-node) c.args.marks.now c.in_default.not-Clip

pub returns-in_default : goal.returns-in_default
returns-in_default c = blend_marked (read (goal.at.returns-in_default c).After-node-node) _ c.in_default.not-Clip (omega arith)
