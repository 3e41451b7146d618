-- `program::first_frame` meets its contract: the frame is accepted, so its output has the figure's matrices. Assumes nothing.
use Rattle.std.proofs.Common.{◌≤◌, length, ap, arith, rules}
use lib.Ieee.{of_bits}
use Rattle.model.specs.Plan.{max_joints}
use Rattle.printing.proofs.Laws.{front_written}
use Rattle.program.proofs.Laws.{few_shown, frame_lines}
use Rattle.program.proofs.first_frame.Goals as goal
use Rattle.program.proofs.first_frame.Goals.{After-word}

few_joints : (c : After-word) → c.word.result ≤ max_joints
few_joints c =
    let started = c.requires.0 in
    rw c.word.ensures.0 (few_shown _ _ started)

pub put_joints-requires : goal.put_joints-requires
put_joints-requires c =
    let few = few_joints (goal.at.put_joints-requires c).After-word in
    let new = c.new-w.ensures in
    (few, omega (arith, new.first, ap length new.held), omega (arith, c.frame.auto.output))

pub returns : goal.returns
unfolding of_bits
returns c =
    let few = few_joints (goal.at.returns c).After-word in
    let new = c.new-w.ensures in
    let lines = frame_lines _ _ c.requires.0 _ _ _ _ _ c.requires.1 c.word.ensures.0 (search rules) c.frame.ensures in
    front_written (rw lines at c.put_joints.ensures.0) new.held new.first (omega (arith, c.put_joints.ensures.1, new.first, c.well_formed)) (search rules)
