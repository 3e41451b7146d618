-- `output_pose::shown_poses` meets its contract: the state's poses, blended lane by lane with the target's where there is one. Assumes nothing.
use borrow.Author.Rules.{rules}
use Prim.Native.Nat.{◌+◌}
use mathlib.Core.Path.{◌≡◌, ◌∙◌}
use Rattle.model.specs.Pose.{lerp}
use Rattle.lanes.specs.Lanes.{lane_at}
use Rattle.output_pose.proofs.Laws.{pose_alone, pose_towards}
use Rattle.output_pose.proofs.shown_poses.Goals as goal

pub returns-in_default : goal.returns-in_default
returns-in_default c i h = c.state_poses.ensures i h ∙ pose_alone c.args.source.now (c.args.joints.first + i) c.in_default.is

pub returns : goal.returns
returns c i h =
    let made : lane_at c.combine_all.new.x i ≡ lerp (lane_at c.state_poses.new.block i) (lane_at c.state_poses-2.new.block i) c.in-Some.target.now.factor =
    search (rules, c.combine_all.ensures i h) in
    made ∙ rw (c.state_poses.ensures i h, c.state_poses-2.ensures i h) (pose_towards c.args.source.now (c.args.joints.first + i) c.in-Some.is)
