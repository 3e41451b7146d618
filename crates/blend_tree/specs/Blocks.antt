-- What functions over blocks of joints ask and promise: each lane of a block is the pose that model defines for one joint. Definitions only.
use Rattle.std.specs.Prelude.{ℕ, suc, ◌+◌, ◌≤◌, ◌<◌, ◌≡◌, List, get_or, Float}
use Rattle.model.specs.declared.Pose.{Pose}
use Rattle.model.specs.Pose.{identity_pose}
use Rattle.model.specs.Tree.{node_poses, state_pose}
use Rattle.layout.specs.declared.Layout.{Layout}
use Rattle.lanes.specs.Lanes.{block_size, lane_at}
use Rattle.lanes.specs.declared.Joints.{Joints}
use Rattle.blend_tree.specs.declared.Source.{Source}

-- lane i of the first `count` is the pose f i
abbrev pub Filled : (ℕ → Pose) → ℕ → List Pose → Type 0
Filled f count block = (i : ℕ) → i < count → lane_at block i ≡ f i

-- the lanes are the poses that a row of joints has by f
abbrev pub FilledFor : Joints → List Pose → (ℕ → Pose) → Type 0
FilledFor joints block f = Filled (λ i. f (joints.first + i)) joints.count block

-- a block has room for this row of the plan's joints
pub record InBlock (layout : Layout) (joints : Joints) : Type 0 where
  pub small : joints.count ≤ block_size
  pub inside : joints.first + joints.count ≤ layout.joints

-- ---- poses of joint j

-- of node i of state s
abbrev pub pose_of_node : List ℕ → List Float → List Float → Float → ℕ → List Float → ℕ → ℕ → Pose
pose_of_node plan numbers parameters time s instances i j = get_or (node_poses plan numbers parameters time s instances j (suc i)) i identity_pose

-- of node i of a state, from what its poses come from
abbrev pub node_pose_at : Source → ℕ → ℕ → Pose
node_pose_at from i j =
    let at = from.state in
    pose_of_node at.figure.plan.words.now at.figure.numbers.now from.parameters.now at.time at.here.state from.instances.now i j

-- of the state
abbrev pub state_pose_at : Source → ℕ → Pose
state_pose_at from j =
    let at = from.state in
    state_pose at.figure.plan.words.now at.figure.numbers.now from.parameters.now at.time at.here.state from.instances.now j
