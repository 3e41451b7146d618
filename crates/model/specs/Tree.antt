-- Document 01, "Tree (blend_tree.rs)", with document 02's Card 2: inputs without samples. Definitions only.
use Rattle.std.specs.Prelude.{ℕ, zero, suc, ◌-◌, Bool, cond, not, ◌&&◌, List, get_or, Float}
use Rattle.std.specs.Float.{nan}
use Rattle.model.specs.declared.Pose.{Pose}
use Rattle.model.specs.Numbers.{◌+₃₂◌, ◌-₃₂◌, ◌*₃₂◌, ◌/₃₂◌, 1f}
use Rattle.model.specs.Pose.{identity_pose, lerp, concat}
use Rattle.model.specs.Table.{table_to}
use Rattle.model.specs.Plan.{is_empty, node_count, is_clip, is_lerp, input_a, input_b, node_parameter, clip_node_at}
use Rattle.model.specs.Clips.{local_time, set_playback_rate, instance_at, set_instance, duration, clip_pose}

abbrev pub parameter : List Float → ℕ → Float
parameter parameters n = get_or parameters n nan

-- 'additive': b, weakened towards the identity by p, on top of a
unfoldable pub additive : Pose → Pose → Float → Pose
additive a b p = concat a (lerp identity_pose b p)

-- 'target': the blended length of two clips
unfoldable pub target_length : Float → Float → Float → Float
target_length p length_a length_b = (1f -₃₂ p) *₃₂ length_a +₃₂ p *₃₂ length_b

-- 'rate' that lets a clip of its own length last the target
unfoldable pub synchronized_rate : Float → Float → Float
synchronized_rate own target = own /₃₂ target

-- the instances with a new playback rate of instance n from a time on
abbrev pub rate_set : Float → ℕ → Float → List Float → List Float
rate_set time n rate instances = set_instance instances n (set_playback_rate (instance_at instances n) time rate)

-- node i is a clip node, and its clip has samples
unfoldable pub plays_samples : List ℕ → ℕ → ℕ → Bool
plays_samples plan s i = is_clip plan s i && not (is_empty plan (input_a plan s i))

-- which nodes 'synchronising' touches. Card 2: not one 'with an empty clip for an input'
unfoldable pub is_touched : List ℕ → ℕ → ℕ → Bool
is_touched plan s i = is_lerp plan s i && (plays_samples plan s (input_a plan s i) && plays_samples plan s (input_b plan s i))

-- the length of the clip that clip node i of state s names
unfoldable pub node_length : List ℕ → List Float → ℕ → ℕ → Float
node_length plan numbers s i = duration plan numbers (input_a plan s i)

module _ (plan : List ℕ) (numbers : List Float) (parameters : List Float) (time : Float) (s : ℕ) where
  -- ---- synchronising

  unfoldable pub node_target : ℕ → Float
  node_target i =
      target_length (parameter parameters (node_parameter plan s i)) (node_length plan numbers s (input_a plan s i)) (node_length plan numbers s (input_b plan s i))

  -- the instance of the clip node i takes its rate for a target length
  unfoldable pub input_synchronized : ℕ → Float → List Float → List Float
  input_synchronized i target instances = rate_set time (clip_node_at plan s i) (synchronized_rate (node_length plan numbers s i) target) instances

  unfoldable pub synchronize_node : ℕ → List Float → List Float
  synchronize_node i instances =
      cond (is_touched plan s i) (input_synchronized (input_b plan s i) (node_target i) (input_synchronized (input_a plan s i) (node_target i) instances)) instances

  -- the first n nodes
  unfoldable pub synchronize_nodes : ℕ → List Float → List Float
  synchronize_nodes zero instances = instances
  synchronize_nodes (suc n) instances = synchronize_node n (synchronize_nodes n instances)

  unfoldable pub synchronize : List Float → List Float
  synchronize instances = synchronize_nodes (node_count plan s) instances

  -- ---- the pose of a node at joint j, made from a table of the poses before it

  module _ (instances : List Float) (j : ℕ) where
    unfoldable pub node_pose : List Pose → ℕ → Pose
    node_pose earlier i =
        let a = get_or earlier (input_a plan s i) identity_pose in
        let b = get_or earlier (input_b plan s i) identity_pose in
        let p = parameter parameters (node_parameter plan s i) in
        cond (is_clip plan s i)
        (clip_pose plan numbers (input_a plan s i) j (local_time (instance_at instances (clip_node_at plan s i)) time))
        (cond (is_lerp plan s i) (lerp a b p) (additive a b p))

    -- of the first n nodes
    unfoldable pub node_poses : ℕ → List Pose
    node_poses n = table_to node_pose n

    -- 'root'
    unfoldable pub state_pose : Pose
    state_pose = get_or (node_poses (node_count plan s)) (node_count plan s - 1) identity_pose
