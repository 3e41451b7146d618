-- The layout of a plan that passed its check: counts and places, as the check finds them and a frame uses them. Definitions only.
-- Every place is one that model's Plan defines.
use Rattle.std.specs.Prelude.{ℕ, ◌<◌, ◌≡◌, List, Float}
use Rattle.model.specs.Answers.{accepted}
use Rattle.model.specs.Check.{check}
use Rattle.model.specs.Plan.{joint_count, clip_count, state_count, initial_state, state_at, node_count, kind_at, kind, input_a, input_b, node_parameter, transition_count, condition_parameter_at, condition_parameter, operator, target_state, clip_nodes_before, poses_at, number_at, Value, Duration, number, numbers_length}
use Rattle.layout.specs.Kinds.{kind_of, operator_of}
use Rattle.layout.specs.declared.Layout.{Layout}
use Rattle.layout.specs.declared.StateLayout.{StateLayout}
use Rattle.layout.specs.declared.Node.{Node}
use Rattle.layout.specs.declared.Condition.{Condition}
use Rattle.layout.specs.declared.TransitionNumbers.{TransitionNumbers}

unfoldable pub layout_of : List ℕ → Layout
layout_of plan =
    record { joints = joint_count plan; clips = clip_count plan; states = state_count plan; initial = initial_state plan; states_at = state_at plan 0; poses_at = poses_at plan }

unfoldable pub state_layout : List ℕ → ℕ → StateLayout
state_layout plan s =
    record { state = s; nodes_at = kind_at plan s 0; nodes = node_count plan s; transitions_at = condition_parameter_at plan s 0; transitions = transition_count plan s; values_at = number_at plan (Value s 0); clip_node = clip_nodes_before plan s }

-- node i of state s
unfoldable pub node_of : List ℕ → ℕ → ℕ → Node
node_of plan s i = record { kind = kind_of (kind plan s i); a = input_a plan s i; b = input_b plan s i; parameter = node_parameter plan s i }

-- what state s asks before its transition t, and where that leads
unfoldable pub condition_of : List ℕ → ℕ → ℕ → Condition
condition_of plan s t = record { parameter = condition_parameter plan s t; operator = operator_of (operator plan s t); target = target_state plan s t }

-- the numbers of transition t of state s
unfoldable pub numbers_of : List ℕ → List Float → ℕ → ℕ → TransitionNumbers
numbers_of plan numbers s t = record { value = number plan numbers (Value s t); duration = number plan numbers (Duration s t) }

-- ---- what functions over a layout ask of their callers

-- the plan passes with some count of numbers
pub record Passes (plan : List ℕ) : Type 0 where
  pub numbers : ℕ
  pub passed : check plan numbers ≡ accepted

-- the plan passes with the numbers that it says it has, and this is its layout
pub record Laid (plan : List ℕ) (layout : Layout) : Type 0 where
  pub passed : check plan (numbers_length plan) ≡ accepted
  pub found : layout ≡ layout_of plan

-- this is the layout of one of the plan's states
pub record InPlan (plan : List ℕ) (here : StateLayout) : Type 0 where
  pub below : here.state < state_count plan
  pub place : here ≡ state_layout plan here.state

-- and this is one of its transitions, of a plan that passes
pub record HasTransition (here : StateLayout) (t : ℕ) : Type 0 where
  pub plan : List ℕ
  pub passes : Passes plan
  pub place : InPlan plan here
  pub below : t < here.transitions
