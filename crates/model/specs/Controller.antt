-- Document 01, "Controller (controller.rs)", but for step 3. Definitions only.
use Rattle.std.specs.Prelude.{ℕ, zero, suc, Bool, true, cond, ◌&&◌, List, set, length, replicate, leb, ltb, eqb, Float, Option, Some, None}
use Rattle.std.specs.Float.Ieee.{lt, le, eq, ne}
use Rattle.model.specs.declared.Transition.{Transition}
use Rattle.model.specs.declared.Transition.TheVariants.{Idle, Running}
use Rattle.model.specs.declared.Player.{Player}
use Rattle.model.specs.declared.Pose.{Pose}
use Rattle.model.specs.Numbers.{◌+₆₄◌, ◌-₆₄◌, ◌*₆₄◌, ◌/₆₄◌, 0f, 1f, narrow}
use Rattle.model.specs.Answers.{Verdict, ◌then◌, require}
use Rattle.model.specs.Pose.{lerp}
use Rattle.model.specs.Plan.{max_parameters, max_clip_nodes, joint_count, state_count, initial_state, transition_count, condition_parameter, operator, target_state, number, Value, Duration, output_at}
use Rattle.model.specs.Check.{check}
use Rattle.model.specs.Clips.{blank_instances}
use Rattle.model.specs.Tree.{parameter, synchronize, state_pose}

-- ---- players

-- 'blank'
unfoldable pub blank : Player
blank = record { clock = 0f; speed = 1f; state = 0; transition = Idle; parameters = replicate max_parameters 0f; instances = blank_instances max_clip_nodes }

-- the player p with one part replaced
abbrev pub with_clock : Player → Float → Player
with_clock p x = record { clock = x; speed = p.speed; state = p.state; transition = p.transition; parameters = p.parameters; instances = p.instances }

abbrev pub with_speed : Player → Float → Player
with_speed p x = record { clock = p.clock; speed = x; state = p.state; transition = p.transition; parameters = p.parameters; instances = p.instances }

abbrev pub with_state : Player → ℕ → Player
with_state p x = record { clock = p.clock; speed = p.speed; state = x; transition = p.transition; parameters = p.parameters; instances = p.instances }

abbrev pub with_transition : Player → Transition → Player
with_transition p x = record { clock = p.clock; speed = p.speed; state = p.state; transition = x; parameters = p.parameters; instances = p.instances }

abbrev pub with_parameters : Player → List Float → Player
with_parameters p x = record { clock = p.clock; speed = p.speed; state = p.state; transition = p.transition; parameters = x; instances = p.instances }

abbrev pub with_instances : Player → List Float → Player
with_instances p x = record { clock = p.clock; speed = p.speed; state = p.state; transition = p.transition; parameters = p.parameters; instances = x }

-- ---- start

-- the instances after a start: the first n states, in order, each synchronised once with zeros
unfoldable pub synchronize_states : List ℕ → List Float → ℕ → List Float → List Float
synchronize_states plan numbers zero instances = instances
synchronize_states plan numbers (suc s) instances = synchronize plan numbers (replicate max_parameters 0f) 0f s (synchronize_states plan numbers s instances)

-- 'fresh player'
unfoldable pub fresh : List ℕ → List Float → Player
fresh plan numbers = with_instances (with_state blank (initial_state plan)) (synchronize_states plan numbers (state_count plan) blank.instances)

-- ---- update, speed, set

-- 'update'
abbrev pub updated : Player → Float → Player
updated p delta = with_clock p (p.clock +₆₄ delta *₆₄ p.speed)

-- 'set'. ('speed' is `with_speed`)
abbrev pub parameter_set : Player → ℕ → Float → Player
parameter_set p n v = with_parameters p (set p.parameters n v)

-- refusal 8
abbrev pub set_verdict : ℕ → Verdict
set_verdict n = require (ltb n max_parameters) 8 0

-- ---- the refusals of what plays a figure by a player: the start's, then 9 for a 'current state or running target not below S'; a frame's then 10, for the
-- output's length

-- an idle player has no 'running target' to be wrong
unfoldable pub is_target_below : ℕ → Transition → Bool
is_target_below n Idle = true
is_target_below n (Running start target duration) = ltb target n

-- of n states
abbrev pub has_states : ℕ → ℕ → Transition → Bool
has_states n state transition = ltb state n && is_target_below n transition

abbrev pub play_verdict : List ℕ → List Float → Player → Verdict
play_verdict plan numbers p = check plan (length numbers) then require (has_states (state_count plan) p.state p.transition) 9 0

unfoldable pub frame_verdict : List ℕ → List Float → Player → ℕ → Verdict
frame_verdict plan numbers p output_length = play_verdict plan numbers p then require (leb (output_at (joint_count plan)) output_length) 10 0

-- ---- step 1

-- 'now': the speed does not count
unfoldable pub now_at : Player → Float → Float
now_at p ext = p.clock +₆₄ ext

-- the end of a transition. The duration's widening is no operation, and the sum is of 64 bits
unfoldable pub is_ended : Float → Float → Float → Bool
is_ended now start duration = le (start +₆₄ duration) now

-- what 'operators' 0 to 5 compare: < <= > >= == != of Rust, parameter on the left
unfoldable pub holds : ℕ → Float → Float → Bool
holds op p v =
    cond (eqb op 0) (lt p v)
    (cond (eqb op 1) (le p v)
    (cond (eqb op 2) (lt v p)
    (cond (eqb op 3) (le v p)
    (cond (eqb op 4) (eq p v) (ne p v)))))

module _ (plan : List ℕ) (numbers : List Float) where
  -- transition t of state s: its 'condition', and what it is once it started
  abbrev pub condition_holds : List Float → ℕ → ℕ → Bool
  condition_holds parameters s t = holds (operator plan s t) (parameter parameters (condition_parameter plan s t)) (number plan numbers (Value s t))

  abbrev pub begun : Float → ℕ → ℕ → Transition
  begun now s t = Running now (target_state plan s t) (number plan numbers (Duration s t))

  -- 'the first listed transition whose condition holds' among transition t and those after it, n in all
  unfoldable pub first_passing : List Float → ℕ → ℕ → ℕ → Option ℕ
  first_passing parameters s t zero = None
  first_passing parameters s t (suc n) = cond (condition_holds parameters s t) (Some t) (first_passing parameters s (suc t) n)

  -- among all of state s
  unfoldable pub winner : List Float → ℕ → Option ℕ
  winner parameters s = first_passing parameters s 0 (transition_count plan s)

  -- the transition that a winner starts
  unfoldable pub started_by : Float → ℕ → Option ℕ → Transition
  started_by now s None = Idle
  started_by now s (Some t) = begun now s t

  -- step 1, by the transition that the player had before it: either looks for an end or for a start, never both
  unfoldable pub step_from : Float → Player → Transition → Player
  step_from now p Idle = with_transition p (started_by now p.state (winner p.parameters p.state))
  step_from now p (Running start target duration) = cond (is_ended now start duration) (with_transition (with_state p target) Idle) p

  -- of the player's own transition
  abbrev pub stepped : Float → Player → Player
  stepped now p = step_from now p p.transition

-- ---- step 2, of a player that made step 1

-- 'elapsed': the speed counts
unfoldable pub elapsed : Player → Float → Float
elapsed p ext = narrow (p.clock +₆₄ ext *₆₄ p.speed)

-- how far a transition has come, as the factor of its lerp
unfoldable pub transition_factor : Float → Float → Float → Float
transition_factor now start duration = narrow ((now -₆₄ start) /₆₄ duration)

module _ (plan : List ℕ) (numbers : List Float) (time : Float) (p : Player) where
  -- the instances after synchronising the current state, and after the target on top of that
  unfoldable pub current_instances : List Float
  current_instances = synchronize plan numbers p.parameters time p.state p.instances

  unfoldable pub target_instances : ℕ → List Float
  target_instances target = synchronize plan numbers p.parameters time target current_instances

  unfoldable pub instances_in : Transition → List Float
  instances_in Idle = current_instances
  instances_in (Running start target duration) = target_instances target

  abbrev pub synchronized : Player
  synchronized = with_instances p (instances_in p.transition)

  -- the poses of joint j: of either state, and blended where a transition is under way
  unfoldable pub current_pose : ℕ → Pose
  current_pose j = state_pose plan numbers p.parameters time p.state current_instances j

  unfoldable pub target_pose : ℕ → ℕ → Pose
  target_pose target j = state_pose plan numbers p.parameters time target (target_instances target) j

  unfoldable pub pose_in : Float → ℕ → Transition → Pose
  pose_in now j Idle = current_pose j
  pose_in now j (Running start target duration) = lerp (current_pose j) (target_pose target j) (transition_factor now start duration)

  abbrev pub joint_pose : Float → ℕ → Pose
  joint_pose now j = pose_in now j p.transition
