-- Document 01, the calls, and the run by definition with what is compared of it. Definitions only.
use Rattle.std.specs.Prelude.{ℕ, List, [], ◌∷◌, map, get_or, length, Float}
use Rattle.model.specs.declared.Player.{Player}
use Rattle.model.specs.declared.Transition.{Transition}
use Rattle.model.specs.declared.Matrix4.{Matrix4}
use Rattle.model.specs.declared.FrameKind.{FrameKind}
use Rattle.model.specs.Answers.{Verdict, accepted, unless_refused}
use Rattle.model.specs.Rotations.{identity_matrix, floats}
use Rattle.model.specs.Plan.{joint_count}
use Rattle.model.specs.Check.{check}
use Rattle.model.specs.Controller.{blank, with_speed, fresh, updated, parameter_set, set_verdict, frame_verdict, now_at, stepped, elapsed, synchronized, joint_pose}
use Rattle.model.specs.Skeleton.{joint_matrices}
use Rattle.model.specs.Loops.{loops_verdict, whole_loops, loop_rest}

-- ---- start: the answer and the player

unfoldable pub start_verdict : List ℕ → List Float → Verdict
start_verdict plan numbers = check plan (length numbers)

unfoldable pub start_player : List ℕ → List Float → Player
start_player plan numbers = unless_refused (start_verdict plan numbers) (fresh plan numbers) blank

-- ---- a frame and a page frame: the player and the matrices of an accepted one

module _ (plan : List ℕ) (numbers : List Float) (p : Player) (ext : Float) where
  -- step 1
  abbrev pub frame_stepped : Player
  frame_stepped = stepped plan numbers (now_at p ext) p

  unfoldable pub frame_player : Player
  frame_player = synchronized plan numbers (elapsed p ext) frame_stepped

  unfoldable pub frame_matrices : FrameKind → List Matrix4
  frame_matrices kind = joint_matrices kind plan (joint_pose plan numbers (elapsed p ext) frame_stepped (now_at p ext)) (joint_count plan)

-- ---- calls

pub data Call : Type 0 where
  Update Speed : Float → Call
  Set : ℕ → Float → Call
  -- ext, and the output's length
  Frame : FrameKind → Float → ℕ → Call
  -- document 02, Card 7, a question: state, node and time
  Loops : ℕ → ℕ → Float → Call

unfoldable pub call_verdict : List ℕ → List Float → Player → Call → Verdict
call_verdict plan numbers p (Update delta) = accepted
call_verdict plan numbers p (Speed v) = accepted
call_verdict plan numbers p (Set n v) = set_verdict n
call_verdict plan numbers p (Frame kind ext output_length) = frame_verdict plan numbers p output_length
call_verdict plan numbers p (Loops s n time) = loops_verdict plan numbers p s n

unfoldable pub changed : List ℕ → List Float → Player → Call → Player
changed plan numbers p (Update delta) = updated p delta
changed plan numbers p (Speed v) = with_speed p v
changed plan numbers p (Set n v) = parameter_set p n v
changed plan numbers p (Frame kind ext output_length) = frame_player plan numbers p ext
changed plan numbers p (Loops s n time) = p

-- a refused call leaves the player
unfoldable pub after : List ℕ → List Float → Player → Call → Player
after plan numbers p c = unless_refused (call_verdict plan numbers p c) (changed plan numbers p c) p

-- what the chosen joints show in a call that is accepted
unfoldable pub chosen_floats : List ℕ → List Float → List ℕ → Player → Call → List (List Float)
chosen_floats plan numbers chosen p (Update delta) = []
chosen_floats plan numbers chosen p (Speed v) = []
chosen_floats plan numbers chosen p (Set n v) = []
chosen_floats plan numbers chosen p (Frame kind ext output_length) = map (λ j. floats (get_or (frame_matrices plan numbers p ext kind) j identity_matrix)) chosen
chosen_floats plan numbers chosen p (Loops s n time) = []

-- what a question that is accepted is told: loops and rest. The chosen joints do not see it: it may be about a state that is not reachable
unfoldable pub told : List ℕ → List Float → Player → Call → List ℕ
told plan numbers p (Update delta) = []
told plan numbers p (Speed v) = []
told plan numbers p (Set n v) = []
told plan numbers p (Frame kind ext output_length) = []
told plan numbers p (Loops s n time) = whole_loops plan numbers p s n time ∷ loop_rest plan numbers p s n time ∷ []

-- ---- the run by definition

-- what is compared after each call
pub record Observation : Type 0 where
  pub answer : Verdict
  pub clock : Float
  pub speed : Float
  pub state : ℕ
  pub transition : Transition
  -- by chosen joint; empty unless a frame was accepted
  pub matrices : List (List Float)

unfoldable pub observation : Verdict → Player → List (List Float) → Observation
observation v p ms = record { answer = v; clock = p.clock; speed = p.speed; state = p.state; transition = p.transition; matrices = unless_refused v ms [] }

module _ (plan : List ℕ) (numbers : List Float) (chosen : List ℕ) where
  -- from a player on, which only the run's own calls change
  unfoldable pub run_from : Player → List Call → List Observation
  run_from p [] = []
  run_from p (c ∷ cs) =
      observation (call_verdict plan numbers p c) (after plan numbers p c) (chosen_floats plan numbers chosen p c) ∷ run_from (after plan numbers p c) cs

  -- 'run by definition'
  unfoldable pub run : List Call → List Observation
  run calls = run_from (fresh plan numbers) calls
