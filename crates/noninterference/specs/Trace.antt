-- What is known of a program that makes calls on one figure: each keeps its promise, and the next gets the player that it returned. Definitions only.
use Rattle.std.specs.Prelude.{ℕ, ◌≡◌, cond, List, [], ◌∷◌, map, length, take, drop, Float, Result, Ok, Err}
use Rattle.model.specs.declared.Player.{Player}
use Rattle.model.specs.declared.Outcome.{Outcome}
use Rattle.model.specs.declared.FrameKind.{FrameKind}
use Rattle.model.specs.declared.LoopCount.{LoopCount}
use Rattle.model.specs.declared.Refusal.{Refusal}
use Rattle.model.specs.Answers.{Verdict, accepted, values}
use Rattle.model.specs.Plan.{output_at}
use Rattle.model.specs.Run.{Call, Update, Speed, Set, Frame, Loops, Observation, observation}
use Rattle.model.specs.Uses.{is_marked, state_marks}
use Rattle.model.specs.Promises.{Started, Updated, SpeedSet, ParameterSet, Framed, LoopsCounted}

-- a call, its answer, the player that it returned, the output buffer after it, and what a question was told
pub record Event : Type 0 where
  pub call : Call
  pub answer : Verdict
  pub player : Player
  pub output : List Float
  pub told : List ℕ

-- loops and rest, which are 0 where the question is refused
abbrev pub counts_told : Result LoopCount Refusal → List ℕ
counts_told (Ok c) = c.loops ∷ c.rest ∷ []
counts_told (Err e) = 0 ∷ 0 ∷ []

-- the calls' events from a player on; each step is the promise that the call's contract ensures
pub data Trace (plan : List ℕ) (numbers : List Float) : Player → List Event → Type 0 where
  end : {p : Player} → Trace plan numbers p []
  update : {p r : Player} {es : List Event} (delta : Float) → Updated p delta r → Trace plan numbers r es
      → Trace plan numbers p (record { call = Update delta; answer = accepted; player = r; output = []; told = [] } ∷ es)
  set_speed : {p r : Player} {es : List Event} (v : Float) → SpeedSet p v r → Trace plan numbers r es
      → Trace plan numbers p (record { call = Speed v; answer = accepted; player = r; output = []; told = [] } ∷ es)
  set_parameter : {p : Player} {r : Outcome} {es : List Event} (n : ℕ) (v : Float) → ParameterSet p n v r → Trace plan numbers r.player es
      → Trace plan numbers p (record { call = Set n v; answer = values r.answer; player = r.player; output = []; told = [] } ∷ es)
  frame : {p : Player} {r : Outcome} {es : List Event} (kind : FrameKind) (ext : Float) (old new : List Float) → Framed kind plan numbers p ext old new r → Trace plan numbers r.player es
      → Trace plan numbers p (record { call = Frame kind ext (length old); answer = values r.answer; player = r.player; output = new; told = [] } ∷ es)
  -- a question only reads the player: the next call gets the same
  ask_loops : {p : Player} {r : Result LoopCount Refusal} {es : List Event} (s n : ℕ) (time : Float) → LoopsCounted plan numbers p s n time r → Trace plan numbers p es
      → Trace plan numbers p (record { call = Loops s n time; answer = values r; player = p; output = []; told = counts_told r } ∷ es)

-- a trace that begins with an accepted start
pub record Session (plan : List ℕ) (numbers : List Float) (es : List Event) : Type 0 where
  pub start : Outcome
  pub started : Started plan numbers start
  pub is_accepted : values start.answer ≡ accepted
  pub trace : Trace plan numbers start.player es

abbrev pub calls : List Event → List Call
calls es = map (λ e. e.call) es

-- ---- what is compared of an event, taken from the program's own results

unfoldable pub output_floats : List ℕ → Call → List Float → List (List Float)
output_floats chosen (Update delta) output = []
output_floats chosen (Speed v) output = []
output_floats chosen (Set n v) output = []
output_floats chosen (Frame kind ext output_length) output = map (λ j. take 16 (drop (output_at j) output)) chosen
output_floats chosen (Loops s n time) output = []

unfoldable pub observed : List ℕ → Event → Observation
observed chosen e = observation e.answer e.player (output_floats chosen e.call e.output)

-- and of what a question was told: it counts where the state that is asked about is reachable. Elsewhere it may rest on an unseen rate
unfoldable pub of_reachable : List ℕ → Call → List ℕ → List ℕ
of_reachable plan (Update delta) told = []
of_reachable plan (Speed v) told = []
of_reachable plan (Set n v) told = []
of_reachable plan (Frame kind ext output_length) told = []
of_reachable plan (Loops s n time) told = cond (is_marked (state_marks plan) s) told []

unfoldable pub told_in : List ℕ → Event → List ℕ
told_in plan e = of_reachable plan e.call e.told
