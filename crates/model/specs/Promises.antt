-- What each public call ensures, as one record a call with an equation for everything that it returns or writes. Definitions only.
-- The calls' contracts cite these records, and so do the traces of demand 3.
use Rattle.std.specs.Prelude.{ℕ, ◌+◌, ◌*◌, ◌<◌, ◌≡◌, List, length, Float, Result, IfOk}
use Rattle.model.specs.declared.Player.{Player}
use Rattle.model.specs.declared.Outcome.{Outcome}
use Rattle.model.specs.declared.Lengths.{Lengths}
use Rattle.model.specs.declared.Refusal.{Refusal}
use Rattle.model.specs.declared.FrameKind.{FrameKind}
use Rattle.model.specs.declared.Uses.{Uses}
use Rattle.model.specs.declared.LoopCount.{LoopCount}
use Rattle.model.specs.Answers.{values, unless_refused}
use Rattle.model.specs.Controller.{with_speed, updated, parameter_set, set_verdict, frame_verdict}
use Rattle.model.specs.Skeleton.{written}
use Rattle.model.specs.Text.{read_figure, text_values, text_verdict, when_accepted, overwritten, read_words, read_floats}
use Rattle.model.specs.Run.{start_verdict, start_player, frame_player, frame_matrices}
use Rattle.model.specs.Uses.{state_marks, parameter_marks, clip_marks}
use Rattle.model.specs.Loops.{loops_verdict, loop_length, played_index, whole_loops, loop_rest}

pub record Started (plan : List ℕ) (numbers : List Float) (r : Outcome) : Type 0 where
  pub answer : values r.answer ≡ start_verdict plan numbers
  pub player : r.player ≡ start_player plan numbers

pub record Updated (p : Player) (delta : Float) (r : Player) : Type 0 where
  pub player : r ≡ updated p delta

pub record SpeedSet (p : Player) (v : Float) (r : Player) : Type 0 where
  pub player : r ≡ with_speed p v

pub record ParameterSet (p : Player) (n : ℕ) (v : Float) (r : Outcome) : Type 0 where
  pub answer : values r.answer ≡ set_verdict n
  pub player : r.player ≡ unless_refused (set_verdict n) (parameter_set p n v) p

-- of either kind. The output buffer holds `old` when the call begins and `new` when it returns
pub record Framed (kind : FrameKind) (plan : List ℕ) (numbers : List Float) (p : Player) (ext : Float) (old new : List Float) (r : Outcome) : Type 0 where
  pub answer : values r.answer ≡ frame_verdict plan numbers p (length old)
  pub player : r.player ≡ unless_refused (frame_verdict plan numbers p (length old)) (frame_player plan numbers p ext) p
  pub output : new ≡ unless_refused (frame_verdict plan numbers p (length old)) (written plan (frame_matrices plan numbers p ext kind) old) old

-- marks
pub record UsesFound (plan : List ℕ) (numbers : List Float) (r : Result Uses Refusal) : Type 0 where
  pub answer : values r ≡ start_verdict plan numbers
  pub states : IfOk r (λ u. u.states ≡ state_marks plan)
  pub parameters : IfOk r (λ u. u.parameters ≡ parameter_marks plan)
  pub clips : IfOk r (λ u. u.clips ≡ clip_marks plan)

-- loops and rest. The player is handed in only
pub record LoopsCounted (plan : List ℕ) (numbers : List Float) (p : Player) (s n : ℕ) (time : Float) (r : Result LoopCount Refusal) : Type 0 where
  pub answer : values r ≡ loops_verdict plan numbers p s n
  pub loops : IfOk r (λ c. c.loops ≡ whole_loops plan numbers p s n time)
  pub rest : IfOk r (λ c. c.rest ≡ loop_rest plan numbers p s n time)
  -- 'the position's floor as an index equals loops times N plus rest, with rest below N', by which alone an accepted question's two numbers are known
  pub equation : IfOk r (λ c. played_index plan numbers p s n time ≡ c.loops * loop_length plan s n + c.rest)
  pub bound : IfOk r (λ c. c.rest < loop_length plan s n)

-- Both slices, given as what they hold when the call begins and when it returns
pub record TextRead (text plan_old plan_new : List ℕ) (numbers_old numbers_new : List Float) (r : Result Lengths Refusal) : Type 0 where
  pub answer : text_values r ≡ text_verdict (read_figure text) (length plan_old) (length numbers_old)
  pub plan : plan_new ≡ when_accepted (text_verdict (read_figure text) (length plan_old) (length numbers_old)) (overwritten (read_words (read_figure text)) plan_old) plan_old
  pub numbers : numbers_new ≡ when_accepted (text_verdict (read_figure text) (length plan_old) (length numbers_old)) (overwritten (read_floats (read_figure text)) numbers_old) numbers_old
