-- What each exported call ensures: document 01's outcome on the player that the flat one stands for, and a flat player that a refused call leaves as it is.
-- Definitions only.
use Rattle.std.specs.Prelude.{ℕ, ◌≡◌, List, length, Float}
use Rattle.model.specs.declared.Player.{Player}
use Rattle.model.specs.declared.FrameKind.{FrameKind}
use Rattle.model.specs.Answers.{Verdict, unless_refused}
use Rattle.model.specs.Controller.{updated, with_speed, parameter_set, set_verdict, frame_verdict}
use Rattle.model.specs.Skeleton.{written}
use Rattle.model.specs.Text.{read_figure, text_verdict, when_accepted, overwritten, read_words, read_floats}
use Rattle.model.specs.Run.{start_verdict, start_player, frame_player, frame_matrices}
use Rattle.host_player.specs.declared.HostPlayer.{HostPlayer}
use Rattle.host_player.specs.declared.HostAnswer.{HostAnswer}
use Rattle.host_player.specs.declared.HostTextAnswer.{HostTextAnswer}
use Rattle.host_player.specs.HostPlayer.{unpacked, packed, host_answer, host_text_answer}

-- the flat player after a call with this verdict that would make it p
abbrev pub host_after : Verdict → Player → HostPlayer → HostPlayer
host_after v p f = unless_refused v (packed p) f

pub record HostStarted (plan : List ℕ) (numbers : List Float) (after : HostPlayer) (r : HostAnswer) : Type 0 where
  pub answer : r ≡ host_answer (start_verdict plan numbers)
  pub player : after ≡ packed (start_player plan numbers)

pub record HostUpdated (before : HostPlayer) (delta : Float) (after : HostPlayer) : Type 0 where
  pub player : after ≡ packed (updated (unpacked before) delta)

pub record HostSpeedSet (before : HostPlayer) (v : Float) (after : HostPlayer) : Type 0 where
  pub player : after ≡ packed (with_speed (unpacked before) v)

pub record HostParameterSet (before : HostPlayer) (n : ℕ) (v : Float) (after : HostPlayer) (r : HostAnswer) : Type 0 where
  pub answer : r ≡ host_answer (set_verdict n)
  pub player : after ≡ host_after (set_verdict n) (parameter_set (unpacked before) n v) before

-- of either kind. The output buffer holds `old` when the call begins and `new` when it returns
pub record HostFramed (kind : FrameKind) (plan : List ℕ) (numbers : List Float) (before : HostPlayer) (ext : Float) (old new : List Float) (after : HostPlayer) (r : HostAnswer) : Type 0 where
  pub answer : r ≡ host_answer (frame_verdict plan numbers (unpacked before) (length old))
  pub player : after ≡ host_after (frame_verdict plan numbers (unpacked before) (length old)) (frame_player plan numbers (unpacked before) ext) before
  pub output : new ≡ unless_refused (frame_verdict plan numbers (unpacked before) (length old)) (written plan (frame_matrices plan numbers (unpacked before) ext kind) old) old

pub record HostTextRead (text plan_old plan_new : List ℕ) (numbers_old numbers_new : List Float) (r : HostTextAnswer) : Type 0 where
  pub answer : r ≡ host_text_answer (text_verdict (read_figure text) (length plan_old) (length numbers_old))
  pub plan : plan_new ≡ when_accepted (text_verdict (read_figure text) (length plan_old) (length numbers_old)) (overwritten (read_words (read_figure text)) plan_old) plan_old
  pub numbers : numbers_new ≡ when_accepted (text_verdict (read_figure text) (length plan_old) (length numbers_old)) (overwritten (read_floats (read_figure text)) numbers_old) numbers_old
