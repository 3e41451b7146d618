-- What the functions of this crate ensure. Definitions only.
use Rattle.std.specs.Prelude.{ℕ, zero, suc, ◌+◌, ◌≤◌, ◌≡◌, cond, List, [], ◌++◌, length, take, drop, ltb, Float, None}
use Rattle.model.specs.declared.Outcome.{Outcome}
use Rattle.model.specs.declared.Player.{Player}
use Rattle.model.specs.Answers.{accepted, values, unless_refused}
use Rattle.model.specs.Plan.{max_joints, joint_count}
use Rattle.model.specs.Run.{Call, call_verdict, after, chosen_floats, observation, start_player}
use Rattle.printing.specs.Written.{Front, joint_lines}
use Rattle.printing.specs.Sizes.{refusal_size, max_printed}
use Rattle.calls.specs.CallText.{CallLine, malformed, line, call_in}
use Rattle.calls.specs.Read.{call_at, end_of}
use Rattle.report.specs.Report.{below, matrix_lines, answer_line, player_text, observation_text, told_text, told_values}
use Rattle.report.specs.Sizes.{player_size, told_size}
use Rattle.replay_core.specs.declared.CallDone.{CallDone}
use Rattle.replay_core.specs.declared.Begun.{Begun}
use Rattle.replay_core.specs.declared.Progress.{Progress}
use Rattle.replay_core.specs.Replay.{told_if_accepted, call_report, start_text}

-- the bytes of the longest report
abbrev pub max_report : ℕ
max_report = refusal_size + player_size + max_printed + told_size

-- ---- one call

-- a call that has no matrices to show and is told nothing
abbrev pub nothing_shown : Outcome → CallDone
nothing_shown outcome = record { outcome = outcome; joints = 0; told = None }

-- what is put for a call
unfoldable pub call_text : CallDone → List Float → List ℕ
call_text r floats =
    answer_line (values r.outcome.answer) ++ player_text r.outcome.player ++ joint_lines r.joints floats ++
    told_text (told_values r.told)

module _ (plan : List ℕ) (numbers : List Float) (p : Player) where
  -- what every joint shows in a call; nothing where it is refused
  abbrev pub all_shown : Call → List (List Float)
  all_shown c = unless_refused (call_verdict plan numbers p c) (chosen_floats plan numbers (below (joint_count plan)) p c) []

  -- its answer, its player, the floats that hold the matrices to be shown, and what it is told
  pub record Done (c : Call) (floats : List Float) (r : CallDone) : Type 0 where
    pub answer : values r.outcome.answer ≡ call_verdict plan numbers p c
    pub player : r.outcome.player ≡ after plan numbers p c
    pub few : r.joints ≤ max_joints
    pub shown : joint_lines r.joints floats ≡ matrix_lines (all_shown c)
    pub told : told_values r.told ≡ told_if_accepted plan numbers p c

  -- a line's call: the player that it leaves, and what it shows. A malformed line changes nothing and is answered `ok`
  unfoldable pub line_after : CallLine → Player
  line_after malformed = p
  line_after (line c rest) = after plan numbers p c

  unfoldable pub line_report : CallLine → List ℕ
  line_report malformed = observation_text (observation accepted p [])
  line_report (line c rest) = call_report plan numbers p c

  -- the call of a line that was read
  pub record Called (l : CallLine) (floats : List Float) (r : CallDone) : Type 0 where
    pub few : r.joints ≤ max_joints
    pub player : r.outcome.player ≡ line_after l
    pub text : call_text r floats ≡ line_report l

-- ---- a list

-- the start
pub record Beginning (plan : List ℕ) (numbers : List Float) (before after : List ℕ) (r : Begun) : Type 0 where
  pub player : r.player ≡ start_player plan numbers
  pub text : Front (start_text plan numbers) before after r.length

-- some lines performed: the player, the place behind them, how many lines are left, and what is shown
pub record Performance : Type 0 where
  pub player : Player
  pub at : ℕ
  pub lines : ℕ
  pub shown : List ℕ

module _ (plan : List ℕ) (numbers : List Float) (text : List ℕ) (room : ℕ) where
  -- the lines from a place on, one after the other, as long as what is shown leaves room for another report
  unfoldable pub performed : ℕ → ℕ → Player → List ℕ → Performance
  performed zero at p shown = record { player = p; at = at; lines = 0; shown = shown }
  performed (suc n) at p shown =
      let here = call_in (drop at text) in
      cond (ltb room (length shown + max_report)) (record { player = p; at = at; lines = suc n; shown = shown })
      (performed n (end_of (call_at text at)) (line_after plan numbers p here) (shown ++ line_report plan numbers p here))

-- the whole outcome of performing lines
pub record Performing (all : Performance) (before after : List ℕ) (r : Progress) : Type 0 where
  pub progress : r ≡ record { left = record { player = all.player; at = all.at; lines = all.lines }; length = length all.shown }
  pub front : Front all.shown before after r.length

module _ (plan : List ℕ) (numbers : List Float) (text : List ℕ) where
  -- lines performed until none is left, and what all of them show
  pub data Steps : ℕ → ℕ → Player → List ℕ → Player → Type 0 where
    ended : {at : ℕ} {p : Player} → Steps at 0 p [] p
    step : {at lines : ℕ} {p q : Player} {before after shown : List ℕ} {r : Progress}
        → Performing (performed plan numbers text (length before) lines at p []) before after r
        → Steps r.left.at r.left.lines r.left.player shown q → Steps at lines p (take r.length after ++ shown) q
