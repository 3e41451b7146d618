-- Replaying a list of calls: what is printed is the run by definition, as text, and what questions are told. Definitions only.
-- RunShown says how that text is made of the run.
use Rattle.std.specs.Prelude.{ℕ, cond, List, [], ◌∷◌, ◌++◌, length, ltb, Float}
use Rattle.model.specs.declared.Player.{Player}
use Rattle.model.specs.Answers.{unless_refused}
use Rattle.model.specs.Plan.{joint_count}
use Rattle.model.specs.Text.{line_feed, Reading, bad, got, read_figure, floats_of}
use Rattle.model.specs.Program.{decimal_fields, refused_line, max_text}
use Rattle.model.specs.Run.{start_verdict, start_player, Call, call_verdict, after, chosen_floats, told, observation}
use Rattle.calls.specs.CallText.{CallList, bad_line, calls, call_list}
use Rattle.report.specs.Report.{below, answer_line, player_text, observation_text, told_text, end_text}

module _ (plan : List ℕ) (numbers : List Float) where
  -- what a question is told; nothing where it is refused
  abbrev pub told_if_accepted : Player → Call → List ℕ
  told_if_accepted p c = unless_refused (call_verdict plan numbers p c) (told plan numbers p c) []

  -- what a call shows, with every joint chosen, and behind that what it is told
  unfoldable pub call_report : Player → Call → List ℕ
  call_report p c =
      let shown = chosen_floats plan numbers (below (joint_count plan)) p c in
      observation_text (observation (call_verdict plan numbers p c) (after plan numbers p c) shown) ++
      told_text (told_if_accepted p c)

  -- the same of calls, from a player on
  unfoldable pub report_from : Player → List Call → List ℕ
  report_from p [] = []
  report_from p (c ∷ cs) = call_report p c ++ report_from (after plan numbers p c) cs

  -- the player that calls leave
  unfoldable pub player_after : Player → List Call → Player
  player_after p [] = p
  player_after p (c ∷ cs) = player_after (after plan numbers p c) cs

  -- the start's answer and its player, which is blank where the start is refused
  unfoldable pub start_text : List ℕ
  start_text = answer_line (start_verdict plan numbers) ++ player_text (start_player plan numbers)

  unfoldable pub replayed : List Call → List ℕ
  replayed cs =
      let p = start_player plan numbers in
      start_text ++ report_from p cs ++ end_text (player_after p cs)

-- `malformed,LINE`, by its bytes
unfoldable pub malformed_line : ℕ → List ℕ
malformed_line n = (109 ∷ 97 ∷ 108 ∷ 102 ∷ 111 ∷ 114 ∷ 109 ∷ 101 ∷ 100 ∷ []) ++ decimal_fields (n ∷ []) ++ line_feed ∷ []

-- a figure that was read, with a list of calls
unfoldable pub with_calls : List ℕ → List Float → CallList → List ℕ
with_calls plan numbers (bad_line n) = malformed_line n
with_calls plan numbers (calls cs) = replayed plan numbers cs

unfoldable pub with_reading : Reading → List ℕ → List ℕ
with_reading (bad n) text = refused_line 11 n
with_reading (got ws bs rest n) text = with_calls ws (floats_of bs) (call_list text)

-- the whole program: a figure's text and a list of calls; the figure is judged first
unfoldable pub replay_printed : List ℕ → List ℕ → List ℕ
replay_printed figure text =
    cond (ltb max_text (length figure)) (refused_line 13 max_text) (with_reading (read_figure figure) text)
