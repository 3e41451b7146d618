-- A whole list replayed: what `begin` puts, what `perform` puts until no line is left, and what `finish` puts, one
-- behind the other, is what is to be printed. Assumes nothing.
use Prim.Native.Nat.{ℕ}
use mathlib.Core.Path.{◌≡◌, ap, ◌∙◌}
use mathlib.Core.List.{List, [], ◌++◌}
use lib.ListN.{length, take, drop}
use lib.Ieee.{Float}
use Rattle.model.specs.declared.Player.{Player}
use Rattle.model.specs.Run.{Call}
use Rattle.printing.specs.Written.{Front}
use Rattle.printing.proofs.Laws.{front_text}
use Rattle.calls.specs.CallText.{calls, read_calls, line_count, call_list}
use Rattle.calls.proofs.Laws.{no_calls}
use Rattle.report.specs.Report.{end_text}
use Rattle.replay_core.specs.declared.Begun.{Begun}
use Rattle.replay_core.specs.declared.Progress.{Progress}
use Rattle.replay_core.specs.Replay.{report_from, player_after, replayed}
use Rattle.replay_core.specs.Replaying.{Beginning, Steps, ended, step}
use Rattle.replay_core.proofs.ListLaws.{rest}

module _ (plan : List ℕ) (numbers : List Float) (text : List ℕ) where
  -- the lines that are left when the steps begin show what the steps show
  pub steps_shown : {at lines : ℕ} {p q : Player} {shown : List ℕ} → Steps plan numbers text at lines p shown q
      → (cs : List Call) → read_calls lines (drop at text) ≡ calls cs
      → (report_from plan numbers p cs ≡ shown) × (player_after plan numbers p cs ≡ q)
  unfolding report_from player_after
  steps_shown (ended {at = at}) cs e = let none = no_calls (drop at text) e in (rw none, rw none)
  steps_shown (step {at} {lines} {p} {before = before} {after = out} {r = r} done more) cs e =
      let left = rest plan numbers text (length before) lines at p [] cs e in
      let here = ap (λ (x : Progress). x.left.at) done.progress in
      let lines_left = ap (λ (x : Progress). x.left.lines) done.progress in
      let moved = ap (λ (x : Progress). x.left.player) done.progress in
      let later = steps_shown more left.left (rw (lines_left, here) left.read) in
      (left.report ∙ rw (front_text done.front, ← later.0, moved), left.player ∙ rw (← moved) later.1)

  pub whole : (cs : List Call) → call_list text ≡ calls cs
      → {before out below last shown : List ℕ} {b : Begun} {q : Player} {n : ℕ}
      → Beginning plan numbers before out b → Steps plan numbers text 0 (line_count text) b.player shown q
      → Front (end_text q) below last n → take b.length out ++ shown ++ take n last ≡ replayed plan numbers cs
  unfolding call_list replayed
  whole cs e begun steps end =
      let all = steps_shown (rw begun.player at steps) cs e in
      rw (front_text begun.text, front_text end, all.0, all.1)
