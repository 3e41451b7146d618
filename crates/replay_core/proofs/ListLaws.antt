-- Lines performed one after the other. Assumes nothing.
use Prim.Native.Nat.{ℕ, zero, suc, ◌+◌, ◌-◌, ◌≤◌, ◌<◌}
use native.Mathlib.Omega.{arith}
use mathlib.Core.Path.{◌≡◌, refl, sym, ap, ◌∙◌}
use mathlib.Core.Logic.{◌⊎◌, inl, inr}
use mathlib.Core.Bool.{Bool, true, false, cond}
use mathlib.Core.List.{List, [], ◌∷◌, ◌++◌, append_assoc}
use lib.Dec.{ltb}
use lib.ListN.{length, drop}
use lib.Ieee.{Float}
use borrow.Author.Tests.{lt-ltb, le-ltb}
use Rattle.std.specs.Prelude.{Option}
use Rattle.model.specs.declared.Player.{Player}
use Rattle.model.specs.Run.{Call}
use Rattle.printing.specs.declared.Writer.{Writer}
use Rattle.printing.specs.Written.{Wrote}
use Rattle.printing.proofs.Laws.{nothing_written, more_written, front_written}
use Rattle.calls.specs.declared.CallAt.{CallAt}
use Rattle.calls.specs.CallText.{CallLine, line, call_in, calls, read_calls}
use Rattle.calls.specs.Read.{line_read, call_at, end_of}
use Rattle.calls.proofs.Laws.{first_call}
use Rattle.replay_core.specs.declared.CallDone.{CallDone}
use Rattle.replay_core.specs.declared.Left.{Left}
use Rattle.replay_core.specs.declared.Progress.{Progress}
use Rattle.replay_core.specs.Replay.{report_from, player_after}
use Rattle.replay_core.specs.Replaying.{max_report, Called, call_text, line_after, line_report}
use Rattle.replay_core.specs.Replaying.{Performance, performed, Performing}
use Rattle.calls.proofs.Behind.{text_behind}

module _ (plan : List ℕ) (numbers : List Float) (text : List ℕ) where
  -- the lines behind the one at a place
  abbrev next : ℕ → ℕ → ℕ → Player → List ℕ → Performance
  next room n at p shown =
      let here = call_in (drop at text) in
      performed plan numbers text room n (end_of (call_at text at)) (line_after plan numbers p here)
      (shown ++ line_report plan numbers p here)

  -- ---- the loop

  module _ (room n at : ℕ) (p : Player) (shown : List ℕ) where
    -- it stops behind the last line, or where there is no room
    stops : (n ≡ 0) ⊎ (room < length shown + max_report)
        → performed plan numbers text room n at p shown ≡ record { player = p; at = at; lines = n; shown = shown }
    unfolding performed
    stops (inl e) = rw e
    stops (inr h) = go n
      where
        go : (m : ℕ)
            → performed plan numbers text room m at p shown ≡ record { player = p; at = at; lines = m; shown = shown }
        go zero = refl
        go (suc m) = rw (lt-ltb room (length shown + max_report) h)

    -- else it goes on
    goes_on : 0 < n → length shown + max_report ≤ room
        → performed plan numbers text room n at p shown ≡ next room (n - 1) at p shown
    unfolding performed
    goes_on some h = go n some
      where
        go : (m : ℕ) → 0 < m → performed plan numbers text room m at p shown ≡ next room (m - 1) at p shown
        go zero some = absurd (omega arith)
        go (suc m) some =
            let less : suc m - 1 ≡ m = omega arith in
            rw (le-ltb room (length shown + max_report) h, less)

  -- from some lines on, which a writer puts into a slice that it begins
  module _ (from : Left) (start : Writer) where
    -- all but what is left is performed
    pub record Performed (w : Writer) (left : Left) : Type 0 where
      pub shown : List ℕ
      pub put : Wrote shown start w
      pub inside : w.at ≤ length start.out.now
      pub same : performed plan numbers text (length start.out.now) from.lines from.at from.player []
          ≡ performed plan numbers text (length start.out.now) left.lines left.at left.player shown

    pub nothing_performed : start.at ≡ 0 → Performed start from
    nothing_performed first = record { shown = []; put = nothing_written _; inside = omega arith; same = refl }

    pub next_performed : {w v : Writer} {left : Left} {floats : List Float} {r : Option CallAt} {d : CallDone} {end : ℕ}
        → start.at ≡ 0 → Performed w left → 0 < left.lines → w.at + max_report ≤ length start.out.now → r ≡ call_at text left.at
        → line_read text r ≡ call_in (drop left.at text) → Called plan numbers left.player (line_read text r) floats d → end ≡ end_of r
        → Wrote (call_text d floats) w v → v.at ≤ w.at + max_report
        → Performed v (record { player = d.outcome.player; at = end; lines = left.lines - 1 })
    next_performed {left = left} first so_far some room there read called place put longest =
        let p = left.player in
        let shown = called.text ∙ ap (line_report plan numbers p) read in
        let moved = called.player ∙ ap (line_after plan numbers p) read in
        let end = place ∙ ap end_of there in
        let on = goes_on (length start.out.now) _ left.at p so_far.shown some (omega (arith, so_far.put.moved)) in
        record {
          shown = so_far.shown ++ line_report plan numbers p (call_in (drop left.at text));
          put = rw shown at (more_written so_far.put put);
          inside = omega arith;
          same = so_far.same ∙ rw (moved, end) on;
        }

    pub performing : {w : Writer} {left : Left} {before after : List ℕ} → start.out.now ≡ before → start.at ≡ 0 → Performed w left
        → (left.lines ≡ 0) ⊎ (length start.out.now < w.at + max_report) → after ≡ w.out.now
        → Performing (performed plan numbers text (length before) from.lines from.at from.player []) before after (record { left = left; length = w.at })
    performing {w} {left} held first so_far stop now =
        let ended : w.at ≡ length so_far.shown = omega (arith, so_far.put.moved) in
        let all = so_far.same ∙ stops (length start.out.now) _ _ _ so_far.shown (rw ended at stop) in
        rw (← held, all) (record { progress = rw (← ended); front = front_written so_far.put refl first so_far.inside now })

  -- ---- what follows

  -- in a buffer with room for a report, a line is performed
  no_more : (room n at : ℕ) (p : Player) (shown : List ℕ) → (performed plan numbers text room n at p shown).lines ≤ n
  unfolding performed
  no_more room zero at p shown = omega arith
  no_more room (suc n) at p shown = go (ltb room (length shown + max_report)) _ (no_more room n _ _ _)
    where
      go : (t : Bool) (b : Performance) → b.lines ≤ n
          → (cond t (record { player = p; at = at; lines = suc n; shown = shown }) b).lines ≤ suc n
      go true b h = omega arith
      go false b h = omega arith

  pub fewer : (at lines : ℕ) (p : Player) {before after : List ℕ} {r : Progress}
      → Performing (performed plan numbers text (length before) lines at p []) before after r
      → max_report ≤ length before → 0 < lines → r.left.lines < lines
  fewer at lines p {before = before} done room some =
      let on = goes_on (length before) lines at p [] some room in
      let e = ap (λ (x : Progress). x.left.lines) done.progress ∙ ap (λ (x : Performance). x.lines) on in
      let here = call_in (drop at text) in
      let q = line_after plan numbers p here in
      omega (arith, no_more (length before) (lines - 1) (end_of (call_at text at)) q (line_report plan numbers p here))

  -- the first of some calls, by its line
  module _ (p : Player) {cs later : List Call} {c : Call} {l : CallLine} {behind : List ℕ}
      (split : cs ≡ c ∷ later) (here : l ≡ line c behind) where
    report_next : report_from plan numbers p cs
        ≡ line_report plan numbers p l ++ report_from plan numbers (line_after plan numbers p l) later
    unfolding line_report line_after report_from
    report_next = rw (split, here)

    player_next : player_after plan numbers p cs ≡ player_after plan numbers (line_after plan numbers p l) later
    unfolding line_after player_after
    player_next = rw (split, here)

  -- of a list without a malformed line: the calls that are left are read from the place on, and show the rest
  pub record Rest (p : Player) (cs : List Call) (shown : List ℕ) (all : Performance) : Type 0 where
    pub left : List Call
    pub read : read_calls all.lines (drop all.at text) ≡ calls left
    pub report : shown ++ report_from plan numbers p cs ≡ all.shown ++ report_from plan numbers all.player left
    pub player : player_after plan numbers p cs ≡ player_after plan numbers all.player left

  pub rest : (room n at : ℕ) (p : Player) (shown : List ℕ) (cs : List Call) → read_calls n (drop at text) ≡ calls cs
      → Rest p cs shown (performed plan numbers text room n at p shown)
  unfolding performed
  rest room zero at p shown cs e = record { left = cs; read = e; report = refl; player = refl }
  rest room (suc n) at p shown cs e =
      let f = first_call n (drop at text) e in
      let others = rw (← text_behind text at f.here) at f.others in
      let later = rest room n _ _ _ f.later others in
      let more : Rest p cs shown (next room n at p shown) =
      record {
        left = later.left;
        read = later.read;
        report =
            ap (λ (s : List ℕ). shown ++ s) (report_next p f.split f.here) ∙ sym (append_assoc shown _ _)
            ∙ later.report;
        player = player_next p f.split f.here ∙ later.player;
      }
      in
      go (ltb room (length shown + max_report)) more
    where
      go : (t : Bool) → let more = next room n at p shown in Rest p cs shown more
          → Rest p cs shown (cond t (record { player = p; at = at; lines = suc n; shown = shown }) more)
      go true more = record { left = cs; read = e; report = refl; player = refl }
      go false more = more
