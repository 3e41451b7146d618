-- One call: what a frame leaves to be shown, and what is put for a call. Assumes nothing.
use Prim.Native.Nat.{ℕ, ◌≤◌}
use native.Mathlib.Omega.{arith}
use mathlib.Core.Path.{◌≡◌, refl, sym, ap, ◌∙◌}
use mathlib.Core.Bool.{Bool, true, false}
use mathlib.Core.List.{List, [], ◌++◌, map, append-nil, append_assoc}
use lib.Dec.{leb}
use lib.ListN.{length, get_or, drop}
use lib.Ieee.{Float}
use borrow.Author.Tests.{le-leb, lt-leb, leb-true, leb-false}
use Rattle.std.specs.Prelude.{min, Option, Some, None, Ok, Err}
use Rattle.model.specs.declared.FrameKind.{FrameKind}
use Rattle.model.specs.declared.Player.{Player}
use Rattle.model.specs.declared.Refusal.{Refusal}
use Rattle.model.specs.declared.Outcome.{Outcome}
use Rattle.model.specs.declared.LoopCount.{LoopCount}
use Rattle.model.specs.declared.Matrix4.{Matrix4}
use Rattle.model.specs.Rotations.{identity_matrix, floats}
use Rattle.model.specs.Answers.{Verdict, accepted, refused, values, ◌then◌, require, unless_refused}
use Rattle.model.specs.Plan.{max_joints, max_output, joint_count, output_at}
use Rattle.model.specs.Check.{check}
use Rattle.model.specs.Controller.{frame_verdict}
use Rattle.model.specs.Skeleton.{flat, written}
use Rattle.model.specs.Program.{joint_line, joined}
use Rattle.model.specs.Run.{frame_matrices, Call, Set, Frame, Loops, call_verdict, changed, after, chosen_floats, told, observation}
use Rattle.model.specs.Promises.{Started, ParameterSet, Framed, LoopsCounted}
use Rattle.model.proofs.Laws.Answers.{then_left, unless_same}
use Rattle.model.proofs.Laws.Output.{matrix_at_lem, frame_length}
use Rattle.model.proofs.Laws.Passed.{few_joints}
use Rattle.printing.specs.declared.Writer.{Writer}
use Rattle.printing.specs.Written.{Wrote, joint_lines}
use Rattle.printing.proofs.Laws.{more_written, front_written, joined_same}
use Rattle.calls.specs.declared.CallAt.{CallAt}
use Rattle.calls.specs.CallText.{line}
use Rattle.calls.specs.Read.{call_of, line_read}
use Rattle.report.specs.Report.{below, matrix_lines, answer_line, player_text, observation_text, told_text, told_values}
use Rattle.report.proofs.Laws.{no_matrix_lines, matrix_lines_below}
use Rattle.replay_core.specs.declared.CallDone.{CallDone}
use Rattle.replay_core.specs.Replay.{told_if_accepted, call_report, start_text}
use Rattle.replay_core.specs.Replaying.{nothing_shown, call_text, all_shown, Done}
use Rattle.replay_core.specs.Replaying.{line_after, line_report, Called, Beginning}

-- ---- room for a frame

room_same : (v a : Verdict) (need room n : ℕ) → (v ≡ accepted → leb need room ≡ leb need n)
    → (v then a then require (leb need room) 10 0) ≡ (v then a then require (leb need n) 10 0)
unfolding ◌then◌
room_same accepted a need room n same = rw (same refl)
room_same (refused number place rest) a need room n same = refl

room_test : (need room n : ℕ) → room ≡ min n max_output → need ≤ max_output → leb need room ≡ leb need n
room_test need room n e few = go (leb need n) refl
  where
    go : (t : Bool) → leb need n ≡ t → leb need room ≡ t
    go true t = le-leb need room (omega (arith, leb-true need n t))
    go false t = lt-leb need room (omega (arith, leb-false need n t))

-- no frame that the plan's check lets pass needs more than the longest output
pub frame_room : (plan : List ℕ) (numbers : List Float) (p : Player) (room n : ℕ) → room ≡ min n max_output
    → frame_verdict plan numbers p room ≡ frame_verdict plan numbers p n
unfolding frame_verdict
frame_room plan numbers p room n e =
    room_same (check plan (length numbers)) _ (output_at (joint_count plan)) room n
    (λ v. let few = few_joints plan (length numbers) v in room_test _ room n e (omega arith))

-- ---- one call

module _ (plan : List ℕ) (numbers : List Float) (p : Player) (floats : List Float) where
  -- a call that shows no matrices
  nothing_done : (c : Call) {o : Outcome} {t : Option LoopCount} {d : CallDone}
      → values o.answer ≡ call_verdict plan numbers p c → o.player ≡ after plan numbers p c → all_shown plan numbers p c ≡ []
      → told_values t ≡ told_if_accepted plan numbers p c → d ≡ record { outcome = o; joints = 0; told = t } → Done plan numbers p c floats d
  unfolding joined
  nothing_done c answer player none told e =
      rw e (record {
        answer = answer;
        player = player;
        few = omega arith;
        shown = rw (none, no_matrix_lines);
        told = told;
      })

  -- a call that is never refused and shows and tells nothing
  pub accepted_done : (c : Call) {q : Player} {d : CallDone} → call_verdict plan numbers p c ≡ accepted → q ≡ changed plan numbers p c
      → chosen_floats plan numbers (below (joint_count plan)) p c ≡ [] → told plan numbers p c ≡ []
      → d ≡ nothing_shown (record { answer = Ok tt; player = q }) → Done plan numbers p c floats d
  unfolding values after told_values unless_refused
  accepted_done c verdict moved none untold e =
      nothing_done c (sym verdict) (rw verdict moved) (rw verdict none) (rw (verdict, untold)) e

  pub set_done : (n : ℕ) (v : Float) {o : Outcome} {d : CallDone} → ParameterSet p n v o → d ≡ nothing_shown o
      → Done plan numbers p (Set n v) floats d
  unfolding call_verdict changed after chosen_floats told told_values
  set_done n v set e = nothing_done (Set n v) set.answer set.player (unless_same _ []) (sym (unless_same _ [])) e

  -- a question leaves the player; where it is refused nothing is told
  module _ (s n : ℕ) (time : Float) {d : CallDone} where
    pub loops_counted : {count : LoopCount} → LoopsCounted plan numbers p s n time (Ok count)
        → d ≡ record { outcome = record { answer = Ok tt; player = p }; joints = 0; told = Some count } → Done plan numbers p (Loops s n time) floats d
    unfolding values call_verdict changed after chosen_floats told told_values unless_refused
    loops_counted counted e =
        let v = counted.answer in
        nothing_done (Loops s n time) v (rw (← v)) (rw (← v)) (rw (← v, counted.loops, counted.rest)) e

    pub loops_refused : {refusal : Refusal} → LoopsCounted plan numbers p s n time (Err refusal)
        → d ≡ nothing_shown (record { answer = Err refusal; player = p }) → Done plan numbers p (Loops s n time) floats d
    unfolding values call_verdict changed after chosen_floats told told_values unless_refused
    loops_refused counted e =
        let v = counted.answer in
        nothing_done (Loops s n time) v (rw (← v)) (rw (← v)) (rw (← v)) e

-- a frame whose output was the front of the floats, and is answered as one of length n
module _ (plan : List ℕ) (numbers : List Float) (p : Player) (kind : FrameKind) (ext : Float) (old new : List Float)
    (r : Outcome) (framed : Framed kind plan numbers p ext old new r) (n : ℕ)
    (same : frame_verdict plan numbers p (length old) ≡ frame_verdict plan numbers p n) (d : CallDone)
  where
    frame_answer_lem : values r.answer ≡ call_verdict plan numbers p (Frame kind ext n)
    unfolding call_verdict
    frame_answer_lem = framed.answer ∙ same

    frame_player_lem : r.player ≡ after plan numbers p (Frame kind ext n)
    unfolding call_verdict changed after
    frame_player_lem = rw (← same) framed.player

    pub frame_refused : (refusal : Refusal) (floats : List Float) → r.answer ≡ Err refusal → d ≡ nothing_shown r
        → Done plan numbers p (Frame kind ext n) floats d
    unfolding values unless_refused told told_values
    frame_refused refusal floats e h =
        let v = sym frame_answer_lem ∙ ap values e in
        nothing_done plan numbers p floats (Frame kind ext n) frame_answer_lem frame_player_lem (rw v) (rw v) h

    module _ (rest : List Float) {u : Unit {0}} (e : r.answer ≡ Ok u) where
      frame_accepted : frame_verdict plan numbers p (length old) ≡ accepted
      unfolding values
      frame_accepted = sym framed.answer ∙ ap values e

      few_shown : joint_count plan ≤ max_joints
      unfolding frame_verdict
      few_shown = few_joints plan (length numbers) (then_left _ _ (then_left _ _ frame_accepted))

      abbrev matrices : List Matrix4
      matrices = frame_matrices plan numbers p ext kind

      lines : joint_lines (joint_count plan) (new ++ rest)
          ≡ matrix_lines (map (λ j. floats (get_or matrices j identity_matrix)) (below (joint_count plan)))
      unfolding unless_refused written
      lines =
          let o : new ≡ flat matrices ++ drop (output_at (joint_count plan)) old =
          rw frame_accepted at framed.output
          in
          let long = frame_length plan numbers p ext kind in
          rw (matrix_lines_below, o, append_assoc)
          (joined_same (joint_count plan) _ _ (λ j h. ap (joint_line j) (matrix_at_lem matrices _ j (omega arith))))

      pub frame_accepted_done : d ≡ record { outcome = r; joints = joint_count plan; told = None }
          → Done plan numbers p (Frame kind ext n) (new ++ rest) d
      unfolding call_verdict chosen_floats unless_refused told told_values
      frame_accepted_done h =
          rw h (record {
            answer = frame_answer_lem;
            player = frame_player_lem;
            few = few_shown;
            shown = rw (← same, frame_accepted) lines;
            told = rw (← same, frame_accepted);
          })

-- ---- the call of a line

module _ (plan : List ℕ) (numbers : List Float) (p : Player) (floats : List Float) (d : CallDone) where
  called : (c : Call) (rest : List ℕ) → Done plan numbers p c floats d → Called plan numbers p (line c rest) floats d
  unfolding call_text line_after line_report call_report observation_text observation
  called c rest h = record { few = h.few; player = h.player; text = rw (h.answer, h.player, h.shown, h.told) }

  module _ (text : List ℕ) {read : Option CallAt} where
    pub line_called : {at : CallAt} → read ≡ Some at → Done plan numbers p (call_of at.call) floats d → Called plan numbers p (line_read text read) floats d
    unfolding line_read
    line_called {at} e h = rw e (called (call_of at.call) (drop at.end text) h)

    pub malformed_called : read ≡ None → d ≡ nothing_shown (record { answer = Ok tt; player = p }) → Called plan numbers p (line_read text read) floats d
    unfolding line_read line_after line_report call_text observation_text observation values unless_refused joined told_text told_values
    malformed_called e h = rw (e, h) (record { few = omega arith; player = refl; text = rw no_matrix_lines (append-nil _) })

-- ---- the start

pub begun : (plan : List ℕ) (numbers : List Float) (r : Outcome) {before after : List ℕ} {p q s : Writer}
    → Started plan numbers r → Wrote (answer_line (values r.answer)) p q → Wrote (player_text r.player) q s
    → p.out.now ≡ before → p.at ≡ 0 → s.at ≤ length before → after ≡ s.out.now
    → Beginning plan numbers before after (record { player = r.player; length = s.at })
unfolding start_text
begun plan numbers r started answer player held first room same =
    let put = front_written (more_written answer player) held first room same in
    record { player = started.player; text = rw (← started.answer, ← started.player) put }
