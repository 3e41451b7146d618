-- A trace of calls that keep their promises shows what the run by definition shows.
use Rattle.std.specs.Prelude.{ℕ, ◌≡◌, length, get_or, take, drop, Float, Result, Ok, Err, IfOk}
use Rattle.std.proofs.Common.{arith, ◌∙◌}
use Rattle.std.proofs.Math.Path.{refl, sym, ap, ap₂}
use mathlib.Core.List.{List, [], ◌∷◌, map}
use Rattle.model.specs.declared.Player.{Player}
use Rattle.model.specs.Rotations.{identity_matrix, floats}
use Rattle.model.specs.declared.FrameKind.{FrameKind}
use Rattle.model.specs.Answers.{Verdict, accepted, refused, values, unless_refused}
use Rattle.model.specs.declared.LoopCount.{LoopCount}
use Rattle.model.specs.declared.Refusal.{Refusal}
use Rattle.model.specs.Plan.{output_at}
use Rattle.model.specs.Controller.{blank, fresh, frame_verdict}
use Rattle.model.specs.Loops.{loops_verdict}
use Rattle.model.specs.Skeleton.{written}
use Rattle.model.specs.Run.{start_verdict, start_player, frame_matrices, Call, Loops, call_verdict, changed, after, chosen_floats, told, Observation, observation, run_from, run}
use Rattle.model.proofs.Laws.Answers.{unless_same}
use Rattle.model.proofs.Laws.Output.{matrix_at_lem, frame_length}
use Rattle.noninterference.specs.Alike.{Closed}
use Rattle.noninterference.specs.Trace.{Event, Trace, update, set_speed, set_parameter, frame, ask_loops, Session, calls, output_floats, observed, of_reachable, told_in, counts_told}
use Rattle.noninterference.proofs.Laws.Lists.{map_same}

module _ (plan chosen : List ℕ) (numbers : List Float) (closed : Closed plan chosen) where
  frame_floats : (p : Player) (ext : Float) (kind : FrameKind) (old : List Float)
      → map (λ j. take 16 (drop (output_at j) (written plan (frame_matrices plan numbers p ext kind) old))) chosen ≡ map (λ j. floats (get_or (frame_matrices plan numbers p ext kind) j identity_matrix)) chosen
  unfolding written
  frame_floats p ext kind old = map_same _ _ chosen (λ j m. matrix_at_lem (frame_matrices plan numbers p ext kind) _ j (omega (arith, frame_length plan numbers p ext kind, closed.are_joints j m)))

  -- an accepted frame's are read from the output; a refused one shows none
  frame_observed : (v : Verdict) (p q : Player) (ext : Float) (kind : FrameKind) (old : List Float)
      → observation v q (map (λ j. take 16 (drop (output_at j) (unless_refused v (written plan (frame_matrices plan numbers p ext kind) old) old))) chosen)
      ≡ observation v q (map (λ j. floats (get_or (frame_matrices plan numbers p ext kind) j identity_matrix)) chosen)
  unfolding unless_refused observation
  frame_observed accepted p q ext kind old = rw (frame_floats p ext kind old)
  frame_observed (refused n at r) p q ext kind old = refl

  -- ---- each event agrees with the definitions

  -- loops and rest, 0 where the question is refused
  abbrev pub told_by : Player → Call → List ℕ
  told_by p c = of_reachable plan c (unless_refused (call_verdict plan numbers p c) (told plan numbers p c) (0 ∷ 0 ∷ []))

  pub record Defined (p : Player) (e : Event) : Type 0 where
    pub answer : e.answer ≡ call_verdict plan numbers p e.call
    pub player : e.player ≡ after plan numbers p e.call
    pub matrices : (q : Player) → observation (call_verdict plan numbers p e.call) q (output_floats chosen e.call e.output) ≡ observation (call_verdict plan numbers p e.call) q (chosen_floats plan numbers chosen p e.call)
    pub counts : told_in plan e ≡ told_by p e.call

  -- the first event of a trace, with the trace behind it
  pub record First (p : Player) (e : Event) (es : List Event) : Type 0 where
    pub defined : Defined p e
    pub later : Trace plan numbers e.player es

  -- of any two numbers
  loops_told : (v : Verdict) (loops rest : ℕ) {l r : ℕ} → l ≡ unless_refused v loops 0 → r ≡ unless_refused v rest 0
      → ◌≡◌ {A = List ℕ} (l ∷ r ∷ []) (unless_refused v (loops ∷ rest ∷ []) (0 ∷ 0 ∷ []))
  unfolding unless_refused
  loops_told accepted loops rest e f = rw (e, f)
  loops_told (refused number place none) loops rest e f = rw (e, f)

  counts_are : (r : Result LoopCount Refusal) (v : Verdict) (loops rest : ℕ) → values r ≡ v → IfOk r (λ c. c.loops ≡ loops) → IfOk r (λ c. c.rest ≡ rest)
      → counts_told r ≡ unless_refused v (loops ∷ rest ∷ []) (0 ∷ 0 ∷ [])
  unfolding unless_refused values
  counts_are (Ok c) v loops rest is e f = rw (← is, e, f)
  counts_are (Err r) v loops rest is e f = rw (← is)

  pub first : {p : Player} {e : Event} {es : List Event} → Trace plan numbers p (e ∷ es) → First p e es
  unfolding call_verdict after changed unless_refused output_floats chosen_floats told of_reachable told_in
  first (update delta c t) = record { defined = record { answer = refl; player = c.player; matrices = λ q. refl; counts = refl }; later = t }
  first (set_speed v c t) = record { defined = record { answer = refl; player = c.player; matrices = λ q. refl; counts = refl }; later = t }
  first (set_parameter n v c t) = record { defined = record { answer = c.answer; player = c.player; matrices = λ q. refl; counts = refl }; later = t }
  first (frame {p = p} kind ext old new c t) =
      record {
        defined = record { answer = c.answer; player = c.player; matrices = λ q. rw c.output (frame_observed (frame_verdict plan numbers p (length old)) p q ext kind old); counts = refl };
        later = t;
      }
  first (ask_loops {p = p} {r = r} s n time c t) =
      let v = loops_verdict plan numbers p s n in
      record {
        defined = record { answer = c.answer; player = sym (unless_same v p); matrices = λ q. refl; counts = ap (of_reachable plan (Loops s n time)) (counts_are r v _ _ c.answer c.loops c.rest) };
        later = t;
      }

  -- ---- so the whole trace is the run

  trace_observed : {p : Player} {es : List Event} → Trace plan numbers p es → map (observed chosen) es ≡ run_from plan numbers chosen p (calls es)
  unfolding run_from observed
  trace_observed {es = []} t = refl
  trace_observed {p} {es = e ∷ es} t =
      let d = (first t).defined in
      let call = e.call in
      ap₂ {C = List Observation} (λ (x : Observation) (xs : List Observation). x ∷ xs)
      (ap (λ (v : Verdict). observation v e.player (output_floats chosen call e.output)) d.answer
      ∙ d.matrices e.player
      ∙ ap (λ (q : Player). observation (call_verdict plan numbers p call) q (chosen_floats plan numbers chosen p call)) d.player)
      (trace_observed (first t).later ∙ ap (λ (q : Player). run_from plan numbers chosen q (calls es)) d.player)

  pub session_accepted : {es : List Event} → Session plan numbers es → start_verdict plan numbers ≡ accepted
  session_accepted s = sym s.started.answer ∙ s.is_accepted

  pub session_fresh : {es : List Event} (s : Session plan numbers es) → s.start.player ≡ fresh plan numbers
  unfolding start_player unless_refused
  session_fresh s = s.started.player ∙ ap (λ (v : Verdict). unless_refused v (fresh plan numbers) blank) (session_accepted s)

  pub session_observed : {es : List Event} → Session plan numbers es → map (observed chosen) es ≡ run plan numbers chosen (calls es)
  unfolding run
  session_observed {es} s = trace_observed s.trace ∙ ap (λ (q : Player). run_from plan numbers chosen q (calls es)) (session_fresh s)
