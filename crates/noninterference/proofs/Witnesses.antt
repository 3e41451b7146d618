-- Demand 3 is not vacuous: whatever calls one lists, an accepted start has a session of them; changing an unseen number, or a value set on an unread
-- parameter, keeps two figures or calls alike; and accepted figures have unseen numbers of every kind.
use Rattle.std.specs.Prelude.{ℕ, ◌<◌, ◌≡◌, Bool, true, false, length, get_or, set, replicate, T, Float, Result, Ok, Err}
use Rattle.std.proofs.Common.{arith, sym, ap, ap₂, ◌∙◌, subst, inl, length-set, get_or-set_other}
use Rattle.std.proofs.Math.Decide.{ℕ_discrete}
use Rattle.std.proofs.Math.Path.{refl}
use mathlib.Core.List.{List, [], ◌∷◌, Memᴰ}
use Rattle.std.proofs.lemmas.List.{length-replicate}
use Rattle.std.specs.Float.{nan}
use Rattle.model.specs.declared.Player.{Player}
use Rattle.model.specs.declared.Outcome.{Outcome}
use Rattle.model.specs.Numbers.{0f}
use Rattle.std.specs.Result.{result_and}
use Rattle.model.specs.declared.Refusal.{Refusal}
use Rattle.model.specs.Answers.{accepted, values, unless_refused}
use Rattle.model.specs.Plan.{joint_count, is_root, Rate, Value, Duration, PoseFloat}
use Rattle.model.specs.Check.{check}
use Rattle.model.specs.Controller.{with_speed, updated, parameter_set, set_verdict, frame_verdict}
use Rattle.model.specs.Skeleton.{written}
use Rattle.model.specs.Loops.{loops_verdict, whole_loops, loop_rest}
use Rattle.model.specs.Run.{start_verdict, start_player, frame_player, frame_matrices, Call, Update, Speed, Set, Frame, Loops}
use Rattle.model.specs.Uses.{is_marked, parameter_marks}
use Rattle.model.specs.Promises.{LoopsCounted}
use Rattle.model.proofs.Repeats.{equation, bound}
use Rattle.model.specs.Bench.{with_parents, four_hundred}
use Rattle.model.specs.Unused.{two_states}
use Rattle.model.proofs.Unused.{first_only, unused_unseen}
use Rattle.model.proofs.Laws.Opened.{check_opened}
use Rattle.model.proofs.Laws.Marks.{unlike}
use Rattle.noninterference.specs.Alike.{Closed, UnseenAt, AlikeNumbers, AlikeCall, sets}
use Rattle.noninterference.proofs.Laws.Answers.{Answerable, require_answerable, check_answerable, frame_answerable, loops_answerable}
use Rattle.noninterference.specs.Trace.{Event, Trace, end, update, set_speed, set_parameter, frame, ask_loops, Session, calls}
use Rattle.noninterference.specs.Witnesses.{two_roots, UnusedPlaces}

-- ---- sessions

pub record Performed (plan : List ℕ) (numbers : List Float) (p : Player) (cs : List Call) : Type 0 where
  pub events : List Event
  pub trace : Trace plan numbers p events
  pub called : calls events ≡ cs

-- the definition's own numbers keep the promise
counted : (plan : List ℕ) (numbers : List Float) (p : Player) (s n : ℕ) (time : Float) (a : Result Unit Refusal) → values a ≡ loops_verdict plan numbers p s n
    → LoopsCounted plan numbers p s n time (result_and a (Ok (record { loops = whole_loops plan numbers p s n time; rest = loop_rest plan numbers p s n time })))
unfolding values
counted plan numbers p s n time (Ok _) e =
    record { answer = e; loops = refl; rest = refl; equation = equation plan numbers p s n time (sym e); bound = bound plan numbers p s n time (sym e) }
counted plan numbers p s n time (Err r) e = record { answer = e; loops = tt; rest = tt; equation = tt; bound = tt }

module _ (plan : List ℕ) (numbers : List Float) where
  pub perform : (p : Player) (cs : List Call) → Performed plan numbers p cs
  perform p [] = record { events = []; trace = end; called = refl }
  perform p (Update delta ∷ cs) =
      let f : Performed plan numbers (updated p delta) cs = perform (updated p delta) cs in
      record { events = _; trace = update delta (record { player = refl }) f.trace; called = ap (λ (l : List Call). Update delta ∷ l) f.called }
  perform p (Speed v ∷ cs) =
      let f : Performed plan numbers (with_speed p v) cs = perform (with_speed p v) cs in
      record { events = _; trace = set_speed v (record { player = refl }) f.trace; called = ap (λ (l : List Call). Speed v ∷ l) f.called }
  perform p (Set n v ∷ cs) =
      let x : Answerable (set_verdict n) = require_answerable _ _ _ in
      let r : Outcome = record { answer = x.answer; player = unless_refused (set_verdict n) (parameter_set p n v) p } in
      let f : Performed plan numbers r.player cs = perform r.player cs in
      record { events = _; trace = set_parameter {r = r} n v (record { answer = x.is; player = refl }) f.trace; called = ap (λ (l : List Call). Set n v ∷ l) f.called }
  perform p (Frame kind ext len ∷ cs) =
      let old : List Float = replicate len 0f in
      let v = frame_verdict plan numbers p (length old) in
      let x : Answerable v = frame_answerable plan numbers p (length old) in
      let r : Outcome = record { answer = x.answer; player = unless_refused v (frame_player plan numbers p ext) p } in
      let f : Performed plan numbers r.player cs = perform r.player cs in
      record {
        events = _;
        trace = frame {r = r} kind ext old (unless_refused v (written plan (frame_matrices plan numbers p ext kind) old) old) (record { answer = x.is; player = refl; output = refl }) f.trace;
        called = ap₂ (λ (n : ℕ) (l : List Call). Frame kind ext n ∷ l) (length-replicate len 0f) f.called;
      }
  perform p (Loops s n time ∷ cs) =
      let v = loops_verdict plan numbers p s n in
      let x : Answerable v = loops_answerable plan numbers p s n in
      let f : Performed plan numbers p cs = perform p cs in
      record { events = _; trace = ask_loops s n time (counted plan numbers p s n time x.answer x.is) f.trace; called = ap (λ (l : List Call). Loops s n time ∷ l) f.called }

  -- and a session from every accepted start
  pub every_session : start_verdict plan numbers ≡ accepted → (cs : List Call) → Session plan numbers (perform (start_player plan numbers) cs).events
  unfolding start_verdict
  every_session ok cs =
      let x : Answerable (start_verdict plan numbers) = check_answerable plan (length numbers) in
      record {
        start = record { answer = x.answer; player = start_player plan numbers };
        started = record { answer = x.is; player = refl };
        is_accepted = x.is ∙ ok;
        trace = (perform (start_player plan numbers) cs).trace;
      }

-- ---- what is unseen makes no difference to being alike

-- any number put at an unseen place
pub unseen_alike : (plan chosen : List ℕ) (a : List Float) (k : ℕ) (x : Float) → UnseenAt plan chosen k → AlikeNumbers plan chosen a (set a k x)
unseen_alike plan chosen a k x u = record { lengths = sym (length-set a k x); places = λ i h seen. other i seen (ℕ_discrete i k) }
  where
    other : (i : ℕ) → ¬ UnseenAt plan chosen i → Dec (i ≡ k) → get_or a i nan ≡ get_or (set a k x) i nan
    other i seen (yes e) = absurd (seen (subst (UnseenAt plan chosen) (sym e) u))
    other i seen (no e) = sym (get_or-set_other a k i x nan e)

-- any value set on a parameter that is not read
pub unread_alike : (plan : List ℕ) (n : ℕ) (v w : Float) → is_marked (parameter_marks plan) n ≡ false → AlikeCall plan (Set n v) (Set n w)
unread_alike plan n v w unread = sets n v w (λ read. absurd (unlike read unread))

-- ---- and there are unseen places

pub two_roots_start : check two_roots 17 ≡ accepted
unfolding check_opened with_parents two_roots
two_roots_start = refl

only : (k j : ℕ) → Memᴰ j (k ∷ []) → j ≡ k
only k j (Memᴰ.head e) = e
only k j (Memᴰ.tail x) = elim x [ ]

-- a root by itself is a closed set
root_closed : (plan : List ℕ) (k : ℕ) → k < joint_count plan → is_root plan k ≡ true → Closed plan (k ∷ [])
root_closed plan k below root = record { are_joints = λ j m. rw (only k j m) below; parents = λ j m h. absurd (subst T (sym root ∙ (rw (only k j m) at h)) tt) }

pub two_roots_closed : Closed two_roots (0 ∷ [])
unfolding check_opened with_parents two_roots
two_roots_closed = root_closed two_roots 0 (omega arith) refl

pub two_roots_unseen : UnseenAt two_roots (0 ∷ []) 9
unfolding check_opened with_parents two_roots
two_roots_unseen = record { name = PoseFloat 0 0 1 0; in_plan = (omega arith, omega arith, omega arith, omega arith); here = refl; unseen = inl (λ m. absurd (omega (arith, only 0 1 m))) }

-- Card 11, 'chosen sets may include any of the 400': of 400 roots (`joints_400`) the last is chosen alone, and joint 0's translation x, at place 1, is unseen
pub last_of_400_closed : Closed four_hundred (399 ∷ [])
unfolding check_opened with_parents four_hundred
last_of_400_closed = root_closed four_hundred 399 (omega arith) refl

pub first_of_400_unseen : UnseenAt four_hundred (399 ∷ []) 1
unfolding check_opened with_parents four_hundred
first_of_400_unseen = record { name = PoseFloat 0 0 0 0; in_plan = (omega arith, omega arith, omega arith, omega arith); here = refl; unseen = inl (λ m. absurd (omega (arith, only 399 0 m))) }

pub unused_places : (chosen : List ℕ) → UnusedPlaces chosen
unfolding check_opened two_states
unused_places chosen =
    let u = unused_unseen chosen in
    record {
      rate = record { name = Rate 1; in_plan = omega arith; here = refl; unseen = u.rate };
      value = record { name = Value 1 0; in_plan = (omega arith, omega arith); here = refl; unseen = u.value };
      duration = record { name = Duration 1 0; in_plan = (omega arith, omega arith); here = refl; unseen = u.duration };
      pose = record { name = PoseFloat 1 0 0 0; in_plan = (omega arith, omega arith, omega arith, omega arith); here = refl; unseen = u.pose 0 0 };
    }

-- and the parameter that it declares may be set to anything
pub parameter_0_free : (v w : Float) → AlikeCall two_states (Set 0 v) (Set 0 w)
parameter_0_free v w = unread_alike two_states 0 v w (ap (λ (ms : List Bool). is_marked ms 0) first_only.parameters)
