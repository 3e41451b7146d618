-- A whole text: the header before the rest, and what both passes say of the slices. Assumes nothing.
use Prim.Native.Nat.{ℕ, ◌≤◌, ◌<◌}
use native.Mathlib.Nat.{zero-add}
use native.Mathlib.Omega.{arith}
use mathlib.Core.Path.{◌≡◌, refl, ◌∙◌}
use mathlib.Core.Bool.{false, ◌&&◌}
use mathlib.Core.List.{List, [], ◌∷◌, ◌++◌}
use lib.Dec.{leb}
use lib.Ieee.{Float, binary32, of_bits}
use lib.ListN.{length, get_or, drop, length-map}
use borrow.Author.Tests.{le-leb, lt-leb}
use Rattle.model.specs.declared.LineKind.TheVariants.{Figure, Joint}
use Rattle.model.specs.declared.Refusal.{Refusal}
use Rattle.model.specs.declared.Reason.{Reason}
use Rattle.model.specs.declared.Reason.TheVariants.{Line, Room}
use Rattle.std.specs.Prelude.{Result, Ok, Err}
use Rattle.model.specs.Plan.{max_joints, max_clips, word, joint_count, clip_count, state_count}
use Rattle.model.specs.Promises.{TextRead}
use Rattle.model.specs.Text.{forms, Reading, bad, got, and_then, times, read_line, read_figure, text_values, text_verdict, accepted, refused, floats_of, overwritten, read_words, read_floats, when_accepted}
use Rattle.text.specs.declared.put.Progress.{Progress}
use Rattle.text.specs.declared.put.Malformed.{Malformed}
use Rattle.text.specs.declared.put.Reader.{Reader}
use Rattle.text.specs.Readers.{ReadTo}
use Rattle.text.proofs.ReaderLaws.{same_on}
use Rattle.text.specs.Figures.{begin, read_poses, read_motion, Judged}
use Rattle.text.specs.Steps.{InText, LineAt, Step, ReadAs}
use Rattle.text.proofs.Laws.{at_front, goes}
use Rattle.text.proofs.LineLaws.{word_at, line_read, line_values}

abbrev refusal : Reason → ℕ → Refusal
refusal reason place = record { reason = reason; place = place }

-- ---- the header

pub begin_here : (text : List ℕ) → InText text begin
begin_here text = record { spent = omega arith; inside = omega arith }

module _ {text values : List ℕ} {r : Progress} {at : ℕ} (l : LineAt Figure text values r at) where
  pub header_limits : (get_or values 0 0 ≤ max_joints) × (get_or values 1 0 ≤ max_clips)
  unfolding forms
  header_limits = (((line_values l).bounded 0 (omega arith)).0, ((line_values l).bounded 1 (omega arith)).0)

  count_in : (k : ℕ) → k < 5 → get_or (read_words (read_line Figure (drop r.at text))) k 0 ≡ get_or values k 0
  unfolding read_words forms
  count_in k h = rw (line_read l) (word_at (forms Figure) values tt k h)

pub header_then : {A B : Type 0} {a b c : Reader} {values : List ℕ} {at : ℕ} {u : A} {r : Result B Malformed} → LineAt Figure a.text.now values a.progress at
    → ReadTo (read_line Figure) a b (Ok u)
    → ReadTo (λ s. and_then (times (get_or values 0 0) (read_line Joint) s) (λ _. read_motion (get_or values 0 0) (get_or values 1 0) (get_or values 3 0))) b c r
    → ReadTo read_figure a c r
unfolding read_figure read_motion read_poses joint_count clip_count state_count word
header_then {a = a} l s t =
    record {
      same = same_on s.same t.same;
      step = goes _ _ _ _ _ _ _ _ _ (read_line Figure (drop a.progress.at a.text.now)) _ _ s.step
          (rw (count_in l 0 (omega arith), count_in l 1 (omega arith), count_in l 3 (omega arith)) (rw s.same.text at t.step));
    }

-- ---- the first pass, which judges

pub judged : (text p₀ p₁ : List ℕ) (n₀ n₁ : List Float) (q : Progress) (x : Reading) → ReadAs text begin p₀ p₁ n₀ n₁ (Ok q) x → Judged q.words q.numbers x
unfolding ReadAs
judged text p₀ p₁ n₀ n₁ q (bad n) m = absurd m
judged text p₀ p₁ n₀ n₁ q (got ws bs rest n) m =
    record {
      plan = ws;
      bits = bs;
      rest = rest;
      lines = n;
      reading = refl;
      plan_length = m.put.words ∙ zero-add (length ws);
      numbers_length = m.put.numbers ∙ zero-add (length bs);
    }

empty : {A : Type 0} (xs : List A) → length xs ≡ 0 → xs ≡ []
empty [] e = refl
empty (x ∷ xs) e = absurd (omega arith)

-- slices that lent nothing are as before
pub lent_nothing : {A : Type 0} (xs ys : List A) → length xs ≡ 0 → xs ++ ys ≡ ys
lent_nothing xs ys e = rw (empty xs e)

pub refused_11 : (text P : List ℕ) (N : List Float) (p₀ p₁ : List ℕ) (n₀ n₁ : List Float) (m : Malformed)
    → ReadAs text begin p₀ p₁ n₀ n₁ (Err m) (read_figure text) → TextRead text P P N N (Err (refusal Line m.line))
unfolding ReadAs text_values text_verdict when_accepted
refused_11 text P N p₀ p₁ n₀ n₁ m a = of (read_figure text) refl a
  where
    of : (x : Reading) → read_figure text ≡ x → ReadAs text begin p₀ p₁ n₀ n₁ (Err m) x → TextRead text P P N N (Err (refusal Line m.line))
    of (got ws bs rest n) r a = absurd a
    of (bad n) r a = let l : m.line ≡ n = omega arith in record { answer = rw (r, l); plan = rw r; numbers = rw r }

-- ---- the second pass, where there is room

module _ (text P : List ℕ) (N : List Float) (words count : ℕ) (j : Judged words count (read_figure text)) where
  refused_12 : leb words (length P) && leb count (length N) ≡ false → TextRead text P P N N (Err (refusal Room 0))
  unfolding text_values text_verdict when_accepted
  refused_12 e =
      let v : text_verdict (read_figure text) (length P) (length N) ≡ refused 12 0 0 = rw (j.reading, ← j.plan_length, ← j.numbers_length, e) in
      record { answer = rw v; plan = rw v; numbers = rw v }

  pub plan_short : length P < words → TextRead text P P N N (Err (refusal Room 0))
  plan_short h = refused_12 (rw (lt-leb words (length P) h))

  pub numbers_short : words ≤ length P → length N < count → TextRead text P P N N (Err (refusal Room 0))
  numbers_short h k = refused_12 (rw (le-leb words (length P) h, lt-leb count (length N) k))

  pub accepts : (P' : List ℕ) (N' : List Float) (step : Step) → words ≤ length P → count ≤ length N
      → ReadAs text begin P P' N N' step (read_figure text) → TextRead text P P' N N' (Ok (record { words = words; numbers = count }))
  unfolding ReadAs text_values text_verdict when_accepted overwritten read_words read_floats
  accepts P' N' step h k a = of step (rw j.reading at a)
    where
      of : (step : Step) → ReadAs text begin P P' N N' step (got j.plan j.bits j.rest j.lines) → TextRead text P P' N N' (Ok (record { words = words; numbers = count }))
      of (Err b) m = absurd m
      of (Ok q) m =
          let v : text_verdict (read_figure text) (length P) (length N) ≡ accepted words count =
          rw (j.reading, ← j.plan_length, ← j.numbers_length, le-leb words (length P) h, le-leb count (length N) k) in
          let l = length-map j.bits (of_bits binary32) in
          record {
            answer = rw v;
            plan = rw (v, j.reading) (m.put.plan ∙ at_front P j.plan (omega (arith, j.plan_length)));
            numbers = rw (v, j.reading) (m.put.floats ∙ at_front N (floats_of j.bits) (omega (arith, j.numbers_length)));
          }
