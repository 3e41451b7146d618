-- Readings put together: what is read at each place of a plan and its bits is what stands there.
use Prim.Native.Nat.{ℕ, zero, suc, ◌+◌, ◌<◌}
use Rattle.std.proofs.Common.{arith, ◌∙◌}
use Rattle.std.specs.Prelude.{◌≡◌, refl}
use Rattle.std.proofs.Math.Path.{ap}
use mathlib.Core.List.{List, [], ◌++◌, append_assoc}
use Rattle.model.specs.declared.LineKind.{LineKind}
use Rattle.model.proofs.Laws.Text.{word_count, bits_count}
use Rattle.model.specs.Text.{forms, Reading, got, prefixed, and_then, times, read_line}
use Rattle.model.specs.Program.{joined}
use Rattle.round_trip.proofs.Laws.Lines.{line_read}
use Rattle.round_trip.proofs.Laws.Parts.{length_part, Spans, spans_append, spans_part, spans_none, moved}
use Rattle.round_trip.proofs.Laws.Rows.{line_words, line_bits, line_at, WithinAt, Row, row_text}

module _ (plan bits : List ℕ) where
  -- reading succeeds with the words from a to b and the bits from c to d, and leaves the text r
  pub record Got (x : Reading) (r : List ℕ) (a b c d : ℕ) : Type 0 where
    pub words : List ℕ
    pub patterns : List ℕ
    pub lines : ℕ
    pub reading : x ≡ got words patterns r lines
    pub in_plan : Spans plan a b words
    pub in_bits : Spans bits c d patterns

  pub got_none : (r : List ℕ) (a c : ℕ) → Got (got [] [] r 0) r a a c c
  got_none r a c = record { words = []; patterns = []; lines = 0; reading = refl; in_plan = spans_none plan a; in_bits = spans_none bits c }

  pub got_prefixed : (ws bs : List ℕ) (n : ℕ) {x : Reading} {r : List ℕ} {a b b' c d d' : ℕ}
      → Spans plan a b ws → Spans bits c d bs → Got x r b b' d d' → Got (prefixed ws bs n x) r a b' c d'
  unfolding prefixed
  got_prefixed ws bs n h k y = record {
    words = ws ++ y.words;
    patterns = bs ++ y.patterns;
    lines = n + y.lines;
    reading = ap (prefixed ws bs n) y.reading;
    in_plan = spans_append plan h y.in_plan;
    in_bits = spans_append bits k y.in_bits;
  }

  pub got_then : (next : List ℕ → List ℕ → Reading) {x : Reading} {r r' : List ℕ} {a b b' c d d' : ℕ}
      → (y : Got x r a b c d) → Got (next y.words r) r' b b' d d' → Got (and_then x next) r' a b' c d'
  unfolding and_then
  got_then next y z =
      let w = got_prefixed y.words y.patterns y.lines y.in_plan y.in_bits z in
      record {
        words = w.words;
        patterns = w.patterns;
        lines = w.lines;
        reading = ap (λ (u : Reading). and_then u next) y.reading ∙ w.reading;
        in_plan = w.in_plan;
        in_bits = w.in_bits;
      }

  -- the same places, otherwise written
  pub got_moved : {x : Reading} {r : List ℕ} {a a' b b' c c' d d' : ℕ} → Got x r a b c d → a ≡ a' → b ≡ b' → c ≡ c' → d ≡ d' → Got x r a' b' c' d'
  got_moved {x} {r} y = moved (Got x r) y

  pub got_times : (read : List ℕ → Reading) (text : ℕ → List ℕ) (at bt : ℕ → ℕ) (n : ℕ)
      → ((i : ℕ) → i < n → (r : List ℕ) → Got (read (text i ++ r)) r (at i) (at (suc i)) (bt i) (bt (suc i)))
      → (r : List ℕ) → Got (times n read (joined n text ++ r)) r (at 0) (at n) (bt 0) (bt n)
  unfolding times joined
  got_times read text at bt zero each r = got_none r (at 0) (bt 0)
  got_times read text at bt (suc n) each r =
      rw append_assoc (got_then (λ _. read) (got_times read text at bt n (λ i h. each i (omega arith)) (text n ++ r)) (each n (omega arith) r))

  pub got_line : (kind : LineKind) (a b c d : ℕ) → WithinAt plan bits kind a c → a + word_count (forms kind) ≡ b → c + bits_count (forms kind) ≡ d
      → (r : List ℕ) → Got (read_line kind (line_at plan bits kind a c ++ r)) r a b c d
  got_line kind a b c d fits e f r = record {
    words = line_words plan bits kind a c;
    patterns = line_bits plan bits kind a c;
    lines = 1;
    reading = line_read kind (line_words plan bits kind a c) (line_bits plan bits kind a c) r (length_part plan a _) (length_part bits c _) fits;
    in_plan = spans_part plan a (word_count (forms kind)) b e;
    in_bits = spans_part bits c (bits_count (forms kind)) d f;
  }

  pub got_row : {kind : LineKind} {n : ℕ} {at bt : ℕ → ℕ} {a b c d : ℕ} → Row kind n at bt a b c d → ((i : ℕ) → i < n → WithinAt plan bits kind (at i) (bt i))
      → (r : List ℕ) → Got (times n (read_line kind) (row_text plan bits kind n at bt ++ r)) r a b c d
  got_row {kind} {n} {at} {bt} row fits r =
      got_moved
      (got_times (read_line kind) (λ i. line_at plan bits kind (at i) (bt i)) at bt n
      (λ i h. got_line kind (at i) (at (suc i)) (bt i) (bt (suc i)) (fits i h) (row.words_next i) (row.bits_next i)) r)
      row.words_first row.words_last row.bits_first row.bits_last
