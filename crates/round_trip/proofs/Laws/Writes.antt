-- Readings taken apart: the text that was read is what is written for the words and bits that stand at each place.
use Prim.Native.Nat.{ℕ, zero, suc, ◌+◌, ◌<◌}
use Rattle.std.proofs.Common.{arith, sym, ap, subst, ◌∙◌, append_assoc, length-append}
use Rattle.std.proofs.Math.Decide.{ℕ_discrete}
use Rattle.std.specs.Prelude.{◌≡◌, refl, List, [], ◌++◌, length}
use Rattle.model.specs.declared.LineKind.{LineKind}
use Rattle.model.proofs.Laws.Text.{word_count, bits_count}
use Rattle.model.specs.Text.{max_word, forms, Reading, bad, got, prefixed, and_then, times, read_line}
use Rattle.model.specs.Program.{joined, part}
use Rattle.round_trip.proofs.Laws.Fields.{max_pattern}
use Rattle.round_trip.proofs.Laws.Lines.{AtMost, most_append, line_written}
use Rattle.round_trip.proofs.Laws.Parts.{Holds, holds_left, holds_right, moved}
use Rattle.round_trip.proofs.Laws.Rows.{line_words, line_bits, line_at, WithinAt, Row, row_text}

pub bad_got : (m : ℕ) (ws bs r : List ℕ) (n : ℕ) → bad m ≡ got ws bs r n → ⊥
bad_got m ws bs r n e = let z : ◌≡◌ {A = ℕ} 0 1 = cc in omega arith

-- a reading behind words and bits: those, and then its own
pub prefixed_cases : (P : List ℕ → List ℕ → Type 0) (ws bs : List ℕ) (m : ℕ) (x : Reading) (r : List ℕ)
    → ((us vs : List ℕ) (k : ℕ) → x ≡ got us vs r k → P (ws ++ us) (bs ++ vs))
    → (ws' bs' : List ℕ) (n : ℕ) → prefixed ws bs m x ≡ got ws' bs' r n → P ws' bs'
unfolding prefixed
prefixed_cases P ws bs m (bad k) r f ws' bs' n e = absurd (bad_got (m + k) ws' bs' r n e)
prefixed_cases P ws bs m (got us vs r₁ k) r f ws' bs' n e =
    let words : ws ++ us ≡ ws' = cc in
    let patterns : bs ++ vs ≡ bs' = cc in
    let rest : r₁ ≡ r = cc in
    subst (P ws') patterns (subst (λ (u : List ℕ). P u (bs ++ vs)) words (f us vs k (ap (λ (u : List ℕ). got us vs u k) rest)))

module _ (plan bits : List ℕ) where
  -- the text s is `text` and then r; the words stand in the plan from a to b and the bits from c to d
  pub record Back (s text r : List ℕ) (a b c d : ℕ) (ws bs : List ℕ) (Facts : Type 0) : Type 0 where
    pub written : s ≡ text ++ r
    pub words_end : a + length ws ≡ b
    pub bits_end : c + length bs ≡ d
    pub words_most : AtMost max_word ws
    pub bits_most : AtMost max_pattern bs
    pub facts : Facts

  -- whatever x has read from s
  abbrev pub Undone : Reading → List ℕ → List ℕ → ℕ → ℕ → ℕ → ℕ → Type 0 → Type 0
  Undone x s text a b c d Facts = (ws bs r : List ℕ) (n : ℕ) → x ≡ got ws bs r n → Holds plan a ws → Holds bits c bs → Back s text r a b c d ws bs Facts

  pub undone_none : (s : List ℕ) (a c : ℕ) → Undone (got [] [] s 0) s [] a a c c (Unit {0})
  undone_none s a c ws bs r n e h k =
      let words : [] ≡ ws = cc in
      let patterns : [] ≡ bs = cc in
      rw (← words, ← patterns) record { written = cc; words_end = omega arith; bits_end = omega arith; words_most = tt; bits_most = tt; facts = tt }

  back_append : (s text s₁ more r : List ℕ) (a b b' c d d' : ℕ) (ws us bs vs : List ℕ) {Facts Others : Type 0}
      → Back s text s₁ a b c d ws bs Facts → Back s₁ more r b b' d d' us vs Others → Back s (text ++ more) r a b' c d' (ws ++ us) (bs ++ vs) (Facts × Others)
  back_append s text s₁ more r a b b' c d d' ws us bs vs y z = record {
    written = y.written ∙ ap (λ (u : List ℕ). text ++ u) z.written ∙ sym (append_assoc text more r);
    words_end = omega (arith, length-append ws us, y.words_end, z.words_end);
    bits_end = omega (arith, length-append bs vs, y.bits_end, z.bits_end);
    words_most = most_append max_word ws us y.words_most z.words_most;
    bits_most = most_append max_pattern bs vs y.bits_most z.bits_most;
    facts = (y.facts, z.facts);
  }

  pub undone_behind : (ws bs : List ℕ) (m : ℕ) (x : Reading) (s text s₁ more : List ℕ) (a b b' c d d' : ℕ) {Facts Others : Type 0}
      → (Holds plan a ws → Holds bits c bs → Back s text s₁ a b c d ws bs Facts)
      → (Holds plan a ws → a + length ws ≡ b → Undone x s₁ more b b' d d' Others)
      → Undone (prefixed ws bs m x) s (text ++ more) a b' c d' (Facts × Others)
  undone_behind ws bs m x s text s₁ more a b b' c d d' {Facts} {Others} first second ws' bs' r n e =
      prefixed_cases (λ us vs. Holds plan a us → Holds bits c vs → Back s (text ++ more) r a b' c d' us vs (Facts × Others)) ws bs m x r
      (λ us vs k f h g.
      let y = first (holds_left plan a ws us h) (holds_left bits c bs vs g) in
      back_append s text s₁ more r a b b' c d d' ws us bs vs y
      (second (holds_left plan a ws us h) y.words_end us vs r k f
      (subst (λ (p : ℕ). Holds plan p us) y.words_end (holds_right plan a ws us h))
      (subst (λ (p : ℕ). Holds bits p vs) y.bits_end (holds_right bits c bs vs g))))
      ws' bs' n e

  pub undone_then : (x : Reading) (next : List ℕ → List ℕ → Reading) (s text more : List ℕ) (a b b' c d d' : ℕ) {Facts Others : Type 0}
      → Undone x s text a b c d Facts
      → ((ws r : List ℕ) → Holds plan a ws → a + length ws ≡ b → Undone (next ws r) r more b b' d d' Others)
      → Undone (and_then x next) s (text ++ more) a b' c d' (Facts × Others)
  unfolding and_then
  undone_then (bad m) next s text more a b b' c d d' first second = λ ws bs r n e h g. absurd (bad_got m ws bs r n e)
  undone_then (got ws bs s₁ m) next s text more a b b' c d d' first second =
      undone_behind ws bs m (next ws s₁) s text s₁ more a b b' c d d' (first ws bs s₁ m refl) (second ws s₁)

  pub undone_prefixed : (ws bs : List ℕ) (m : ℕ) (x : Reading) (s text : List ℕ) (a b b' c d d' : ℕ) {Facts : Type 0}
      → AtMost max_word ws → AtMost max_pattern bs → a + length ws ≡ b → c + length bs ≡ d
      → (Holds plan a ws → Undone x s text b b' d d' Facts)
      → Undone (prefixed ws bs m x) s text a b' c d' (Unit {0} × Facts)
  undone_prefixed ws bs m x s text a b b' c d d' most least e f later =
      undone_behind ws bs m x s [] s text a b b' c d d'
      (λ h g. record { written = refl; words_end = e; bits_end = f; words_most = most; bits_most = least; facts = tt })
      (λ h _. later h)

  -- what else is known of a reading
  pub undone_map : {x : Reading} {s text : List ℕ} {a b c d : ℕ} {Facts Others : Type 0}
      → (Facts → Others) → Undone x s text a b c d Facts → Undone x s text a b c d Others
  undone_map f u ws bs r n e h g =
      let y = u ws bs r n e h g in
      record {
        written = y.written;
        words_end = y.words_end;
        bits_end = y.bits_end;
        words_most = y.words_most;
        bits_most = y.bits_most;
        facts = f y.facts;
      }

  -- the text that was written, otherwise given
  pub undone_text : {x : Reading} {s text text' : List ℕ} {a b c d : ℕ} {Facts : Type 0}
      → (Facts → text ≡ text') → Undone x s text a b c d Facts → Undone x s text' a b c d Facts
  undone_text f u ws bs r n e h g =
      let y = u ws bs r n e h g in
      record {
        written = y.written ∙ ap (λ (t : List ℕ). t ++ r) (f y.facts);
        words_end = y.words_end;
        bits_end = y.bits_end;
        words_most = y.words_most;
        bits_most = y.bits_most;
        facts = y.facts;
      }

  -- the same places, otherwise written
  pub undone_moved : {x : Reading} {s text : List ℕ} {a a' b b' c c' d d' : ℕ} {Facts : Type 0}
      → Undone x s text a b c d Facts → a ≡ a' → b ≡ b' → c ≡ c' → d ≡ d' → Undone x s text a' b' c' d' Facts
  undone_moved {x} {s} {text} {Facts = Facts} u = moved (λ a b c d. Undone x s text a b c d Facts) u

  pub undone_times : (read : List ℕ → Reading) (text : ℕ → List ℕ) (at bt : ℕ → ℕ) (Facts : ℕ → Type 0)
      → ((i : ℕ) (s : List ℕ) → Undone (read s) s (text i) (at i) (at (suc i)) (bt i) (bt (suc i)) (Facts i))
      → (n : ℕ) (s : List ℕ) → Undone (times n read s) s (joined n text) (at 0) (at n) (bt 0) (bt n) ((i : ℕ) → i < n → Facts i)
  unfolding times joined
  undone_times read text at bt Facts each zero s = undone_map (λ _ i h. absurd (omega arith)) (undone_none s (at 0) (bt 0))
  undone_times read text at bt Facts each (suc n) s =
      undone_map (λ f i h. pick i h f (ℕ_discrete i n))
      (undone_then (times n read s) (λ _. read) s (joined n text) (text n) (at 0) (at n) (at (suc n)) (bt 0) (bt n) (bt (suc n))
      (undone_times read text at bt Facts each n s) (λ ws r h e. each n r))
    where
      pick : (i : ℕ) → i < suc n → ((i : ℕ) → i < n → Facts i) × Facts n → Dec (i ≡ n) → Facts i
      pick i h f (yes p) = rw p f.1
      pick i h f (no p) = f.0 i (omega arith)

  pub undone_line : (kind : LineKind) (a b c d : ℕ) → a + word_count (forms kind) ≡ b → c + bits_count (forms kind) ≡ d
      → (s : List ℕ) → Undone (read_line kind s) s (line_at plan bits kind a c) a b c d (WithinAt plan bits kind a c)
  undone_line kind a b c d e f s ws bs r n read h g =
      let back = line_written kind s ws bs r n read in
      let words : ws ≡ line_words plan bits kind a c = sym h ∙ ap (part plan a) back.words in
      let patterns : bs ≡ line_bits plan bits kind a c = sym g ∙ ap (part bits c) back.patterns in
      record {
        written = back.text ∙ rw (words, patterns);
        words_end = omega (arith, back.words);
        bits_end = omega (arith, back.patterns);
        words_most = back.words_most;
        bits_most = back.bits_most;
        facts = rw (← words, ← patterns) back.limited;
      }

  pub undone_row : {kind : LineKind} {n : ℕ} {at bt : ℕ → ℕ} {a b c d : ℕ} → Row kind n at bt a b c d
      → (s : List ℕ) → Undone (times n (read_line kind) s) s (row_text plan bits kind n at bt) a b c d ((i : ℕ) → i < n → WithinAt plan bits kind (at i) (bt i))
  undone_row {kind} {n} {at} {bt} row s =
      undone_moved
      (undone_times (read_line kind) (λ i. line_at plan bits kind (at i) (bt i)) at bt _
      (λ i. undone_line kind (at i) (at (suc i)) (bt i) (bt (suc i)) (row.words_next i) (row.bits_next i)) n s)
      row.words_first row.words_last row.bits_first row.bits_last

  -- with nothing more to know of its lines
  pub undone_lines : {kind : LineKind} {n : ℕ} {at bt : ℕ → ℕ} {a b c d : ℕ} → Row kind n at bt a b c d
      → (s : List ℕ) → Undone (times n (read_line kind) s) s (row_text plan bits kind n at bt) a b c d (Unit {0})
  undone_lines row s = undone_map (λ _. tt) (undone_row row s)
