-- A line's text is read to its words and bits, and no other text is.
use Rattle.std.specs.Prelude.{ℕ, zero, suc, ◌+◌, ◌≤◌, ◌<◌, ◌≡◌, refl, Bool, true, false, cond, List, [], ◌∷◌, ◌++◌, length, get_or, drop, eqb}
use Rattle.std.proofs.Common.{arith, sym, ap, ◌∙◌, append_assoc, length-drop, drop_at, drop-cons, eq-eqb, eqb-true, le-ltb}
use Rattle.model.specs.declared.LineKind.{LineKind}
use Rattle.model.specs.declared.LineKind.TheVariants.{Figure, Joint, Clip, State, Node, Go, Pose}
use Rattle.model.specs.declared.FieldForm.{FieldForm}
use Rattle.model.specs.declared.FieldForm.TheVariants.{Decimal, Bits}
use Rattle.model.specs.Check.{within}
use Rattle.model.proofs.Laws.Tests.{and_left, and_right}
use Rattle.model.proofs.Laws.Text.{most_of, field_law, EachLimit, Words, words_only, word_count, bits_count, words_count, bits_count_lem}
use Rattle.model.specs.Text.{front, line_feed, comma, digit, digit_count, base_of, Field, none, field, field_in, max_word, name, forms, Line, malformed, line, with_field, field_then, fields_in, begins, line_in, words_in, bits_in, got, from_line, read_line}
use Rattle.model.specs.Program.{decimal_text, bits_text, decimal_fields, bits_fields, part, fields_text, line_text}
use Rattle.round_trip.proofs.Laws.Fields.{max_pattern, base_few, field_text, field_read, field_written}

-- ---- numbers of at most m

abbrev pub AtMost : ℕ → List ℕ → Type 0
AtMost m [] = Unit {0}
AtMost m (v ∷ vs) = (v ≤ m) × AtMost m vs

pub most_append : (m : ℕ) (us vs : List ℕ) → AtMost m us → AtMost m vs → AtMost m (us ++ vs)
most_append m [] vs h k = k
most_append m (u ∷ us) vs h k = (h.0, most_append m us vs h.1 k)

pub most_get_or : (m : ℕ) (vs : List ℕ) (i : ℕ) → AtMost m vs → get_or vs i 0 ≤ m
most_get_or m [] i h = omega arith
most_get_or m (v ∷ vs) zero h = h.0
most_get_or m (v ∷ vs) (suc i) h = most_get_or m vs i h.1

most_later : (m : ℕ) (vs : List ℕ) → AtMost m vs → AtMost m (drop 1 vs)
most_later m [] h = tt
most_later m (v ∷ vs) h = h.1

pub most_part : (m : ℕ) (xs : List ℕ) → ((i : ℕ) → get_or xs i 0 ≤ m) → (a n : ℕ) → AtMost m (part xs a n)
unfolding part
most_part m xs h a zero = tt
most_part m xs h a (suc n) = most_append m (part xs a n) (get_or xs (a + n) 0 ∷ []) (most_part m xs h a n) (h (a + n), tt)

-- ---- a line's words and bits, each within what its field's form allows

abbrev pub Within : List FieldForm → List ℕ → List ℕ → Type 0
Within [] ws bs = Unit {0}
Within (Decimal limit ∷ later) ws bs = (front ws ≤ limit) × Within later (drop 1 ws) bs
Within (Bits ∷ later) ws bs = (front bs ≤ max_pattern) × Within later ws (drop 1 bs)

-- where they allow any word
pub any_within : (forms : List FieldForm) (ws bs : List ℕ) → EachLimit (λ limit. max_word ≤ limit) forms → AtMost max_word ws → AtMost max_pattern bs → Within forms ws bs
any_within [] ws bs any h k = tt
any_within (Decimal limit ∷ later) ws bs any h k = (omega (arith, most_get_or max_word ws 0 h), any_within later (drop 1 ws) bs any.1 (most_later max_word ws h) k)
any_within (Bits ∷ later) ws bs any h k = (most_get_or max_pattern bs 0 k, any_within later ws (drop 1 bs) any h (most_later max_pattern bs k))

-- ---- written, then read

-- a comma or a line's end is no digit
ended : (base : ℕ) → base ≤ 16 → (later : List FieldForm) (ws bs r : List ℕ) → digit_count base (fields_text later ws bs ++ line_feed ∷ r) ≡ 0
unfolding digit_count digit within fields_text decimal_fields bits_fields
ended base few [] ws bs r = rw (le-ltb 16 base few)
ended base few (Decimal limit ∷ later) ws bs r = rw (le-ltb 16 base few)
ended base few (Bits ∷ later) ws bs r = rw (le-ltb 16 base few)

field_first : (form : FieldForm) (later : List FieldForm) (v : ℕ) (ws bs vs r : List ℕ) → most_of form ≤ max_pattern → v ≤ most_of form
    → let s = fields_text later ws bs ++ line_feed ∷ r in fields_in later s ≡ line vs r → fields_in (form ∷ later) (comma ∷ (field_text form v ++ s)) ≡ line (v ∷ vs) r
unfolding fields_in field_then with_field
field_first form later v ws bs vs r few h e = rw (field_read form few v _ h (ended (base_of form) (base_few form) later ws bs r), e)

-- the values that are read
record FieldsRead (later : List FieldForm) (ws bs r : List ℕ) : Type 0 where
  values : List ℕ
  reading : fields_in later (fields_text later ws bs ++ line_feed ∷ r) ≡ line values r
  words : words_in later values ≡ ws
  patterns : bits_in later values ≡ bs

empty : (xs : List ℕ) → length xs ≡ 0 → [] ≡ xs
empty [] e = refl
empty (x ∷ xs) e = absurd (omega arith)

fields_read : (later : List FieldForm) (ws bs r : List ℕ) → Words later → length ws ≡ word_count later → length bs ≡ bits_count later → Within later ws bs
    → FieldsRead later ws bs r
unfolding fields_in fields_text words_in bits_in decimal_fields decimal_text bits_fields bits_text field_text
fields_read [] ws bs r small w b h = record { values = []; reading = refl; words = empty ws w; patterns = empty bs b }
fields_read (Decimal limit ∷ later) ws bs r small w b h =
    let y = fields_read later (drop 1 ws) bs r small.1 (omega (arith, length-drop 1 ws)) b h.1 in
    record {
      values = front ws ∷ y.values;
      reading = simp append_assoc (field_first (Decimal limit) later (front ws) (drop 1 ws) bs y.values r (omega arith) h.0 y.reading);
      words = ap (λ (us : List ℕ). front ws ∷ us) y.words ∙ sym (drop-cons ws 0 0 (omega arith));
      patterns = y.patterns;
    }
fields_read (Bits ∷ later) ws bs r small w b h =
    let y = fields_read later ws (drop 1 bs) r small w (omega (arith, length-drop 1 bs)) h.1 in
    record {
      values = front bs ∷ y.values;
      reading = simp append_assoc (field_first Bits later (front bs) ws (drop 1 bs) y.values r (omega arith) h.0 y.reading);
      words = y.words;
      patterns = ap (λ (us : List ℕ). front bs ∷ us) y.patterns ∙ sym (drop-cons bs 0 0 (omega arith));
    }

begins_same : (cs r : List ℕ) → begins cs (cs ++ r) ≡ true
unfolding begins
begins_same [] r = refl
begins_same (c ∷ cs) r = rw (eq-eqb c c refl) (begins_same cs r)

pub line_read : (kind : LineKind) (ws bs r : List ℕ) → length ws ≡ word_count (forms kind) → length bs ≡ bits_count (forms kind) → Within (forms kind) ws bs
    → read_line kind (line_text kind ws bs ++ r) ≡ got ws bs r 1
unfolding read_line from_line line_in line_text
line_read kind ws bs r w b h =
    let tail = fields_text (forms kind) ws bs ++ line_feed ∷ r in
    let y = fields_read (forms kind) ws bs r (words_only kind) w b h in
    simp (append_assoc, begins_same (name kind) tail, drop_at (name kind) tail (length (name kind)) refl, y.reading, y.words, y.patterns)

-- ---- read, then written

front_is : (c : ℕ) (s : List ℕ) → 0 < c → eqb (front s) c ≡ true → s ≡ c ∷ drop 1 s
front_is c [] some e = absurd (omega (arith, eqb-true 0 c e))
front_is c (b ∷ s) some e = ap (λ (x : ℕ). x ∷ s) (eqb-true b c e)

malformed_line_lem : (vs r : List ℕ) → malformed ≡ line vs r → ⊥
malformed_line_lem vs r e = let z : ◌≡◌ {A = ℕ} 0 1 = cc in omega arith

record FirstWritten (form : FieldForm) (later : List FieldForm) (s vs r : List ℕ) : Type 0 where
  rest : List ℕ
  text : s ≡ comma ∷ (field_text form (front vs) ++ rest)
  small : front vs ≤ most_of form
  others : fields_in later rest ≡ line (drop 1 vs) r

first_written : (form : FieldForm) (later : List FieldForm) (s vs r : List ℕ) → most_of form ≤ max_pattern → fields_in (form ∷ later) s ≡ line vs r
    → FirstWritten form later s vs r
unfolding fields_in field_then with_field
first_written form later s vs r few e = first (eqb (front s) comma) refl e
  where
    last : (v : ℕ) (s₁ : List ℕ) → eqb (front s) comma ≡ true → field_in form (drop 1 s) ≡ field v s₁ → (x : Line) → fields_in later s₁ ≡ x → with_field v x ≡ line vs r
        → FirstWritten form later s vs r
    last v s₁ c f malformed m e = absurd (malformed_line_lem vs r e)
    last v s₁ c f (line us r') m e =
        let values : v ∷ us ≡ vs = cc in
        rw (← values) record {
          rest = s₁;
          text = front_is comma s (omega arith) c ∙ ap (λ (x : List ℕ). comma ∷ x) (field_written form few v (drop 1 s) s₁ f);
          small = (field_law form (drop 1 s) v s₁ f).most;
          others = cc;
        }

    second : (x : Field) → eqb (front s) comma ≡ true → field_in form (drop 1 s) ≡ x → field_then x (fields_in later) ≡ line vs r → FirstWritten form later s vs r
    second none c f e = absurd (malformed_line_lem vs r e)
    second (field v s₁) c f e = last v s₁ c f (fields_in later s₁) refl e

    first : (x : Bool) → eqb (front s) comma ≡ x → cond x (field_then (field_in form (drop 1 s)) (fields_in later)) malformed ≡ line vs r → FirstWritten form later s vs r
    first true c e = second (field_in form (drop 1 s)) c refl e
    first false c e = absurd (malformed_line_lem vs r e)

record FieldsWritten (later : List FieldForm) (s ws bs r : List ℕ) : Type 0 where
  text : s ≡ fields_text later ws bs ++ line_feed ∷ r
  limited : Within later ws bs
  words_most : AtMost max_word ws
  bits_most : AtMost max_pattern bs

fields_written : (later : List FieldForm) (s vs r : List ℕ) → Words later → fields_in later s ≡ line vs r → FieldsWritten later s (words_in later vs) (bits_in later vs) r
unfolding fields_in fields_text words_in bits_in decimal_fields decimal_text bits_fields bits_text field_text
fields_written [] s vs r small e = go (eqb (front s) line_feed) refl e
  where
    go : (x : Bool) → eqb (front s) line_feed ≡ x → cond x (line [] (drop 1 s)) malformed ≡ line vs r → FieldsWritten [] s [] [] r
    go true c e =
        let rest : drop 1 s ≡ r = cc in
        record { text = front_is line_feed s (omega arith) c ∙ rw rest; limited = tt; words_most = tt; bits_most = tt }
    go false c e = absurd (malformed_line_lem vs r e)
fields_written (Decimal limit ∷ later) s vs r small e =
    let x = first_written (Decimal limit) later s vs r (omega arith) e in
    let y = fields_written later x.rest (drop 1 vs) r small.1 x.others in
    record {
      text = x.text ∙ rw y.text (simp append_assoc);
      limited = (x.small, y.limited);
      words_most = (omega (arith, x.small), y.words_most);
      bits_most = y.bits_most;
    }
fields_written (Bits ∷ later) s vs r small e =
    let x = first_written Bits later s vs r (omega arith) e in
    let y = fields_written later x.rest (drop 1 vs) r small x.others in
    record { text = x.text ∙ rw y.text (simp append_assoc); limited = (x.small, y.limited); words_most = y.words_most; bits_most = (x.small, y.bits_most) }

-- a name has no byte 0, which `front` gives at a text's end
Visible : List ℕ → Type 0
Visible [] = Unit {0}
Visible (c ∷ cs) = (0 < c) × Visible cs

name_visible : (kind : LineKind) → Visible (name kind)
unfolding name Visible
name_visible Figure = omega arith
name_visible Joint = omega arith
name_visible Clip = omega arith
name_visible State = omega arith
name_visible Node = omega arith
name_visible Go = omega arith
name_visible Pose = omega arith

begins_with : (cs s : List ℕ) → Visible cs → begins cs s ≡ true → s ≡ cs ++ drop (length cs) s
unfolding begins Visible
begins_with [] s h e = refl
begins_with (c ∷ cs) [] h e = absurd (omega (arith, eqb-true 0 c (and_left _ _ e)))
begins_with (c ∷ cs) (b ∷ s) h e = rw (← (begins_with cs s h.1 (and_right (eqb b c) _ e)), eqb-true b c (and_left _ _ e))

pub record LineWritten (kind : LineKind) (s ws bs r : List ℕ) : Type 0 where
  pub text : s ≡ line_text kind ws bs ++ r
  pub words : length ws ≡ word_count (forms kind)
  pub patterns : length bs ≡ bits_count (forms kind)
  pub limited : Within (forms kind) ws bs
  pub words_most : AtMost max_word ws
  pub bits_most : AtMost max_pattern bs

pub line_written : (kind : LineKind) (s ws bs r : List ℕ) (n : ℕ) → read_line kind s ≡ got ws bs r n → LineWritten kind s ws bs r
unfolding read_line from_line line_in line_text
line_written kind s ws bs r n e = read (line_in kind s) refl e
  where
    named : (vs : List ℕ) (x : Bool) → begins (name kind) s ≡ x → cond x (fields_in (forms kind) (drop (length (name kind)) s)) malformed ≡ line vs r
        → LineWritten kind s (words_in (forms kind) vs) (bits_in (forms kind) vs) r
    named vs true b e =
        let f = fields_written (forms kind) (drop (length (name kind)) s) vs r (words_only kind) e in
        record {
          text = begins_with (name kind) s (name_visible kind) b ∙ rw f.text (simp append_assoc);
          words = words_count (forms kind) vs;
          patterns = bits_count_lem (forms kind) vs;
          limited = f.limited;
          words_most = f.words_most;
          bits_most = f.bits_most;
        }
    named vs false b e = absurd (malformed_line_lem vs r e)

    read : (x : Line) → line_in kind s ≡ x → from_line kind x ≡ got ws bs r n → LineWritten kind s ws bs r
    read malformed l e = absurd (let z : ◌≡◌ {A = ℕ} 0 1 = cc in omega arith)
    read (line vs r') l e =
        let words : words_in (forms kind) vs ≡ ws = cc in
        let patterns : bits_in (forms kind) vs ≡ bs = cc in
        rw (← words, ← patterns) (named vs (begins (name kind) s) refl (l ∙ ap (line vs) (cc)))
