-- Laws of the kinds of line and of the reading of one, over plain values. Assumes nothing.
use Prim.Native.Nat.{ℕ, zero, suc, ◌+◌, ◌-◌, ◌≤◌, ◌<◌}
use native.Mathlib.Nat.{sub_self}
use native.Mathlib.Numerals.{add-one}
use native.Mathlib.Omega.{arith}
use mathlib.Core.Path.{◌≡◌, refl, sym, ap, subst, ◌∙◌}
use mathlib.Core.Bool.{Bool, true, false, cond}
use mathlib.Core.List.{List, [], ◌∷◌}
use lib.Dec.{T, leb, eqb, leb→le}
use lib.ListN.{length, get_or, drop, drop_of_length-le, set, length-drop}
use lib.Seq.{drop-nil, drop-cons, drop-drop}
use borrow.Author.Tests.{eq-eqb, ne_eqb}
use Rattle.model.specs.declared.LineKind.{LineKind}
use Rattle.model.specs.declared.LineKind.TheVariants.{Figure, Joint, Clip, State, Node, Go, Pose}
use Rattle.model.specs.declared.FieldForm.{FieldForm}
use Rattle.model.specs.Text.{Field, front, comma, line_feed, digit_count, numeral, base_of, is_field, none, field, name, forms, field_count}
use Rattle.model.specs.Text.{Line, malformed, line, with_field, field_then, field_in, fields_in, begins, line_in}
use Rattle.fields.proofs.Bytes.{front_at, inside, positive, positive_at}
use Rattle.std.specs.Prelude.{Some, None}
use Rattle.text.specs.LineFound.{max_fields, no_values, found_end, found_values, LineFound}
use Rattle.text.specs.LineReading.{comma_field, Stepped, in_array, line_from}

-- ---- the kinds

-- a name has some bytes, none of them 0, and there are at most eight fields
abbrev Sized : LineKind → Type 0
Sized kind = T (leb 1 (length (name kind))) × T (leb (field_count kind) max_fields) × T (positive (name kind))

sized : (kind : LineKind) → Sized kind
unfolding name forms
sized Figure = (tt, tt, tt)
sized Joint = (tt, tt, tt)
sized Clip = (tt, tt, tt)
sized State = (tt, tt, tt)
sized Node = (tt, tt, tt)
sized Go = (tt, tt, tt)
sized Pose = (tt, tt, tt)

pub name_positive : (kind : LineKind) (i : ℕ) → i < length (name kind) → 1 ≤ get_or (name kind) i 0
name_positive kind = positive_at (name kind) (sized kind).2

pub fields_few : (kind : LineKind) → field_count kind ≤ max_fields
fields_few kind = leb→le (field_count kind) max_fields (sized kind).1

-- ---- fields

one_more : (k : ℕ) (array : List ℕ) (v : ℕ) (l : Line) → in_array k array (with_field v l) ≡ in_array (suc k) (set array k v) l
unfolding with_field
one_more k array v malformed = refl
one_more k array v (line vs rest) = refl

-- b is the byte before a field
module _ (form : FieldForm) (text : List ℕ) (at : ℕ) {b : ℕ} (is : b ≡ get_or text at 0) where
  comma_opened : comma_field form (drop at text) ≡ cond (eqb b comma) (field_in form (drop (at + 1) text)) none
  unfolding comma_field
  comma_opened = rw (front_at text at is, drop-drop 1 at text)

  pub no_comma : (b ≡ comma → ⊥) → comma_field form (drop at text) ≡ none
  no_comma h = rw (comma_opened, ne_eqb _ _ h)

  pub comma_there : b ≡ comma → comma_field form (drop at text) ≡ field_in form (drop (at + 1) text)
  comma_there e = rw (comma_opened, eq-eqb _ _ e)

comma_then : (t : Bool) (f : Field) (more : List ℕ → Line) → cond t (field_then f more) malformed ≡ field_then (cond t f none) more
unfolding field_then
comma_then true f more = refl
comma_then false f more = refl

-- the next of a line's fields, as a loop over their forms has it: k is its number, d what stands past the last
module _ (kind : LineKind) (text : List ℕ) (items : List FieldForm) (seen : List ℕ) (k at : ℕ) (values : List ℕ) (d : FieldForm)
    (all : items ≡ forms kind) (whole : seen ≡ text) (h : k < length items) where
  opened : fields_in (drop k (forms kind)) (drop at text) ≡ field_then (comma_field (get_or items k d) (drop at seen)) (fields_in (drop (suc k) (forms kind)))
  unfolding fields_in comma_field
  opened = rw (← all, whole, drop-cons items k d h) (comma_then (eqb (front (drop at text)) comma) _ _)

  pub next_missing : (after : ℕ) → Stepped (get_or items k d) seen at after None → line_from kind text k values at ≡ malformed
  unfolding line_from field_then
  next_missing after s = rw (opened, s.1)

  pub next_read : (v after : ℕ) → Stepped (get_or items k d) seen at after (Some v)
      → line_from kind text (k + 1) (set values k v) after ≡ line_from kind text k values at
  unfolding line_from field_then
  next_read v after s = rw (opened, s, one_more, add-one k, whole)

-- ---- what `line_at` makes of a line

pub malformed_found : (text old : List ℕ) {l : Line} → l ≡ malformed → LineFound text l None old old
unfolding found_end found_values
malformed_found text old e = rw e record { answer = refl; values = refl }

abbrev values_of : Line → List ℕ
values_of malformed = []
values_of (line vs rest) = vs

abbrev rest_of : Line → List ℕ
rest_of malformed = []
rest_of (line vs rest) = rest

abbrev IsLine : Line → Type 0
IsLine malformed = ⊥
IsLine (line vs rest) = Unit {0}

in_array_malformed : (k : ℕ) (array : List ℕ) (l : Line) → in_array k array l ≡ malformed → l ≡ malformed
in_array_malformed k array malformed e = refl
in_array_malformed k array (line vs rest) e = absurd (subst IsLine e tt)

in_array_found : (text old values : List ℕ) (end : ℕ) (l : Line) → end ≤ length text → in_array 0 no_values l ≡ line values (drop end text)
    → LineFound text l (Some end) old values
unfolding found_end found_values
in_array_found text old values end malformed h e = absurd (subst IsLine (sym e) tt)
in_array_found text old values end (line vs rest) h e =
    let far : length rest ≡ length (drop end text) = ap (λ l. length (rest_of l)) e in
    let place : end ≡ length text - length rest = omega (arith, far, length-drop end text) in
    record { answer = ap Some place; values = sym (ap values_of e) }

-- from a line of which nothing is read to one that is malformed, or of which only the line feed may be left
module _ (kind : LineKind) (text old values : List ℕ) (k at end : ℕ) (same : line_from kind text k values end ≡ line_from kind text 0 no_values at) where
  abbrev here : Line
  here = fields_in (forms kind) (drop at text)

  begun : line_from kind text 0 no_values at ≡ in_array 0 no_values here
  unfolding line_from
  begun = refl

  pub field_missing : line_from kind text k values end ≡ malformed → LineFound text here None old old
  field_missing e = malformed_found text old (in_array_malformed 0 no_values here (sym begun ∙ sym same ∙ e))

  -- b is the byte behind the last field
  module _ (done : field_count kind ≤ k) {b : ℕ} (is : b ≡ get_or text end 0) where
    end_opened : in_array 0 no_values here ≡ in_array k values (cond (eqb b line_feed) (line [] (drop (end + 1) text)) malformed)
    unfolding line_from fields_in
    end_opened = sym same ∙ rw (drop_of_length-le (forms kind) done, front_at text end is, drop-drop 1 end text)

    pub no_line_feed : (b ≡ line_feed → ⊥) → LineFound text here None old old
    no_line_feed h = malformed_found text old (in_array_malformed 0 no_values here (rw (end_opened, ne_eqb _ _ h)))

    pub fields_read : b ≡ line_feed → LineFound text here (Some (end + 1)) old values
    fields_read h = in_array_found text old values (end + 1) here (omega (arith, inside text end is (omega arith))) (rw (end_opened, eq-eqb _ _ h))

-- ---- a line, by the length r of its name where that stands

unnamed : (b : Bool) (n r : ℕ) (l : Line) → 1 ≤ n → r ≡ cond b n 0 → r ≡ 0 → cond b l malformed ≡ malformed
unnamed true n r l h e z = absurd (omega arith)
unnamed false n r l h e z = refl

named : (b : Bool) (n r : ℕ) (l : ℕ → Line) → r ≡ cond b n 0 → (r ≡ 0 → ⊥) → cond b (l n) malformed ≡ l r
named true n r l e h = ap l (sym e)
named false n r l e h = absurd (h e)

module _ (kind : LineKind) (text : List ℕ) (at : ℕ) {r : ℕ} (e : r ≡ cond (begins (name kind) (drop at text)) (length (name kind)) 0) where
  pub unnamed_line : r ≡ 0 → line_in kind (drop at text) ≡ malformed
  unfolding line_in
  unnamed_line = unnamed (begins (name kind) (drop at text)) (length (name kind)) r _ (leb→le _ _ (sized kind).0) e

  pub named_line : (r ≡ 0 → ⊥) → line_in kind (drop at text) ≡ fields_in (forms kind) (drop (at + r) text)
  unfolding line_in
  named_line h =
      let rest : ℕ → Line = λ n. fields_in (forms kind) (drop n (drop at text)) in
      named (begins (name kind) (drop at text)) (length (name kind)) r rest e h ∙ rw (drop-drop r at text)

-- ---- what is left behind a line is the text from some place on

abbrev LeftOf : List ℕ → Line → Type 0
LeftOf text malformed = Unit {0}
LeftOf text (line vs rest) = (n : ℕ) × (rest ≡ drop n text)

left_with : (text : List ℕ) (v : ℕ) (l : Line) → LeftOf text l → LeftOf text (with_field v l)
unfolding with_field
left_with text v malformed p = p
left_with text v (line vs rest) p = p

-- the fields behind the first, from any place on
abbrev LaterLeft : List FieldForm → List ℕ → Type 0
LaterLeft fs text = (at : ℕ) → LeftOf text (fields_in fs (drop at text))

field_left : (fs : List FieldForm) (text : List ℕ) → LaterLeft fs text → (at v n : ℕ) (t : Bool)
    → LeftOf text (field_then (cond t (field v (drop n (drop at text))) none) (fields_in fs))
unfolding field_then
field_left fs text later at v n true = left_with text v (fields_in fs (drop n (drop at text))) (rw (drop-drop n at text) (later (at + n)))
field_left fs text later at v n false = tt

fields_left : (fs : List FieldForm) (text : List ℕ) → LaterLeft fs text
unfolding fields_in field_in
fields_left [] text at = on (eqb (front (drop at text)) line_feed)
  where
    on : (t : Bool) → LeftOf text (cond t (line [] (drop 1 (drop at text))) malformed)
    on true = (at + 1, drop-drop 1 at text)
    on false = tt
fields_left (form ∷ fs) text at =
    let s = drop (at + 1) text in
    let n = digit_count (base_of form) s in
    on (field_left fs text (fields_left fs text) (at + 1) (numeral (base_of form) n s) n (is_field form n s)) (eqb (front (drop at text)) comma)
  where
    after : Line
    after = field_then (field_in form (drop 1 (drop at text))) (fields_in fs)

    on : LeftOf text (field_then (field_in form (drop (at + 1) text)) (fields_in fs)) → (t : Bool) → LeftOf text (cond t after malformed)
    on left true = rw (drop-drop 1 at text) left
    on left false = tt

line_left : (kind : LineKind) (text : List ℕ) (at : ℕ) → LeftOf text (line_in kind (drop at text))
unfolding line_in
line_left kind text at = on (begins (name kind) (drop at text))
  where
    on : (t : Bool) → LeftOf text (cond t (fields_in (forms kind) (drop (length (name kind)) (drop at text))) malformed)
    on true = rw (drop-drop (length (name kind)) at text) (fields_left (forms kind) text (at + length (name kind)))
    on false = tt

-- a place by the length of what is left
place_left : (text : List ℕ) (n : ℕ) → drop n text ≡ drop (length text - length (drop n text)) text
place_left [] n = drop-nil n ∙ sym (drop-nil (0 - length {A = ℕ} (drop n [])))
place_left (b ∷ s) zero = rw (sub_self (suc (length s)))
place_left (b ∷ s) (suc n) =
    let e : suc (length s) - length (drop n s) ≡ suc (length s - length (drop n s)) = omega (arith, length-drop n s) in
    rw e (place_left s n)

pub line_rest : (kind : LineKind) (text : List ℕ) (at : ℕ) {vs rest : List ℕ} → line_in kind (drop at text) ≡ line vs rest
    → rest ≡ drop (length text - length rest) text
line_rest kind text at e = let p = subst (LeftOf text) e (line_left kind text at) in rw p.1 (place_left text p.0)
