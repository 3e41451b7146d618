-- Laws of reading: what a line's values are bounded by, and that every reading uses up text.
use Rattle.std.specs.Prelude.{ℕ, zero, suc, ◌+◌, ◌*◌, ◌≤◌, ◌<◌, ◌^◌, ◌≡◌, refl, Bool, true, false, cond, not, ◌&&◌, ◌||◌, List, [], ◌∷◌, length, get_or, drop, leb, eqb}
use Rattle.std.proofs.Common.{arith, sym, ap, ◌∙◌, subst, length-drop, leb-true, eqb-true}
use Rattle.model.specs.declared.LineKind.{LineKind}
use Rattle.model.specs.declared.LineKind.TheVariants.{Figure, Joint, Clip, State, Node, Go, Pose}
use Rattle.model.specs.declared.FieldForm.{FieldForm}
use Rattle.model.specs.declared.FieldForm.TheVariants.{Decimal, Bits}
use Rattle.model.specs.Text.{front, comma, line_feed, digit_count, numeral, base_of, is_field, Field, none, field, field_in, max_word, name, forms, field_count, form_of, Line, malformed, line, with_field, field_then, fields_in, begins, line_in, words_in, bits_in}
use Rattle.model.specs.Laws.Text.{Bounded}
use Rattle.model.proofs.Laws.Tests.{and_left, and_right}
use Rattle.model.proofs.Laws.Digits.{run_length, numeral_small}

-- ---- a field

-- the largest value of a form, and the fewest bytes
abbrev pub most_of : FieldForm → ℕ
most_of (Decimal limit) = limit
most_of Bits = 4294967295

abbrev pub least_bytes : FieldForm → ℕ
least_bytes (Decimal limit) = 1
least_bytes Bits = 8

pub record FieldLaw (form : FieldForm) (s : List ℕ) (v : ℕ) (rest : List ℕ) : Type 0 where
  pub most : v ≤ most_of form
  pub spent : least_bytes form + length rest ≤ length s

-- the field of a run of k digits
field_of_run : (form : FieldForm) (s : List ℕ) (k : ℕ) → k ≡ digit_count (base_of form) s → is_field form k s ≡ true → FieldLaw form s (numeral (base_of form) k s) (drop k s)
unfolding is_field
field_of_run (Decimal limit) s k e ok =
    let h = run_length 10 s in
    let lead = eqb k 1 || not (eqb (front s) 48) in
    let some = leb-true 1 k (and_left (leb 1 k) lead (and_left (leb 1 k && lead) (leb (numeral 10 k s) limit) ok)) in
    record { most = leb-true (numeral 10 k s) limit (and_right (leb 1 k && lead) (leb (numeral 10 k s) limit) ok); spent = omega (arith, length-drop k s, e, h, some) }
field_of_run Bits s k e ok =
    let h = run_length 16 s in
    let l : k ≡ 8 = eqb-true k 8 ok in
    let m : numeral 16 k s < 16 ^ k = numeral_small 16 s k (omega (arith, e)) in
    let n : 16 ^ k ≡ 4294967296 = ap (λ (i : ℕ). 16 ^ i) l in
    record { most = omega (arith, m, n); spent = omega (arith, length-drop k s, e, h, l) }

abbrev IsField : Field → Type 0
IsField none = ⊥
IsField (field v rest) = Unit {0}

abbrev field_value : Field → ℕ
field_value none = 0
field_value (field v rest) = v

abbrev field_rest : Field → List ℕ
field_rest none = []
field_rest (field v rest) = rest

pub field_law : (form : FieldForm) (s : List ℕ) (v : ℕ) (rest : List ℕ) → field_in form s ≡ field v rest → FieldLaw form s v rest
unfolding field_in
field_law form s v rest e = go (is_field form (digit_count (base_of form) s) s) refl e
  where
    go : (t : Bool) → is_field form (digit_count (base_of form) s) s ≡ t → cond t (field (numeral (base_of form) (digit_count (base_of form) s) s) (drop (digit_count (base_of form) s) s)) none ≡ field v rest → FieldLaw form s v rest
    go true t e =
        let law = field_of_run form s (digit_count (base_of form) s) refl t in
        let p : numeral (base_of form) (digit_count (base_of form) s) s ≡ v = ap field_value e in
        let q : drop (digit_count (base_of form) s) s ≡ rest = ap field_rest e in
        subst (λ (r : List ℕ). FieldLaw form s v r) q (subst (λ (w : ℕ). FieldLaw form s w (drop (digit_count (base_of form) s) s)) p law)
    go false t e = absurd (subst IsField (sym e) tt)

-- ---- the fields of a line

-- the fewest bytes of fields, with their commas
abbrev least_of : List FieldForm → ℕ
least_of [] = 0
least_of (form ∷ later) = suc (least_bytes form + least_of later)

record FieldsLaw (forms : List FieldForm) (s vs rest : List ℕ) : Type 0 where
  count : length vs ≡ length forms
  most : (k : ℕ) → k < length forms → get_or vs k 0 ≤ most_of (get_or forms k Bits)
  spent : least_of forms + 1 + length rest ≤ length s

abbrev values_of : Line → List ℕ
values_of malformed = []
values_of (line vs rest) = vs

abbrev rest_of : Line → List ℕ
rest_of malformed = []
rest_of (line vs rest) = rest

abbrev is_line : Line → Type 0
is_line malformed = ⊥
is_line (line vs rest) = Unit {0}

-- a byte that is not 0 stands in the text
there : (s : List ℕ) (b : ℕ) → front s ≡ suc b → 1 ≤ length s
there [] b e = absurd (omega arith)
there (x ∷ s) b e = omega arith

abbrev Fields : List FieldForm → Type 0
Fields forms = (s vs rest : List ℕ) → fields_in forms s ≡ line vs rest → FieldsLaw forms s vs rest

fields_law : (forms : List FieldForm) → Fields forms
unfolding fields_in with_field field_then
fields_law [] s vs rest e = go (eqb (front s) line_feed) refl e
  where
    go : (t : Bool) → eqb (front s) line_feed ≡ t → cond t (line [] (drop 1 s)) malformed ≡ line vs rest → FieldsLaw [] s vs rest
    go true t e =
        let p : [] ≡ vs = ap values_of e in
        let q : drop 1 s ≡ rest = ap rest_of e in
        let i : 1 ≤ length s = there s 9 (eqb-true (front s) line_feed t) in
        record { count = sym (ap length p); most = λ k l. absurd (omega arith); spent = omega (arith, length-drop 1 s, ap length q, i) }
    go false t e = absurd (subst is_line (sym e) tt)
fields_law (form ∷ forms) s vs rest e = go (eqb (front s) comma) refl e (fields_law forms)
  where
    more : (v : ℕ) (left : List ℕ) (l : Line) → field_in form (drop 1 s) ≡ field v left → fields_in forms left ≡ l → with_field v l ≡ line vs rest → 1 ≤ length s → Fields forms → FieldsLaw (form ∷ forms) s vs rest
    more v left malformed f l e i later = absurd (subst is_line (sym e) tt)
    more v left (line ws end) f l e i later =
        let law = later left ws end l in
        let here = field_law form (drop 1 s) v left f in
        let p : v ∷ ws ≡ vs = ap values_of e in
        let q : end ≡ rest = ap rest_of e in
        record {
          count = sym (ap length p) ∙ ap suc law.count;
          most = λ k l. subst (λ (xs : List ℕ). get_or xs k 0 ≤ most_of (get_or (form ∷ forms) k Bits)) p (at k l here.most law.most);
          spent = omega (arith, length-drop 1 s, ap length q, i, here.spent, law.spent);
        }
      where
        at : (k : ℕ) → k < suc (length forms) → v ≤ most_of form → ((k : ℕ) → k < length forms → get_or ws k 0 ≤ most_of (get_or forms k Bits)) → get_or (v ∷ ws) k 0 ≤ most_of (get_or (form ∷ forms) k Bits)
        at zero l first later = first
        at (suc k) l first later = later k (omega arith)

    one : (f : Field) → field_in form (drop 1 s) ≡ f → field_then f (fields_in forms) ≡ line vs rest → 1 ≤ length s → Fields forms → FieldsLaw (form ∷ forms) s vs rest
    one none f e i later = absurd (subst is_line (sym e) tt)
    one (field v left) f e i later = more v left (fields_in forms left) f refl e i later

    go : (t : Bool) → eqb (front s) comma ≡ t → cond t (field_then (field_in form (drop 1 s)) (fields_in forms)) malformed ≡ line vs rest → Fields forms → FieldsLaw (form ∷ forms) s vs rest
    go true t e later = one (field_in form (drop 1 s)) refl e (there s 43 (eqb-true (front s) comma t)) later
    go false t e later = absurd (subst is_line (sym e) tt)

-- ---- a line

-- how many fields of either form there are, whatever their values
module _ (later : List FieldForm) where
  abbrev pub word_count : ℕ
  word_count = length (words_in later [])

  abbrev pub bits_count : ℕ
  bits_count = length (bits_in later [])

pub words_count : (forms : List FieldForm) (vs : List ℕ) → length (words_in forms vs) ≡ word_count forms
unfolding words_in
words_count [] vs = refl
words_count (Decimal limit ∷ forms) vs = ap suc (words_count forms (drop 1 vs) ∙ sym (words_count forms (drop 1 [])))
words_count (Bits ∷ forms) vs = words_count forms (drop 1 vs) ∙ sym (words_count forms (drop 1 []))

pub bits_count_lem : (forms : List FieldForm) (vs : List ℕ) → length (bits_in forms vs) ≡ bits_count forms
unfolding bits_in
bits_count_lem [] vs = refl
bits_count_lem (Decimal limit ∷ forms) vs = bits_count_lem forms (drop 1 vs) ∙ sym (bits_count_lem forms (drop 1 []))
bits_count_lem (Bits ∷ forms) vs = ap suc (bits_count_lem forms (drop 1 vs) ∙ sym (bits_count_lem forms (drop 1 [])))

-- two bytes a decimal, nine a pattern
least_bytes_lem : (forms : List FieldForm) → least_of forms ≡ 2 * word_count forms + 9 * bits_count forms
unfolding words_in bits_in
least_bytes_lem [] = refl
least_bytes_lem (Decimal limit ∷ forms) = omega (arith, least_bytes_lem forms, words_count forms (drop 1 []), bits_count_lem forms (drop 1 []))
least_bytes_lem (Bits ∷ forms) = omega (arith, least_bytes_lem forms, words_count forms (drop 1 []), bits_count_lem forms (drop 1 []))

-- what holds of each decimal's limit
abbrev pub EachLimit : (ℕ → Type 0) → List FieldForm → Type 0
EachLimit P [] = Unit {0}
EachLimit P (Decimal limit ∷ forms) = P limit × EachLimit P forms
EachLimit P (Bits ∷ forms) = EachLimit P forms

abbrev pub Words : List FieldForm → Type 0
Words forms = EachLimit (λ limit. limit ≤ max_word) forms

bounded : (forms : List FieldForm) → Words forms → (k v : ℕ) → k < length forms → v ≤ most_of (get_or forms k Bits) → Bounded (get_or forms k Bits) v
bounded [] words k v h most = absurd (omega arith)
bounded (Decimal limit ∷ forms) words zero v h most = (most, omega (arith, most, words.0))
bounded (Decimal limit ∷ forms) words (suc k) v h most = bounded forms words.1 k v (omega arith) most
bounded (Bits ∷ forms) words zero v h most = omega (arith, most)
bounded (Bits ∷ forms) words (suc k) v h most = bounded forms words k v (omega arith) most

pub record LineLaw (kind : LineKind) (s vs rest : List ℕ) : Type 0 where
  pub count : length vs ≡ field_count kind
  pub value : (k : ℕ) → k < field_count kind → Bounded (form_of kind k) (get_or vs k 0)
  pub spent : 3 + 2 * length (words_in (forms kind) vs) + 9 * length (bits_in (forms kind) vs) + length rest ≤ length s

-- what the kinds have in common, by looking at each
pub words_only : (kind : LineKind) → Words (forms kind)
unfolding forms
words_only Figure = omega arith
words_only Joint = omega arith
words_only Clip = omega arith
words_only State = omega arith
words_only Node = omega arith
words_only Go = omega arith
words_only Pose = tt

name_of_kind : (kind : LineKind) → leb 2 (length (name kind)) ≡ true
unfolding name
name_of_kind Figure = refl
name_of_kind Joint = refl
name_of_kind Clip = refl
name_of_kind State = refl
name_of_kind Node = refl
name_of_kind Go = refl
name_of_kind Pose = refl

line_of_fields : (kind : LineKind) (s vs rest : List ℕ) → FieldsLaw (forms kind) (drop (length (name kind)) s) vs rest → LineLaw kind s vs rest
line_of_fields kind s vs rest law =
    record {
      count = law.count;
      value = λ k h. bounded (forms kind) (words_only kind) k (get_or vs k 0) h (law.most k h);
      spent = omega (arith, law.spent, length-drop (length (name kind)) s, least_bytes_lem (forms kind), words_count (forms kind) vs, bits_count_lem (forms kind) vs, leb-true 2 (length (name kind)) (name_of_kind kind));
    }

pub line_law : (kind : LineKind) (s vs rest : List ℕ) → line_in kind s ≡ line vs rest → LineLaw kind s vs rest
unfolding line_in
line_law kind s vs rest e = go (begins (name kind) s) e
  where
    go : (t : Bool) → cond t (fields_in (forms kind) (drop (length (name kind)) s)) malformed ≡ line vs rest → LineLaw kind s vs rest
    go true e = line_of_fields kind s vs rest (fields_law (forms kind) (drop (length (name kind)) s) vs rest e)
    go false e = absurd (subst is_line (sym e) tt)
