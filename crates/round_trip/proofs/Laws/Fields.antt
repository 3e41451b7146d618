-- A field's text is read to its value, and no other text is.
use Prim.Native.Nat.{ℕ, zero, suc, ◌+◌, ◌*◌, ◌/◌, ◌%◌, ◌^◌, ◌≤◌, ◌<◌}
use native.Mathlib.Omega.{arith}
use Rattle.std.proofs.Math.Decide.{ℕ_discrete, dec_lt}
use Rattle.std.proofs.Common.{mod-eq_of_lt, div-lt_iff_lt-mul, pow-suc, sym, ap, ◌∙◌, append_assoc, lt-ltb, le-ltb, le-leb, leb-true, eqb-true, ne_eqb}
use Rattle.std.specs.Prelude.{◌≡◌, Bool, true, false, cond, not, ◌&&◌, ◌||◌, List, ◌∷◌, ◌++◌, get_or, drop, ltb, leb, eqb}
use Rattle.std.proofs.Math.Path.{refl}
use Rattle.std.proofs.Math.Seq.{drop_at}
use Rattle.std.proofs.Math.Arith.{digits_div}
use Rattle.std.proofs.lemmas.Bool.{eqb-false}
use Rattle.model.specs.declared.FieldForm.{FieldForm}
use Rattle.model.specs.declared.FieldForm.TheVariants.{Decimal, Bits}
use Rattle.model.specs.Check.{within}
use Rattle.model.proofs.Laws.Tests.{and_left, and_right, or_right, not_true}
use Rattle.model.specs.Text.{front, digit, digit_count, numeral, base_of, is_field, none, field, field_in}
use Rattle.model.specs.Program.{glyph, digits, places}
use Rattle.model.proofs.Laws.Text.{most_of, field_law}
use Rattle.model.proofs.Laws.Digits.{length_digits, run_digit, numeral_small}
use Rattle.round_trip.proofs.Laws.Digits.{digit_glyph, glyph_digit, run_digits, numeral_digits, digits_numeral}

-- ---- how many decimal digits a number has

pub places_some : (k n : ℕ) → 1 ≤ places k n
unfolding places
places_some zero n = omega arith
places_some (suc k) n = go (ltb n 10)
  where
    go : (x : Bool) → 1 ≤ cond x 1 (suc (places k (n / 10)))
    go true = omega arith
    go false = omega arith

-- a number with one digit has one, with more fuel too
places_one : (k n : ℕ) → n < 10 → places k n ≡ 1
unfolding places
places_one zero n h = refl
places_one (suc k) n h = rw (lt-ltb n 10 h)

tenth : (k n : ℕ) → n < 10 ^ suc k → n / 10 < 10 ^ k
tenth k n h = (div-lt_iff_lt-mul {k = 10} (omega arith)).1 (rw pow-suc at h)

-- enough digits for the number
pub places_hold : (k n : ℕ) → n < 10 ^ suc k → n < 10 ^ places k n
unfolding places
places_hold zero n h = h
places_hold (suc k) n h = go (dec_lt n 10) (places_hold k (n / 10) (tenth (suc k) n h))
  where
    go : Dec (n < 10) → n / 10 < 10 ^ places k (n / 10) → n < 10 ^ places (suc k) n
    go (yes p) later = rw (places_one (suc k) n p) p
    go (no p) later = rw (le-ltb n 10 (omega arith), pow-suc) ((div-lt_iff_lt-mul {k = 10} (omega arith)).0 later)

-- and none of them a leading zero
no_zero : (n : ℕ) (r : List ℕ) → 0 < n → n < 10 → front (digits 10 1 n ++ r) ≡ 48 → ⊥
unfolding digits digit within
no_zero n r some h e =
    let d : glyph n ≡ 48 = rw (mod-eq_of_lt h) at e in
    omega (arith, sym (digit_glyph n (omega arith)) ∙ ap digit d)

pub places_front : (k n : ℕ) (r : List ℕ) → 0 < n → n < 10 ^ suc k → front (digits 10 (places k n) n ++ r) ≡ 48 → ⊥
unfolding places digits
places_front zero n r some h e = no_zero n r some h e
places_front (suc k) n r some h e = go (dec_lt n 10) (places_front k (n / 10) (glyph (n % 10) ∷ r))
  where
    go : Dec (n < 10) → (0 < n / 10 → n / 10 < 10 ^ suc k → front (digits 10 (places k (n / 10)) (n / 10) ++ glyph (n % 10) ∷ r) ≡ 48 → ⊥) → ⊥
    go (yes p) later = no_zero n r some p (rw (places_one (suc k) n p) at e)
    go (no p) later = later (omega arith) (tenth (suc k) n h) (rw (le-ltb n 10 (omega arith), append_assoc) at e)

numeral_some : (j : ℕ) (s : List ℕ) → 0 < digit (front s) → 0 < numeral 10 (suc j) s
unfolding numeral
numeral_some zero s some = omega arith
numeral_some (suc j) s some = omega (arith, numeral_some j s some)

-- digits without a leading zero are as many as their number has
pub places_numeral : (f j : ℕ) (s : List ℕ) → j < digit_count 10 s → 0 < digit (front s) → numeral 10 (suc j) s < 10 ^ suc f → places f (numeral 10 (suc j) s) ≡ suc j
unfolding places numeral
places_numeral f zero s there some h = places_one f (numeral 10 1 s) (omega (arith, run_digit 10 s 0 there))
places_numeral zero (suc j) s there some h = absurd (omega (arith, numeral_some j s some))
places_numeral (suc f) (suc j) s there some h =
    let n = numeral 10 (suc j) s in
    let d : digit (get_or s (suc j) 0) < 10 = run_digit 10 s (suc j) there in
    let large : 10 ≤ n * 10 + digit (get_or s (suc j) 0) = omega (arith, numeral_some j s some) in
    rw (le-ltb (n * 10 + digit (get_or s (suc j) 0)) 10 large, digits_div n d, places_numeral f j s (omega arith) some (omega arith))

-- only '0' is the digit 0
front_some : (s : List ℕ) → 0 < digit_count 10 s → (front s ≡ 48 → ⊥) → 0 < digit (front s)
unfolding glyph
front_some s there other = go (ℕ_discrete (digit (front s)) 0)
  where
    go : Dec (digit (front s) ≡ 0) → 0 < digit (front s)
    go (yes p) = absurd (other (sym (glyph_digit (front s) (omega arith)) ∙ ap glyph p))
    go (no p) = omega arith

normal_places : (k : ℕ) (s : List ℕ) → k ≤ digit_count 10 s → 1 ≤ k → (eqb k 1 || not (eqb (front s) 48)) ≡ true → numeral 10 k s < 10 ^ 20
    → places 19 (numeral 10 k s) ≡ k
normal_places zero s there some normal h = absurd (omega arith)
normal_places (suc zero) s there some normal h = places_one 19 (numeral 10 1 s) (numeral_small 10 s 1 there)
normal_places (suc (suc j)) s there some normal h =
    places_numeral 19 (suc j) s there
    (front_some s (omega arith) (eqb-false (front s) 48 (not_true _ (or_right (eqb (suc (suc j)) 1) _ normal (ne_eqb (suc (suc j)) 1 (omega arith))))))
    h

-- ---- a field

abbrev pub max_pattern : ℕ
max_pattern = most_of Bits

width : FieldForm → ℕ → ℕ
width (Decimal limit) v = places 19 v
width Bits v = 8

unfoldable pub field_text : FieldForm → ℕ → List ℕ
unfolding width
field_text form v = digits (base_of form) (width form v) v

base_some : (form : FieldForm) → 0 < base_of form
base_some (Decimal limit) = omega arith
base_some Bits = omega arith

pub base_few : (form : FieldForm) → base_of form ≤ 16
base_few (Decimal limit) = omega arith
base_few Bits = omega arith

width_holds : (form : FieldForm) (v : ℕ) → most_of form ≤ max_pattern → v ≤ most_of form → v < base_of form ^ width form v
unfolding width
width_holds (Decimal limit) v few h = places_hold 19 v (omega arith)
width_holds Bits v few h = omega arith

or_true : (x : Bool) → x || true ≡ true
or_true true = refl
or_true false = refl

is_field_lem : (form : FieldForm) (v : ℕ) (r : List ℕ) → most_of form ≤ max_pattern → v ≤ most_of form → is_field form (width form v) (field_text form v ++ r) ≡ true
unfolding is_field width field_text
is_field_lem (Decimal limit) v r few h =
    simp (
      le-leb 1 (places 19 v) (places_some 19 v),
      normal (ℕ_discrete v 0),
      numeral_digits 10 (omega arith) (omega arith) (places 19 v) v r (places_hold 19 v (omega arith)),
      le-leb v limit h,
    )
  where
    normal : Dec (v ≡ 0) → (eqb (places 19 v) 1 || not (eqb (front (digits 10 (places 19 v) v ++ r)) 48)) ≡ true
    normal (yes p) = rw (places_one 19 v (omega arith))
    normal (no p) = rw (ne_eqb _ 48 (places_front 19 v r (omega arith) (omega arith))) (or_true (eqb (places 19 v) 1))
is_field_lem Bits v r few h = refl

width_is : (form : FieldForm) (s : List ℕ) → most_of form ≤ max_pattern
    → let k = digit_count (base_of form) s in is_field form k s ≡ true → numeral (base_of form) k s ≤ most_of form → width form (numeral (base_of form) k s) ≡ k
unfolding is_field width
width_is (Decimal limit) s few e h =
    let k = digit_count 10 s in
    let first = and_left (leb 1 k && (eqb k 1 || not (eqb (front s) 48))) (leb (numeral 10 k s) limit) e in
    normal_places k s (omega arith) (leb-true 1 k (and_left _ _ first)) (and_right (leb 1 k) _ first) (omega arith)
width_is Bits s few e h = sym (eqb-true (digit_count 16 s) 8 e)

module _ (form : FieldForm) (few : most_of form ≤ max_pattern) where
  -- where no further digit follows
  pub field_read : (v : ℕ) (r : List ℕ) → v ≤ most_of form → digit_count (base_of form) r ≡ 0 → field_in form (field_text form v ++ r) ≡ field v r
  unfolding field_in field_text
  field_read v r h end =
      let base = base_of form in
      let k = width form v in
      let run_is : digit_count base (digits base k v ++ r) ≡ k = run_digits base (base_some form) (base_few form) k v r ∙ omega arith in
      simp (
        run_is,
        is_field_lem form v r few h,
        numeral_digits base (base_some form) (base_few form) k v r (width_holds form v few h),
        drop_at (digits base k v) r k (length_digits base k v),
      )

  pub field_written : (v : ℕ) (s r : List ℕ) → field_in form s ≡ field v r → s ≡ field_text form v ++ r
  unfolding field_in field_text
  field_written v s r e = go (is_field form k s) refl e
    where
      base : ℕ
      base = base_of form

      k : ℕ
      k = digit_count base s

      go : (x : Bool) → is_field form k s ≡ x → cond x (field (numeral base k s) (drop k s)) none ≡ field v r → s ≡ digits base (width form v) v ++ r
      go true t e' =
          let value : numeral base k s ≡ v = cc in
          let rest : drop k s ≡ r = cc in
          let count : width form v ≡ k = ap (width form) (sym value) ∙ width_is form s few t (rw value (field_law form s v r e).most) in
          sym (digits_numeral base (base_some form) (base_few form) s k (omega arith)) ∙ rw (value, rest, count)
      go false t e' = absurd (let z : ◌≡◌ {A = ℕ} 0 1 = cc in omega arith)
