-- Digits, the run that stands at a place of a text, its number, and the field there. Assumes nothing.
use Prim.Native.Nat.{ℕ, zero, suc, ◌+◌, ◌-◌, ◌*◌, ◌^◌, ◌<◌, ◌≤◌}
use native.Mathlib.Nat.{mul-le-mul, le-mul_of_pos_right}
use native.Mathlib.Omega.{arith}
use mathlib.Core.Path.{◌≡◌, refl, sym, ◌∙◌}
use mathlib.Core.Logic.{⊎_elim, inl, inr}
use mathlib.Core.Bool.{Bool, true, false, cond, not, ◌||◌}
use mathlib.Core.List.{List, [], ◌∷◌}
use Rattle.std.specs.Prelude.{Option, Some, None}
use Rattle.std.specs.Bool.{then_some}
use lib.Dec.{leb, eqb}
use lib.ListN.{length, get_or, drop, length-drop, drop_of_length-le}
use lib.Seq.{drop-cons, drop-drop, get_or-drop}
use borrow.Author.Tests.{lt-ltb, le-ltb, le-leb, lt-leb, leb-true, leb-false, eqb-true, eq-eqb, ne_eqb}
use Rattle.model.specs.declared.FieldForm.{FieldForm}
use Rattle.model.specs.declared.FieldForm.TheVariants.{Decimal, Bits}
use Rattle.model.proofs.Laws.Digits.{run_length, numeral_small}
use Rattle.model.specs.Text.{front, digit, digit_count, numeral, base_of, is_field, none, field, field_in}
use Rattle.fields.specs.CountedTo.{CountedTo}
use Rattle.fields.specs.Found.{field_at, found}
use Rattle.fields.specs.Wide.{hexadecimal_at, wide_bits_in, wide_bits_at}
use Rattle.fields.specs.declared.Field.{Field}

-- ---- a digit

-- the digits of so many bytes, from one on
abbrev pub digits_from : ℕ → ℕ → List ℕ
digits_from zero first = []
digits_from (suc n) first = digit first ∷ digits_from n (suc first)

digit_there : (n first i : ℕ) → i < n → get_or (digits_from n first) i 0 ≡ digit (first + i)
digit_there zero first i h = absurd (omega arith)
digit_there (suc n) first zero h = let same : first + 0 ≡ first = omega arith in rw same
digit_there (suc n) first (suc i) h = let next : first + suc i ≡ suc first + i = omega arith in rw next (digit_there n (suc first) i (omega arith))

pub digit_read : (i b v : ℕ) → v ≡ get_or (digits_from 256 0) i 0 → i ≡ b → b < 256 → v ≡ digit b
digit_read i b v read at h =
    let there : get_or (digits_from 256 0) b 0 ≡ digit (0 + b) = digit_there 256 0 b h in
    let same : 0 + b ≡ b = omega arith in
    rw (read, at) (rw same at there)

-- ---- a run

pub run_goes_on : (base : ℕ) (s : List ℕ) (i : ℕ) → i < length s → digit (get_or s i 0) < base → digit_count base (drop i s) ≡ suc (digit_count base (drop (suc i) s))
unfolding digit_count
run_goes_on base s i h d = rw (drop-cons s i 0 h, lt-ltb _ base d)

pub run_stops : (base : ℕ) (s : List ℕ) (i : ℕ) → i < length s → base ≤ digit (get_or s i 0) → digit_count base (drop i s) ≡ 0
unfolding digit_count
run_stops base s i h d = rw (drop-cons s i 0 h, le-ltb _ base d)

pub run_none : (base : ℕ) (s : List ℕ) (i : ℕ) → length s ≤ i → digit_count base (drop i s) ≡ 0
unfolding digit_count
run_none base s i h = rw (drop_of_length-le s h)

-- a run with a digit in it ends in the text
pub run_inside : (base : ℕ) (s : List ℕ) (at end : ℕ) → end ≡ at + digit_count base (drop at s) → at < end → end ≤ length s
run_inside base s at end e h = omega (arith, run_length base (drop at s), length-drop at s)

-- ---- its number

pub numeral_none : (base : ℕ) (s : List ℕ) (at : ℕ) → 0 ≡ numeral base (at - at) s
unfolding numeral
numeral_none base s at = let e : at - at ≡ 0 = omega arith in rw e

pub numeral_more : (base : ℕ) (s : List ℕ) (at i value d : ℕ) → at ≤ i → value ≡ numeral base (i - at) (drop at s) → d ≡ digit (get_or s i 0)
    → value * base + d ≡ numeral base (i + 1 - at) (drop at s)
unfolding numeral
numeral_more base s at i value d h v e =
    let one : i + 1 - at ≡ suc (i - at) = omega arith in
    let back : at + (i - at) ≡ i = omega arith in
    rw (one, get_or-drop, back, v, e)

-- one digit more fits 64 bits
pub room : (value base d : ℕ) → value < 2 ^ 60 → base ≤ 16 → d < 16 → value * base + d < 2 ^ 64
room value base d v b l = let p : value ≤ 2 ^ 60 - 1 = omega arith in omega (arith, mul-le-mul p b)

numeral_goes : (base : ℕ) (s : List ℕ) (k : ℕ) → 1 ≤ base → numeral base (k - 1) s ≤ numeral base k s
unfolding numeral
numeral_goes base s zero h = omega arith
numeral_goes base s (suc k) h = let e : suc k - 1 ≡ k = omega arith in rw e (omega (arith, le-mul_of_pos_right (numeral base k s) h))

-- a number that is not counted further once it is above `most`
module _ (base most : ℕ) (s : List ℕ) (k value : ℕ) (c : CountedTo base most k s value) where
  pub counted : value ≤ most → value ≡ numeral base k s
  counted h = ⊎_elim (λ e. e) (λ o. absurd (omega (arith, o.0))) c

  pub above : 1 ≤ base → most < value → most < numeral base k s
  above b h = ⊎_elim (λ e. omega (arith, e)) (λ o. omega (arith, o.1, numeral_goes base s k b)) c

  -- what all but the last digit write is not above `most`
  exact : numeral base (k - 1) s ≤ most → value ≡ numeral base k s
  exact h = ⊎_elim (λ e. e) (λ o. absurd (omega (arith, o.1))) c

module _ (base most : ℕ) (text : List ℕ) (at i value : ℕ) (h : at ≤ i) (c : CountedTo base most (i - at) (drop at text) value) where
  pub counts : (d : ℕ) → value ≤ most → d ≡ digit (get_or text i 0) → CountedTo base most (i + 1 - at) (drop at text) (value * base + d)
  counts d l e = inl (numeral_more base text at i value d h (counted base most (drop at text) (i - at) value c l) e)

  one_more : 1 ≤ base → most < value → CountedTo base most (i + 1 - at) (drop at text) value
  one_more b l =
      let e : i + 1 - at - 1 ≡ i - at = omega arith in
      inr (l, rw e (above base most (drop at text) (i - at) value c b l))

-- however many digits come
pub stays : (base most : ℕ) (text : List ℕ) (at i value : ℕ) → at ≤ i → CountedTo base most (i - at) (drop at text) value → 1 ≤ base → most < value → (n : ℕ)
    → CountedTo base most (i + n - at) (drop at text) value
stays base most text at i value h c b l zero = let same : i + 0 ≡ i = omega arith in rw same c
stays base most text at i value h c b l (suc n) =
    let next : i + suc n ≡ i + 1 + n = omega arith in
    rw next (stays base most text at (i + 1) value (omega arith) (one_more base most text at i value h c b l) b l n)

-- ---- the field at a place, where `f` is the run there

abbrev run : ℕ → ℕ → Field
run value end = record { value = value; end = end }

or_true : (t : Bool) → t || true ≡ true
or_true true = refl
or_true false = refl

-- no leading zero: a 0 stands alone
no_zero_leads : (k b : ℕ) → (b ≡ 48 → k ≡ 1) → eqb k 1 || not (eqb b 48) ≡ true
no_zero_leads k b h = at (eqb b 48) refl
  where
    at : (t : Bool) → eqb b 48 ≡ t → eqb k 1 || not t ≡ true
    at true e = rw (eq-eqb k 1 (h (eqb-true b 48 e)))
    at false e = or_true (eqb k 1)

module _ (form : FieldForm) (s : List ℕ) (at : ℕ) (f : Field) (ends : f.end ≡ at + digit_count (base_of form) (drop at s)) where
  digits : f.end - at ≡ digit_count (base_of form) (drop at s)
  digits = omega arith

  no_field : is_field form (f.end - at) (drop at s) ≡ false → None ≡ field_at form s at
  unfolding field_at
  no_field e = rw (← digits, e)

  is_field_lem : f.value ≡ numeral (base_of form) (f.end - at) (drop at s) → is_field form (f.end - at) (drop at s) ≡ true → Some f ≡ field_at form s at
  unfolding field_at
  is_field_lem q e = let back : at + (f.end - at) ≡ f.end = omega arith in rw (← digits, e, ← q, back)

module _ (limit : ℕ) (s : List ℕ) (at : ℕ) (f : Field) (ends : f.end ≡ at + digit_count 10 (drop at s)) where
  head : front (drop at s) ≡ get_or s at 0
  head = let e : at + 0 ≡ at = omega arith in rw (get_or-drop, e)

  pub decimal_none : f.end ≡ at → None ≡ field_at (Decimal limit) s at
  unfolding is_field
  decimal_none e = no_field (Decimal limit) s at f ends (simp (lt-leb 1 (f.end - at) (omega arith)))

  pub decimal_leads : at + 1 < f.end → get_or s at 0 ≡ 48 → None ≡ field_at (Decimal limit) s at
  unfolding is_field
  decimal_leads l z =
      no_field (Decimal limit) s at f ends (simp (le-leb 1 (f.end - at) (omega arith), ne_eqb (f.end - at) 1 (λ e. omega arith), eq-eqb _ 48 (head ∙ z)))

  -- past the tests of the digits the limit alone decides
  module _ (some : f.end ≡ at → ⊥) (leads : get_or s at 0 ≡ 48 → f.end ≤ at + 1) (c : CountedTo 10 limit (f.end - at) (drop at s) f.value) where
    decides : is_field (Decimal limit) (f.end - at) (drop at s) ≡ leb (numeral 10 (f.end - at) (drop at s)) limit
    unfolding is_field
    decides = simp (le-leb 1 (f.end - at) (omega arith), no_zero_leads (f.end - at) (front (drop at s)) (λ z. omega (arith, leads (sym head ∙ z))))

    pub decimal_reads : then_some (leb f.value limit) f ≡ field_at (Decimal limit) s at
    decimal_reads = on (leb f.value limit) refl
      where
        on : (t : Bool) → leb f.value limit ≡ t → then_some t f ≡ field_at (Decimal limit) s at
        on true e =
            let few = leb-true f.value limit e in
            let q = counted 10 limit (drop at s) (f.end - at) f.value c few in
            is_field_lem (Decimal limit) s at f ends q (decides ∙ le-leb _ limit (omega (arith, q)))
        on false e = no_field (Decimal limit) s at f ends (decides ∙ lt-leb _ limit (above 10 limit (drop at s) (f.end - at) f.value c (omega arith) (leb-false f.value limit e)))

-- ---- float bits: a run of just so many digits

-- the run's own length, or the count that is asked for
pub bits_form : (text : List ℕ) (at : ℕ) → field_at Bits text at ≡ hexadecimal_at 8 text at
unfolding field_at is_field
bits_form text at = on (eqb k 8) refl
  where
    s : List ℕ
    s = drop at text

    k : ℕ
    k = digit_count 16 s

    on : (t : Bool) → eqb k 8 ≡ t → cond t (Some (run (numeral 16 k s) (at + k))) None ≡ cond t (Some (run (numeral 16 8 s) (at + 8))) None
    on true e = rw (eqb-true k 8 e)
    on false e = refl

pub bits_read : (s : List ℕ) (at : ℕ) (f : Field) (n most : ℕ) → f.end ≡ at + digit_count 16 (drop at s) → CountedTo 16 most (f.end - at) (drop at s) f.value
    → 16 ^ (n - 1) ≤ most + 1 → then_some (eqb (f.end - at) n) f ≡ hexadecimal_at n s at
bits_read s at f n most ends c p = rw (← digits) (on (eqb (f.end - at) n) refl)
  where
    digits : f.end - at ≡ digit_count 16 (drop at s)
    digits = omega arith

    on : (t : Bool) → eqb (f.end - at) n ≡ t → then_some t f ≡ cond t (Some (run (numeral 16 n (drop at s)) (at + n))) None
    on true e =
        let all = eqb-true (f.end - at) n e in
        let back : at + n ≡ f.end = omega arith in
        let small : numeral 16 (n - 1) (drop at s) < 16 ^ (n - 1) = numeral_small 16 (drop at s) (n - 1) (omega arith) in
        let q : f.value ≡ numeral 16 n (drop at s) = exact 16 most (drop at s) n f.value (rw all at c) (omega arith) in
        rw (back, ← q)
    on false e = refl

-- ---- what is left of the text behind a field that was read

behind : (text : List ℕ) (at v k : ℕ) (t : Bool) → found text (cond t (Some (run v (at + k))) None) ≡ cond t (field v (drop k (drop at text))) none
unfolding found
behind text at v k true = rw drop-drop
behind text at v k false = refl

pub field_found : (form : FieldForm) (text : List ℕ) (at : ℕ) {r : Option Field} → r ≡ field_at form text at → found text r ≡ field_in form (drop at text)
unfolding field_at field_in
field_found form text at e = rw e (behind text at _ _ (is_field form (digit_count (base_of form) (drop at text)) (drop at text)))

pub wide_found : (text : List ℕ) (at : ℕ) {r : Option Field} → r ≡ wide_bits_at text at → found text r ≡ wide_bits_in (drop at text)
unfolding wide_bits_at wide_bits_in
wide_found text at e = rw e (behind text at _ _ (eqb (digit_count 16 (drop at text)) 16))
