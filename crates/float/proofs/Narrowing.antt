-- What the fields of a 64-bit pattern round to, the case that the pattern falls in, and that case's 32-bit pattern. Assumes nothing.
use Rattle.std.proofs.Common.{◌≡◌, ℕ, zero, suc, ◌+◌, ◌-◌, ◌*◌, ◌/◌, ◌%◌, ◌^◌, ◌<◌, ◌≤◌, min, Bool, true, false, cond, not, T, eqb, sym, refl, ap, ◌∙◌, subst, inl, inr, lt_of_lt_of_le, le_of_lt, div-lt_iff_lt-mul, mul-le-mul_left, zero-add, arith, lit<, pow_pos, pow_mono, eq-eqb, ne_eqb, le-leb}
use native.Mathlib.Nat.{min-eq_left, min-eq_right}
use borrow.Author.Tests.{lt-leb}
use lib.Ieee.{Float, nan, inf, fin, binary32, binary64, up, down, odd, round, fits, of_fields, of_bits, to_bits}
use lib.Ieee.Fits.{down_pos}
use lib.Ieee.Bits.{of_bits-to_bits, to_bits-of_bits, nan_bits_is}
use lib.Ieee.Exact.{HasValue, odd_sign}
use lib.Ieee.Scale.{round_same}
use lib.Ieee.Nearest.{closest}
use Rattle.model.specs.Numbers.{narrow}
use Rattle.model.specs.Classes.{IsFinite, IsZero, IsNormal, IsSubnormal}
use Rattle.model.specs.Narrowing.{value, rounded_result, is_minus, magnitude_bits, FallsIn, with_sign, delivered}
use Rattle.model.proofs.ExactlyOne.{narrow_delivers}
use Rattle.model.proofs.Laws.Classes.{fields_finite, fields_normal, fields_subnormal}
use Rattle.model.specs.declared.Narrowed.{Narrowed}
use Rattle.model.specs.declared.Narrowed.TheVariants.{Nan, Infinite, TooLarge, Normal, Subnormal, Zero}
use Rattle.float.specs.Narrowing.{RoundsTo, case_pattern}
use Rattle.float.proofs.Patterns.{up_to_infinity}
use Rattle.float.proofs.Rounding.{closest_zero, Normalised, rounded, round_bits, infinite}

-- what is rounded is the value
narrow_value : (v : Float) (s : Bool) (a c : ℕ) → 0 < c → HasValue v s a c → narrow v ≡ round binary32 s a c
unfolding narrow
narrow_value nan s a c p h = absurd h
narrow_value (inf t) s a c p h = absurd h
narrow_value (fin t m e) s a c p h = rw h.0 (round_same binary32 s (m * up e) (down e) a c (down_pos e) p h.1)

narrow_odd : (s : Bool) (q x h k : ℕ) → x + 149 + h ≡ 1074 + k → q / 2 ^ h < 2 ^ 24 → Normalised k (q / 2 ^ h) → narrow (odd 53 s q x 1074) ≡ rounded s (k * 0x80_0000 + closest q (2 ^ h))
narrow_odd s q x h k e hi lo = narrow_value (odd 53 s q x 1074) s (q * 2 ^ x) (2 ^ 1074) (pow_pos 1074) (odd_sign 53 s q x 1074) ∙ round_bits s q x 1074 h k e hi lo

-- where 29 digits or more go, the last place is the lowest, 2 ^ -149; where 54 go, less than half of it is left
narrow_low : (s : Bool) (q x h : ℕ) → x + 149 + h ≡ 1074 → q < 2 ^ 53 → 29 ≤ h → narrow (odd 53 s q x 1074) ≡ rounded s (closest q (2 ^ h))
narrow_low s q x h e hi g = narrow_odd s q x h 0 e ((div-lt_iff_lt-mul (pow_pos h)).1 (lt_of_lt_of_le hi (mul-le-mul_left (2 ^ 24) (pow_mono g)))) (inl refl) ∙ ap (rounded s) (zero-add (closest q (2 ^ h)))

narrow_zero : (s : Bool) (q x h : ℕ) → x + 149 + h ≡ 1074 → q < 2 ^ 53 → 54 ≤ h → narrow (odd 53 s q x 1074) ≡ rounded s 0
narrow_zero s q x h e hi g = narrow_low s q x h e hi (omega arith) ∙ ap (rounded s) (closest_zero q (2 ^ h) (lt_of_lt_of_le {m = 2 ^ 54} (omega arith) (pow_mono g)))

-- ---- what the fields x and t of a finite pattern round to, by the ranges of x

pub rounds_normal : (x t : ℕ) → 897 ≤ x → x < 2047 → t < 2 ^ 52 → RoundsTo x t ((x - 897) * 0x80_0000 + closest (2 ^ 52 + t) (2 ^ 29))
unfolding of_fields
rounds_normal zero t h hx ht s = absurd (omega arith)
rounds_normal (suc x) t h hx ht s = rw (ne_eqb (suc x) 2047 (λ (e : suc x ≡ 2047). omega arith)) (narrow_odd s (2 ^ 52 + t) x 29 (suc x - 897) (omega arith) (omega arith) (inr (omega arith)))

pub rounds_low : (x t : ℕ) → 873 ≤ x → x < 897 → t < 2 ^ 52 → RoundsTo x t (closest (2 ^ 52 + t) (2 ^ (29 + (897 - x))))
unfolding of_fields
rounds_low zero t h hx ht s = absurd (omega arith)
rounds_low (suc x) t h hx ht s = rw (ne_eqb (suc x) 2047 (λ (e : suc x ≡ 2047). omega arith)) (narrow_low s (2 ^ 52 + t) x (29 + (897 - suc x)) (omega arith) (omega arith) (omega arith))

pub rounds_zero : (x t : ℕ) → x < 873 → t < 2 ^ 52 → RoundsTo x t 0
unfolding of_fields
rounds_zero zero t hx ht s = narrow_zero s t 0 925 refl (omega arith) (omega arith)
rounds_zero (suc x) t hx ht s = rw (ne_eqb (suc x) 2047 (λ (e : suc x ≡ 2047). omega arith)) (narrow_zero s (2 ^ 52 + t) x (925 - x) (omega arith) (omega arith) (omega arith))

-- ---- the class of a 32-bit pattern

with_sign_fields : (s : Bool) (n : ℕ) → n < 2 ^ 31 → with_sign s n ≡ of_fields binary32 s (n / 2 ^ 23) (n % 2 ^ 23)
unfolding of_bits
with_sign_fields true n h =
    let x : (2 ^ 31 + n) % 2 ^ 31 / 2 ^ 23 ≡ n / 2 ^ 23 = omega arith in
    let t : (2 ^ 31 + n) % 2 ^ 23 ≡ n % 2 ^ 23 = omega arith in
    rw (le-leb (2 ^ 31) (2 ^ 31 + n) (omega arith), x, t)
with_sign_fields false n h =
    let x : n % 2 ^ 31 / 2 ^ 23 ≡ n / 2 ^ 23 = omega arith in
    rw (zero-add n, lt-leb (2 ^ 31) n h, x)

with_sign_normal : (s : Bool) (n : ℕ) → 0x80_0000 ≤ n → n < 0x7f80_0000 → IsNormal binary32 (with_sign s n)
with_sign_normal s n lo hi =
    let x : n / 2 ^ 23 ≡ suc (n / 2 ^ 23 - 1) = omega arith in
    rw (with_sign_fields s n (omega arith), x) (fields_normal binary32 s (n / 2 ^ 23 - 1) (n % 2 ^ 23) (λ (e : suc (n / 2 ^ 23 - 1) ≡ 255). omega arith))

with_sign_subnormal : (s : Bool) (n : ℕ) → 1 ≤ n → n < 0x80_0000 → IsSubnormal binary32 (with_sign s n)
with_sign_subnormal s n lo hi =
    let x : n / 2 ^ 23 ≡ 0 = omega arith in
    rw (with_sign_fields s n (omega arith), x) (fields_subnormal binary32 s (n % 2 ^ 23) (omega arith) (omega arith))

with_sign_zero : (s : Bool) → IsZero (with_sign s 0)
unfolding of_bits
with_sign_zero true = refl
with_sign_zero false = refl

magnitude_back : (s : Bool) (n : ℕ) → n < 0x7f80_0000 → n ≡ magnitude_bits (with_sign s n)
magnitude_back s n h =
    let l = bounded s in
    let b = cond s (2 ^ 31) 0 + n in
    let e : to_bits binary32 (of_bits binary32 b) ≡ b = to_bits-of_bits binary32 b l.0 (subst (λ (t : Bool). T (not t)) (nan_bits_is binary32 b) (up_to_infinity binary32 b l.1)) in
    sym (ap (λ (z : ℕ). z % 2 ^ 31) e ∙ l.2)
  where
    bounded : (s : Bool) → (cond s (2 ^ 31) 0 + n < 2 ^ 32) × ((cond s (2 ^ 31) 0 + n) % 2 ^ 31 ≤ 0x7f80_0000) × ((cond s (2 ^ 31) 0 + n) % 2 ^ 31 ≡ n)
    bounded true = (omega arith, omega arith, omega arith)
    bounded false = (omega arith, omega arith, omega arith)

-- ---- the case that a pattern falls in

abbrev pub exponent_of : ℕ → ℕ
exponent_of b = b % 2 ^ 63 / 2 ^ 52

abbrev pub fraction_of : ℕ → ℕ
fraction_of b = b % 2 ^ 52

-- of the highest exponent
highest : (s : Bool) (x t : ℕ) → x ≡ 2047 → of_fields binary64 s x t ≡ cond (eqb t 0) (inf s) nan
unfolding of_fields
highest s x t e = rw e refl

module _ (b : ℕ) where
  pub falls_nan : exponent_of b ≡ 2047 → ¬ (fraction_of b ≡ 0) → FallsIn b Nan
  unfolding of_bits
  falls_nan e n = rw (highest (is_minus b) (exponent_of b) (fraction_of b) e, ne_eqb (fraction_of b) 0 n) tt

  pub falls_infinite : exponent_of b ≡ 2047 → fraction_of b ≡ 0 → FallsIn b Infinite
  unfolding of_bits
  falls_infinite e z = rw (highest (is_minus b) (exponent_of b) (fraction_of b) e, eq-eqb (fraction_of b) 0 z) tt

  -- of the others by the pattern n that they round to
  module _ (n : ℕ) (finite : ¬ (exponent_of b ≡ 2047)) (rounds : RoundsTo (exponent_of b) (fraction_of b) n) where
    value_finite : IsFinite (value b)
    unfolding of_bits
    value_finite = fields_finite binary64 (is_minus b) (exponent_of b) (fraction_of b) finite

    result : rounded_result b ≡ with_sign (is_minus b) (min n 0x7f80_0000)
    unfolding of_bits
    result = rounds (is_minus b)

    pub falls_too_large : 0x7f80_0000 ≤ n → FallsIn b TooLarge
    falls_too_large h = (value_finite, rw (result, min-eq_right h, ← infinite (is_minus b)) tt)

    within : n < 0x7f80_0000 → rounded_result b ≡ with_sign (is_minus b) n
    within h = result ∙ ap (with_sign (is_minus b)) (min-eq_left (le_of_lt h))

    pub falls_normal : n < 0x7f80_0000 → 0x80_0000 ≤ n → FallsIn b (Normal n)
    falls_normal h l = rw (within h) (value_finite, with_sign_normal (is_minus b) n l h, magnitude_back (is_minus b) n h)

    pub falls_subnormal : n < 0x80_0000 → 1 ≤ n → FallsIn b (Subnormal n)
    falls_subnormal h l = rw (within (omega arith)) (value_finite, with_sign_subnormal (is_minus b) n l h, magnitude_back (is_minus b) n (omega arith))

    pub falls_zero : n < 1 → FallsIn b Zero
    falls_zero h =
        let z : n ≡ 0 = omega arith in
        rw (within (omega arith), z) (value_finite, with_sign_zero (is_minus b))

-- ---- a case's pattern

pub pattern_below : (b : ℕ) (c : Narrowed) → FallsIn b c → case_pattern c < 2 ^ 31
unfolding case_pattern
pattern_below b Nan h = lit< tt
pattern_below b Infinite h = lit< tt
pattern_below b TooLarge h = lit< tt
pattern_below b (Normal n) h = omega (arith, h.2)
pattern_below b (Subnormal n) h = omega (arith, h.2)
pattern_below b Zero h = lit< tt

-- under the sign it is what the standard delivers
delivered_pattern : (s : Bool) (c : Narrowed) → delivered s c ≡ with_sign s (case_pattern c)
unfolding case_pattern of_bits
delivered_pattern true Nan = refl
delivered_pattern false Nan = refl
delivered_pattern s Infinite = infinite s
delivered_pattern s TooLarge = infinite s
delivered_pattern s (Normal n) = refl
delivered_pattern s (Subnormal n) = refl
delivered_pattern true Zero = refl
delivered_pattern false Zero = refl

pub narrow_bits : (x : Float) (c : Narrowed) → T (fits binary64 x) → FallsIn (to_bits binary64 x) c → narrow x ≡ with_sign (is_minus (to_bits binary64 x)) (case_pattern c)
narrow_bits x c f h =
    let b = to_bits binary64 x in
    ap narrow (sym (of_bits-to_bits binary64 x f)) ∙ narrow_delivers b c h ∙ delivered_pattern (is_minus b) c
