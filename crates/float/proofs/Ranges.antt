-- Which patterns fall in each case: the borders between the cases, of both signs. Assumes nothing.
use Rattle.std.proofs.Common.{◌≡◌, ℕ, ◌+◌, ◌-◌, ◌*◌, ◌/◌, ◌%◌, ◌^◌, ◌<◌, ◌≤◌, inl, inr, le_trans, le_of_eq, lt_of_lt_of_le, lt_of_le_of_lt, mul-le-mul_right, div-lt_iff_lt-mul, mul-le-mul_left, one-mul, le-div_iff_mul-le, arith, lit<, pow_pos, pow_mono}
use lib.Ieee.Nearest.{closest, closest_mono}
use Rattle.model.specs.Narrowing.{FallsIn}
use Rattle.model.specs.declared.Narrowed.TheVariants.{Nan, Infinite, TooLarge, Normal, Subnormal, Zero}
use Rattle.float.proofs.Rounding.{closest_le, closest_ge, le_or_lt}
use Rattle.float.proofs.Narrowing.{exponent_of, fraction_of, rounds_normal, rounds_low, rounds_zero, falls_nan, falls_infinite, falls_too_large, falls_normal, falls_subnormal, falls_zero}

-- ---- the borders, each the first pattern behind it

-- above 2 ^ -150, half of the least subnormal: a tie, which goes to zero
abbrev pub first_subnormal : ℕ
first_subnormal = 0x3690_0000_0000_0001

-- 2 ^ -126 - 2 ^ -150, half way from the greatest subnormal to the least normal: a tie, which goes up
abbrev pub first_normal : ℕ
first_normal = 0x380f_ffff_e000_0000

-- 2 ^ 128 - 2 ^ 103, half way from the greatest float to 2 ^ 128: a tie, which goes up
abbrev pub first_too_large : ℕ
first_too_large = 0x47ef_ffff_f000_0000

abbrev pub infinity : ℕ
infinity = 0x7ff0_0000_0000_0000

-- which patterns b, without their sign, fall in each case
pub record Ranges (b : ℕ) : Type 0 where
  pub zero : b % 2 ^ 63 < first_subnormal → FallsIn b Zero
  pub subnormal : first_subnormal ≤ b % 2 ^ 63 → b % 2 ^ 63 < first_normal → (n : ℕ) × FallsIn b (Subnormal n)
  pub normal : first_normal ≤ b % 2 ^ 63 → b % 2 ^ 63 < first_too_large → (n : ℕ) × FallsIn b (Normal n)
  pub too_large : first_too_large ≤ b % 2 ^ 63 → b % 2 ^ 63 < infinity → FallsIn b TooLarge
  pub infinite : b % 2 ^ 63 ≡ infinity → FallsIn b Infinite
  pub not_a_number : infinity < b % 2 ^ 63 → FallsIn b Nan

-- ---- rounding keeps the order

closest_up_to : (a c d : ℕ) → 0 < d → a ≤ c → closest a d ≤ closest c d
closest_up_to a c d p h = closest_mono a d c d p p (mul-le-mul_right d h)

-- what a significand above the least exponent rounds to
abbrev high : ℕ → ℕ
high t = closest (2 ^ 52 + t) (2 ^ 29)

high_least : (t : ℕ) → 2 ^ 23 ≤ high t
high_least t = closest_up_to (2 ^ 52) (2 ^ 52 + t) (2 ^ 29) (pow_pos 29) (omega arith)

high_most : (t : ℕ) → t < 2 ^ 52 → high t ≤ 2 ^ 24
high_most t h = closest_up_to (2 ^ 52 + t) (2 ^ 53) (2 ^ 29) (pow_pos 29) (omega arith)

high_carried : (t : ℕ) → 2 ^ 52 - 2 ^ 28 ≤ t → 2 ^ 24 ≤ high t
high_carried t h = closest_up_to (2 ^ 53 - 2 ^ 28) (2 ^ 52 + t) (2 ^ 29) (pow_pos 29) (omega arith)

high_kept : (t : ℕ) → t < 2 ^ 52 - 2 ^ 28 → high t < 2 ^ 24
high_kept t h = lt_of_le_of_lt (closest_up_to (2 ^ 52 + t) (2 ^ 53 - 2 ^ 28 - 1) (2 ^ 29) (pow_pos 29) (omega arith)) (lit< tt)

-- and below it, with k digits lost
module _ (t : ℕ) (ht : t < 2 ^ 52) where
  low_least : (k : ℕ) → k ≤ 52 → 1 ≤ closest (2 ^ 52 + t) (2 ^ k)
  low_least k h = le_trans ((le-div_iff_mul-le (pow_pos k)).1 (le_trans (le_of_eq (one-mul (2 ^ k))) (le_trans (pow_mono h) (omega arith)))) (closest_ge (2 ^ 52 + t) (2 ^ k))

  low_most : (k : ℕ) → 31 ≤ k → closest (2 ^ 52 + t) (2 ^ k) < 2 ^ 23
  low_most k h =
      let q : (2 ^ 52 + t) / 2 ^ k < 2 ^ 22 = (div-lt_iff_lt-mul (pow_pos k)).1 (lt_of_lt_of_le {m = 2 ^ 53} (omega arith) (mul-le-mul_left (2 ^ 22) (pow_mono h))) in
      omega (arith, closest_le (2 ^ 52 + t) (2 ^ k))

  -- 53 and 30 of them: at the borders
  low_half : 0 < t → 1 ≤ closest (2 ^ 52 + t) (2 ^ 53)
  low_half h = closest_up_to (2 ^ 52 + 1) (2 ^ 52 + t) (2 ^ 53) (pow_pos 53) (omega arith)

  low_carried : 2 ^ 52 - 2 ^ 29 ≤ t → 2 ^ 23 ≤ closest (2 ^ 52 + t) (2 ^ 30)
  low_carried h = closest_up_to (2 ^ 53 - 2 ^ 29) (2 ^ 52 + t) (2 ^ 30) (pow_pos 30) (omega arith)

  low_kept : t < 2 ^ 52 - 2 ^ 29 → closest (2 ^ 52 + t) (2 ^ 30) < 2 ^ 23
  low_kept h = lt_of_le_of_lt (closest_up_to (2 ^ 52 + t) (2 ^ 53 - 2 ^ 29 - 1) (2 ^ 30) (pow_pos 30) (omega arith)) (lit< tt)

-- ---- a pattern b by its exponent x and its fraction t; without its sign it is x * 2 ^ 52 + t

module _ (b : ℕ) where
  abbrev x : ℕ
  x = exponent_of b

  abbrev t : ℕ
  t = fraction_of b

  -- the digits lost, and what the pattern rounds to, below the least exponent
  abbrev lost : ℕ
  lost = 29 + (897 - x)

  abbrev low_pattern : ℕ
  low_pattern = closest (2 ^ 52 + t) (2 ^ lost)

  is_zero : (b % 2 ^ 63 < first_subnormal) → FallsIn b Zero
  is_zero h = elim (le_or_lt 873 x) [
    | inl l ↦ falls_zero b low_pattern (omega arith) (rounds_low x t l (omega arith) (omega arith)) (at_half (omega arith) (omega arith))
    | inr l ↦ falls_zero b 0 (omega arith) (rounds_zero x t l (omega arith)) (lit< tt)
  ]
    where
      at_half : x ≡ 873 → t ≡ 0 → low_pattern < 1
      at_half e z = rw (e, z) (lit< tt)

  is_subnormal : first_subnormal ≤ b % 2 ^ 63 → b % 2 ^ 63 < first_normal → FallsIn b (Subnormal low_pattern)
  is_subnormal l h = falls_subnormal b low_pattern (omega arith) (rounds_low x t (omega arith) (omega arith) (omega arith)) most least
    where
      least : 1 ≤ low_pattern
      least = elim (le_or_lt 874 x) [
        | inl g ↦ low_least t (omega arith) lost (omega arith)
        | inr g ↦ at (omega arith) (omega arith)
      ]
        where
          at : x ≡ 873 → 0 < t → 1 ≤ low_pattern
          at e p = rw e (low_half t (omega arith) p)

      most : low_pattern < 0x80_0000
      most = elim (le_or_lt 896 x) [
        | inl g ↦ at (omega arith) (omega arith)
        | inr g ↦ low_most t (omega arith) lost (omega arith)
      ]
        where
          at : x ≡ 896 → t < 2 ^ 52 - 2 ^ 29 → low_pattern < 0x80_0000
          at e p = rw e (low_kept t (omega arith) p)

  abbrev high_pattern : ℕ
  high_pattern = (x - 897) * 0x80_0000 + high t

  is_normal : first_normal ≤ b % 2 ^ 63 → b % 2 ^ 63 < first_too_large → (n : ℕ) × FallsIn b (Normal n)
  is_normal l h = elim (le_or_lt 897 x) [
    | inl g ↦ (high_pattern, falls_normal b high_pattern (omega arith) (rounds_normal x t g (omega arith) (omega arith)) most (omega (arith, high_least t)))
    | inr g ↦ (low_pattern, falls_normal b low_pattern (omega arith) (rounds_low x t (omega arith) g (omega arith)) (carried (omega arith) (omega arith)).1 (carried (omega arith) (omega arith)).0)
  ]
    where
      most : high_pattern < 0x7f80_0000
      most = elim (le_or_lt 1150 x) [
        | inl g ↦ omega (arith, high_kept t (omega arith))
        | inr g ↦ omega (arith, high_most t (omega arith))
      ]

      carried : x ≡ 896 → 2 ^ 52 - 2 ^ 29 ≤ t → (0x80_0000 ≤ low_pattern) × (low_pattern < 0x7f80_0000)
      carried e p = rw e (low_carried t (omega arith) p, omega (arith, closest_le (2 ^ 52 + t) (2 ^ 30)))

  is_too_large : first_too_large ≤ b % 2 ^ 63 → b % 2 ^ 63 < infinity → FallsIn b TooLarge
  is_too_large l h = falls_too_large b high_pattern (omega arith) (rounds_normal x t (omega arith) (omega arith) (omega arith)) least
    where
      least : 0x7f80_0000 ≤ high_pattern
      least = elim (le_or_lt 1151 x) [
        | inl g ↦ omega (arith, high_least t)
        | inr g ↦ omega (arith, high_carried t (omega arith))
      ]

  is_infinite : b % 2 ^ 63 ≡ infinity → FallsIn b Infinite
  is_infinite e = falls_infinite b (omega arith) (omega arith)

  is_nan_lem : infinity < b % 2 ^ 63 → FallsIn b Nan
  is_nan_lem h = falls_nan b (omega arith) (λ (z : t ≡ 0). omega arith)

pub ranges : (b : ℕ) → Ranges b
ranges b =
    record {
      zero = is_zero b;
      subnormal = λ l h. (low_pattern b, is_subnormal b l h);
      normal = is_normal b;
      too_large = is_too_large b;
      infinite = is_infinite b;
      not_a_number = is_nan_lem b;
    }
