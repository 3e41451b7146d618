-- Document 02, Card 4: the cases of narrowing, by what a 64-bit pattern stands for and by its rounded result. Definitions only.
use Rattle.std.specs.Prelude.{ℕ, ◌+◌, ◌%◌, ◌≡◌, Bool, cond, pos, leb, Float}
use Rattle.std.specs.Float.{nan, inf, fin, binary32, binary64}
use Rattle.std.specs.Float.Ieee.{top, to_bits, of_bits}
use Rattle.model.specs.Numbers.{narrow}
use Rattle.model.specs.Classes.{IsNaN, IsInfinite, IsFinite, IsZero, IsNormal, IsSubnormal}
use Rattle.model.specs.declared.Narrowed.{Narrowed}
use Rattle.model.specs.declared.Narrowed.TheVariants.{Nan, Infinite, TooLarge, Normal, Subnormal, Zero}

-- the float that a 64-bit pattern stands for
abbrev pub value : ℕ → Float
value b = of_bits binary64 b

-- 'the rounded result': that float, rounded once to 32 bits by lib.Ieee's `round`
abbrev pub rounded_result : ℕ → Float
rounded_result b = narrow (value b)

-- the sign of a 64-bit pattern, true where it is minus. `top` is the sign's weight
abbrev pub is_minus : ℕ → Bool
is_minus b = leb (top binary64) b

-- the 32-bit pattern of a float, without its sign
abbrev pub magnitude_bits : Float → ℕ
magnitude_bits x = to_bits binary32 x % top binary32

-- 'falls in': the six cases, each a predicate of the pattern b. Normal and Subnormal hold the result's pattern without its sign
abbrev pub FallsIn : ℕ → Narrowed → Type 0
-- 'NaN'
FallsIn b Nan = IsNaN (value b)
-- 'infinity'
FallsIn b Infinite = IsInfinite (value b)
-- 'too large (finite, rounding to infinity)'
FallsIn b TooLarge = IsFinite (value b) × IsInfinite (rounded_result b)
-- 'by the rounded result normal'
FallsIn b (Normal n) = IsFinite (value b) × IsNormal binary32 (rounded_result b) × (n ≡ magnitude_bits (rounded_result b))
-- 'subnormal'
FallsIn b (Subnormal n) = IsFinite (value b) × IsSubnormal binary32 (rounded_result b) × (n ≡ magnitude_bits (rounded_result b))
-- 'zero'
FallsIn b Zero = IsFinite (value b) × IsZero (rounded_result b)

-- the 32-bit float of a sign and a pattern without it
abbrev pub with_sign : Bool → ℕ → Float
with_sign s n = of_bits binary32 (cond s (top binary32) 0 + n)

-- what the standard delivers in each case, s being the pattern's sign
abbrev pub delivered : Bool → Narrowed → Float
delivered s Nan = nan
delivered s Infinite = inf s
delivered s TooLarge = inf s
delivered s (Normal n) = with_sign s n
delivered s (Subnormal n) = with_sign s n
delivered s Zero = fin s 0 (pos 0)
