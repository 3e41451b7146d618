-- Document 01, "Numbers (math.rs)", first half: the operations, the conversions, inv_sqrt. Definitions only.
-- A float is lib.Ieee's: one NaN, both widths in one type.
use Rattle.std.specs.Prelude.{ℕ, ◌+◌, ◌-◌, ◌*◌, ◌/◌, ◌%◌, ◌^◌, Bool, cond, pos, leb, eqb, Float}
use Rattle.std.specs.Float.{nan, inf, fin, binary32, binary64}
use Rattle.std.specs.Float.Ieee.{up, down, size, odd, add, sub, mul, div, round, of_int, to_unsigned, to_bits, of_bits}

-- ---- the operations at each width. Each rounds its exact result once; a chain associates to the left
infixl 65 ◌+₃₂◌ ◌-₃₂◌ ◌+₆₄◌ ◌-₆₄◌
infixl 70 ◌*₃₂◌ ◌/₃₂◌ ◌*₆₄◌ ◌/₆₄◌
abbrev pub ◌+₃₂◌ : Float → Float → Float
a +₃₂ b = add binary32 a b

abbrev pub ◌-₃₂◌ : Float → Float → Float
a -₃₂ b = sub binary32 a b

abbrev pub ◌*₃₂◌ : Float → Float → Float
a *₃₂ b = mul binary32 a b

abbrev pub ◌/₃₂◌ : Float → Float → Float
a /₃₂ b = div binary32 a b

abbrev pub ◌+₆₄◌ : Float → Float → Float
a +₆₄ b = add binary64 a b

abbrev pub ◌-₆₄◌ : Float → Float → Float
a -₆₄ b = sub binary64 a b

abbrev pub ◌*₆₄◌ : Float → Float → Float
a *₆₄ b = mul binary64 a b

abbrev pub ◌/₆₄◌ : Float → Float → Float
a /₆₄ b = div binary64 a b

-- ---- the constants, by their bits
abbrev pub 0f : Float
0f = of_bits binary32 0

abbrev pub 1f : Float
1f = of_bits binary32 0x3f80_0000

abbrev pub half : Float
half = of_bits binary32 0x3f00_0000

abbrev pub three_halves : Float
three_halves = of_bits binary32 0x3fc0_0000

-- ---- conversions

-- 'widening': both widths share their values, so it is no operation here.
-- 'narrowing': the exact value, rounded once by lib.Ieee's `round`
unfoldable pub narrow : Float → Float
narrow nan = nan
narrow (inf s) = inf s
narrow (fin s m e) = round binary32 s (m * up e) (down e)

-- a whole number n, negative where s is true, with no rounding
unfoldable pub whole : Bool → ℕ → Float
whole s n = odd (size n) s n 0 0

-- 1 where the division a / b leaves a remainder, else 0
abbrev pub carry : ℕ → ℕ → ℕ
carry a b = cond (eqb (a % b) 0) 0 1

-- 'floor' and 'ceiling': away from zero only on the side of the sign
unfoldable pub floor : Float → Float
floor nan = nan
floor (inf s) = inf s
floor (fin s m e) = whole s (m * up e / down e + cond s (carry (m * up e) (down e)) 0)

unfoldable pub ceiling : Float → Float
ceiling nan = nan
ceiling (inf s) = inf s
ceiling (fin s m e) = whole s (m * up e / down e + cond s 0 (carry (m * up e) (down e)))

-- 'index': Rust's `as usize`. lib.Ieee cuts NaN and negatives to 0 and what is too large to 2^64 − 1
abbrev pub index : Float → ℕ
index x = to_unsigned 64 x

unfoldable pub floor_index : Float → ℕ
floor_index x = index (floor x)

unfoldable pub ceiling_index : Float → ℕ
ceiling_index x = index (ceiling x)

-- Rust's `as f32` of an index
unfoldable pub index_float : ℕ → Float
index_float n = of_int binary32 (pos n)

-- ---- inv_sqrt

-- Rust's `i >> 1` of a signed number, on its 32-bit pattern: the top bit stays and is copied
abbrev pub shifted_bits : ℕ → ℕ
shifted_bits bits = bits / 2 + cond (leb (2 ^ 31) bits) (2 ^ 31) 0

-- 'first guess': the pattern of `0x5f3759df - (i >> 1)` at 32 bits, wrapping as a release build does
unfoldable pub first_guess : ℕ → ℕ
first_guess bits = (0x5f37_59df + 2 ^ 32 - shifted_bits bits) % 2 ^ 32

unfoldable pub inv_sqrt : Float → Float
inv_sqrt x =
    let y = of_bits binary32 (first_guess (to_bits binary32 x)) in
    y *₃₂ (three_halves -₃₂ x *₃₂ half *₃₂ y *₃₂ y)
