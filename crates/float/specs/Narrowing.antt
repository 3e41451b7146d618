-- What the steps of narrowing give. The cases themselves are defined in model's Narrowing.antt. Definitions only.
use Rattle.std.specs.Prelude.{◌≡◌, ℕ, ◌+◌, ◌*◌, ◌/◌, min, Bool}
use Rattle.std.specs.Float.{binary32, binary64}
use Rattle.std.specs.Float.Ieee.{hid, ones, of_fields}
use Rattle.model.specs.Numbers.{narrow}
use Rattle.model.specs.Narrowing.{with_sign}
use Rattle.model.specs.declared.Narrowed.{Narrowed}
use Rattle.model.specs.declared.Narrowed.TheVariants.{Nan, Infinite, TooLarge, Normal, Subnormal, Zero}

-- the 32-bit patterns of the infinity and of lib.Ieee's NaN: the exponent's field all ones; the fraction 0, or its highest digit alone
abbrev pub infinity_pattern : ℕ
infinity_pattern = ones binary32 * hid binary32

abbrev pub nan_pattern : ℕ
nan_pattern = infinity_pattern + hid binary32 / 2

-- the 64-bit floats with the exponent's field x and the fraction t round to the 32-bit pattern n, without its sign. From the infinity's pattern on they
-- round to an infinity
abbrev pub RoundsTo : ℕ → ℕ → ℕ → Type 0
RoundsTo x t n = (s : Bool) → narrow (of_fields binary64 s x t) ≡ with_sign s (min n infinity_pattern)

-- the 32-bit pattern of a case, without its sign
unfoldable pub case_pattern : Narrowed → ℕ
case_pattern Nan = nan_pattern
case_pattern Infinite = infinity_pattern
case_pattern TooLarge = infinity_pattern
case_pattern (Normal n) = n
case_pattern (Subnormal n) = n
case_pattern Zero = 0
