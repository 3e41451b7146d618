-- The classes of floats, in the words of IEEE 754 (5.7.2, with 2.1 and 3.3). Definitions only.
-- A finite float `fin s m e` has the magnitude m × 2 ^ e, which is the fraction m * up e / down e.
use Rattle.std.specs.Prelude.{◌-◌, ◌*◌, ◌^◌, ◌≤◌, ◌<◌, ◌≡◌, Bool, Float}
use Rattle.std.specs.Float.{nan, inf, fin, Format}
use Rattle.std.specs.Float.Ieee.{emax, up, down}

-- 'is NaN'
abbrev pub IsNaN : Float → Type 0
IsNaN nan = Unit {0}
IsNaN (inf s) = ⊥
IsNaN (fin s m e) = ⊥

-- 'is infinite'
abbrev pub IsInfinite : Float → Type 0
IsInfinite nan = ⊥
IsInfinite (inf s) = Unit {0}
IsInfinite (fin s m e) = ⊥

-- 'is finite': zero, subnormal or normal
abbrev pub IsFinite : Float → Type 0
IsFinite nan = ⊥
IsFinite (inf s) = ⊥
IsFinite (fin s m e) = Unit {0}

-- 'is zero', of either sign
abbrev pub IsZero : Float → Type 0
IsZero nan = ⊥
IsZero (inf s) = ⊥
IsZero (fin s m e) = m ≡ 0

-- 'is normal': finite, with a magnitude of 2 ^ emin or more. The least exponent emin is 1 − emax, so 2 ^ emin is 1 / 2 ^ (emax − 1)
abbrev pub IsNormal : Format → Float → Type 0
IsNormal f nan = ⊥
IsNormal f (inf s) = ⊥
IsNormal f (fin s m e) = down e ≤ m * up e * 2 ^ (emax f - 1)

-- 'is subnormal': finite and not zero, with a magnitude below 2 ^ emin
abbrev pub IsSubnormal : Format → Float → Type 0
IsSubnormal f nan = ⊥
IsSubnormal f (inf s) = ⊥
IsSubnormal f (fin s m e) = (0 < m) × (m * up e * 2 ^ (emax f - 1) < down e)

-- 'has the sign', true for minus. A NaN's is not compared, so it has none
abbrev pub HasSign : Float → Bool → Type 0
HasSign nan s = ⊥
HasSign (inf t) s = t ≡ s
HasSign (fin t m e) s = t ≡ s
