-- Bit patterns of floats: written and read, and read and written.
use Rattle.std.specs.Prelude.{ℕ, zero, suc, ◌<◌, ◌^◌, ◌≡◌, refl, Bool, true, false, cond, not, List, [], ◌∷◌, map, length, get_or, T, Float}
use Rattle.std.proofs.Common.{arith, sym, ap, subst, ◌∙◌}
use Rattle.std.specs.Float.{nan, inf, fin, binary32}
use Rattle.std.specs.Float.Ieee.{fits, is_nan, nan_bits, to_bits, of_bits}
use Rattle.std.specs.Float.Ieee.Bits.{of_bits-to_bits, to_bits-lt, to_bits-of_bits, of_bits-fits, nan_bits_is}
use Rattle.model.specs.Text.{floats_of}
use Rattle.round_trip.specs.RoundTrip.{canonical}

-- each float of a list is one of 32 bits
abbrev pub Fit : List Float → Type 0
Fit xs = (i : ℕ) → i < length xs → T (fits binary32 (get_or xs i nan))

pub floats_same : (xs : List Float) → Fit xs → floats_of (map (to_bits binary32) xs) ≡ xs
floats_same [] h = refl
floats_same (x ∷ xs) h = rw (of_bits-to_bits binary32 x (h 0 (omega arith)), floats_same xs (λ i less. h (suc i) (omega arith)))

pub patterns_below : (xs : List Float) → Fit xs → (i : ℕ) → get_or (map (to_bits binary32) xs) i 0 < 2 ^ 32
patterns_below [] h i = omega arith
patterns_below (x ∷ xs) h zero = to_bits-lt binary32 x (h 0 (omega arith))
patterns_below (x ∷ xs) h (suc i) = patterns_below xs (λ i less. h (suc i) (omega arith)) i

pub floats_fit : (bs : List ℕ) → Fit (floats_of bs)
floats_fit [] i h = absurd (omega arith)
floats_fit (b ∷ bs) zero h = of_bits-fits binary32 b
floats_fit (b ∷ bs) (suc i) h = floats_fit bs i (omega arith)

is_nan_lem : (v : Float) → is_nan v ≡ true → v ≡ nan
unfolding is_nan
is_nan_lem nan e = refl
is_nan_lem (inf s) e = cc
is_nan_lem (fin s m e') e = cc

canonical_bits : (b : ℕ) → b < 2 ^ 32 → to_bits binary32 (of_bits binary32 b) ≡ canonical b
unfolding canonical to_bits
canonical_bits b h = go (nan_bits binary32 b) refl
  where
    go : (x : Bool) → nan_bits binary32 b ≡ x → to_bits binary32 (of_bits binary32 b) ≡ cond (nan_bits binary32 b) 0x7fc00000 b
    go true e = ap (to_bits binary32) (is_nan_lem (of_bits binary32 b) (sym (nan_bits_is binary32 b) ∙ e)) ∙ rw e
    go false e = to_bits-of_bits binary32 b h (subst (λ (x : Bool). T (not x)) (sym e ∙ nan_bits_is binary32 b) tt) ∙ rw e

pub canonical_same : (bs : List ℕ) → ((i : ℕ) → get_or bs i 0 < 2 ^ 32) → map (to_bits binary32) (floats_of bs) ≡ map canonical bs
canonical_same [] h = refl
canonical_same (b ∷ bs) h = rw (canonical_bits b (h 0), canonical_same bs (λ i. h (suc i)))
