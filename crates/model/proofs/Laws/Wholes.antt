-- Whole numbers as floats: their index, and a float less itself.
use Rattle.std.specs.Prelude.{ℕ, zero, suc, ◌+◌, ◌*◌, ◌/◌, ◌^◌, ◌≤◌, ◌<◌, min, ◌≡◌, refl, Bool, true, false, cond, not, T, ℤ, pos, Float}
use Rattle.std.proofs.Common.{add-zero, mul-one, mul-div_cancel, mul-pos, le_refl, le_of_eq, lt_irrefl, lt_of_lt_of_le, zero-lt-suc, zero-mul, arith, sym, ◌∙◌, le-ltb, pow_pos}
use Rattle.std.proofs.Math.Nat.{mul-mod_left, sub_self}
use Rattle.std.specs.Float.{nan, inf, fin, Format, binary32}
use Rattle.std.specs.Float.Ieee.{prec, emax, low, up, down, size, odd, sum, round, sub, add, neg, fits, of_int, to_unsigned}
use Rattle.std.specs.Float.Ieee.Fits.{up_pos, down_pos, sub-fits}
use Rattle.std.specs.Float.Ieee.Exact.{HasValue, odd_sign, round_exact}
use Rattle.std.specs.Float.Ieee.Back.{round_whole, whole_unique}
use Rattle.model.specs.Numbers.{carry, whole, floor, ceiling, floor_index, ceiling_index, index_float}

-- the last index
abbrev pub most : ℕ
most = 0xffff_ffff_ffff_ffff

-- a whole number's index: 0 with a sign, and no more than the last
pub whole_index : (s : Bool) (n : ℕ) → to_unsigned 64 (whole s n) ≡ cond s 0 (min n most)
unfolding whole to_unsigned
whole_index s n = go (odd (size n) s n 0 0) (odd_sign (size n) s n 0 0)
  where
    go : (v : Float) → HasValue v s (n * 1) 1 → to_unsigned 64 v ≡ cond s 0 (min n most)
    go nan h = absurd h
    go (inf t) h = absurd h
    go (fin t m e) h = rw (h.0, simp mul-one at h.1, mul-div_cancel n (down_pos e))

-- truncation toward zero is the floor from 0 on, and below both have the index 0
pub floor_is : (x : Float) → floor_index x ≡ to_unsigned 64 x
unfolding floor_index floor to_unsigned
floor_is nan = refl
floor_is (inf s) = refl
floor_is (fin true m e) = whole_index true (m * up e / down e + carry (m * up e) (down e))
floor_is (fin false m e) = whole_index false (m * up e / down e + 0) ∙ rw add-zero

-- of a float whose value is n
pub floor_of : (v : Float) (n : ℕ) → n ≤ most → HasValue v false n 1 → floor_index v ≡ n
unfolding floor_index floor
floor_of nan n l h = absurd h
floor_of (inf t) n l h = absurd h
floor_of (fin t m e) n l h =
    rw (h.0, simp mul-one at h.1, mul-div_cancel n (down_pos e), add-zero) (whole_index false n ∙ omega arith)

pub ceiling_of : (v : Float) (n : ℕ) → n ≤ most → HasValue v false n 1 → ceiling_index v ≡ n
unfolding ceiling_index ceiling
ceiling_of nan n l h = absurd h
ceiling_of (inf t) n l h = absurd h
ceiling_of (fin t m e) n l h =
    rw (h.0, simp mul-one at h.1, mul-div_cancel n (down_pos e), mul-mod_left n (down e), add-zero) (whole_index false n ∙ omega arith)

-- a small whole number is a float itself
pub index_value : (n : ℕ) → n ≤ 2 ^ 24 → HasValue (index_float n) false n 1
unfolding index_float of_int
index_value n h = round_whole binary32 false n h

-- ---- a finite float less itself

difference : (f : Format) (s : Bool) (a c : ℕ) → sum f s a (not s) a c ≡ round f false 0 c
unfolding sum
difference f true a c = rw (le-ltb a a (le_refl a), sub_self a)
difference f false a c = rw (le-ltb a a (le_refl a), sub_self a)

pub not_zero : (c m : ℕ) (e : ℤ) → 0 < c → suc m * up e * c ≡ 0 * down e → ⊥
not_zero c m e p h = lt_irrefl 0 (lt_of_lt_of_le (mul-pos (mul-pos (zero-lt-suc m) (up_pos e)) p) (le_of_eq (h ∙ zero-mul (down e))))

pub denominator_pos : (e : ℤ) → 0 < down e * down e
denominator_pos e = mul-pos (down_pos e) (down_pos e)

pub less_itself : (f : Format) (s : Bool) (m : ℕ) (e : ℤ) → HasValue (sub f (fin s m e) (fin s m e)) false 0 (down e * down e)
unfolding sub add neg
less_itself f s m e =
    let c = down e * down e in
    rw (difference f s (m * up e * down e) c) (round_exact f false 0 c 0 0 (denominator_pos e) (pow_pos (prec f)) (pow_pos (low f + suc (emax f))) (zero-mul (2 ^ low f) ∙ sym (zero-mul c)))

only_zero : (v : Float) (c : ℕ) → 0 < c → T (fits binary32 v) → HasValue v false 0 c → v ≡ fin false 0 (pos 0)
unfolding fits
only_zero nan c p f h = absurd h
only_zero (inf t) c p f h = absurd h
only_zero (fin t zero e) c p f h = whole_unique binary32 (fin t zero e) (fin false 0 (pos 0)) false 0 f tt (h.0, simp zero-mul) (refl, refl)
only_zero (fin t (suc m) e) c p f h = absurd (not_zero c m e p h.1)

-- a small whole number, as a float
pub whole_less_itself : (n : ℕ) → n ≤ 2 ^ 24 → sub binary32 (index_float n) (index_float n) ≡ fin false 0 (pos 0)
whole_less_itself n h = go (index_float n) (index_value n h)
  where
    go : (v : Float) → HasValue v false n 1 → sub binary32 v v ≡ fin false 0 (pos 0)
    go nan u = absurd u
    go (inf t) u = absurd u
    go (fin t m e) u = only_zero _ _ (denominator_pos e) (sub-fits binary32 (fin t m e) (fin t m e)) (less_itself binary32 t m e)
