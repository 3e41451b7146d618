-- A float as an index: what the tests of `floor_index` and `ceiling_index` tell. And an index of 25 digits or more as a float. Assumes nothing.
use Rattle.std.proofs.Common.{◌≡◌, ℕ, zero, suc, ◌+◌, ◌-◌, ◌*◌, ◌/◌, ◌%◌, ◌^◌, ◌<◌, ◌≤◌, min, Bool, true, false, cond, ◌&&◌, T, eqb, ltb, leb, ℤ, pos, negsuc, sym, refl, ◌∙◌, subst, inl, inr, lt_of_lt_of_le, add-zero, le_of_lt, mul-le-mul_right, div-lt_iff_lt-mul, mul-lt-mul_of_pos_right, one-mul, lt_of_not-le, div-add-mod', le-div_iff_mul-le, zero-add, mul-one, div-le_self, mul_right_comm, not-le_of_lt, arith, lit<, lit≤, ltb→lt, pow_pos, pow_mono, pow-add, shr_lt, ltb-false, ltb-true, le-ltb, lt-ltb}
use Prim.Native.Nat.compare
use native.Mathlib.Nat.{mod-one, min-eq_left}
use lib.Count.{count_leading_zeros, leading_top}
use lib.Ieee.{Float, nan, inf, fin, binary32, up, down, lt, fits, of_int, to_unsigned, of_bits}
use lib.Ieee.Fits.{down_pos, and_l, and_r}
use lib.Ieee.Exact.{HasValue}
use lib.Ieee.Back.{round_whole}
use lib.Ieee.Nearest.{closest}
use Rattle.model.specs.Numbers.{carry, ceiling, ceiling_index, index_float}
use Rattle.model.proofs.Laws.Wholes.{most, whole_index}
use Rattle.float.proofs.Rounding.{le_or_lt, closest_le, round_bits}

-- a number from 0 on against a power of two: its whole part decides
below_power : (m : ℕ) (e : ℤ) (j : ℕ) → lt (fin false m e) (fin false 1 (pos j)) ≡ true → m * up e / down e < 2 ^ j
unfolding lt
below_power m e j h = (div-lt_iff_lt-mul (down_pos e)).1 (simp (mul-one, one-mul) at (ltb-true (m * up e * 1) (1 * 2 ^ j * down e) h))

from_power : (m : ℕ) (e : ℤ) (j : ℕ) → lt (fin false m e) (fin false 1 (pos j)) ≡ false → 2 ^ j ≤ m * up e / down e
unfolding lt
from_power m e j h = (le-div_iff_mul-le (down_pos e)).1 (simp (mul-one, one-mul) at (ltb-false (m * up e * 1) (1 * 2 ^ j * down e) h))

-- ---- `floor_index`

-- not above -1
pub index_low : (x : Float) → lt (fin true 1 (pos 0)) x ≡ false → to_unsigned 64 x ≡ 0
unfolding lt to_unsigned
index_low nan h = refl
index_low (inf true) h = refl
index_low (inf false) h = cc
index_low (fin true m e) h = refl
index_low (fin false m e) h = let p = down_pos e in let k = ltb-false 0 (1 * 1 * down e + m * up e * 1) h in omega arith

-- above -1, and not below 2 ^ 64
pub index_high : (x : Float) → lt (fin true 1 (pos 0)) x ≡ true → lt x (fin false 1 (pos 64)) ≡ false → to_unsigned 64 x ≡ most
unfolding lt to_unsigned
index_high nan h k = cc
index_high (inf true) h k = cc
index_high (inf false) h k = refl
index_high (fin true m e) h k = let p = down_pos e in let l = ltb-false 0 (m * up e * 1 + 1 * 2 ^ 64 * down e) k in omega arith
index_high (fin false m e) h k = let l = from_power m e 64 k in omega arith

-- ---- `ceiling_index`

-- below 2 ^ 24 the whole part is a float itself
pub small_index : (x : Float) → lt x (fin false 1 (pos 24)) ≡ true → to_unsigned 64 x ≤ 2 ^ 24
unfolding lt to_unsigned
small_index nan h = lit≤ tt
small_index (inf true) h = lit≤ tt
small_index (inf false) h = absurd (subst T (sym h) tt)
small_index (fin true m e) h = lit≤ tt
small_index (fin false m e) h = let l = below_power m e 24 h in omega arith

scaled : (a b c : ℕ) → 0 < c → ltb (a * c) (b * c) ≡ ltb a b
scaled a b c p = elim (le_or_lt b a) [
  | inl h ↦ rw (le-ltb a b h, le-ltb (a * c) (b * c) (mul-le-mul_right c h))
  | inr h ↦ rw (lt-ltb a b h, lt-ltb (a * c) (b * c) (mul-lt-mul_of_pos_right h p))
]

-- a whole number against a fraction
whole_lt : (y : Float) (m : ℕ) (e : ℤ) (n : ℕ) → HasValue y false n 1 → lt y (fin false m e) ≡ ltb (n * down e) (m * up e)
unfolding lt
whole_lt nan m e n v = absurd v
whole_lt (inf t) m e n v = absurd v
whole_lt (fin true k d) m e n v = cc
whole_lt (fin false k d) m e n v = rw (simp mul-one at v.1, mul_right_comm n (down d) (down e)) (scaled (n * down e) (m * up e) (down d) (down_pos d))

-- there is a remainder where the quotient times the divisor falls short
carry_is : (a b : ℕ) → carry a b ≡ cond (ltb (a / b * b) a) 1 0
carry_is a b = go (a % b) (div-add-mod' a b)
  where
    go : (r : ℕ) → a / b * b + r ≡ a → ◌≡◌ {A = ℕ} (cond (eqb r 0) 0 1) (cond (ltb (a / b * b) a) 1 0)
    go zero e = rw (le-ltb (a / b * b) a (omega arith))
    go (suc r) e = rw (compare.suc-zero r, lt-ltb (a / b * b) a (omega arith))

-- below 2 ^ 24: one more than the floor's where the floor is below x
pub ceiling_small : (x : Float) → lt x (fin false 1 (pos 24)) ≡ true → ceiling_index x ≡ to_unsigned 64 x + cond (lt (of_int binary32 (pos (to_unsigned 64 x))) x) 1 0
unfolding lt to_unsigned of_int ceiling_index ceiling
ceiling_small nan h = cc
ceiling_small (inf true) h = refl
ceiling_small (inf false) h = cc
ceiling_small (fin true m e) h = whole_index true (m * up e / down e + 0)
ceiling_small (fin false m e) h =
    let n = m * up e / down e in
    let l = below_power m e 24 h in
    whole_index false (n + carry (m * up e) (down e))
    ∙ rw (carry_is (m * up e) (down e), min-eq_left {n = n} {m = most} (omega arith), whole_lt (of_int binary32 (pos n)) m e n (round_whole binary32 false n (omega arith))) (go n (ltb (n * down e) (m * up e)) l)
  where
    go : (n : ℕ) (t : Bool) → n < 2 ^ 24 → min (n + cond t 1 0) most ≡ n + cond t 1 0
    go n true l = omega arith
    go n false l = omega arith

-- from 2 ^ 24 on a value of the format is whole: its digits are 24 at most
digits_of : (m : ℕ) (e : ℤ) → T (fits binary32 (fin false m e)) → m < 2 ^ 24
unfolding fits
digits_of zero e h = lit< tt
digits_of (suc m) e h =
    let A = eqb (suc m % 2) 1 in
    let B = ltb (suc m) (2 ^ 24) in
    let C = leb (down e) (2 ^ 149) in
    let D = ltb (suc m * up e) (2 ^ 128 * down e) in
    ltb→lt (suc m) (2 ^ 24) (and_r A B (and_l (A && B) C (and_l (A && B && C) D h)))

pub ceiling_large : (x : Float) → T (fits binary32 x) → lt x (fin false 1 (pos 24)) ≡ false → ceiling_index x ≡ to_unsigned 64 x
unfolding lt to_unsigned ceiling_index ceiling
ceiling_large nan f h = refl
ceiling_large (inf t) f h = refl
ceiling_large (fin true m e) f h = whole_index true (m * up e / down e + 0)
ceiling_large (fin false m (pos k)) f h = whole_index false (m * 2 ^ k / 1 + carry (m * 2 ^ k) 1) ∙ rw (mod-one (m * 2 ^ k), add-zero)
ceiling_large (fin false m (negsuc k)) f h = omega (arith, from_power m (negsuc k) 24 h, div-le_self (m * 1) (2 ^ suc k), digits_of m (negsuc k) f)

-- ---- `index_to_float`

-- how many digits go, so that the 24 leading ones are left
abbrev pub shift : ℕ → ℕ
shift n = 40 - count_leading_zeros 64 n

pub record Leading (n : ℕ) : Type 0 where
  pub few : count_leading_zeros 64 n < 40
  pub least : 2 ^ 23 ≤ n / 2 ^ shift n
  pub below : n / 2 ^ shift n < 2 ^ 24

pub leading : (n : ℕ) → 2 ^ 24 ≤ n → n < 2 ^ 64 → Leading n
leading n h l =
    let t = leading_top 64 n (omega arith) l in
    let j = t.0 in
    let big : 24 < suc j = lt_of_not-le (λ (g : suc j ≤ 24). not-le_of_lt (lt_of_lt_of_le t.3 (pow_mono g)) h) in
    let lo : 2 ^ (23 + shift n) ≤ n = subst (λ (i : ℕ). 2 ^ i ≤ n) (omega (arith, t.1)) t.2 in
    let hi : n < 2 ^ (24 + shift n) = subst (λ (i : ℕ). n < 2 ^ i) (omega (arith, t.1)) t.3 in
    record { few = omega (arith, t.1); least = (le-div_iff_mul-le (pow_pos (shift n))).1 (rw (pow-add 2 23 (shift n)) at lo); below = shr_lt 24 (shift n) hi }

-- the pattern is one of 32 bits
pub index_pattern_lt : (n : ℕ) → Leading n → (149 + shift n) * 0x80_0000 + closest n (2 ^ shift n) < 0x7f80_0000
index_pattern_lt n d = let c = closest_le n (2 ^ shift n) in omega arith

pub index_bits : (n : ℕ) → Leading n → index_float n ≡ of_bits binary32 ((149 + shift n) * 0x80_0000 + closest n (2 ^ shift n))
unfolding index_float of_int
index_bits n d =
    let r = simp mul-one at (round_bits false n 0 0 (shift n) (149 + shift n) (omega arith) d.below (inr d.least)) in
    r ∙ rw (zero-add, min-eq_left (le_of_lt (index_pattern_lt n d)))
