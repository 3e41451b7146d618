-- Rounding to 32 bits as a bit pattern. In units of the smallest value, 2 ^ -149, the number q * 2 ^ k with q of 24 digits has the pattern k * 2 ^ 23 + q. Assumes nothing.
use Rattle.std.proofs.Common.{◌≡◌, ℕ, suc, ◌+◌, ◌-◌, ◌*◌, ◌/◌, ◌%◌, ◌^◌, ◌<◌, ◌≤◌, min, Bool, true, false, cond, not, T, eqb, leb, ◌⊎◌, sym, refl, ap, ◌∙◌, inl, inr, le_trans, le_of_eq, le_refl, lt_of_lt_of_le, lt_of_le_of_lt, le_of_lt, mul-le-mul_right, mod-eq_of_lt, mul_assoc, div-lt_iff_lt-mul, eq-or-lt_of_le, mul-pos, pow-suc, lt_of_not-le, ne_of_gt, le-div_iff_mul-le, ne_of_lt, not-le_of_lt, mul-div_cancel, arith, lit<, leb→le, pow_pos, pow_mono, pow-add, shl_lt, shr-shr, le-ltb, lt-ltb, eq-eqb, ne_eqb, le-leb}
use Prim.Native.Nat.{compare, Ordering}
use native.Mathlib.Nat.{div-eq_of_lt, min-eq_left, min-eq_right}
use lib.Dec.{is_le, compare_is_eq, nleb→lt}
use borrow.Author.Tests.{lt-leb}
use lib.Pow.{shl-shr}
use lib.Ieee.{Float, nan, inf, fin, binary32, size, nearest, odd, units, round, of_bits, to_bits}
use lib.Ieee.Digits.{size-lt, size-le}
use lib.Ieee.Fits.{down_pos, odd-fits, nearest-le, round_is}
use lib.Ieee.Bits.{of_bits-to_bits}
use lib.Ieee.Exact.{HasValue, odd_sign}
use lib.Ieee.Nearest.{closest, closest_same, div_same, nearest-ge}
use Rattle.model.specs.Narrowing.{with_sign}

pub le_or_lt : (a b : ℕ) → (a ≤ b) ⊎ (b < a)
le_or_lt a b = go (leb a b) (leb→le a b) (nleb→lt a b)
  where
    go : (t : Bool) → (T t → a ≤ b) → (T (not t) → b < a) → (a ≤ b) ⊎ (b < a)
    go true h n = inl (h tt)
    go false h n = inr (n tt)

-- ---- `closest` in each of its three cases

compared : (a b : ℕ) (o : Ordering) → leb a b ≡ is_le o → eqb a b ≡ compare_is_eq o → compare a b ≡ o
compared a b o = go (compare a b) o
  where
    go : (p o : Ordering) → is_le p ≡ is_le o → compare_is_eq p ≡ compare_is_eq o → p ≡ o
    go Ordering.lt Ordering.lt l e = refl
    go Ordering.lt Ordering.eq l e = cc
    go Ordering.lt Ordering.gt l e = cc
    go Ordering.eq Ordering.lt l e = cc
    go Ordering.eq Ordering.eq l e = refl
    go Ordering.eq Ordering.gt l e = cc
    go Ordering.gt Ordering.lt l e = cc
    go Ordering.gt Ordering.eq l e = cc
    go Ordering.gt Ordering.gt l e = refl

module _ (q b : ℕ) where
  pub closest_down : q % b * 2 < b → closest q b ≡ q / b
  closest_down h = ap (nearest (q / b)) (compared (q % b * 2) b Ordering.lt (le-leb _ b (le_of_lt h)) (ne_eqb _ b (ne_of_lt h)))

  pub closest_tie : q % b * 2 ≡ b → closest q b ≡ q / b + q / b % 2
  closest_tie h = ap (nearest (q / b)) (compared (q % b * 2) b Ordering.eq (le-leb _ b (le_of_eq h)) (eq-eqb _ b h))

  pub closest_up : b < q % b * 2 → closest q b ≡ suc (q / b)
  closest_up h = ap (nearest (q / b)) (compared (q % b * 2) b Ordering.gt (lt-leb _ b h) (ne_eqb _ b (ne_of_gt h)))

-- below a half
pub closest_zero : (q b : ℕ) → q * 2 < b → closest q b ≡ 0
closest_zero q b h =
    let l : q < b = omega arith in
    closest_down q b (rw (mod-eq_of_lt l) h) ∙ div-eq_of_lt l

pub closest_ge : (q b : ℕ) → q / b ≤ closest q b
closest_ge q b = nearest-ge (q / b) (compare (q % b * 2) b)

pub closest_le : (q b : ℕ) → closest q b ≤ suc (q / b)
closest_le q b = nearest-le (q / b) (compare (q % b * 2) b)

-- ---- the pattern of a whole number of units

-- q * 2 ^ k is normalised where q has 24 digits, or k is the lowest
abbrev pub Normalised : ℕ → ℕ → Type 0
Normalised k q = (k ≡ 0) ⊎ (2 ^ 23 ≤ q)

-- how many digits `round` and `to_bits` drop
dropped : (n k : ℕ) → n / 2 ^ k < 2 ^ 24 → Normalised k (n / 2 ^ k) → size n - 24 ≡ k
dropped n k hi lo = count lo
  where
    most : size n ≤ 24 + k
    most = size-le n (24 + k) (rw (pow-add 2 24 k) ((div-lt_iff_lt-mul (pow_pos k)).0 hi))

    least : 2 ^ 23 ≤ n / 2 ^ k → 23 + k < size n
    least h = lt_of_not-le (λ (g : size n ≤ 23 + k). not-le_of_lt (lt_of_lt_of_le (size-lt n) (pow_mono g)) (rw (pow-add 2 23 k) ((le-div_iff_mul-le (pow_pos k)).0 h)))

    count : Normalised k (n / 2 ^ k) → size n - 24 ≡ k
    count (inl z) = let m = most in omega arith
    count (inr h) = let m = most in let l = least h in omega arith

-- the pattern without its sign
abbrev pattern : ℕ → ℕ
pattern n = (size n - 24) * 0x80_0000 + n / 2 ^ (size n - 24)

pattern_is : (q k : ℕ) → q ≤ 2 ^ 24 → Normalised k q → pattern (q * 2 ^ k) ≡ k * 0x80_0000 + q
pattern_is q k hi lo = elim (eq-or-lt_of_le hi) [
  | inl e ↦ rw (e, carried k) (below (2 ^ 23) (suc k) (lit< tt) (inr (le_refl (2 ^ 23))) ∙ next k)
  | inr l ↦ below q k l lo
]
  where
    carried : (k : ℕ) → 2 ^ 24 * 2 ^ k ≡ 2 ^ 23 * 2 ^ suc k
    carried k = rw (pow-suc 2 k) (omega arith)

    next : (k : ℕ) → suc k * 0x80_0000 + 2 ^ 23 ≡ k * 0x80_0000 + 2 ^ 24
    next k = omega arith

    below : (q k : ℕ) → q < 2 ^ 24 → Normalised k q → pattern (q * 2 ^ k) ≡ k * 0x80_0000 + q
    below q k l lo = rw (dropped (q * 2 ^ k) k (rw (shl-shr q k) l) (rw (shl-shr q k) lo), shl-shr q k)

toBits_value : (v : Float) (s : Bool) (n : ℕ) → HasValue v s n (2 ^ 149) → to_bits binary32 v ≡ cond s 0x8000_0000 0 + pattern n
unfolding to_bits
toBits_value nan s n h = absurd h
toBits_value (inf t) s n h = absurd h
toBits_value (fin t m e) s n h = rw (h.0, h.1, mul-div_cancel n (down_pos e)) (omega arith)

-- ---- a rounded number: from the infinity's pattern on it is an infinity
abbrev pub rounded : Bool → ℕ → Float
rounded s n = with_sign s (min n 0x7f80_0000)

exponent_lt : {i j : ℕ} → 2 ^ i < 2 ^ j → i < j
exponent_lt {i} {j} h = lt_of_not-le (λ (g : j ≤ i). not-le_of_lt h (pow_mono g))

-- 2 ^ 277 units are 2 ^ 128, from where on a number is too large
in_range : (q k : ℕ) → q ≤ 2 ^ 24 → Normalised k q → q * 2 ^ k < 2 ^ 277 → k * 0x80_0000 + q ≤ 0x7f80_0000
in_range q k hi (inl z) h = omega arith
in_range q k hi (inr lo) h = let l : 23 + k < 277 = exponent_lt (lt_of_le_of_lt (rw (pow-add 2 23 k) (mul-le-mul_right (2 ^ k) lo)) h) in omega arith

out_of_range : (q k : ℕ) → q ≤ 2 ^ 24 → Normalised k q → 2 ^ 277 ≤ q * 2 ^ k → 0x7f80_0000 ≤ k * 0x80_0000 + q
out_of_range q k hi lo h = elim (eq-or-lt_of_le hi) [
  | inl e ↦ let l : 277 < 25 + k = exponent_lt (lt_of_le_of_lt h (shl_lt 25 k (lt_of_le_of_lt hi (lit< tt)))) in omega arith
  | inr g ↦ below lo (exponent_lt (lt_of_le_of_lt h (shl_lt 24 k g)))
]
  where
    below : Normalised k q → 277 < 24 + k → 0x7f80_0000 ≤ k * 0x80_0000 + q
    below (inl z) l = omega arith
    below (inr lo) l = omega arith

pub infinite : (s : Bool) → inf s ≡ with_sign s 0x7f80_0000
unfolding of_bits
infinite true = refl
infinite false = refl

units_bits : (s : Bool) (q k : ℕ) → q ≤ 2 ^ 24 → Normalised k q → units binary32 s q k ≡ rounded s (k * 0x80_0000 + q)
unfolding units
units_bits s q k hi lo = elim (le_or_lt (2 ^ 277) (q * 2 ^ k)) [
  | inl h ↦ rw (le-ltb (q * 2 ^ k) (2 ^ 277) h, min-eq_right (out_of_range q k hi lo h)) (infinite s)
  | inr h ↦
      let v = odd 25 s q k 149 in
      rw (lt-ltb (q * 2 ^ k) (2 ^ 277) h, min-eq_left (in_range q k hi lo h), ← pattern_is q k hi lo, ← toBits_value v s (q * 2 ^ k) (odd_sign 25 s q k 149))
      (sym (of_bits-to_bits binary32 v (odd-fits binary32 25 s q k (lt_of_le_of_lt hi (lit< tt)) hi h)))
]

-- q * 2 ^ x / 2 ^ l is q / 2 ^ h times 2 ^ k units
pub round_bits : (s : Bool) (q x l h k : ℕ) → x + 149 + h ≡ l + k → q / 2 ^ h < 2 ^ 24 → Normalised k (q / 2 ^ h)
    → round binary32 s (q * 2 ^ x) (2 ^ l) ≡ rounded s (k * 0x80_0000 + closest q (2 ^ h))
round_bits s q x l h k e hi lo =
    let n = q * 2 ^ x * 2 ^ 149 in
    let equal : n * 2 ^ h ≡ q * 2 ^ (l + k) = rw (← e, pow-add 2 (x + 149) h, pow-add 2 x 149) (simp mul_assoc) in
    let w : n / 2 ^ l / 2 ^ k ≡ q / 2 ^ h = shr-shr n l k ∙ div_same n (2 ^ (l + k)) q (2 ^ h) (pow_pos (l + k)) (pow_pos h) equal in
    round_is binary32 s (q * 2 ^ x) (2 ^ l)
    ∙ ap (λ (z : ℕ). units binary32 s (closest n (2 ^ l * 2 ^ z)) z) (dropped (n / 2 ^ l) k (rw w hi) (rw w lo))
    ∙ ap (λ (z : ℕ). units binary32 s z k) (closest_same n (2 ^ l * 2 ^ k) q (2 ^ h) (mul-pos (pow_pos l) (pow_pos k)) (pow_pos h) (equal ∙ ap (λ (z : ℕ). q * z) (pow-add 2 l k)))
    ∙ units_bits s (closest q (2 ^ h)) k (le_trans (closest_le q (2 ^ h)) hi) (kept lo)
  where
    kept : Normalised k (q / 2 ^ h) → Normalised k (closest q (2 ^ h))
    kept (inl z) = inl z
    kept (inr g) = inr (le_trans g (closest_ge q (2 ^ h)))
