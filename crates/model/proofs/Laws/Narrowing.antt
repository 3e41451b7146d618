-- Signs, what narrowing makes of each class of floats, and the case of a pattern, worked out: for the theorems of ExactlyOne.antt.
use Prim.Native.Nat.{ℕ, zero, suc, ◌+◌, ◌-◌, ◌*◌, ◌/◌, ◌%◌, ◌^◌, ◌≤◌, ◌<◌, compare}
use Rattle.std.proofs.Common.{not-le_of_lt, zero-mul, pow-suc, arith, sym, ap, ◌∙◌, subst, eqb→eq, le-leb, leb-true, leb-false}
use Rattle.std.specs.Prelude.{◌≡◌, refl, Bool, true, false, cond, ℤ, pos, negsuc, T, leb, eqb, ltb, Float}
use Rattle.std.proofs.lemmas.Bool.{lt-leb}
use Rattle.std.specs.Float.{nan, inf, fin, Format, binary32, binary64}
use Rattle.std.specs.Float.Ieee.{emax, prec, low, hid, ones, top, up, down, size, odd, units, nearest, round, fits, of_fields, to_bits, of_bits}
use Rattle.std.specs.Float.Ieee.Fits.{down_pos, round-fits, nan-fits, inf-fits}
use Rattle.std.specs.Float.Ieee.Bits.{of_bits-to_bits, to_bits-lt}
use Rattle.model.specs.Numbers.{narrow}
use Rattle.model.specs.Classes.{IsNaN, IsInfinite, IsFinite, IsZero, IsNormal, IsSubnormal, HasSign}
use Rattle.model.specs.Narrowing.{value, rounded_result, is_minus, magnitude_bits, FallsIn, with_sign}
use Rattle.model.specs.declared.Narrowed.{Narrowed}
use Rattle.model.specs.declared.Narrowed.TheVariants.{Nan, Infinite, TooLarge, Normal, Subnormal, Zero}

-- ---- signs

one_sign : (x : Float) (s t : Bool) → HasSign x s → HasSign x t → s ≡ t
one_sign nan s t h k = absurd h
one_sign (inf u) s t h k = sym h ∙ k
one_sign (fin u m e) s t h k = sym h ∙ k

signed_is_number : (x : Float) (s : Bool) → HasSign x s → ¬ IsNaN x
signed_is_number nan s h n = h
signed_is_number (inf t) s h n = n
signed_is_number (fin t m e) s h n = n

odd_has_sign : (d : ℕ) (s : Bool) (q k l : ℕ) → HasSign (odd d s q k l) s
unfolding odd
odd_has_sign d s zero k l = refl
odd_has_sign d s (suc q) k l = refl

round_has_sign : (f : Format) (s : Bool) (a c : ℕ) → HasSign (round f s a c) s
unfolding round units
round_has_sign f s a c =
    let n = a * 2 ^ low f in
    let k = size (n / c) - prec f in
    go (nearest (n / (c * 2 ^ k)) (compare (n % (c * 2 ^ k) * 2) (c * 2 ^ k))) k
  where
    either : (b : Bool) (q k : ℕ) → HasSign (cond b (odd (suc (prec f)) s q k (low f)) (inf s)) s
    either true q k = odd_has_sign (suc (prec f)) s q k (low f)
    either false q k = refl

    go : (q k : ℕ) → HasSign (units f s q k) s
    go q k = either (ltb (q * 2 ^ k) (2 ^ (low f + suc (emax f)))) q k

fields_have_sign : (f : Format) (s : Bool) (x t : ℕ) → ¬ IsNaN (of_fields f s x t) → HasSign (of_fields f s x t) s
unfolding of_fields
fields_have_sign f s zero t n = odd_has_sign (prec f) s t 0 (low f)
fields_have_sign f s (suc x) t n = go (eqb (suc x) (ones f)) (eqb t 0) n
  where
    read : Bool → Bool → Float
    read a b = cond a (cond b (inf s) nan) (odd (prec f) s (hid f + t) x (low f))

    go : (a b : Bool) → ¬ IsNaN (read a b) → HasSign (read a b) s
    go true true n = refl
    go true false n = n tt
    go false b n = odd_has_sign (prec f) s (hid f + t) x (low f)

bits_have_sign : (f : Format) (b : ℕ) → ¬ IsNaN (of_bits f b) → HasSign (of_bits f b) (leb (top f) b)
unfolding of_bits
bits_have_sign f b = fields_have_sign f (leb (top f) b) (b % top f / hid f) (b % hid f)

narrow_has_sign : (x : Float) (s : Bool) → HasSign x s → HasSign (narrow x) s
unfolding narrow
narrow_has_sign nan s h = h
narrow_has_sign (inf t) s h = h
narrow_has_sign (fin t m e) s h = subst (HasSign (narrow (fin t m e))) h (round_has_sign binary32 t (m * up e) (down e))

pub result_has_sign : (b : ℕ) → ¬ IsNaN (value b) → HasSign (rounded_result b) (is_minus b)
result_has_sign b n = narrow_has_sign (value b) (is_minus b) (bits_have_sign binary64 b n)

finite_is_number : (x : Float) → IsFinite x → ¬ IsNaN x
finite_is_number nan h n = h
finite_is_number (inf s) h n = h
finite_is_number (fin s m e) h n = n

pub infinite_is_number : (x : Float) → IsInfinite x → ¬ IsNaN x
infinite_is_number nan h n = h
infinite_is_number (inf s) h n = n
infinite_is_number (fin s m e) h n = h

-- ---- what narrowing delivers, by the case

pub narrow_fits : (x : Float) → T (fits binary32 (narrow x))
unfolding narrow
narrow_fits nan = nan-fits binary32
narrow_fits (inf s) = inf-fits binary32 s
narrow_fits (fin s m e) = round-fits binary32 s (m * up e) (down e)

pub nan_narrows : (x : Float) → IsNaN x → narrow x ≡ nan
unfolding narrow
nan_narrows nan h = refl
nan_narrows (inf s) h = absurd h
nan_narrows (fin s m e) h = absurd h

pub infinite_narrows : (x : Float) → IsInfinite x → IsInfinite (narrow x)
unfolding narrow
infinite_narrows nan h = h
infinite_narrows (inf s) h = h
infinite_narrows (fin s m e) h = absurd h

pub infinite_is : (x : Float) (s : Bool) → IsInfinite x → HasSign x s → x ≡ inf s
infinite_is nan s h k = absurd h
infinite_is (inf t) s h k = ap inf k
infinite_is (fin t m e) s h k = absurd h

even_is_one : (a b : ℕ) → b ≡ a * 2 → b ≡ 1 → ⊥
even_is_one a b e h = omega arith

-- 2 ^ e is 1 / 1 only for e = 0
exponent_zero : (e : ℤ) → up e * down e ≡ 1 → e ≡ pos 0
exponent_zero (pos zero) h = refl
exponent_zero (pos (suc k)) h = absurd (even_is_one (2 ^ k) (2 ^ suc k * 1) (rw (pow-suc 2 k) (omega arith)) h)
exponent_zero (negsuc k) h = absurd (even_is_one (2 ^ k) (1 * 2 ^ suc k) (rw (pow-suc 2 k) (omega arith)) h)

pub zero_is : (x : Float) (s : Bool) → T (fits binary32 x) → IsZero x → HasSign x s → x ≡ fin s 0 (pos 0)
unfolding fits
zero_is nan s f h k = absurd h
zero_is (inf t) s f h k = absurd h
zero_is (fin t zero e) s f h k = rw (k, exponent_zero e (eqb→eq (up e * down e) 1 f))
zero_is (fin t (suc m) e) s f h k = absurd (omega arith)

-- a pattern is its sign and the rest
sign_and_rest : (b : ℕ) (s : Bool) → leb (2 ^ 31) b ≡ s → b < 2 ^ 32 → cond s (2 ^ 31) 0 + b % 2 ^ 31 ≡ b
sign_and_rest b true e h = let l = leb-true (2 ^ 31) b e in omega arith
sign_and_rest b false e h = let l = leb-false (2 ^ 31) b e in omega arith

with_sign_back : (x : Float) (s : Bool) → T (fits binary32 x) → HasSign x s → with_sign s (magnitude_bits x) ≡ x
with_sign_back x s f h =
    let b = to_bits binary32 x in
    let e : of_bits binary32 b ≡ x = of_bits-to_bits binary32 x f in
    let number : ¬ IsNaN (of_bits binary32 b) = subst (λ (z : Float). ¬ IsNaN z) (sym e) (signed_is_number x s h) in
    let own : HasSign x (leb (2 ^ 31) b) = subst (λ (z : Float). HasSign z (leb (2 ^ 31) b)) e (bits_have_sign binary32 b number) in
    ap (of_bits binary32) (sign_and_rest b s (one_sign x (leb (2 ^ 31) b) s own h) (to_bits-lt binary32 x f)) ∙ e

module _ (b : ℕ) where
  pub finite_keeps_sign : IsFinite (value b) → HasSign (rounded_result b) (is_minus b)
  finite_keeps_sign h = result_has_sign b (finite_is_number (value b) h)

  pub pattern_delivers : (n : ℕ) → IsFinite (value b) → n ≡ magnitude_bits (rounded_result b) → rounded_result b ≡ with_sign (is_minus b) n
  pattern_delivers n h e = sym (ap (with_sign (is_minus b)) e ∙ with_sign_back (rounded_result b) (is_minus b) (narrow_fits (value b)) (finite_keeps_sign h))

-- ---- the case, worked out

-- of a finite float by its rounded result
abbrev by_result : Float → Narrowed
by_result nan = Nan
by_result (inf s) = TooLarge
by_result (fin s zero e) = Zero
by_result (fin s (suc m) e) =
    let n = magnitude_bits (fin s (suc m) e) in
    cond (leb (down e) (suc m * up e * 2 ^ 126)) (Normal n) (Subnormal n)

abbrev pub case_of : Float → Narrowed
case_of nan = Nan
case_of (inf s) = Infinite
case_of (fin s m e) = by_result (narrow (fin s m e))

module _ (b : ℕ) where
  falls_by_result : IsFinite (value b) → (r : Float) → rounded_result b ≡ r → ¬ IsNaN r → FallsIn b (by_result r)
  falls_by_result h nan e n = absurd (n tt)
  falls_by_result h (inf s) e n = (h, subst IsInfinite (sym e) tt)
  falls_by_result h (fin s zero k) e n = (h, subst IsZero (sym e) refl)
  falls_by_result h (fin s (suc m) k) e n =
      let a = suc m * up k * 2 ^ 126 in
      go (leb (down k) a) (leb-true (down k) a) (leb-false (down k) a)
    where
      go : (t : Bool) → (t ≡ true → down k ≤ suc m * up k * 2 ^ 126) → (t ≡ false → suc m * up k * 2 ^ 126 < down k)
          → FallsIn b (cond t (Normal (magnitude_bits (fin s (suc m) k))) (Subnormal (magnitude_bits (fin s (suc m) k))))
      go true ge lt = (h, subst (IsNormal binary32) (sym e) (ge refl), ap magnitude_bits (sym e))
      go false ge lt = (h, subst (IsSubnormal binary32) (sym e) (omega arith, lt refl), ap magnitude_bits (sym e))

  pub falls : (x : Float) → value b ≡ x → FallsIn b (case_of x)
  falls nan e = subst IsNaN (sym e) tt
  falls (inf s) e = subst IsInfinite (sym e) tt
  falls (fin s m k) e =
      let h : IsFinite (value b) = subst IsFinite (sym e) tt in
      let number : ¬ IsNaN (rounded_result b) = signed_is_number (rounded_result b) (is_minus b) (finite_keeps_sign b h) in
      falls_by_result h (narrow (fin s m k)) (ap narrow e) (subst (λ (z : Float). ¬ IsNaN z) (ap narrow e) number)

nan_only : (x : Float) → IsNaN x → Nan ≡ case_of x
nan_only nan h = refl
nan_only (inf s) h = absurd h
nan_only (fin s m e) h = absurd h

infinite_only : (x : Float) → IsInfinite x → Infinite ≡ case_of x
infinite_only nan h = absurd h
infinite_only (inf s) h = refl
infinite_only (fin s m e) h = absurd h

finite_only : (x : Float) → IsFinite x → by_result (narrow x) ≡ case_of x
finite_only nan h = absurd h
finite_only (inf s) h = absurd h
finite_only (fin s m e) h = refl

too_large_only : (r : Float) → IsInfinite r → TooLarge ≡ by_result r
too_large_only nan h = absurd h
too_large_only (inf s) h = refl
too_large_only (fin s m e) h = absurd h

zero_only : (r : Float) → IsZero r → Zero ≡ by_result r
zero_only nan h = absurd h
zero_only (inf s) h = absurd h
zero_only (fin s zero e) h = refl
zero_only (fin s (suc m) e) h = absurd (omega arith)

normal_only : (r : Float) → IsNormal binary32 r → Normal (magnitude_bits r) ≡ by_result r
normal_only nan h = absurd h
normal_only (inf s) h = absurd h
normal_only (fin s zero e) h = absurd (not-le_of_lt (down_pos e) (rw (zero-mul (up e), zero-mul (2 ^ 126)) at h))
normal_only (fin s (suc m) e) h = rw (le-leb (down e) (suc m * up e * 2 ^ 126) h)

subnormal_only : (r : Float) → IsSubnormal binary32 r → Subnormal (magnitude_bits r) ≡ by_result r
subnormal_only nan h = absurd h
subnormal_only (inf s) h = absurd h
subnormal_only (fin s zero e) h = absurd (omega (arith, h.0))
subnormal_only (fin s (suc m) e) h = rw (lt-leb (down e) (suc m * up e * 2 ^ 126) h.1)

pub only : (b : ℕ) (c : Narrowed) → FallsIn b c → c ≡ case_of (value b)
only b Nan h = nan_only (value b) h
only b Infinite h = infinite_only (value b) h
only b TooLarge h = too_large_only (rounded_result b) h.1 ∙ finite_only (value b) h.0
only b (Normal n) h = ap Normal h.2 ∙ normal_only (rounded_result b) h.1 ∙ finite_only (value b) h.0
only b (Subnormal n) h = ap Subnormal h.2 ∙ subnormal_only (rounded_result b) h.1 ∙ finite_only (value b) h.0
only b Zero h = zero_only (rounded_result b) h.1 ∙ finite_only (value b) h.0
