-- The class of a float, from its magnitude in units of the format's smallest value, 2 ^ -low: a normal one has hid = 2 ^ (prec - 1) of them or more.
-- And from the fields of its pattern.
use Prim.Native.Nat.{ℕ, zero, suc, ◌+◌, ◌-◌, ◌*◌, ◌^◌, ◌≤◌, ◌<◌}
use Rattle.std.specs.Prelude.{ℤ, ◌≡◌, refl, Bool, Float}
use Rattle.std.proofs.Math.Nat.{le_trans}
use Rattle.std.proofs.Common.{le_of_eq, lt_of_le_of_lt, lt_of_lt_of_le, lt_irrefl, zero-lt-suc, zero-mul, mul-one, mul_comm, mul_assoc, mul-pos, le-add_right, mul-le-mul_right, mul-le-mul_left, mul-lt-mul_of_pos_right, le_of_mul-le-mul_right, lt_of_mul-lt-mul_right, sym, ap, ◌∙◌, pow_pos, ne_eqb}
use Rattle.std.proofs.Math.Path.{subst}
use Rattle.std.specs.Float.{nan, inf, fin, Format, binary32, binary64}
use Rattle.std.specs.Float.Ieee.{emax, prec, low, hid, ones, up, down, odd, of_fields}
use Rattle.std.specs.Float.Ieee.Fits.{down_pos}
use Rattle.std.specs.Float.Ieee.Exact.{HasValue, odd_sign}
use Rattle.model.specs.Classes.{IsFinite, IsNormal, IsSubnormal}

-- low is emax - 1 and prec - 1
unit : (f : Format) → 2 ^ low f ≡ 2 ^ (emax f - 1) * hid f
unit binary32 = refl
unit binary64 = refl

module _ (f : Format) where
  -- the magnitude times 2 ^ (emax - 1), in units
  scaled : (m a : ℕ) (e : ℤ) → m * up e * 2 ^ low f ≡ a * down e → m * up e * 2 ^ (emax f - 1) * hid f ≡ a * down e
  scaled m a e h = mul_assoc (m * up e) (2 ^ (emax f - 1)) (hid f) ∙ ap (λ (u : ℕ). m * up e * u) (sym (unit f)) ∙ h

  pub units_normal : (x : Float) (s : Bool) (a : ℕ) → HasValue x s a (2 ^ low f) → hid f ≤ a → IsNormal f x
  units_normal nan s a v h = v
  units_normal (inf t) s a v h = v
  units_normal (fin t m e) s a v h =
      le_of_mul-le-mul_right (le_trans (le_of_eq (mul_comm (down e) (hid f))) (le_trans (mul-le-mul_right (down e) h) (le_of_eq (sym (scaled m a e v.1))))) (pow_pos (prec f - 1))

  pub units_subnormal : (x : Float) (s : Bool) (a : ℕ) → HasValue x s a (2 ^ low f) → 0 < a → a < hid f → IsSubnormal f x
  units_subnormal nan s a v p h = absurd v
  units_subnormal (inf t) s a v p h = absurd v
  units_subnormal (fin t zero e) s a v p h =
      let none : a * down e ≡ 0 = sym v.1 ∙ ap (λ (z : ℕ). z * 2 ^ low f) (zero-mul (up e)) ∙ zero-mul (2 ^ low f) in
      absurd (lt_irrefl 0 (subst (λ (z : ℕ). 0 < z) none (mul-pos p (down_pos e))))
  units_subnormal (fin t (suc m) e) s a v p h = (
    zero-lt-suc m,
    lt_of_mul-lt-mul_right (hid f) (lt_of_le_of_lt (le_of_eq (scaled (suc m) a e v.1)) (lt_of_lt_of_le (mul-lt-mul_of_pos_right h (down_pos e)) (le_of_eq (mul_comm (hid f) (down e))))),
  )

  -- ---- fields

  odd_finite : (d : ℕ) (s : Bool) (q k l : ℕ) → IsFinite (odd d s q k l)
  unfolding odd
  odd_finite d s zero k l = tt
  odd_finite d s (suc q) k l = tt

  pub fields_finite : (s : Bool) (x t : ℕ) → ¬ (x ≡ ones f) → IsFinite (of_fields f s x t)
  unfolding of_fields
  fields_finite s zero t n = odd_finite (prec f) s t 0 (low f)
  fields_finite s (suc x) t n = rw (ne_eqb (suc x) (ones f) n) (odd_finite (prec f) s (hid f + t) x (low f))

  pub fields_normal : (s : Bool) (x t : ℕ) → ¬ (suc x ≡ ones f) → IsNormal f (of_fields f s (suc x) t)
  unfolding of_fields
  fields_normal s x t n =
      let q = hid f + t in
      rw (ne_eqb (suc x) (ones f) n) (units_normal (odd (prec f) s q x (low f)) s (q * 2 ^ x) (odd_sign (prec f) s q x (low f)) (leading (2 ^ x) (pow_pos x)))
    where
      leading : (u : ℕ) → 0 < u → hid f ≤ (hid f + t) * u
      leading u p = le_trans (le-add_right (hid f) t) (le_trans (le_of_eq (sym (mul-one (hid f + t)))) (mul-le-mul_left (hid f + t) p))

  pub fields_subnormal : (s : Bool) (t : ℕ) → 0 < t → t < hid f → IsSubnormal f (of_fields f s 0 t)
  unfolding of_fields
  fields_subnormal s t p h =
      let some : 0 < t * 1 = subst (λ (z : ℕ). 0 < z) (sym (mul-one t)) p in
      let few : t * 1 < hid f = subst (λ (z : ℕ). z < hid f) (sym (mul-one t)) h in
      units_subnormal (odd (prec f) s t 0 (low f)) s (t * 2 ^ 0) (odd_sign (prec f) s t 0 (low f)) some few
