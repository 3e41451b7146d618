-- What a changed sign does to sums and products of floats: rounding does not look at signs.
use Rattle.std.specs.Prelude.{ℕ, zero, suc, ◌+◌, ◌*◌, ◌^◌, ◌≡◌, refl, Bool, true, false, cond, not, eqb, ltb, Float}
use Rattle.std.proofs.Common.{ap}
use Rattle.std.specs.Float.{nan, inf, fin, Format}
use Rattle.std.specs.Float.Ieee.{prec, emax, low, up, down, unlike, odd, units, round, neg, sum, add, mul}

pub neg_neg : (x : Float) → neg (neg x) ≡ x
unfolding neg
neg_neg nan = refl
neg_neg (inf true) = refl
neg_neg (inf false) = refl
neg_neg (fin true m e) = refl
neg_neg (fin false m e) = refl

-- ---- rounding

odd_neg : (d : ℕ) (s : Bool) (q k l : ℕ) → odd d (not s) q k l ≡ neg (odd d s q k l)
unfolding odd neg
odd_neg d s zero k l = refl
odd_neg d s (suc q) k l = refl

cond_neg : (b : Bool) (x y : Float) → cond b (neg x) (neg y) ≡ neg (cond b x y)
cond_neg true x y = refl
cond_neg false x y = refl

units_neg : (f : Format) (s : Bool) (q k : ℕ) → units f (not s) q k ≡ neg (units f s q k)
unfolding units neg
units_neg f s q k = rw (odd_neg (suc (prec f)) s q k (low f)) (cond_neg (ltb (q * 2 ^ k) (2 ^ (low f + suc (emax f)))) (odd (suc (prec f)) s q k (low f)) (inf s))

round_neg : (f : Format) (s : Bool) (num den : ℕ) → round f (not s) num den ≡ neg (round f s num den)
unfolding round
round_neg f s num den = units_neg f s _ _

-- ---- operations

unlike_not : (s t : Bool) → unlike (not s) t ≡ not (unlike s t)
unlike_not true true = refl
unlike_not true false = refl
unlike_not false true = refl
unlike_not false false = refl

pub mul_neg : (f : Format) (x y : Float) → mul f (neg x) y ≡ neg (mul f x y)
unfolding mul neg
mul_neg f nan y = refl
mul_neg f (inf s) nan = refl
mul_neg f (inf s) (inf t) = ap inf (unlike_not s t)
mul_neg f (inf s) (fin t n d) = rw (unlike_not s t) (cond_neg (eqb n 0) nan (inf (unlike s t)))
mul_neg f (fin s m e) nan = refl
mul_neg f (fin s m e) (inf t) = rw (unlike_not s t) (cond_neg (eqb m 0) nan (inf (unlike s t)))
mul_neg f (fin s m e) (fin t n d) = rw (unlike_not s t) (round_neg f (unlike s t) (m * up e * (n * up d)) (down e * down d))

unlike_both : (s t : Bool) → unlike (not s) (not t) ≡ unlike s t
unlike_both true true = refl
unlike_both true false = refl
unlike_both false true = refl
unlike_both false false = refl

pub mul_neg_neg : (f : Format) (x y : Float) → mul f (neg x) (neg y) ≡ mul f x y
unfolding mul neg
mul_neg_neg f nan y = refl
mul_neg_neg f (inf s) nan = refl
mul_neg_neg f (inf s) (inf t) = ap inf (unlike_both s t)
mul_neg_neg f (inf s) (fin t n d) = rw (unlike_both s t)
mul_neg_neg f (fin s m e) nan = refl
mul_neg_neg f (fin s m e) (inf t) = rw (unlike_both s t)
mul_neg_neg f (fin s m e) (fin t n d) = rw (unlike_both s t)

pub twice_neg : (f : Format) (x : Float) → add f (neg x) (neg x) ≡ neg (add f x x)
unfolding add sum neg
twice_neg f nan = refl
twice_neg f (inf true) = refl
twice_neg f (inf false) = refl
twice_neg f (fin true m e) = round_neg f true _ _
twice_neg f (fin false m e) = round_neg f false _ _
