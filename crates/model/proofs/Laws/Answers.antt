-- Laws of answers: what an accepted row of checks tells of each, and how a loop over a row goes on or stops.
use Rattle.std.specs.Prelude.{ℕ, zero, suc, ◌<◌, ◌≡◌, refl, Bool, true, false}
use Rattle.std.proofs.Common.{arith, ◌∙◌}
use Rattle.std.proofs.Math.Decide.{ℕ_discrete}
use Rattle.model.specs.Answers.{Verdict, accepted, refused, ◌then◌, each, require, unless_refused}

-- ---- accepted

pub then_left : (a b : Verdict) → a then b ≡ accepted → a ≡ accepted
unfolding ◌then◌
then_left accepted b e = refl
then_left (refused n p r) b e = e

pub then_right : (a b : Verdict) → a then b ≡ accepted → b ≡ accepted
unfolding ◌then◌
then_right accepted b e = e
then_right (refused n p r) b e = cc

pub each_at : (n : ℕ) (f : ℕ → Verdict) → each n f ≡ accepted → (i : ℕ) → i < n → f i ≡ accepted
unfolding each
each_at zero f e i h = absurd (omega arith)
each_at (suc n) f e i h = elim (ℕ_discrete i n) [ yes p ↦ rw p (then_right (each n f) (f n) e) | no q ↦ each_at n f (then_left (each n f) (f n) e) i (omega arith) ]

pub require_true : (ok : Bool) (n p : ℕ) → require ok n p ≡ accepted → ok ≡ true
unfolding require
require_true true n p e = refl
require_true false n p e = cc

-- ---- what holds of each check holds of a row of them

module _ (P : Verdict → Type 0) where
  pub then_keeps : (a b : Verdict) → P a → P b → P (a then b)
  unfolding ◌then◌
  then_keeps accepted b x y = y
  then_keeps (refused n p r) b x y = x

  pub each_keeps : P accepted → (n : ℕ) (f : ℕ → Verdict) → ((i : ℕ) → P (f i)) → P (each n f)
  unfolding each
  each_keeps none zero f h = none
  each_keeps none (suc n) f h = then_keeps _ _ (each_keeps none n f h) (h n)

-- ---- for a loop over `each`: one more check passed, or the loop ends with its refusal

pub then_accepted : (a b : Verdict) → a ≡ accepted → a then b ≡ b
unfolding ◌then◌
then_accepted a b e = rw e

pub then_refused : (a b : Verdict) (n p r : ℕ) → a ≡ refused n p r → a then b ≡ refused n p r
unfolding ◌then◌
then_refused a b n p r e = rw e

pub each_next : (n : ℕ) (f : ℕ → Verdict) → each n f ≡ accepted → each (suc n) f ≡ f n
unfolding each
each_next n f e = then_accepted _ _ e

pub each_stops : (m : ℕ) (f : ℕ → Verdict) (i n p r : ℕ) → i < m → each i f ≡ accepted → f i ≡ refused n p r → each m f ≡ refused n p r
unfolding each
each_stops zero f i n p r h e q = absurd (omega arith)
each_stops (suc m) f i n p r h e q = go (ℕ_discrete i m) (each_stops m f i n p r)
  where
    go : Dec (i ≡ m) → (i < m → each i f ≡ accepted → f i ≡ refused n p r → each m f ≡ refused n p r) → each (suc m) f ≡ refused n p r
    go (yes x) later = then_accepted (each m f) (f m) (rw x at e) ∙ (rw x at q)
    go (no x) later = then_refused (each m f) (f m) n p r (later (omega arith) e q)

-- ---- what a call leaves as it is stays, refused or not

pub unless_same : {A : Type 0} (v : Verdict) (a : A) → unless_refused v a a ≡ a
unfolding unless_refused
unless_same accepted a = refl
unless_same (refused number place rest) a = refl
