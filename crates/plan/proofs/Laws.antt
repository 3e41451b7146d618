-- How answers follow one another through a loop of checks, over plain values. Assumes nothing.
use Prim.Native.Nat.{ℕ, ◌+◌, ◌≤◌, ◌<◌}
use native.Mathlib.Numerals.{add-one}
use native.Mathlib.Omega.{arith}
use mathlib.Core.Path.{◌≡◌, refl, sym, ◌∙◌}
use Rattle.model.specs.declared.Refusal.{Refusal}
use Rattle.std.specs.Prelude.{Result, Ok, Err}
use Rattle.std.specs.Result.{IsErrAnd}
use Rattle.model.specs.Answers.{Verdict, accepted, values, each}
use Rattle.model.proofs.Laws.Answers.{each_next, each_stops}
use Rattle.model.proofs.Laws.Exits.{leaves, passed}

-- ---- a loop over `each`

-- the first i of n checks pass
pub record Passing (f : ℕ → Verdict) (n i : ℕ) : Type 0 where
  pub passes : each i f ≡ accepted
  pub within : i ≤ n

pub passing_none : (f : ℕ → Verdict) (n : ℕ) → Passing f n 0
unfolding each
passing_none f n = record { passes = refl; within = omega arith }

module _ {f : ℕ → Verdict} {n i : ℕ} (so_far : Passing f n i) where
  pub passing_all : {A : Type 0} (x : A) → n ≤ i → values {A = A} (Ok x) ≡ each n f
  unfolding values
  passing_all x h = let q : n ≡ i = omega (arith, so_far.within) in rw q (sym so_far.passes)

  module _ (more : i < n) where
    pub passing_next : {A : Type 0} (x : A) → values {A = A} (Ok x) ≡ f i → Passing f n (i + 1)
    passing_next x this = record { passes = rw add-one (each_next i f so_far.passes ∙ passed x (f i) this); within = omega arith }

    pub passing_stops : (A : Type 0) {B : Type 0} (r : Result B Refusal) (e : Refusal) → IsErrAnd r (λ y. y ≡ e) → values {A = A} (Err e) ≡ f i → values r ≡ each n f
    unfolding values
    passing_stops A r e exit told = leaves A r e _ exit (sym (each_stops n f i _ _ 0 more so_far.passes (sym told)))
