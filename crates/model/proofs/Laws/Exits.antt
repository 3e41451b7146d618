-- Laws of answers in code with `?`: what is answered where it returns early, and past it. A call's own answer is that of the function that it leaves,
-- whatever the two hand back where they accept.
use Rattle.std.specs.Prelude.{◌≡◌, Result, Ok, Err}
use Rattle.std.specs.Result.{IsErrAnd}
use Rattle.std.proofs.Common.{◌∙◌, sym}
use Rattle.model.specs.declared.Refusal.{Refusal}
use Rattle.model.specs.Answers.{Verdict, accepted, values, ◌then◌}
use Rattle.model.proofs.Laws.Answers.{then_accepted, then_refused}

module _ (A : Type 0) {B : Type 0} where
  -- at an exit
  pub leaves : (r : Result B Refusal) (e : Refusal) (v : Verdict) → IsErrAnd r (λ y. y ≡ e) → values {A = A} (Err e) ≡ v → values r ≡ v
  unfolding values
  leaves (Ok x) e v exit told = absurd exit
  leaves (Err y) e v exit told = rw exit told

module _ {A B : Type 0} where
  -- past a call that accepted (or a row of them: v), the next one's answer is the answer to both
  pub goes : (x : A) (b : Result B Refusal) (v w : Verdict) → values {A = A} (Ok x) ≡ v → values b ≡ w → values b ≡ v then w
  unfolding values
  goes x b v w told next = next ∙ sym (then_accepted v w (sym told))

module _ {A : Type 0} where
  pub passed : (x : A) (v : Verdict) → values {A = A} (Ok x) ≡ v → v ≡ accepted
  unfolding values
  passed x v told = sym told

module _ (A : Type 0) where
  -- a refusal is the answer to all that was to follow, too
  pub more : (e : Refusal) (v w : Verdict) → values {A = A} (Err e) ≡ v → values {A = A} (Err e) ≡ v then w
  unfolding values
  more e v w told = sym (then_refused v w _ _ 0 (sym told))

  -- and accepts nothing
  pub never : (e : Refusal) → values {A = A} (Err e) ≡ accepted → ⊥
  unfolding values
  never e told = absurd cc
