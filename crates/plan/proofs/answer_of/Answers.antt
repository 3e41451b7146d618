-- `plan::answer_of` meets its contract: a refusal is handed on. Assumes nothing.
use Rattle.std.specs.Prelude.{◌≡◌, refl, Result, Ok, Err, IsOkAnd, MatchResult}
use Rattle.model.specs.declared.Refusal.{Refusal}
use Rattle.model.specs.Answers.{values}
use Rattle.plan.proofs.answer_of.Goals as goal

mapped : {A B : Type 0} (a : Result A Refusal) (b : Result B Refusal) (P : A → B → Type 0) → MatchResult a (λ x. IsOkAnd b (P x)) (λ e. b ≡ Err e) → values b ≡ values a
unfolding values
mapped (Ok x) (Ok y) P same = refl
mapped (Ok x) (Err e) P same = absurd same
mapped (Err e) b P same = rw same

pub returns : goal.returns
returns g c = mapped _ _ _ c.map.ensures.cases
