-- What the check of a plan answers. Definitions only.
use Rattle.std.specs.Prelude.{ℕ, ◌≡◌, List, Result, IfOk}
use Rattle.model.specs.declared.Refusal.{Refusal}
use Rattle.model.specs.Answers.{values}
use Rattle.model.specs.Check.{check}
use Rattle.layout.specs.declared.Layout.{Layout}
use Rattle.layout.specs.Layout.{layout_of}

-- the check of a plan for a count of numbers: the verdict and, where it passes, the plan's layout
pub record PlanChecked (plan : List ℕ) (n : ℕ) (r : Result Layout Refusal) : Type 0 where
  pub answer : values r ≡ check plan n
  pub layout : IfOk r (λ layout. layout ≡ layout_of plan)
