-- The part of demand 3's invariant about clip instances. Definitions only.
use Rattle.std.specs.Prelude.{ℕ, ◌/◌, ◌<◌, ◌≡◌, true, Float}
use mathlib.Core.List.{List}
use Rattle.std.specs.Float.{nan}
use Rattle.model.specs.Plan.{node_count, is_clip, clip_node_at}
use Rattle.model.specs.Unseen.{Reachable}
use Rattle.noninterference.specs.Laws.Lists.{SameAt}

-- instance n is one that a reachable state uses
pub data ReachableInstance (plan : List ℕ) : ℕ → Type 0 where
  instance_of : {s : ℕ} → Reachable plan s → (i : ℕ) → i < node_count plan s → is_clip plan s i ≡ true → (n : ℕ) → n ≡ clip_node_at plan s i → ReachableInstance plan n

-- the part of the invariant about clip instances: three floats for each
abbrev pub SameInstances : List ℕ → List Float → List Float → Type 0
SameInstances plan is ks = SameAt nan (λ k. ReachableInstance plan (k / 3)) is ks
