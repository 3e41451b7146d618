-- Lists that agree where it matters. Definitions only.
use Rattle.std.specs.Prelude.{ℕ, ◌≡◌, length, get_or}
use mathlib.Core.List.{List}

-- equal lengths, and equal elements wherever R holds
pub record SameAt {A : Type 0} (d : A) (R : ℕ → Type 0) (l m : List A) : Type 0 where
  pub lengths : length l ≡ length m
  pub at : (k : ℕ) → R k → get_or l k d ≡ get_or m k d
