-- Recursion without fuel: each entry of a table comes from the table so far. Nodes' poses and joints' matrices are such tables. Definitions only.
use Rattle.std.specs.Prelude.{ℕ, zero, suc, List, [], ◌∷◌, ◌++◌}

module _ {A : Type 0} (f : List A → ℕ → A) where
  -- the first n elements; element i is f of the first i
  unfoldable pub table_to : ℕ → List A
  table_to zero = []
  table_to (suc n) = table_to n ++ f (table_to n) n ∷ []
