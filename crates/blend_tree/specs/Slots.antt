-- Which clip node each slot of a state's nodes names. Definitions only.
use Rattle.std.specs.Prelude.{ℕ, ◌<◌, ◌≡◌, List, get_or}
use Rattle.model.specs.Plan.{node_count, clip_node_at}

-- slot i holds how many clip nodes of the plan come before node i of state s: its own number, if it is one
pub record Slots (plan : List ℕ) (s : ℕ) (slots : List ℕ) : Type 0 where
  pub slot : (i : ℕ) → i < node_count plan s → get_or slots i 0 ≡ clip_node_at plan s i
