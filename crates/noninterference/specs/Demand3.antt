-- Demand 3, whole: what it claims of whole lists of calls. The theorem is proofs/Demand3.antt's.
use Rattle.std.specs.Prelude.{ℕ, ◌≡◌, List, map, Float}
use Rattle.model.specs.Run.{run}
use Rattle.noninterference.specs.Trace.{Event, calls, observed}

-- what the sessions of two figures, with numbers a and b, show of the chosen joints
pub record Noninterference (plan chosen : List ℕ) (a b : List Float) (es fs : List Event) : Type 0 where
  -- each shows what its run by definition shows
  pub first_as_defined : map (observed chosen) es ≡ run plan a chosen (calls es)
  pub second_as_defined : map (observed chosen) fs ≡ run plan b chosen (calls fs)
  -- and both show the same
  pub same : map (observed chosen) es ≡ map (observed chosen) fs
