-- What is known of a number that is not counted further once it is above `most`. Definitions only.
use Rattle.std.specs.Prelude.{ℕ, ◌-◌, ◌<◌, ◌≡◌, ◌⊎◌, List}
use Rattle.model.specs.Text.{numeral}

-- it is what k digits write; or both it and what all but the last of them write are above `most`
abbrev pub CountedTo : ℕ → ℕ → ℕ → List ℕ → ℕ → Type 0
CountedTo base most k s value = (value ≡ numeral base k s) ⊎ ((most < value) × (most < numeral base (k - 1) s))
