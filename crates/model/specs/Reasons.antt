-- Which numbers of refusals have a reason of their own. Answers.antt has the number of each.
use Rattle.std.specs.Prelude.{ℕ, Bool, not, ◌&&◌, leb, eqb}

abbrev pub is_named : ℕ → Bool
is_named n = leb 1 n && leb n 17 && not (eqb n 15)
