-- `fields::run_end` meets its contract. Invariant: the run from `end` on ends where the run from `at` on does. Assumes nothing.
use Prim.Native.Nat.{◌+◌, ◌≤◌, max}
use mathlib.Core.Path.{◌≡◌}
use lib.ListN.{length, drop}
use Rattle.model.specs.Text.{digit_count}
use Rattle.fields.proofs.run_end.Given as goal

abbrev pub invariant-loop-end : goal.invariant-loop-end
invariant-loop-end l = (l.end ≤ max l.at (length l.text)) × (l.end + digit_count l.base (drop l.end l.text) ≡ l.at + digit_count l.base (drop l.at l.text))
