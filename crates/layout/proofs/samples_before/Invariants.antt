-- `layout::samples_before` meets its contract. Invariant: the sum is of the first k counts, each a word. Assumes nothing.
use Prim.Native.Nat.{◌*◌, ◌-◌, ◌≤◌}
use mathlib.Core.Path.{◌≡◌}
use Rattle.model.specs.Text.{max_word}
use Rattle.model.specs.Plan.{samples_before}
use Rattle.layout.proofs.samples_before.Given as goal

abbrev pub invariant-loop-k : goal.invariant-loop-k
invariant-loop-k l = (l.sum ≡ samples_before l.plan l.k) × (l.sum ≤ l.k * max_word) × (l.k ≤ l.c)

abbrev pub decreases-loop-k : goal.decreases-loop-k
decreases-loop-k l = l.c - l.k
