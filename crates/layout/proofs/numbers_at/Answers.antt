-- `layout::numbers_at` meets its contract: two numbers for each transition before, from the state's first on, and small places. Assumes nothing.
use Prim.Native.Nat.{◌+◌, ◌*◌, ◌≤◌}
use native.Mathlib.Omega.{arith}
use Rattle.model.specs.Text.{max_word}
use Rattle.model.specs.Plan.{number}
use Rattle.layout.specs.Layout.{numbers_of}
use Rattle.layout.proofs.Laws.{value_found, duration_found, value_read}
use Rattle.layout.proofs.numbers_at.Goals as goal
use Rattle.layout.proofs.numbers_at.Goals.{Start}

small : (c : Start) → c.args.here.values_at + 2 * c.args.t ≤ max_word
small c = value_read c.requires.place c.requires.passes _ c.requires.below

pub returns : goal.returns
unfolding number numbers_of
returns c plan place =
    let t = c.args.t in
    rw (c.number-2.ensures, c.number.ensures, ← value_found place t, ← duration_found place t)

pub overflow_mul-at : goal.overflow_mul-at
overflow_mul-at c = omega (arith, small (goal.at.overflow_mul-at c).Start)

pub overflow_add-at : goal.overflow_add-at
overflow_add-at c = omega (arith, small (goal.at.overflow_add-at c).Start)

pub overflow_add-at-2 : goal.overflow_add-at-2
overflow_add-at-2 c = omega (arith, small (goal.at.overflow_add-at-2 c).Start)
