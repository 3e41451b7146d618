-- `skeleton::row_at` meets its contract: the four floats are those that stand from `at` on. Assumes nothing.
use native.Mathlib.Omega.{arith}
use Prim.Native.Nat.{ℕ, ◌+◌, ◌-◌, ◌<◌}
use mathlib.Core.Path.{◌≡◌}
use lib.ListN.{get_or, take, drop}
use Rattle.std.specs.Float.{nan}
use Rattle.std.proofs.lemmas.List.{get_or-take}
use Rattle.skeleton.specs.Buffer.{row_from}
use Rattle.skeleton.proofs.row_at.Goals as goal

pub returns : goal.returns
unfolding row_from
returns c =
    let k : c.args.at + 4 - c.args.at ≡ 4 = omega arith in
    let chunk = rw c.unwrap.ensures at c.as_array.ensures.cases in
    let l = drop c.args.at c.args.buffer.now in
    let at : (i : ℕ) → i < 4 → get_or (take 4 l) i nan ≡ get_or l i nan = λ i h. get_or-take 4 l i nan h in
    rw (chunk.same, k) (rw (at 0 (omega arith), at 1 (omega arith), at 2 (omega arith), at 3 (omega arith)))
