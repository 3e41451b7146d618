-- `float::ceiling_from` meets its contract: below 2 ^ 24 the test tells whether there is a remainder, and from there on there is none. Assumes nothing.
use Rattle.std.proofs.Common.{◌≡◌, ◌+◌, ◌^◌, ◌≤◌, cond, pos, sym, ◌∙◌, add-zero, arith, le→leb}
use denote.Floats.{passes}
use lib.Ieee.{binary32, of_bits, lt, of_int, in_float, to_unsigned}
use Rattle.model.specs.Numbers.{ceiling_index}
use Rattle.model.proofs.Laws.Wholes.{floor_is}
use Rattle.float.proofs.Index.{small_index, ceiling_small, ceiling_large}
use Rattle.float.proofs.ceiling_from.Goals as goal
use Rattle.float.proofs.ceiling_from.Goals.{Start, Then-x}

floor-result : (c : Start) → c.args.n ≡ to_unsigned 64 c.args.x
floor-result c = c.requires ∙ floor_is c.args.x

small : (c : Then-x) → c.args.n ≤ 2 ^ 24
unfolding of_bits
small c = rw (floor-result c.before) (small_index c.args.x c.if-x.true)

ceiling-result : (c : Then-x) → let n = c.args.n in let x = c.args.x in ceiling_index x ≡ n + cond (lt (of_int binary32 (pos n)) x) 1 0
unfolding of_bits
ceiling-result c = rw (floor-result c.before) (ceiling_small c.args.x c.if-x.true)

pub int_to_float-n : goal.int_to_float-n
unfolding in_float
int_to_float-n c = le→leb _ (2 ^ 24) (small (goal.at.int_to_float-n c).Then-x)

pub overflow_add-result : goal.overflow_add-result
overflow_add-result c = omega (arith, small (goal.at.overflow_add-result c).Then-x)

pub returns-then-n-x : goal.returns-then-n-x
returns-then-n-x c = sym (rw c.if-n-x.true at (ceiling-result (goal.at.returns-then-n-x c).Then-x))

pub returns-else-n-x : goal.returns-else-n-x
returns-else-n-x c = sym (rw (c.if-n-x.false, add-zero) at (ceiling-result (goal.at.returns-else-n-x c).Then-x))

pub returns-else-x : goal.returns-else-x
unfolding of_bits
returns-else-x c = floor-result (goal.at.returns-else-x c).Start ∙ sym (ceiling_large _ (passes _ c.well_formed.0.1) c.if-x.false)
