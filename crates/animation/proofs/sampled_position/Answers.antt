-- `animation::sampled_position` meets its contract: it is the definition, by the ending first. Assumes nothing.
use Prim.Native.Nat.{ℕ, ◌^◌, ◌≤◌}
use native.Mathlib.Omega.{arith}
use lib.Dec.{T, le→leb}
use lib.IntN.{pos}
use lib.Ieee.{binary32, in_float}
use Rattle.model.specs.Numbers.{index_float}
use Rattle.model.specs.Clips.{sampled_position}
use Rattle.animation.proofs.sampled_position.Goals as goal

exact : (m : ℕ) → m ≤ 2 ^ 24 → T (in_float binary32 (pos m))
unfolding in_float
exact m h = le→leb m (2 ^ 24) h

pub int_to_float-last : goal.int_to_float-last
int_to_float-last c = exact _ (omega (arith, c.requires.1))

pub returns-then-position-last : goal.returns-then-position-last
unfolding sampled_position index_float
returns-then-position-last c = rw (c.if-stopping.true, c.if-position-last.true)

pub returns-else-position-last : goal.returns-else-position-last
unfolding sampled_position index_float
returns-else-position-last c = rw (c.if-stopping.true, c.if-position-last.false)

pub returns-else-stopping : goal.returns-else-stopping
unfolding sampled_position
returns-else-stopping c = rw c.if-stopping.false
