-- `math::unscaled_rotation` meets its contract: the tests pick the case. Assumes nothing.
use Rattle.model.specs.Rotations.{matrix_to_quaternion}
use Rattle.math.proofs.unscaled_rotation.Goals as goal

pub returns-then-trace : goal.returns-then-trace
unfolding matrix_to_quaternion
returns-then-trace c = rw c.if-trace.true c.from_trace.ensures

pub returns-then-m-2 : goal.returns-then-m-2
unfolding matrix_to_quaternion
returns-then-m-2 c = rw (c.if-trace.false, c.if-m.true, c.if-m-2.true) c.from_diagonal_2.ensures

pub returns-then-m : goal.returns-then-m
unfolding matrix_to_quaternion
returns-then-m c = rw (c.if-trace.false, c.if-m.true, c.if-m-2.false) c.from_diagonal_1.ensures

pub returns-then-m-3 : goal.returns-then-m-3
unfolding matrix_to_quaternion
returns-then-m-3 c = rw (c.if-trace.false, c.if-m.false, c.if-m-3.true) c.from_diagonal_2-then-m-3.ensures

pub returns : goal.returns
unfolding matrix_to_quaternion
returns c = rw (c.if-trace.false, c.if-m.false, c.if-m-3.false) c.from_diagonal_0.ensures
