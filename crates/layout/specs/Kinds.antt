-- What the numbers of a node's kind and of a condition's operator stand for. Definitions only.
use Rattle.std.specs.Prelude.{ℕ, cond, eqb}
use Rattle.layout.specs.declared.Kind.{Kind}
use Rattle.layout.specs.declared.Kind.TheVariants as kind
use Rattle.layout.specs.declared.Operator.{Operator}
use Rattle.layout.specs.declared.Operator.TheVariants as operator

-- 'Kind 0 clip', '1 lerp, 2 additive'
unfoldable pub kind_of : ℕ → Kind
kind_of n = cond (eqb n 0) kind.Clip (cond (eqb n 1) kind.Lerp kind.Additive)

-- 'Operators 0..5: less, at most, greater, at least, equal, unequal'
unfoldable pub operator_of : ℕ → Operator
operator_of n =
    cond (eqb n 0) operator.Less
    (cond (eqb n 1) operator.AtMost
    (cond (eqb n 2) operator.Greater
    (cond (eqb n 3) operator.AtLeast
    (cond (eqb n 4) operator.Equal operator.Unequal))))
