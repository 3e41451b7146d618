-- `math::from_diagonal_2` meets its contract: it is case 1 of the turned matrix, turned back. Assumes nothing.
use Rattle.model.specs.Rotations.{quaternion, from_diagonal}
use Rattle.math.proofs.Laws.{turned_case}
use Rattle.math.proofs.from_diagonal_2.Goals as goal

pub returns : goal.returns
unfolding from_diagonal
returns c =
    turned_case (λ m. from_diagonal m 1 2 0 (λ w qi qj qk. quaternion w qk qi qj)) _ _ _ _ c.turned_back.ensures c.from_diagonal_1.ensures c.turned.ensures
