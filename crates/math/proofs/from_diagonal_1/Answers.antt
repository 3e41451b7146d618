-- `math::from_diagonal_1` meets its contract: it is case 0 of the turned matrix, turned back. Assumes nothing.
use Rattle.model.specs.Rotations.{quaternion, from_diagonal}
use Rattle.math.proofs.Laws.{turned_case}
use Rattle.math.proofs.from_diagonal_1.Goals as goal

pub returns : goal.returns
unfolding from_diagonal
returns c =
    turned_case (λ m. from_diagonal m 0 1 2 (λ w qi qj qk. quaternion w qi qj qk)) _ _ _ _ c.turned_back.ensures c.from_diagonal_0.ensures c.turned.ensures
