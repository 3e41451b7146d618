-- `math::from_diagonal_0` meets its contract: t by the scale is the scale by t. Assumes nothing.
use Rattle.std.proofs.Common.{refl}
use Rattle.model.specs.Rotations.{quaternion, from_diagonal}
use Rattle.math.proofs.Laws.{scaled_put}
use Rattle.math.proofs.from_diagonal_0.Goals as goal

pub returns : goal.returns
unfolding from_diagonal
returns c = scaled_put (λ w qi qj qk. quaternion w qi qj qk) (λ w qi qj qk s. refl) _ _ _ _ _
