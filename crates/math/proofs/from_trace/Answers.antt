-- `math::from_trace` meets its contract: t by the scale is the scale by t. Assumes nothing.
use Rattle.std.proofs.Common.{refl}
use Rattle.model.specs.Rotations.{quaternion, from_trace}
use Rattle.math.proofs.Laws.{scaled_put}
use Rattle.math.proofs.from_trace.Goals as goal

pub returns : goal.returns
unfolding from_trace
returns c = scaled_put (λ w qi qj qk. quaternion qi w qj qk) (λ w qi qj qk s. refl) _ _ _ _ _
