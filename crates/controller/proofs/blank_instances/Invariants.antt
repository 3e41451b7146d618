-- `controller::blank_instances` meets its contract. Invariant: the first n instances are blank, and zeros follow. Assumes nothing.
use Prim.Native.Nat.{◌*◌, ◌-◌}
use mathlib.Core.Path.{◌≡◌}
use mathlib.Core.List.{◌++◌}
use lib.ListN.{replicate}
use Rattle.model.specs.Numbers.{0f}
use Rattle.model.specs.Plan.{max_clip_nodes}
use Rattle.model.specs.Clips.{blank_instances}
use Rattle.controller.proofs.blank_instances.Given as goal

abbrev pub invariant-loop-n : goal.invariant-loop-n
invariant-loop-n l = l.instances ≡ blank_instances l.n ++ replicate (3 * (max_clip_nodes - l.n)) 0f
