-- `controller::blank` meets its contract, part by part. Assumes nothing.
use mathlib.Core.Path.{ap}
use mathlib.Core.List.{List}
use lib.ListN.{replicate}
use lib.Ieee.{Float, of_bits}
use Rattle.model.specs.declared.Transition.TheVariants.{Idle}
use Rattle.model.specs.Numbers.{0f, 1f}
use Rattle.model.specs.Plan.{max_parameters}
use Rattle.model.specs.Controller.{blank}
use Rattle.controller.proofs.blank.Goals as goal

pub returns : goal.returns
unfolding blank of_bits
returns c = ap (λ (i : List Float). record { clock = 0f; speed = 1f; state = 0; transition = Idle; parameters = replicate max_parameters 0f; instances = i }) c.blank_instances.ensures
