-- What the test hands over is what `check_nodes` asks: the plan's counts, and one node. Assumes nothing.
use Rattle.std.proofs.Common.{ℕ, List, ◌∷◌, refl, arith}
use Rattle.model.specs.Plan.{word, clip_count, parameter_count, state_count}
use Rattle.plan.specs.Parts.{CountsOf}
use Rattle.plan.proofs.nodes.tests.check_nodes_has_a_reason.Goals as goal

-- of every plan that begins as the test's
counted : (rest : List ℕ) → CountsOf (1 ∷ 1 ∷ 0 ∷ 1 ∷ rest) (record { clips = 1; parameters = 0; states = 1 })
unfolding word clip_count parameter_count state_count
counted rest = record { clips = refl; parameters = refl; states = refl }

pub check_nodes-whole-requires : goal.check_nodes-whole-requires
check_nodes-whole-requires g c = (omega arith, omega arith, omega arith, counted _)

pub check_nodes-ended-requires : goal.check_nodes-ended-requires
check_nodes-ended-requires g c = (omega arith, omega arith, omega arith, counted _)

pub check_nodes-misread-requires : goal.check_nodes-misread-requires
check_nodes-misread-requires g c = (omega arith, omega arith, omega arith, counted _)
