-- `animation::position_in` meets its contract: it is the definition, and the second sample is the first or the next. Assumes nothing.
use mathlib.Core.Path.{◌≡◌, sym, ap, ◌∙◌}
use Prim.Native.Nat.{ℕ, suc, ◌%◌}
use native.Mathlib.Nat.{mod-lt, suc-mod}
use denote.Floats.{passes}
use Rattle.model.specs.Clips.{first_index, second_index, factor}
use Rattle.animation.specs.Sampling.{position_in}
use Rattle.animation.proofs.Laws.{ceiling_after}
use Rattle.animation.proofs.position_in.Goals as goal
use Rattle.animation.proofs.position_in.Goals.{Joined-ceiling-floor, then-ceiling-floor, else-ceiling-floor}

pub next_sample-second-requires : goal.next_sample-second-requires
next_sample-second-requires c = mod-lt _ c.requires

second : (c : Joined-ceiling-floor) → c.if-ceiling-floor.second ≡ second_index c.args.samples c.args.position
unfolding second_index
second c =
    let n = c.args.samples in
    let floored = c.floor_index-floor.ensures in
    let raised = c.ceiling_from-ceiling.ensures in
    elim c.if-ceiling-floor.branch [
      | then-ceiling-floor w ↦ w.second-is ∙ ap (λ (i : ℕ). i % n) (sym w.if-ceiling-floor.true ∙ raised)
      | else-ceiling-floor w ↦
          w.second-is ∙ w.next_sample-second.ensures ∙ sym (suc-mod _ n)
          ∙ ap (λ (i : ℕ). i % n) (ap suc floored ∙ sym (ceiling_after _ (passes _ c.well_formed.1.0.1) (λ e. w.if-ceiling-floor.false (raised ∙ e ∙ sym floored))))
    ]

pub returns : goal.returns
unfolding position_in first_index factor
returns c = rw (c.index_to_float.ensures, second (goal.at.returns c).Joined-ceiling-floor, c.floor_index-floor.ensures)
