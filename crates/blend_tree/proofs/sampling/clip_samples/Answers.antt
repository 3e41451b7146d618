-- `blend_tree::sampling::clip_samples` meets its contract: those of the clip, after those of the clips before it. Assumes nothing.
use native.Mathlib.Omega.{arith}
use Rattle.animation.specs.Sampling.{position_in}
use Rattle.blend_tree.specs.Sampling.{samples_at}
use Rattle.blend_tree.proofs.SamplingLaws.{position_below}
use Rattle.blend_tree.proofs.sampling.clip_samples.Goals as goal

pub overflow_add-result : goal.overflow_add-result
overflow_add-result c =
    let r = c.requires in
    omega (arith, r.1, r.2, position_below _ r.0 c.position_in-own.ensures)

pub overflow_add-result-2 : goal.overflow_add-result-2
overflow_add-result-2 c =
    let r = c.requires in
    omega (arith, r.1, r.2, position_below _ r.0 c.position_in-own.ensures)

pub returns : goal.returns
unfolding position_in samples_at
returns c =
    rw c.position_in-own.ensures
