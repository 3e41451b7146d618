-- `blend_tree::sampling::clip_at` meets its contract: it is the definition. Assumes nothing.
use native.Mathlib.Omega.{arith}
use Rattle.model.proofs.Laws.Passed.{few_joints, sample_count_there}
use Rattle.layout.proofs.Laws.{joints_found}
use Rattle.blend_tree.specs.Sampling.{clip_of}
use Rattle.blend_tree.proofs.SamplingLaws.{clip_small}
use Rattle.blend_tree.proofs.sampling.clip_at.Goals as goal

pub samples_before-requires : goal.samples_before-requires
samples_before-requires c =
    let figure = c.args.figure.now in
    let laid = figure.plan.laid in
    let found = joints_found _ laid.found in
    (found, omega (arith, found, few_joints _ _ laid.passed), omega (arith, clip_small figure c.requires), omega (arith, sample_count_there _ _ laid.passed _ c.requires))

pub returns : goal.returns
unfolding clip_of
returns c =
    rw (c.sample_count.ensures, c.samples_before.ensures.0, c.is_stopping.ensures, c.rate.ensures c.args.figure.now.plan.words.now)
