-- `plan::check_lengths` meets its contract: both tests of the definition; the counts are small, so nothing overflows. Assumes nothing.
use borrow.Author.Tests.{lt-leb, le-leb, eq-eqb, ne_eqb}
use native.Mathlib.Omega.{arith}
use Rattle.model.specs.Answers.{values, ◌then◌, require}
use Rattle.layout.proofs.Laws.{joints_found, clips_found}
use Rattle.plan.proofs.Worded.{clips_there, layout_small, product_small, numbers_counted}
use Rattle.plan.proofs.check_lengths.Goals as goal

pub returns-then-end-plan : goal.returns-then-end-plan
unfolding values ◌then◌ require
returns-then-end-plan c = record { answer = rw (c.at.ensures, ← c.requires.1, lt-leb _ _ c.if-end-plan.true); layout = tt }

pub samples_before-samples-requires : goal.samples_before-samples-requires
samples_before-samples-requires c =
    let ok = c.requires.0 in
    let found = c.laid_out-layout.ensures in
    let small = layout_small _ ok _ found in
    (joints_found _ found, omega arith, omega arith, rw (clips_found _ found) (clips_there _ ok))

pub overflow_mul-samples : goal.overflow_mul-samples
overflow_mul-samples c =
    omega (arith, product_small _ c.requires.0 _ c.laid_out-layout.ensures _ c.samples_before-samples.ensures.1)

pub overflow_mul-samples-2 : goal.overflow_mul-samples-2
overflow_mul-samples-2 c =
    omega (arith, product_small _ c.requires.0 _ c.laid_out-layout.ensures _ c.samples_before-samples.ensures.1)

pub overflow_add-layout : goal.overflow_add-layout
overflow_add-layout c =
    let ok = c.requires.0 in
    omega (arith, product_small _ ok _ c.laid_out-layout.ensures _ c.samples_before-samples.ensures.1, layout_small _ ok _ c.laid_out-layout.ensures)

pub returns-then-numbers-layout : goal.returns-then-numbers-layout
unfolding values ◌then◌ require
returns-then-numbers-layout c =
    record { answer = rw (c.at-then-numbers-layout.ensures, ← c.requires.1, le-leb _ _ c.if-end-plan.false, ← numbers_counted _ _ _ c.laid_out-layout.ensures c.samples_before-samples.ensures.0, ne_eqb _ _ c.if-numbers-layout.true); layout = tt }

pub returns : goal.returns
unfolding values ◌then◌ require
returns c =
    record { answer = rw (← c.requires.1, le-leb _ _ c.if-end-plan.false, ← numbers_counted _ _ _ c.laid_out-layout.ensures c.samples_before-samples.ensures.0, eq-eqb _ _ c.if-numbers-layout.false); layout = c.laid_out-layout.ensures }

pub laid_out-layout-requires : goal.laid_out-layout-requires
laid_out-layout-requires c = (c.requires.0, c.requires.2)
