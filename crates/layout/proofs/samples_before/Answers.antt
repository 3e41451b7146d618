-- `layout::samples_before` meets its contract. Invariant: the sum is of the first k counts, each a word. Assumes nothing.
use mathlib.Core.Path.{◌≡◌, refl}
use native.Mathlib.Numerals.{add-one}
use native.Mathlib.Omega.{arith}
use Rattle.model.specs.Plan.{total, sample_count_at, samples_before, sample_count}
use Rattle.layout.proofs.samples_before.Goals as goal

pub loop-k-init : goal.loop-k-init
unfolding samples_before total
loop-k-init c = (refl, omega arith, omega arith)

-- the words before clip c's are there
pub word_there-sum-requires : goal.word_there-sum-requires
unfolding sample_count_at
word_there-sum-requires c =
    let p = c.requires in
    omega (arith, c.sample_count_at.ensures _ p.0, p.3)

pub loop-k-preserved : goal.loop-k-preserved
unfolding samples_before total sample_count
loop-k-preserved c =
    (rw (add-one, c.loop-k.invariant.0, c.word_there-sum.ensures.0, c.sample_count_at.ensures _ c.requires.0), omega arith, omega arith)

pub returns : goal.returns
returns c = let e : c.loop-k.k ≡ c.args.c = omega arith in (rw e at c.loop-k.invariant.0, omega arith)
