use Rattle.std.proofs.Common.{arith}
use Rattle.std.proofs.lemmas.Result.{err_from_is_err_and}
use Rattle.text.proofs.ReaderLaws.{passed_none, passed_next, passed_stops}
use Rattle.text.proofs.FigureLaws.{few_samples, sampled_start, sampled_next}
use Rattle.text.proofs.put.Reader.read_clips.Goals as goal

pub loop-init : goal.loop-init
loop-init c = (passed_none _, sampled_start _, omega arith)

pub returns-in_err-read_line-clause-read : goal.returns-in_err-read_line-clause-read
returns-in_err-read_line-clause-read c =
    let p = err_from_is_err_and c.from_residual.result c.from_residual.ensures.1 in
    rw (p.1, p.2) (passed_stops c.loop.invariant.0 c.args.count c.loop-test.true c.in_err-read_line.ensures.read)

pub overflow_add-samples : goal.overflow_add-samples
overflow_add-samples c = omega (arith, few_samples c.in_ok-read_line.ensures.valued, c.loop.invariant)

pub loop-preserved : goal.loop-preserved
loop-preserved c =
    let inv = c.loop.invariant in
    let read = c.in_ok-read_line.ensures in
    let few = few_samples read.valued in (
      passed_next inv.0 read.read,
      sampled_next (rw inv.0.same.text at read.valued) _ _ _ _ _ _ _ inv.0.so_far inv.1,
      omega arith,
    )
