use Rattle.std.proofs.lemmas.Result.{err_from_is_err_and}
use Rattle.text.proofs.ReaderLaws.{passed_none, passed_next, passed_stops}
use Rattle.text.proofs.put.Reader.read_states.Goals as goal

pub loop-init : goal.loop-init
loop-init c = passed_none _

pub returns-in_err-read_state : goal.returns-in_err-read_state
returns-in_err-read_state c =
    let p = err_from_is_err_and c.from_residual.result c.from_residual.ensures.1 in
    rw (p.1, p.2) (passed_stops c.loop.invariant c.args.count c.loop-test.true c.in_err-read_state.ensures)

pub loop-preserved : goal.loop-preserved
loop-preserved c = passed_next c.loop.invariant c.in_ok-read_state.ensures
