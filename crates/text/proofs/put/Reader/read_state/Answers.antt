use Rattle.std.proofs.lemmas.Result.{err_from_is_err_and}
use Rattle.text.proofs.FigureLaws.{first_room, counts_small, nodes_stop, room_behind, state_steps, state_stops}
use Rattle.text.proofs.ReaderLaws.{same_on}
use Rattle.text.proofs.put.Reader.read_state.Goals as goal

pub returns-in_err-pass_line : goal.returns-in_err-pass_line
returns-in_err-pass_line c =
    let p = err_from_is_err_and c.from_residual.result c.from_residual.ensures.1 in
    let e = c.in_err-pass_line.ensures in
    rw (p.1, p.2) record { same = e.same.0; step = state_stops _ _ _ _ _ _ _ e.line.0 e.line.1 }

pub put_word-requires : goal.put_word-requires
put_word-requires c =
    let line = c.in_ok-pass_line.ensures.line in
    ((counts_small line.1).0, rw line.0 (first_room line.1))

pub returns-in_err-read_lines : goal.returns-in_err-read_lines
returns-in_err-read_lines c =
    let p = err_from_is_err_and c.from_residual-in_err-read_lines.result c.from_residual-in_err-read_lines.ensures.1 in
    let passed = c.in_ok-pass_line.ensures in
    let put = c.put_word.ensures in
    let nodes = c.in_err-read_lines.ensures in
    rw (p.1, p.2) record {
      same = same_on passed.same.0 (same_on put.same.0 nodes.same);
      step = nodes_stop passed.line.1 _ _ passed.line.0 put.progress _ _ _ _ _ (rw passed.same.1 at put.plan) _
          (rw (put.same.0.text, passed.same.0.text, put.numbers, passed.same.2) at nodes.step);
    }

pub put_word-requires-2 : goal.put_word-requires-2
put_word-requires-2 c =
    let passed = c.in_ok-pass_line.ensures in
    let put = c.put_word.ensures in (
      (counts_small passed.line.1).1,
      room_behind passed.line.1 _ _ passed.line.0 put.progress _ _ _ _ _ (rw (put.same.0.text, passed.same.0.text) at c.in_ok-read_lines.ensures.step),
    )

pub returns : goal.returns
returns c =
    let passed = c.in_ok-pass_line.ensures in
    let put = c.put_word.ensures in
    let nodes = c.in_ok-read_lines.ensures in
    let go = c.put_word-2.ensures in
    let gos = c.read_lines-2.ensures in
    let on = same_on passed.same.0 (same_on put.same.0 nodes.same) in
    record {
      same = same_on on (same_on go.same.0 gos.same);
      step = state_steps passed.line.1 _ _ passed.line.0 put.progress _ _ _ _ _ (rw passed.same.1 at put.plan) _ _ _ _ _ _
          (rw (put.same.0.text, passed.same.0.text, put.numbers, passed.same.2) at nodes.step) go.progress go.plan
          (rw (go.same.0.text, on.text, go.numbers) at gos.step);
    }
