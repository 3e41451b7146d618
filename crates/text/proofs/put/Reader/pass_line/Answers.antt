use Rattle.std.proofs.Common.{◌≡◌, ◌+◌, refl, Some, None, arith}
use Rattle.std.proofs.lemmas.Result.{err_from_is_err_and}
use Rattle.text.specs.Steps.{LineAt}
use Rattle.text.proofs.LineLaws.{line_at, line_bad, line_here}
use Rattle.text.proofs.put.Reader.pass_line.Goals as goal
use Rattle.text.proofs.put.Reader.pass_line.Goals.{In_ok-at}

pub returns-in_err-at-clause-line : goal.returns-in_err-at-clause-line
returns-in_err-at-clause-line c =
    let told = c.ok_or.ensures.value in
    let was = c.in_err-at.was in
    let before = c.args.self.now in
    let p = err_from_is_err_and c.from_residual.result c.from_residual.ensures.1 in
    let none : c.line_at-found.result ≡ None = grind arith in
    let line : c.in_err-at.field-0.0.line ≡ before.progress.line + 1 = grind arith in
    rw (p.1, p.2) (line, line_bad c.args.kind before.progress c.line_at-found.ensures none)

-- a line was found
found : (c : In_ok-at) → let before = c.args.self.now in LineAt c.args.kind before.text.now c.line_at-found.new.values before.progress c.in_ok-at.at
found c =
    let told = c.ok_or.ensures.value in
    let was = c.in_ok-at.was in
    let before = c.args.self.now in
    let some : c.line_at-found.result ≡ Some c.in_ok-at.at = grind arith in
    line_at c.args.kind before.progress c.line_at-found.ensures before.in_text some

pub invariant_of-self-2 : goal.invariant_of-self-2
invariant_of-self-2 c = record { in_text = line_here (found c) }

pub returns-clause-line : goal.returns-clause-line
returns-clause-line c = (refl, found (goal.at.returns-clause-line c).In_ok-at)
