use Rattle.std.proofs.Common.{◌≡◌, ◌+◌, ◌≤◌, get_or, arith}
use Rattle.fields.proofs.Laws.{run_inside, decimal_none, decimal_leads, decimal_reads}
use Rattle.fields.proofs.decimal_at.Goals as goal
use Rattle.fields.proofs.decimal_at.Goals.{Joined-else-text-at-eq48, else-text-at-eq48-via-then-text-at-eq48+else-at-run, else-text-at-eq48-via-else-text-at-eq48}

pub returns-then-run-at : goal.returns-then-run-at
returns-then-run-at c = decimal_none _ _ _ c.run_at-run.result c.run_at-run.ensures.0 c.if-run-at.true

pub bounds-text-at : goal.bounds-text-at
bounds-text-at c =
    let args = c.args in
    omega (arith, run_inside 10 args.text.now args.at c.run_at-run.result.end c.run_at-run.ensures.0 (omega arith))

pub returns-then-at-run : goal.returns-then-at-run
returns-then-at-run c = decimal_leads _ _ _ c.run_at-run.result c.run_at-run.ensures.0 c.if-at-run.true c.if-text-at-eq48.true

-- past the `if` no zero leads, whichever part of its condition failed
leads : (c : Joined-else-text-at-eq48) → let args = c.args in get_or args.text.now args.at 0 ≡ 48 → c.run_at-run.result.end ≤ args.at + 1
leads c z =
    elim c.else-text-at-eq48.branch [
      | else-text-at-eq48-via-then-text-at-eq48+else-at-run w ↦ omega arith
      | else-text-at-eq48-via-else-text-at-eq48 w ↦ omega arith
    ]

pub returns : goal.returns
returns c =
    let e = c.run_at-run.ensures in
    rw c.then_some.ensures (rw c.from-most.ensures (decimal_reads _ _ _ _ e.0 c.if-run-at.false (leads (goal.at.returns c).Joined-else-text-at-eq48) (rw c.from-most.ensures at e.1)))
