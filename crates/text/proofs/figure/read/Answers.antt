-- The first pass is lent nothing to write in.
use Rattle.std.proofs.lemmas.Result.{err_from_is_err_and}
use Rattle.model.specs.Text.{read_figure}
use Rattle.text.specs.Figures.{Judged}
use Rattle.text.proofs.ReadLaws.{judged, lent_nothing, refused_11, plan_short, numbers_short, accepts}
use Rattle.text.proofs.figure.read.Goals as goal
use Rattle.text.proofs.figure.read.Goals.{In_ok-whole, then-plan-lengths-via-then-plan-lengths, then-plan-lengths-via-else-plan-lengths+then-numbers-lengths}

pub returns-in_err-whole : goal.returns-in_err-whole
returns-in_err-whole c =
    let a = c.args in
    let first = c.read_text in
    let p = err_from_is_err_and c.from_residual.result c.from_residual.ensures.1 in
    rw (p.1, p.2, lent_nothing first.new.plan a.plan.now first.auto.plan, lent_nothing first.new.numbers a.numbers.now first.auto.numbers)
    (refused_11 _ _ _ _ _ _ _ _ c.in_err-whole.ensures)

-- the text passed
passed : (c : In_ok-whole) → Judged c.in_ok-whole.whole.words c.in_ok-whole.whole.numbers (read_figure c.args.text.now)
passed c = judged _ _ _ _ _ _ _ c.in_ok-whole.ensures

pub returns-then-plan-lengths : goal.returns-then-plan-lengths
returns-then-plan-lengths c =
    let a = c.args in
    let first = c.read_text in
    let plan = lent_nothing first.new.plan a.plan.now first.auto.plan in
    let numbers = lent_nothing first.new.numbers a.numbers.now first.auto.numbers in
    let j = passed (goal.at.returns-then-plan-lengths c).In_ok-whole in
    rw (c.at.ensures, plan, numbers)
    (elim c.then-plan-lengths.branch [
      | then-plan-lengths-via-then-plan-lengths w ↦ plan_short _ _ _ _ _ j (rw plan at w.if-plan-lengths.true)
      | then-plan-lengths-via-else-plan-lengths+then-numbers-lengths w ↦
          numbers_short _ _ _ _ _ j (rw plan at w.if-plan-lengths.false) (rw numbers at w.if-numbers-lengths.true)
    ])

pub returns : goal.returns
returns c =
    let a = c.args in
    let first = c.read_text in
    let plan = lent_nothing first.new.plan a.plan.now first.auto.plan in
    let numbers = lent_nothing first.new.numbers a.numbers.now first.auto.numbers in
    let j = passed (goal.at.returns c).In_ok-whole in
    accepts _ _ _ _ _ j _ _ _ (rw plan at c.if-plan-lengths.false) (rw numbers at c.if-numbers-lengths.false) (rw (plan, numbers) at c.read_text-2.ensures)
