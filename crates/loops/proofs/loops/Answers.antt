-- `loops::loops` meets its contract: a refusal of the check or of the player is handed on, else the node is asked about. Assumes nothing.
use mathlib.Core.Path.{◌≡◌, refl}
use lib.ListN.{length}
use Rattle.model.specs.Answers.{accepted}
use Rattle.model.specs.Check.{check}
use Rattle.layout.specs.Layout.{layout_of}
use Rattle.layout.proofs.Laws.{figure_passed}
use Rattle.loops.proofs.Laws.{check_handed, player_refused, player_passes}
use Rattle.loops.proofs.loops.Goals as goal
use Rattle.loops.proofs.loops.Goals.{In_ok-figure}

-- what the figure says of the plan and the numbers that were lent
passed : (c : In_ok-figure) → check c.args.plan.now (length c.args.numbers.now) ≡ accepted
passed c = let f = c.in_ok-figure.figure in rw (c.in_ok-figure.ensures.words, c.in_ok-figure.ensures.numbers) at (figure_passed f.numbers.now f.plan.laid f.whole)

found : (c : In_ok-figure) → c.in_ok-figure.figure.plan.layout ≡ layout_of c.args.plan.now
found c = rw c.in_ok-figure.ensures.words at c.in_ok-figure.figure.plan.laid.found

pub returns-in_err-figure : goal.returns-in_err-figure
returns-in_err-figure c = check_handed _ _ _ _ _ _ _ _ c.from_residual.ensures.1 _ c.in_err-figure.ensures.answer

pub returns-then-not-has_states : goal.returns-then-not-has_states
returns-then-not-has_states c =
    let k = (goal.at.returns-then-not-has_states c).In_ok-figure in
    player_refused _ _ _ _ _ _ _ (passed k) (found k) c.has_states.ensures c.if-not-has_states.true _ _ refl (rw c.at.ensures)

pub returns : goal.returns
returns c =
    let k = (goal.at.returns c).In_ok-figure in
    let counted = rw (c.in_ok-figure.ensures.words, c.in_ok-figure.ensures.numbers) at c.count_at.ensures in
    counted.count c.args.player refl (player_passes _ _ c.args.player _ (passed k) (found k) c.has_states.ensures c.if-not-has_states.false)
