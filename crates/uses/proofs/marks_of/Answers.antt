-- `uses::marks_of` meets its contract. Invariant: `Following`. It ends where no marked state is left to follow, or where all states were followed.
-- Assumes nothing.
use native.Mathlib.Omega.{arith}
use mathlib.Core.Path.{◌≡◌, ap}
use Rattle.model.specs.Plan.{initial_state, state_count}
use Rattle.model.proofs.Laws.Passed.{few_states, initial_below}
use Rattle.layout.specs.Layout.{layout_of}
use Rattle.layout.proofs.Laws.{laid_passes, states_found}
use Rattle.uses.proofs.FollowLaws.{following_first, following_next, below, none_left, all_followed, marks_found}
use Rattle.uses.proofs.marks_of.Goals as goal
use Rattle.uses.proofs.marks_of.Goals.{Start}

initial : (c : Start) → c.args.plan.now.layout.initial ≡ initial_state c.args.plan.now.words.now
unfolding layout_of
initial c = ap (λ l. l.initial) c.args.plan.now.laid.found

pub bounds-marks-plan : goal.bounds-marks-plan
bounds-marks-plan c = let ok = c.args.plan.now.laid.passed in omega (arith, initial (goal.at.bounds-marks-plan c).Start, initial_below _ _ ok, few_states _ _ ok)

pub loop-init : goal.loop-init
loop-init c = rw (initial (goal.at.loop-init c).Start) (following_first (laid_passes c.args.plan.now.laid))

pub follow-requires : goal.follow-requires
follow-requires c = below (laid_passes c.args.plan.now.laid) c.loop.invariant (c.in-Some.ensures)

pub bounds-followed-state : goal.bounds-followed-state
bounds-followed-state c =
    let ok = laid_passes c.args.plan.now.laid in
    omega (arith, below ok c.loop.invariant (c.in-Some.ensures), few_states _ ok.numbers ok.passed)

pub loop-preserved : goal.loop-preserved
loop-preserved c = following_next (laid_passes c.args.plan.now.laid) c.loop.invariant (c.in-Some.ensures) c.follow.ensures

pub returns-after-loop : goal.returns-after-loop
returns-after-loop c =
    let plan = c.args.plan.now in
    let all : c.loop.counter ≡ state_count plan.words.now = omega (arith, states_found _ plan.laid.found) in
    let ok = laid_passes plan.laid in
    marks_found ok c.loop.invariant (all_followed ok c.loop.invariant all)

pub returns-in_default : goal.returns-in_default
returns-in_default c =
    let ok = laid_passes c.args.plan.now.laid in
    marks_found ok c.loop.invariant (none_left ok c.loop.invariant c.in_default.ensures)
