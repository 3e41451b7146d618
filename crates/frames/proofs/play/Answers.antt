-- `frames::play` meets its contract: the step's player is the one that is shown. Assumes nothing.
use Prim.Native.Nat.{◌<◌}
use mathlib.Core.Path.{◌≡◌}
use mathlib.Core.Bool.{true}
use Rattle.model.specs.declared.Player.{Player}
use Rattle.model.specs.Plan.{state_count}
use Rattle.model.specs.Controller.{is_target_below, now_at, elapsed}
use Rattle.layout.specs.Layout.{InPlan}
use Rattle.layout.proofs.Laws.{in_plan, figure_passed}
use Rattle.blend_tree.specs.declared.StateAt.{StateAt}
use Rattle.frames.specs.Parts.{player_of}
use Rattle.frames.proofs.Laws.{still_below, still_target, played}
use Rattle.output_pose.proofs.JointLaws.{shown_alone}
use Rattle.frames.proofs.play.Goals as goal
use Rattle.frames.proofs.play.Goals.{Start, After-step-stepped, After-layout_of}

-- the player whose parts were lent
abbrev player : Start → Player
player s = let a = s.args in player_of a.parts a.parameters.now a.instances.now

-- the step stays inside the plan
below : (c : After-step-stepped) → c.step-stepped.result.state < state_count c.args.figure.now.plan.words.now
unfolding now_at
below c =
    let f = c.args.figure.now in
    let made = rw c.state-before.ensures.plan at c.step-stepped.ensures in
    still_below _ _ (player (goal.at.After-step-stepped c).Start) c.args.ext _ _ c.state-before.ensures.here made (figure_passed _ f.plan.laid f.whole) c.requires.state c.requires.target

target : (c : After-step-stepped) → is_target_below (state_count c.args.figure.now.plan.words.now) c.step-stepped.result.transition ≡ true
unfolding now_at
target c =
    let f = c.args.figure.now in
    let made = rw c.state-before.ensures.plan at c.step-stepped.ensures in
    still_target _ _ (player (goal.at.After-step-stepped c).Start) c.args.ext _ _ c.state-before.ensures.here made (figure_passed _ f.plan.laid f.whole) c.requires.state c.requires.target

inside : (c : After-layout_of) → InPlan c.args.figure.now.plan.words.now c.layout_of.result
inside c = in_plan _ _ (rw c.state-before.ensures.plan at c.layout_of.ensures) (below (goal.at.After-layout_of c).After-step-stepped)

pub layout_of-requires : goal.layout_of-requires
layout_of-requires c = rw c.state-before.ensures.plan (below (goal.at.layout_of-requires c).After-step-stepped)

pub invariant_of-state : goal.invariant_of-state
invariant_of-state c = record { place = inside (goal.at.invariant_of-state c).After-layout_of }

pub invariant_of-state-2 : goal.invariant_of-state-2
invariant_of-state-2 c = record { place = inside (goal.at.invariant_of-state-2 c).After-layout_of }

pub show_joint-requires : goal.show_joint-requires
show_joint-requires c = let single = c.is_single.ensures c.if-is_single.true in (single.0, single.1, c.requires.room)

pub returns-then-is_single : goal.returns-then-is_single
unfolding now_at elapsed
returns-then-is_single c =
    let made = rw c.state-before.ensures.plan at c.step-stepped.ensures in
    let there = rw c.state-before.ensures.plan at c.layout_of.ensures in
    let single = c.is_single.ensures c.if-is_single.true in
    let at : StateAt = record { figure = c.args.figure.now; here = c.layout_of.result; time = c.narrow.result; place = inside (goal.at.returns-then-is_single c).After-layout_of } in
    played _ _ _ _ _ _ c.state-before.ensures.here made _ _ there _ c.narrow.ensures _ _ _ (shown_alone at single.1 _ _ _ _ _ _ _ single.2 c.show_joint.ensures)

pub show-requires : goal.show-requires
show-requires c = (target (goal.at.show-requires c).After-step-stepped, c.requires.room)

pub returns : goal.returns
unfolding now_at elapsed
returns c =
    let made = rw c.state-before.ensures.plan at c.step-stepped.ensures in
    let there = rw c.state-before.ensures.plan at c.layout_of.ensures in
    played _ _ _ _ _ _ c.state-before.ensures.here made _ _ there _ c.narrow.ensures _ _ _ c.show.ensures
