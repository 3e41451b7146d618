-- What a frame's parts come to, over plain values: the player and output of one that is played, and the promise of each answer. Assumes nothing.
use Prim.Native.Nat.{ℕ, ◌≤◌, ◌<◌}
use mathlib.Core.Path.{◌≡◌, refl, sym, ap, subst, ◌∙◌}
use mathlib.Core.Bool.{Bool, true, false}
use mathlib.Core.List.{List}
use lib.ListN.{length}
use lib.Dec.{ltb}
use lib.Ieee.{Float}
use borrow.Author.Tests.{ltb-true, le-leb, lt-leb, leb-true}
use Rattle.std.specs.Prelude.{Result, Ok, Err}
use Rattle.model.specs.declared.FrameKind.{FrameKind}
use Rattle.model.specs.declared.Player.{Player}
use Rattle.model.specs.Answers.{Verdict, accepted, refused, values, ◌then◌, require, unless_refused}
use Rattle.model.specs.declared.Refusal.{Refusal}
use Rattle.model.specs.Plan.{joint_count, state_count, output_at}
use Rattle.model.specs.Check.{check}
use Rattle.model.specs.Controller.{with_state, with_transition, with_instances, is_target_below, has_states, frame_verdict, now_at, step_from, elapsed}
use Rattle.model.specs.Run.{frame_player, frame_matrices}
use Rattle.model.specs.Promises.{Framed}
use Rattle.model.proofs.Laws.Answers.{then_left, then_right, require_true}
use Rattle.model.proofs.Laws.Tests.{and_left, and_right}
use Rattle.model.proofs.Laws.Passed.{state_passed}
use Rattle.model.proofs.Laws.Steps.{step_target_below, step_state_below}
use Rattle.layout.specs.declared.Layout.{Layout}
use Rattle.layout.specs.declared.StateLayout.{StateLayout}
use Rattle.layout.specs.Layout.{layout_of, state_layout}
use Rattle.layout.proofs.Laws.{joints_found, states_found, same_state}
use Rattle.transitions.specs.declared.Stepped.{Stepped}
use Rattle.transitions.specs.Step.{StepMade}
use Rattle.output_pose.specs.Shown.{Shown}
use Rattle.frames.specs.Parts.{player_of, outcome_of, FrameAnswered, FramePlayed}
use Rattle.frames.specs.declared.FrameParts.{FrameParts}
use Rattle.frames.specs.declared.Parts.{Parts}

-- ---- steps 1 to 3

module _ (plan : List ℕ) (numbers : List Float) (p : Player) (ext : Float) (r : Stepped) (before : StateLayout)
    (at : before ≡ state_layout plan p.state) (made : StepMade plan numbers before.state p.transition p.parameters (now_at p ext) r) where
  -- the player after step 1
  abbrev after_step : Player
  after_step = with_transition (with_state p r.state) r.transition

  step_is : step_from plan numbers (now_at p ext) p p.transition ≡ after_step
  step_is = made.step p (sym (same_state plan p.state at)) refl refl

  pub still_below : check plan (length numbers) ≡ accepted → p.state < state_count plan → is_target_below (state_count plan) p.transition ≡ true → r.state < state_count plan
  still_below ok h t = subst (λ (q : Player). q.state < state_count plan) step_is (step_state_below plan numbers p (now_at p ext) (state_passed plan (length numbers) ok p.state h) p.transition h t)

  pub still_target : check plan (length numbers) ≡ accepted → p.state < state_count plan → is_target_below (state_count plan) p.transition ≡ true → is_target_below (state_count plan) r.transition ≡ true
  still_target ok h t =
      subst (λ (q : Player). is_target_below (state_count plan) q.transition ≡ true) step_is (step_target_below plan numbers p (now_at p ext) (state_passed plan (length numbers) ok p.state h) p.transition refl t)

  module _ (kind : FrameKind) (here : StateLayout) (there : here ≡ state_layout plan r.state) (time : Float) (told : time ≡ elapsed p ext) (after old new : List Float)
      (done : Shown kind plan numbers time (now_at p ext) here.state r.transition p.parameters p.instances after old new) where
    pub played : FramePlayed kind plan numbers p ext old new (with_instances after_step after)
    unfolding frame_player frame_matrices
    played =
        record {
          player = rw (step_is, done.instances after_step (sym (same_state plan r.state there)) refl refl, told);
          output = rw step_is (rw told at (done.output after_step (sym (same_state plan r.state there)) refl refl));
        }

-- ---- the answers of a frame

module _ (plan : List ℕ) (numbers : List Float) (p : Player) (n : ℕ) where
  -- an early refusal is the verdict
  refused_first : (k p r : ℕ) (v w x : Verdict) → v ≡ refused k p r → v then w then x ≡ refused k p r
  unfolding ◌then◌
  refused_first k p r v w x e = rw e

  pub check_refuses : (k m r : ℕ) → check plan (length numbers) ≡ refused k m r → frame_verdict plan numbers p n ≡ refused k m r
  unfolding frame_verdict
  check_refuses k m r e = refused_first k m r _ _ _ e

  module _ (e : frame_verdict plan numbers p n ≡ accepted) where
    pub frame_passed : check plan (length numbers) ≡ accepted
    unfolding frame_verdict
    frame_passed = then_left _ _ (then_left _ _ e)

    frame_states : has_states (state_count plan) p.state p.transition ≡ true
    unfolding frame_verdict
    frame_states = require_true _ _ _ (then_right _ _ (then_left _ _ e))

    pub frame_state : p.state < state_count plan
    frame_state = ltb-true _ _ (and_left _ _ frame_states)

    pub frame_target : is_target_below (state_count plan) p.transition ≡ true
    frame_target = and_right (ltb p.state (state_count plan)) _ frame_states

    pub frame_fits : output_at (joint_count plan) ≤ n
    unfolding frame_verdict
    frame_fits = leb-true _ _ (require_true _ _ _ (then_right _ _ e))

-- a figure that passed: the tests that follow, each past the ones before it
module _ (plan : List ℕ) (numbers : List Float) (l : Layout) (passed : check plan (length numbers) ≡ accepted) (found : l ≡ layout_of plan)
    (parts : Parts) (n : ℕ) (a : Result Unit Refusal) (has : Bool) (told : has ≡ has_states l.states parts.state parts.transition) where
  pub player_refuses : has ≡ false → values a ≡ refused 9 0 0 → FrameAnswered plan numbers parts n a
  unfolding frame_verdict ◌then◌ require
  player_refuses f e = record { answer = λ _ _. e ∙ sym (rw (passed, ← states_found plan found, ← told, f)) }

  module _ (t : has ≡ true) (at : ℕ) (end : at ≡ output_at l.joints) where
    pub output_refuses : n < at → values a ≡ refused 10 0 0 → FrameAnswered plan numbers parts n a
    unfolding frame_verdict ◌then◌ require
    output_refuses f e = record { answer = λ _ _. e ∙ sym (rw (passed, ← states_found plan found, ← told, t, ← joints_found plan found, ← end, lt-leb at n f)) }

    pub nothing_refuses : at ≤ n → values a ≡ accepted → FrameAnswered plan numbers parts n a
    unfolding frame_verdict ◌then◌ require
    nothing_refuses f e = record { answer = λ _ _. e ∙ sym (rw (passed, ← states_found plan found, ← told, t, ← joints_found plan found, ← end, le-leb at n f)) }

-- the promise of a refused frame of either kind, with the parts as they were, and of an accepted one
module _ (kind : FrameKind) (plan : List ℕ) (numbers : List Float) (parts : Parts) (parameters instances : List Float) (ext : Float) where
  abbrev lent : Player
  lent = player_of parts parameters instances

  frame_refused : (old : List Float) (a : Result Unit Refusal) (k m n : ℕ) → frame_verdict plan numbers lent (length old) ≡ refused k m n → values a ≡ refused k m n
      → (r : FrameParts) → (r.answer ≡ a) × (r.state ≡ parts.state) × (r.transition ≡ parts.transition) → Framed kind plan numbers lent ext old old (outcome_of parts r parameters instances)
  unfolding unless_refused
  frame_refused old a k m n v e r same = record { answer = ap values same.0 ∙ e ∙ sym v; player = rw (v, same.1, same.2); output = rw v }

  -- a check's refusal is handed on
  pub check_handed : {A : Type 0} (old : List Float) (k : Result A Refusal) → values k ≡ check plan (length numbers) → (x : Refusal) → k ≡ Err x → (a : Result Unit Refusal) → values a ≡ values k
      → (r : FrameParts) → (r.answer ≡ a) × (r.state ≡ parts.state) × (r.transition ≡ parts.transition) → Framed kind plan numbers lent ext old old (outcome_of parts r parameters instances)
  unfolding values
  check_handed old k done x e a told =
      frame_refused old a _ x.place 0 (check_refuses plan numbers lent (length old) _ x.place 0 (sym done ∙ ap values e)) (told ∙ ap values e)

  module _ (old : List Float) (a : Result Unit Refusal) (answered : FrameAnswered plan numbers parts (length old) a) where
    answer_is : values a ≡ frame_verdict plan numbers lent (length old)
    answer_is = answered.answer parameters instances

    pub frame_handed : (x : Refusal) → a ≡ Err x
        → (r : FrameParts) → (r.answer ≡ a) × (r.state ≡ parts.state) × (r.transition ≡ parts.transition) → Framed kind plan numbers lent ext old old (outcome_of parts r parameters instances)
    unfolding values
    frame_handed x e = frame_refused old a _ x.place 0 (sym answer_is ∙ ap values e) (ap values e)

    module _ (x : Unit {0}) (e : a ≡ Ok x) where
      pub now_accepted : frame_verdict plan numbers lent (length old) ≡ accepted
      unfolding values
      now_accepted = sym answer_is ∙ ap values e

      pub frame_accepted : (new : List Float) (q : Player) → FramePlayed kind plan numbers lent ext old new q → Framed kind plan numbers lent ext old new (record { answer = a; player = q })
      unfolding unless_refused
      frame_accepted new q done = record { answer = answer_is; player = rw now_accepted done.player; output = rw now_accepted done.output }
