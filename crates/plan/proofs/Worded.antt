-- Facts about a plan whose words pass, and how the parts make the whole check. Assumes nothing.
use Prim.Native.Nat.{ℕ, ◌+◌, ◌*◌, ◌≤◌}
use native.Mathlib.Nat.{mul-le-mul}
use native.Mathlib.Omega.{arith}
use mathlib.Core.Path.{◌≡◌, sym, ◌∙◌}
use mathlib.Core.List.{List}
use lib.ListN.{length}
use Rattle.model.specs.declared.Refusal.{Refusal}
use Rattle.std.specs.Prelude.{Result, Ok, Err}
use Rattle.std.specs.Result.{IsErrAnd}
use Rattle.model.specs.Answers.{Verdict, accepted, values, ◌then◌}
use Rattle.model.proofs.Laws.Exits.{leaves, more}
use Rattle.model.specs.Text.{max_word}
use Rattle.model.specs.Plan.{max_joints, max_clips, max_states, max_transitions, clip_count, state_count, sample_count_at, state_at, transition_count, transitions_before, samples_before, poses_at, numbers_length}
use Rattle.model.specs.Check.{check_header, check}
use Rattle.model.proofs.Laws.Answers.{then_left, then_right, then_accepted, each_at}
use Rattle.model.proofs.Laws.State.{state_there, few_transitions}
use Rattle.model.proofs.Laws.Totals.{total_most}
use Rattle.model.proofs.Laws.Header as header
use Rattle.layout.specs.declared.Layout.{Layout}
use Rattle.layout.specs.Layout.{layout_of, Passes}
use Rattle.plan.specs.Checked.{PlanChecked}
use Rattle.plan.specs.Parts.{check_words, Worded, LengthsChecked}

module _ (plan : List ℕ) (ok : Worded plan) where
  header_passed : check_header plan ≡ accepted
  unfolding check_words
  header_passed = then_left _ _ (then_left _ _ (then_left _ _ ok))

  -- the words of the clips are there: those of the states begin behind them
  pub clips_there : sample_count_at plan (clip_count plan) ≤ length plan
  unfolding check_words state_at
  clips_there = omega (arith, state_there plan 0 (each_at _ _ (then_right _ _ ok) 0 (omega (arith, header.initial_below plan header_passed))))

  pub few_transitions_in_all : transitions_before plan (state_count plan) ≤ max_states * max_transitions
  unfolding check_words transitions_before
  few_transitions_in_all =
      omega (arith, header.few_states plan header_passed, total_most (transition_count plan) max_transitions (state_count plan) (λ s h. few_transitions plan s (each_at _ _ (then_right _ _ ok) s h)))

  module _ (l : Layout) (e : l ≡ layout_of plan) where
    pub layout_small : (l.joints ≤ max_joints) × (l.clips ≤ max_clips) × (l.poses_at ≤ max_word)
    unfolding layout_of poses_at
    layout_small = rw e (header.few_joints plan header_passed, header.few_clips plan header_passed, omega (arith, header.few_clips plan header_passed, few_transitions_in_all))

    pub product_small : (s : ℕ) → s ≤ l.clips * max_word → s * l.joints ≤ max_clips * max_word * max_joints
    product_small s h = let k : s ≤ max_clips * max_word = omega (arith, layout_small) in mul-le-mul k layout_small.0

-- the words of a plan that passes
pub words_pass : {plan : List ℕ} → Passes plan → Worded plan
unfolding check check_words
words_pass ok = then_left _ _ (then_left _ _ ok.passed)

-- the count of numbers, from a layout
pub numbers_counted : (plan : List ℕ) (l : Layout) (s : ℕ) → l ≡ layout_of plan → s ≡ samples_before plan l.clips → l.poses_at + s * l.joints * 8 ≡ numbers_length plan
unfolding layout_of numbers_length
numbers_counted plan l s e h = rw (h, e)

-- ---- the parts of the check

module _ (plan : List ℕ) (n : ℕ) where
  pub refused_by_words : (A : Type 0) (r : Result Layout Refusal) (e : Refusal) → IsErrAnd r (λ y. y ≡ e) → values {A = A} (Err e) ≡ check_words plan → PlanChecked plan n r
  unfolding check check_words
  refused_by_words A (Ok l) e exit told = absurd exit
  refused_by_words A (Err y) e exit told = record { answer = leaves A (Err y) e _ exit (more A e _ _ (more A e _ _ told)); layout = tt }

  past : (u v w : Verdict) → u ≡ accepted → u then v then w ≡ v then w
  past u v w e = rw (then_accepted u v e)

  pub left_to_lengths : (r : Result Layout Refusal) → Worded plan → LengthsChecked plan n r → PlanChecked plan n r
  unfolding check check_words
  left_to_lengths r ok l = record { answer = l.answer ∙ sym (past _ _ _ ok); layout = l.layout }
