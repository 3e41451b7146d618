-- A plan that the check accepts is one that a text can hold.
use Prim.Native.Nat.{ℕ, zero, suc, ◌≤◌, ◌<◌}
use Rattle.std.proofs.Common.{arith}
use Rattle.std.specs.Prelude.{◌≡◌, List}
use Rattle.std.proofs.Math.Path.{refl}
use Rattle.std.proofs.Math.ListN.{length}
use borrow.Author.Tests.{leb-true}
use Rattle.model.specs.Answers.{accepted}
use Rattle.model.specs.Plan.{word, state_count, after_transitions, state_at, transition_count_at, transition_count, condition_parameter_at, plan_end}
use Rattle.model.specs.Text.{max_word}
use Rattle.model.specs.Check.{check}
use Rattle.model.proofs.Laws.Answers.{then_left, then_right, require_true}
use Rattle.model.proofs.Laws.State.{few_nodes, few_transitions, transition_count_there, transition_there}
use Rattle.model.proofs.Laws.Passed.{initial_below, few_joints, few_clips, few_parameters, few_states, few_samples, state_passed, numbers_fit}
use Rattle.round_trip.specs.Counted.{CountedPlan}

module _ (plan : List ℕ) (n : ℕ) (ok : check plan n ≡ accepted) where
  -- refusal 6 did not come
  none_left : length plan ≤ plan_end plan
  unfolding check
  none_left = leb-true _ _ (require_true _ _ _ (then_right _ _ (then_left _ _ ok)))

  -- nor did 1: a state's last word is its last transition's, or T
  state_there : (s : ℕ) → s < state_count plan → state_at plan (suc s) ≤ length plan
  unfolding state_at after_transitions transition_count_at transition_count condition_parameter_at
  state_there s h = go (transition_count plan s) refl
    where
      go : (t : ℕ) → transition_count plan s ≡ t → state_at plan (suc s) ≤ length plan
      go zero e = omega (arith, e, transition_count_there plan s (state_passed plan n ok s h))
      go (suc t) e = omega (arith, e, transition_there plan s (state_passed plan n ok s h) t (omega (arith, e)))

  all_there : plan_end plan ≤ length plan
  unfolding plan_end
  all_there = go (state_count plan) refl
    where
      go : (m : ℕ) → state_count plan ≡ m → state_at plan (state_count plan) ≤ length plan
      go zero e = absurd (omega (arith, e, initial_below plan n ok))
      go (suc s) e = rw e (state_there s (omega (arith, e)))

  pub counted : ((i : ℕ) → word plan i ≤ max_word) → CountedPlan plan n
  counted words =
      record {
        words = words;
        joints = few_joints plan n ok;
        clips = few_clips plan n ok;
        parameters = few_parameters plan n ok;
        states = few_states plan n ok;
        samples = few_samples plan n ok;
        nodes = λ s h. few_nodes plan s (state_passed plan n ok s h);
        transitions = λ s h. few_transitions plan s (state_passed plan n ok s h);
        plan_length = omega (arith, none_left, all_there);
        numbers_count = numbers_fit plan n ok;
      }
