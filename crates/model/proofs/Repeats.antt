-- Document 02, Card 7: what is counted of a clip that loops, and the order of its refusals. Theorems over the definitions.
use Rattle.std.specs.Prelude.{ℕ, ◌+◌, ◌*◌, ◌/◌, ◌%◌, ◌<◌, ◌≡◌, List, Float}
use Rattle.std.proofs.Common.{arith, div-add-mod', ◌∙◌}
use Rattle.std.proofs.Math.Nat.{zero-div, zero-mod, mod-lt, mod-eq_of_lt, div-eq_of_lt, mul-add-div_right, mul-add-mod_self_right, add-zero}
use Rattle.std.proofs.Math.Path.{refl, sym, ap}
use Rattle.std.proofs.Math.Bool.{true, false}
use Rattle.std.specs.Float.Ieee.{nan, up, down, lt, to_unsigned, of_bits}
use Rattle.std.specs.Float.{inf, fin}
use borrow.Author.Tests.{ltb-true}
use Rattle.model.specs.declared.Player.{Player}
use Rattle.model.specs.declared.Pose.{Pose}
use Rattle.model.specs.Numbers.{0f, floor_index}
use Rattle.model.specs.Answers.{accepted}
use Rattle.model.specs.Plan.{is_clip, input_a}
use Rattle.model.specs.Clips.{first_index, pose_at, clip_pose}
use Rattle.model.specs.Tree.{node_pose}
use Rattle.model.specs.Loops.{loops_verdict, loop_length, played_position, played_index, whole_loops, loop_rest}
use Rattle.model.proofs.Laws.Opened.{all_opened, floats_opened}
use Rattle.model.proofs.Laws.Loops.{has_samples}
use Rattle.model.proofs.Laws.Wholes.{floor_is}
use Rattle.model.specs.Repeats.{LoopCases, Judged, NotSynchronized}

module _ (plan : List ℕ) (numbers : List Float) (p : Player) (s n : ℕ) (time : Float) where
  abbrev N : ℕ
  N = loop_length plan s n

  abbrev at : Float
  at = played_position plan numbers p s n time

  abbrev loops : ℕ
  loops = whole_loops plan numbers p s n time

  abbrev rest : ℕ
  rest = loop_rest plan numbers p s n time

  -- ---- 'the position's floor as an index equals loops times N plus rest, with rest below N'

  module _ (e : loops_verdict plan numbers p s n ≡ accepted) where
    pub equation : played_index plan numbers p s n time ≡ loops * N + rest
    unfolding whole_loops loop_rest
    equation = sym (div-add-mod' (played_index plan numbers p s n time) N)

    pub bound : rest < N
    unfolding loop_rest
    bound = mod-lt (played_index plan numbers p s n time) (has_samples plan numbers p s n e)

    -- which holds of no other two numbers
    pub no_other : (l r : ℕ) → played_index plan numbers p s n time ≡ l * N + r → r < N → (l ≡ loops) × (r ≡ rest)
    unfolding whole_loops loop_rest
    no_other l r is small =
        let some = has_samples plan numbers p s n e in (
          sym (ap (λ (i : ℕ). i / N) is ∙ mul-add-div_right some l r ∙ ap (λ (x : ℕ). l + x) (div-eq_of_lt small) ∙ add-zero l),
          sym (ap (λ (i : ℕ). i % N) is ∙ mul-add-mod_self_right l N r ∙ mod-eq_of_lt small),
        )

  -- ---- 'negative and NaN positions give 0 and 0'

  none : floor_index at ≡ 0 → (loops ≡ 0) × (rest ≡ 0)
  unfolding whole_loops loop_rest played_index
  none e = (ap (λ (i : ℕ). i / N) e ∙ zero-div N, ap (λ (i : ℕ). i % N) e ∙ zero-mod N)

  pub negative_none : lt at 0f ≡ true → (loops ≡ 0) × (rest ≡ 0)
  unfolding lt to_unsigned of_bits
  negative_none h = none (floor_is at ∙ below at h)
    where
      below : (x : Float) → lt x 0f ≡ true → to_unsigned 64 x ≡ 0
      below nan h = cc
      below (inf true) h = refl
      below (inf false) h = cc
      below (fin true m e) h = refl
      below (fin false m e) h = let k = ltb-true (m * up e * 1) (0 * 1 * down e) h in absurd (omega arith)

  pub nan_none : at ≡ nan → (loops ≡ 0) × (rest ≡ 0)
  unfolding to_unsigned
  nan_none e = none (ap floor_index e ∙ floor_is nan)

  -- ---- the position is the evaluator's: the rest is the sample that it shows first, and it shows the node's pose there

  pub rest_shown : rest ≡ first_index N at
  unfolding loop_rest played_index first_index
  rest_shown = refl

  pub shown_there : is_clip plan s n ≡ true → (parameters : List Float) (j : ℕ) (earlier : List Pose)
      → node_pose plan numbers parameters time s p.instances j earlier n ≡ pose_at plan numbers (input_a plan s n) j at
  unfolding node_pose clip_pose
  shown_there e parameters j earlier = rw e

  -- 'the player's clip instance as handed in': nothing else of the player counts
  pub as_handed_in : (q : Player) → p.instances ≡ q.instances
      → (loops ≡ whole_loops plan numbers q s n time) × (rest ≡ loop_rest plan numbers q s n time)
  unfolding whole_loops loop_rest played_index
  as_handed_in q e = (rw e, rw e)

-- ---- positions by their bits, in loops of so many samples, by computing

pub loop_cases : LoopCases
unfolding floats_opened
loop_cases =
    record {
      first_loop = (refl, refl);
      next_loop = (refl, refl);
      floor_counts = (refl, refl);
      whole_loops_lem = (refl, refl);
      exact = (refl, refl);
      largest = (refl, refl);
      infinite = (refl, refl);
      negative = (refl, refl);
      minus_zero = (refl, refl);
      minus_infinity = (refl, refl);
      not_a_number_lem = (refl, refl);
    }

-- ---- the order of refusals, and that nothing is synchronised first, in one figure

pub judged : Judged
unfolding all_opened loops_verdict
judged = record { accepts = refl; no_state = refl; no_node = refl; no_clip = refl; no_clip_either = refl; stopping = refl; empty = refl; other_state = refl }

pub not_synchronized : NotSynchronized
unfolding all_opened whole_loops loop_rest played_index
not_synchronized = record { before = (refl, refl); behind_a_frame = (refl, refl) }
