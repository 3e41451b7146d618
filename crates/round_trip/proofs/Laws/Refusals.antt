-- The plan and numbers of a text are as long as its counts say, so none of the refusals about lengths is given to them.
use Prim.Native.Nat.{ℕ, zero, suc, ◌+◌, ◌-◌, ◌*◌, ◌≤◌, ◌<◌}
use native.Mathlib.Omega.{arith}
use Rattle.std.proofs.Common.{add-zero, lt-ltb, le-leb, eq-eqb}
use Rattle.std.specs.Prelude.{◌≡◌, Bool, true, false, List, length, leb, eqb}
use Rattle.std.proofs.Math.Path.{refl, ap}
use Rattle.model.specs.Answers.{Verdict, accepted, refused, ◌then◌, each, require}
use Rattle.model.specs.Plan.{parent_at, joint_count, clip_count, state_count, sample_count_at, ending_at, after_nodes, after_transitions, state_at, node_count, kind_at, transition_count_at, transition_count, condition_parameter_at, plan_end, numbers_length}
use Rattle.model.specs.Check.{within, word_is, check_header, check_parent, check_clip, check_node, check_transition, check_state, check}
use Rattle.round_trip.specs.RoundTrip.{is_of_content, of_content}

-- ---- rows of checks

and_then : (a b : Verdict) → of_content a → of_content b → of_content (a then b)
unfolding ◌then◌
and_then accepted b p q = q
and_then (refused n place rest) b p q = p

all : (n : ℕ) (f : ℕ → Verdict) → ((i : ℕ) → i < n → of_content (f i)) → of_content (each n f)
unfolding each of_content
all zero f ok = tt
all (suc n) f ok = and_then (each n f) (f n) (all n f (λ i h. ok i (omega arith))) (ok n (omega arith))

-- a check of a word's content, by its number
test : (ok : Bool) (number place : ℕ) → is_of_content number ≡ true → of_content (require ok number place)
unfolding require of_content
test true number place h = tt
test false number place h = h

module _ (plan : List ℕ) where
  word_test : (number place : ℕ) (ok : Bool) → place < length plan → is_of_content number ≡ true → of_content (word_is plan number place ok)
  unfolding word_is require ◌then◌
  word_test number place ok there h = rw (lt-ltb place (length plan) there) (test ok number place h)

  -- ---- places

  end_after : (s : ℕ) → state_at plan s < state_at plan (suc s)
  unfolding state_at after_transitions after_nodes
  end_after s = omega arith

  earlier : (s n : ℕ) → state_at plan s ≤ state_at plan (n + s)
  earlier s zero = let e : 0 + s ≡ s = omega arith in rw e (omega arith)
  earlier s (suc n) = let e : suc n + s ≡ suc (n + s) = omega arith in rw e (omega (arith, earlier s n, end_after (n + s)))

  module _ (whole : length plan ≡ plan_end plan) where
    state_inside : (s : ℕ) → s < state_count plan → state_at plan (suc s) ≤ length plan
    unfolding plan_end
    state_inside s h =
        let k = state_count plan - suc s in
        let e : k + suc s ≡ state_count plan = omega arith in
        let m : state_at plan (suc s) ≤ state_at plan (k + suc s) = earlier (suc s) k in
        omega (arith, whole, ap (state_at plan) e, m)

    clips_inside : sample_count_at plan (clip_count plan) ≤ length plan
    unfolding plan_end state_at
    clips_inside = let m : state_at plan 0 ≤ state_at plan (state_count plan + 0) = earlier 0 (state_count plan) in omega (arith, whole, m, ap (state_at plan) (add-zero (state_count plan)))

    -- ---- the check

    header_of : of_content (check_header plan)
    unfolding check_header sample_count_at within
    header_of =
        let at : (place : ℕ) (ok : Bool) → place < 5 → of_content (word_is plan 2 place ok) = λ place ok h. word_test 2 place ok (omega (arith, clips_inside)) refl in
        and_then _ _ (and_then _ _ (and_then _ _ (and_then _ _ (at 0 _ (omega arith)) (at 1 _ (omega arith))) (at 2 _ (omega arith))) (at 3 _ (omega arith))) (at 4 _ (omega arith))

    parent_of : (j : ℕ) → j < joint_count plan → of_content (check_parent plan j)
    unfolding check_parent sample_count_at within
    parent_of j h = word_test 3 (parent_at j) _ (omega (arith, clips_inside)) refl

    clip_of_lem : (c : ℕ) → c < clip_count plan → of_content (check_clip plan c)
    unfolding check_clip sample_count_at ending_at within
    clip_of_lem c h =
        and_then _ _ (word_test 2 (sample_count_at plan c) _ (omega (arith, clips_inside)) refl) (word_test 14 (ending_at plan c) _ (omega (arith, clips_inside)) refl)

    module _ (s : ℕ) (below : s < state_count plan) where
      state_places : after_nodes plan (state_at plan s) + 1 + 3 * transition_count plan s ≤ length plan
      unfolding state_at after_transitions transition_count transition_count_at
      state_places = omega (arith, state_inside s below)

      node_of : (i : ℕ) → i < node_count plan s → of_content (check_node plan s i)
      unfolding check_node kind_at after_nodes node_count within
      node_of i h =
          let at : (k : ℕ) (ok : Bool) → k < 4 → of_content (word_is plan 4 (kind_at plan s i + k) ok) = λ k ok l. word_test 4 (kind_at plan s i + k) ok (omega (arith, state_places)) refl in
          let first : of_content (word_is plan 4 (kind_at plan s i) _) = word_test 4 (kind_at plan s i) _ (omega (arith, state_places)) refl in
          and_then _ _ (and_then _ _ (and_then _ _ (and_then _ _ first (test _ 2 (kind_at plan s i) refl)) (at 1 _ (omega arith))) (at 2 _ (omega arith))) (at 3 _ (omega arith))

      transition_of_lem : (t : ℕ) → t < transition_count plan s → of_content (check_transition plan s t)
      unfolding check_transition condition_parameter_at transition_count_at within
      transition_of_lem t h =
          let at : (k : ℕ) (ok : Bool) → k < 3 → of_content (word_is plan 5 (condition_parameter_at plan s t + k) ok) = λ k ok l. word_test 5 (condition_parameter_at plan s t + k) ok (omega (arith, state_places)) refl in
          let first : of_content (word_is plan 5 (condition_parameter_at plan s t) _) = word_test 5 (condition_parameter_at plan s t) _ (omega (arith, state_places)) refl in
          and_then _ _ (and_then _ _ first (at 1 _ (omega arith))) (at 2 _ (omega arith))

      state_of : of_content (check_state plan s)
      unfolding check_state after_nodes transition_count_at within
      state_of =
          and_then _ _ (and_then _ _ (and_then _ _ (and_then _ _
          (word_test 2 (state_at plan s) _ (omega (arith, state_places)) refl)
          (all (node_count plan s) (check_node plan s) node_of))
          (all (node_count plan s - 1) _ (λ k h. test _ 4 (state_at plan s) refl)))
          (word_test 2 (transition_count_at plan s) _ (omega (arith, state_places)) refl))
          (all (transition_count plan s) (check_transition plan s) transition_of_lem)

    pub check_of : (n : ℕ) → n ≡ numbers_length plan → of_content (check plan n)
    unfolding check require of_content
    check_of n e =
        let words : require (leb (length plan) (plan_end plan)) 6 (plan_end plan) ≡ accepted = rw (le-leb (length plan) (plan_end plan) (omega (arith, whole))) in
        let numbers : require (eqb n (numbers_length plan)) 7 0 ≡ accepted = rw (eq-eqb n (numbers_length plan) e) in
        and_then _ _ (and_then _ _ (and_then _ _ (and_then _ _ (and_then _ _ header_of
        (all (joint_count plan) (check_parent plan) parent_of))
        (all (clip_count plan) (check_clip plan) clip_of_lem))
        (all (state_count plan) (check_state plan) state_of))
        (rw words tt))
        (rw numbers tt)
