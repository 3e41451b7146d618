-- Which states the rounds of marking reach: those that a chain of as many transitions leads to, and after S − 1 rounds no new ones, since each round before
-- marks one more or none does from then on. Then parameters and clips, by the marked states.
use Prim.Native.Nat.{ℕ, zero, suc, ◌+◌, ◌-◌, ◌≤◌, ◌<◌}
use Rattle.std.proofs.Common.{arith, add-zero, add-suc, ◌∙◌, inl, inr}
use Rattle.std.specs.Prelude.{◌≡◌, ◌⊎◌, Bool, false, not, ◌&&◌, List, length, eqb}
use Rattle.std.proofs.Math.Path.{refl, subst}
use Rattle.std.proofs.Math.Bool.{true}
use borrow.Author.Tests.{eqb-true, eq-eqb}
use Rattle.model.specs.Answers.{accepted}
use Rattle.model.specs.Plan.{max_states, max_parameters, max_clips, clip_count, parameter_count, state_count, initial_state, node_count, is_clip, input_a, node_parameter, transition_count, condition_parameter, target_state}
use Rattle.model.specs.Check.{check, check_state}
use Rattle.model.specs.Uses.{is_marked, any_below, leads_to, blends_by, asks_for, reads, plays, reached_in, state_marks, by_marked_state, parameter_marks, clip_marks, Chain, none, further, ChainWithin, UsedWithin}
use Rattle.model.specs.Unseen.{Reachable, initial, target, Played, by_clip, Read, by_node, by_condition}
use Rattle.model.proofs.Laws.Tests.{and_left, and_right, not_true}
use Rattle.model.proofs.Laws.Passed.{initial_below, few_states, few_clips, few_parameters, state_passed, reachable_below}
use Rattle.model.proofs.Laws.State.{clip_below, parameter_below, condition_below}
use Rattle.model.proofs.Laws.Marks.{or_cases, or_first, or_second, unlike, Found, any_found, any_at, marks_length, mark_at, marked_below, marked_passes, count, one_more, some_counted, all_counted}

and_both : (a b : Bool) → a ≡ true → b ≡ true → a && b ≡ true
and_both a b e f = rw (e, f) refl

-- ---- chains and document 01's closure

pub chain_reachable : {plan : List ℕ} {n s : ℕ} → Chain plan n s → Reachable plan s
chain_reachable none = initial
chain_reachable (further c t h) = target (chain_reachable c) t h

-- ---- one round of marking

module _ (plan : List ℕ) where
  -- the tests that the marks are of
  abbrev onward : ℕ → ℕ → Bool
  onward n s = any_below (state_count plan) (λ u. is_marked (reached_in plan n) u && leads_to plan u s)

  leads_found : (u s : ℕ) → leads_to plan u s ≡ true → Found (λ t. eqb (target_state plan u t) s) (transition_count plan u)
  unfolding leads_to
  leads_found u s e = any_found _ _ e

  pub leads_at : (u t : ℕ) → t < transition_count plan u → leads_to plan u (target_state plan u t) ≡ true
  unfolding leads_to
  leads_at u t h = any_at _ _ t h (eq-eqb (target_state plan u t) (target_state plan u t) refl)

  pub leads_reachable : {u s : ℕ} → Reachable plan u → leads_to plan u s ≡ true → Reachable plan s
  leads_reachable {u} {s} r e = let x = leads_found u s e in subst (Reachable plan) (eqb-true _ _ x.passes) (target r x.which x.below)

  reached_below : (n s : ℕ) → is_marked (reached_in plan n) s ≡ true → s < max_states
  unfolding reached_in
  reached_below zero s e = marked_below _ _ s e
  reached_below (suc n) s e = marked_below _ _ s e

  reached_length : (n : ℕ) → length (reached_in plan n) ≡ max_states
  unfolding reached_in
  reached_length zero = marks_length _ max_states
  reached_length (suc n) = marks_length _ max_states

  pub state_marks_length : length (state_marks plan) ≡ max_states
  unfolding state_marks
  state_marks_length = reached_length (state_count plan - 1)

  first_reached : (s : ℕ) → is_marked (reached_in plan 0) s ≡ true → initial_state plan ≡ s
  unfolding reached_in
  first_reached s e = eqb-true _ _ (marked_passes _ max_states s e)

  next_reached : (n s : ℕ) → is_marked (reached_in plan (suc n)) s ≡ true → (is_marked (reached_in plan n) s ≡ true) ⊎ (onward n s ≡ true)
  unfolding reached_in
  next_reached n s e = or_cases (is_marked (reached_in plan n) s) (onward n s) (marked_passes _ max_states s e)

  kept : (n s : ℕ) → is_marked (reached_in plan n) s ≡ true → is_marked (reached_in plan (suc n)) s ≡ true
  unfolding reached_in
  kept n s e = mark_at _ max_states s (reached_below n s e) ∙ or_first (is_marked (reached_in plan n) s) (onward n s) e

  kept_on : (k n s : ℕ) → is_marked (reached_in plan n) s ≡ true → is_marked (reached_in plan (n + k)) s ≡ true
  kept_on zero n s e = rw add-zero e
  kept_on (suc k) n s e = rw add-suc (kept (n + k) s (kept_on k n s e))

  reached_later : (m n s : ℕ) → m ≤ n → is_marked (reached_in plan m) s ≡ true → is_marked (reached_in plan n) s ≡ true
  reached_later m n s h e = let q : m + (n - m) ≡ n = omega arith in subst (λ (k : ℕ). is_marked (reached_in plan k) s ≡ true) q (kept_on (n - m) m s e)

  -- what is marked in n rounds has its chain
  pub reached_chain : (n s : ℕ) → is_marked (reached_in plan n) s ≡ true → ChainWithin plan n s
  reached_chain zero s e = record { transitions = 0; few = omega arith; chain = subst (Chain plan 0) (first_reached s e) none }
  reached_chain (suc n) s e = go (next_reached n s e) (reached_chain n)
    where
      go : (is_marked (reached_in plan n) s ≡ true) ⊎ (onward n s ≡ true) → ((u : ℕ) → is_marked (reached_in plan n) u ≡ true → ChainWithin plan n u) → ChainWithin plan (suc n) s
      go (inl h) earlier = let c : ChainWithin plan n s = earlier s h in record { transitions = c.transitions; few = omega (arith, c.few); chain = c.chain }
      go (inr h) earlier =
          let x = any_found _ (state_count plan) h in
          let u : ℕ = x.which in
          let y = leads_found u s (and_right (is_marked (reached_in plan n) u) (leads_to plan u s) x.passes) in
          let c : ChainWithin plan n u = earlier u (and_left (is_marked (reached_in plan n) u) (leads_to plan u s) x.passes) in
          record { transitions = suc c.transitions; few = omega (arith, c.few); chain = subst (Chain plan (suc c.transitions)) (eqb-true _ _ y.passes) (further c.chain y.which y.below) }

-- ---- of a figure that a start accepts

module _ (plan : List ℕ) (k : ℕ) (ok : check plan k ≡ accepted) where
  abbrev reached : ℕ → ℕ → Bool
  reached n s = is_marked (reached_in plan n) s

  inside : {s : ℕ} → Reachable plan s → s < max_states
  inside r = omega (arith, reachable_below plan k ok r, few_states plan k ok)

  marked_inside : (n s : ℕ) → reached n s ≡ true → s < state_count plan
  marked_inside n s e = reachable_below plan k ok (chain_reachable (reached_chain plan n s e).chain)

  initial_reached : reached 0 (initial_state plan) ≡ true
  unfolding reached_in
  initial_reached = mark_at _ max_states (initial_state plan) (inside initial) ∙ eq-eqb (initial_state plan) (initial_state plan) refl

  target_reached : (n s t : ℕ) → reached n s ≡ true → t < transition_count plan s → reached (suc n) (target_state plan s t) ≡ true
  unfolding reached_in
  target_reached n s t e h =
      let goal : ℕ = target_state plan s t in
      let r : Reachable plan s = chain_reachable (reached_chain plan n s e).chain in
      mark_at _ max_states goal (inside (target r t h))
      ∙ or_second (reached n goal) (onward plan n goal)
      (any_at _ (state_count plan) s (marked_inside n s e) (and_both (reached n s) (leads_to plan s goal) e (leads_at plan s t h)))

  chain_reached : {n s : ℕ} → Chain plan n s → reached n s ≡ true
  chain_reached none = initial_reached
  chain_reached (further c t h) = target_reached _ _ t (chain_reached c) h

  -- ---- no state is first reached after S − 1 rounds: each round before that marks one more, or none does from then on

  abbrev Settled : ℕ → Type 0
  Settled n = (s : ℕ) → reached (suc n) s ≡ true → reached n s ≡ true

  settled_on : (n : ℕ) → Settled n → Settled (suc n)
  settled_on n settled s e = go (next_reached plan (suc n) s e)
    where
      go : (reached (suc n) s ≡ true) ⊎ (onward plan (suc n) s ≡ true) → reached (suc n) s ≡ true
      go (inl h) = h
      go (inr h) =
          let x = any_found _ (state_count plan) h in
          let u : ℕ = x.which in
          let y = leads_found plan u s (and_right (reached (suc n) u) (leads_to plan u s) x.passes) in
          subst (λ (v : ℕ). reached (suc n) v ≡ true) (eqb-true _ _ y.passes)
          (target_reached n u y.which (settled u (and_left (reached (suc n) u) (leads_to plan u s) x.passes)) y.below)

  -- reached in the next round only
  abbrev fresh : ℕ → ℕ → Bool
  fresh n s = reached (suc n) s && not (reached n s)

  none_fresh : (n : ℕ) → any_below (state_count plan) (fresh n) ≡ false → Settled n
  none_fresh n e s h = go (reached n s) refl
    where
      go : (t : Bool) → reached n s ≡ t → reached n s ≡ true
      go true q = q
      go false q = absurd (unlike (any_at (fresh n) (state_count plan) s (marked_inside (suc n) s h) (rw (h, q) refl)) e)

  grown : (n : ℕ) → Settled n ⊎ (n < count (reached n) (state_count plan))
  grown zero = inr (some_counted (reached 0) (state_count plan) (initial_state plan) (initial_below plan k ok) initial_reached)
  grown (suc n) = go (grown n) (any_below (state_count plan) (fresh n)) refl
    where
      go : Settled n ⊎ (n < count (reached n) (state_count plan)) → (t : Bool) → any_below (state_count plan) (fresh n) ≡ t → Settled (suc n) ⊎ (suc n < count (reached (suc n)) (state_count plan))
      go (inl settled) t e = inl (settled_on n settled)
      go (inr more) false e = inl (settled_on n (none_fresh n e))
      go (inr more) true e =
          let x : Found (fresh n) (state_count plan) = any_found (fresh n) (state_count plan) e in
          let new : reached (suc n) x.which ≡ true = and_left (reached (suc n) x.which) (not (reached n x.which)) x.passes in
          let old : reached n x.which ≡ false = not_true _ (and_right (reached (suc n) x.which) (not (reached n x.which)) x.passes) in
          inr (omega (arith, more, one_more (reached n) (reached (suc n)) (state_count plan) x.which x.below old new (λ i l q. kept plan n i q)))

  abbrev last : ℕ
  last = state_count plan - 1

  settled_last : Settled last
  settled_last s e = go (grown last)
    where
      go : Settled last ⊎ (last < count (reached last) (state_count plan)) → reached last s ≡ true
      go (inl settled) = settled s e
      go (inr more) = all_counted (reached last) (state_count plan) (omega arith) s (marked_inside (suc last) s e)

  -- ---- so the marks of states

  pub marked_chain : (s : ℕ) → is_marked (state_marks plan) s ≡ true → ChainWithin plan (state_count plan - 1) s
  unfolding state_marks
  marked_chain s e = reached_chain plan last s e

  pub chain_marked : (s : ℕ) → ChainWithin plan (state_count plan - 1) s → is_marked (state_marks plan) s ≡ true
  unfolding state_marks
  chain_marked s c = reached_later plan c.transitions last s c.few (chain_reached c.chain)

  pub marked_reachable : {s : ℕ} → is_marked (state_marks plan) s ≡ true → Reachable plan s
  marked_reachable {s} e = chain_reachable (marked_chain s e).chain

  pub reachable_marked : {s : ℕ} → Reachable plan s → is_marked (state_marks plan) s ≡ true
  unfolding state_marks
  reachable_marked initial = reached_later plan 0 last (initial_state plan) (omega arith) initial_reached
  reachable_marked (target {s = s} r t h) = settled_last (target_state plan s t) (target_reached last s t (reachable_marked r) h)

  -- ---- and those of parameters and clips

  module _ (does : ℕ → ℕ → Bool) (i : ℕ) where
    pub by_marked : by_marked_state plan does i ≡ true → UsedWithin plan (state_count plan - 1) does i
    unfolding by_marked_state
    by_marked e =
        let x = any_found _ (state_count plan) e in
        let s : ℕ = x.which in
        let marked : is_marked (state_marks plan) s ≡ true = and_left (is_marked (state_marks plan) s) (does s i) x.passes in
        record { state = s; within = marked_chain s marked; uses = and_right (is_marked (state_marks plan) s) (does s i) x.passes }

    pub by_chain : UsedWithin plan (state_count plan - 1) does i → by_marked_state plan does i ≡ true
    unfolding by_marked_state
    by_chain x =
        let s : ℕ = x.state in
        let marked : is_marked (state_marks plan) s ≡ true = chain_marked s x.within in
        any_at _ (state_count plan) s (reachable_below plan k ok (marked_reachable marked)) (and_both (is_marked (state_marks plan) s) (does s i) marked x.uses)

    pub by_reachable : {s : ℕ} → Reachable plan s → does s i ≡ true → by_marked_state plan does i ≡ true
    by_reachable {s} r e = by_chain (record { state = s; within = marked_chain s (reachable_marked r); uses = e })

    pub reached_from : (x : UsedWithin plan (state_count plan - 1) does i) → Reachable plan x.state
    reached_from x = chain_reachable x.within.chain

  passed_at : {s : ℕ} → Reachable plan s → check_state plan s ≡ accepted
  passed_at {s} r = state_passed plan k ok s (reachable_below plan k ok r)

  pub played_below : {c : ℕ} → Played plan c → c < clip_count plan
  played_below (by_clip {s = s} r i h e) = clip_below plan s (passed_at r) i h e

  pub read_below : {n : ℕ} → Read plan n → n < parameter_count plan
  read_below (by_node {s = s} r i h e) = parameter_below plan s (passed_at r) i h e
  read_below (by_condition {s = s} r t h) = condition_below plan s (passed_at r) t h

  plays_found : (s c : ℕ) → Reachable plan s → plays plan s c ≡ true → Played plan c
  unfolding plays
  plays_found s c r e =
      let x = any_found _ (node_count plan s) e in
      let i : ℕ = x.which in
      subst (Played plan) (eqb-true _ _ (and_right (is_clip plan s i) (eqb (input_a plan s i) c) x.passes))
      (by_clip r i x.below (and_left (is_clip plan s i) (eqb (input_a plan s i) c) x.passes))

  blends_found : (s n : ℕ) → Reachable plan s → blends_by plan s n ≡ true → Read plan n
  unfolding blends_by
  blends_found s n r e =
      let x = any_found _ (node_count plan s) e in
      let i : ℕ = x.which in
      subst (Read plan) (eqb-true _ _ (and_right (not (is_clip plan s i)) (eqb (node_parameter plan s i) n) x.passes))
      (by_node r i x.below (not_true _ (and_left (not (is_clip plan s i)) (eqb (node_parameter plan s i) n) x.passes)))

  asks_found : (s n : ℕ) → Reachable plan s → asks_for plan s n ≡ true → Read plan n
  unfolding asks_for
  asks_found s n r e =
      let x = any_found _ (transition_count plan s) e in
      subst (Read plan) (eqb-true _ _ x.passes) (by_condition r x.which x.below)

  reads_found : (s n : ℕ) → Reachable plan s → reads plan s n ≡ true → Read plan n
  unfolding reads
  reads_found s n r e = go (or_cases (blends_by plan s n) (asks_for plan s n) e)
    where
      go : (blends_by plan s n ≡ true) ⊎ (asks_for plan s n ≡ true) → Read plan n
      go (inl h) = blends_found s n r h
      go (inr h) = asks_found s n r h

  pub marked_played : {c : ℕ} → is_marked (clip_marks plan) c ≡ true → Played plan c
  unfolding clip_marks
  marked_played {c} e =
      let x = by_marked (plays plan) c (marked_passes _ max_clips c e) in
      plays_found x.state c (reached_from (plays plan) c x) x.uses

  pub marked_read : {n : ℕ} → is_marked (parameter_marks plan) n ≡ true → Read plan n
  unfolding parameter_marks
  marked_read {n} e =
      let x = by_marked (reads plan) n (marked_passes _ max_parameters n e) in
      reads_found x.state n (reached_from (reads plan) n x) x.uses

  plays_at : (s i : ℕ) → i < node_count plan s → is_clip plan s i ≡ true → plays plan s (input_a plan s i) ≡ true
  unfolding plays
  plays_at s i h e = any_at _ (node_count plan s) i h (and_both _ _ e (eq-eqb (input_a plan s i) (input_a plan s i) refl))

  blends_at : (s i : ℕ) → i < node_count plan s → is_clip plan s i ≡ false → blends_by plan s (node_parameter plan s i) ≡ true
  unfolding blends_by
  blends_at s i h e = any_at _ (node_count plan s) i h (and_both (not (is_clip plan s i)) _ (rw e refl) (eq-eqb (node_parameter plan s i) (node_parameter plan s i) refl))

  asks_at : (s t : ℕ) → t < transition_count plan s → asks_for plan s (condition_parameter plan s t) ≡ true
  unfolding asks_for
  asks_at s t h = any_at _ (transition_count plan s) t h (eq-eqb (condition_parameter plan s t) (condition_parameter plan s t) refl)

  reads_by_node : (s i : ℕ) → i < node_count plan s → is_clip plan s i ≡ false → reads plan s (node_parameter plan s i) ≡ true
  unfolding reads
  reads_by_node s i h e = or_first (blends_by plan s (node_parameter plan s i)) _ (blends_at s i h e)

  reads_by_condition : (s t : ℕ) → t < transition_count plan s → reads plan s (condition_parameter plan s t) ≡ true
  unfolding reads
  reads_by_condition s t h = or_second (blends_by plan s (condition_parameter plan s t)) _ (asks_at s t h)

  clip_mark : (c : ℕ) → c < clip_count plan → by_marked_state plan (plays plan) c ≡ true → is_marked (clip_marks plan) c ≡ true
  unfolding clip_marks
  clip_mark c h e = mark_at _ max_clips c (omega (arith, few_clips plan k ok)) ∙ e

  parameter_mark : (n : ℕ) → n < parameter_count plan → by_marked_state plan (reads plan) n ≡ true → is_marked (parameter_marks plan) n ≡ true
  unfolding parameter_marks
  parameter_mark n h e = mark_at _ max_parameters n (omega (arith, few_parameters plan k ok)) ∙ e

  pub played_marked : {c : ℕ} → Played plan c → is_marked (clip_marks plan) c ≡ true
  played_marked (by_clip {s = s} r i h e) =
      clip_mark (input_a plan s i) (played_below (by_clip r i h e)) (by_reachable (plays plan) (input_a plan s i) r (plays_at s i h e))

  pub read_marked : {n : ℕ} → Read plan n → is_marked (parameter_marks plan) n ≡ true
  read_marked (by_node {s = s} r i h e) =
      parameter_mark (node_parameter plan s i) (read_below (by_node r i h e)) (by_reachable (reads plan) (node_parameter plan s i) r (reads_by_node s i h e))
  read_marked (by_condition {s = s} r t h) =
      parameter_mark (condition_parameter plan s t) (read_below (by_condition r t h)) (by_reachable (reads plan) (condition_parameter plan s t) r (reads_by_condition s t h))

  -- ---- the same by the state that does it

  pub marked_reader : (n : ℕ) → is_marked (parameter_marks plan) n ≡ true → UsedWithin plan (state_count plan - 1) (reads plan) n
  unfolding parameter_marks
  marked_reader n e = by_marked (reads plan) n (marked_passes _ max_parameters n e)

  pub reader_marked : (n : ℕ) → UsedWithin plan (state_count plan - 1) (reads plan) n → is_marked (parameter_marks plan) n ≡ true
  reader_marked n x = read_marked (reads_found x.state n (reached_from (reads plan) n x) x.uses)

  pub marked_player : (c : ℕ) → is_marked (clip_marks plan) c ≡ true → UsedWithin plan (state_count plan - 1) (plays plan) c
  unfolding clip_marks
  marked_player c e = by_marked (plays plan) c (marked_passes _ max_clips c e)

  pub player_marked : (c : ℕ) → UsedWithin plan (state_count plan - 1) (plays plan) c → is_marked (clip_marks plan) c ≡ true
  player_marked c x = played_marked (plays_found x.state c (reached_from (plays plan) c x) x.uses)

  pub read_by : {s : ℕ} (n : ℕ) → Reachable plan s → reads plan s n ≡ true → is_marked (parameter_marks plan) n ≡ true
  read_by {s} n r e = read_marked (reads_found s n r e)

  pub played_by : {s : ℕ} (c : ℕ) → Reachable plan s → plays plan s c ≡ true → is_marked (clip_marks plan) c ≡ true
  played_by {s} c r e = played_marked (plays_found s c r e)
