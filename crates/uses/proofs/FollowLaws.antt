-- What is known while states are followed, one after the other, and that in the end the marks are the figure's. Assumes nothing.
use Prim.Native.Nat.{ℕ, zero, suc, ◌+◌, ◌-◌, ◌≤◌, ◌<◌}
use native.Mathlib.Omega.{arith}
use mathlib.Core.Path.{◌≡◌, refl, sym, ◌∙◌, subst}
use mathlib.Core.Logic.{◌⊎◌, inl, inr}
use mathlib.Core.Bool.{Bool, true, false}
use mathlib.Core.List.{List}
use Rattle.std.specs.Prelude.{Some, None}
use lib.ListN.{length, set, replicate, length-replicate}
use lib.Seq.{ext_get_or}
use lib.Dec.{eqb}
use borrow.Author.Tests.{eqb-true, eq-eqb}
use Rattle.model.specs.declared.Uses.{Uses}
use Rattle.model.specs.Plan.{max_states, max_parameters, max_clips, state_count, initial_state, target_state}
use Rattle.model.specs.Uses.{is_marked, leads_to, reads, plays, state_marks, parameter_marks, clip_marks, UsedWithin}
use Rattle.model.specs.Unseen.{Reachable, initial, target}
use Rattle.model.proofs.Laws.Marks.{or_cases, or_first, or_second, same_test, unlike, marks_length, count, one_more, all_counted}
use Rattle.model.proofs.Laws.Passed.{few_states, initial_below, reachable_below}
use Rattle.model.proofs.Laws.Reached.{chain_reachable, leads_at, leads_reachable, state_marks_length, marked_reachable, reachable_marked, marked_reader, marked_player, read_by, played_by}
use Rattle.layout.specs.Layout.{Passes}
use Rattle.uses.specs.Marking.{Marked, AllMarked, first_open, MarksOf}
use Rattle.uses.proofs.Laws.{marked_one, open_found, none_open}

pub record Following (plan : List ℕ) (marks : Uses) (followed : List Bool) (rounds : ℕ) : Type 0 where
  pub states_long : length marks.states ≡ max_states
  pub parameters_long : length marks.parameters ≡ max_parameters
  pub clips_long : length marks.clips ≡ max_clips
  pub followed_long : length followed ≡ max_states
  -- no mark is wrong
  pub reached : (s : ℕ) → is_marked marks.states s ≡ true → Reachable plan s
  pub read : (n : ℕ) → is_marked marks.parameters n ≡ true → is_marked (parameter_marks plan) n ≡ true
  pub played : (c : ℕ) → is_marked marks.clips c ≡ true → is_marked (clip_marks plan) c ≡ true
  -- the initial state is marked, and all that a followed one leads to and uses
  pub begun : is_marked marks.states (initial_state plan) ≡ true
  pub led : (s u : ℕ) → is_marked followed s ≡ true → leads_to plan s u ≡ true → is_marked marks.states u ≡ true
  pub reader : (s n : ℕ) → is_marked followed s ≡ true → reads plan s n ≡ true → is_marked marks.parameters n ≡ true
  pub player : (s c : ℕ) → is_marked followed s ≡ true → plays plan s c ≡ true → is_marked marks.clips c ≡ true
  -- each round follows one more
  pub counted : rounds ≤ count (is_marked followed) (state_count plan)

-- marks added by a test: those that were there, those that pass, and no others
module _ {f : ℕ → Bool} {before after : List Bool} (x : Marked f before after) (k : ℕ) where
  pub stays : is_marked before k ≡ true → is_marked after k ≡ true
  stays e = x.mark k ∙ or_first (is_marked before k) (f k) e

  pub comes : f k ≡ true → is_marked after k ≡ true
  comes e = x.mark k ∙ or_second (is_marked before k) (f k) e

  pub either : is_marked after k ≡ true → (is_marked before k ≡ true) ⊎ (f k ≡ true)
  either e = or_cases (is_marked before k) (f k) (sym (x.mark k) ∙ e)

module _ {plan : List ℕ} (passes : Passes plan) where
  abbrev n : ℕ
  n = passes.numbers

  -- ---- one more state is followed

  module _ {marks : Uses} {followed : List Bool} {rounds : ℕ} (so_far : Following plan marks followed rounds) where
    same_long : length marks.states ≡ length followed
    same_long = so_far.states_long ∙ sym so_far.followed_long

    module _ {s : ℕ} (opened : Some s ≡ first_open marks.states followed) where
      marked : is_marked marks.states s ≡ true
      marked = (open_found _ _ same_long s opened).0

      fresh : is_marked followed s ≡ false
      fresh = (open_found _ _ same_long s opened).1

      here : Reachable plan s
      here = so_far.reached s marked

      pub below : s < state_count plan
      below = reachable_below plan n passes.passed here

      inside : s < length followed
      inside = omega (arith, below, so_far.followed_long, few_states plan n passes.passed)

      one : Marked (λ k. eqb s k) followed (set followed s true)
      one = marked_one followed s inside

      -- a state that is followed now was before, or is this one
      now_followed : (u : ℕ) → is_marked (set followed s true) u ≡ true → (is_marked followed u ≡ true) ⊎ (s ≡ u)
      now_followed u e = go (either one u e)
        where
          go : (is_marked followed u ≡ true) ⊎ (eqb s u ≡ true) → (is_marked followed u ≡ true) ⊎ (s ≡ u)
          go (inl h) = inl h
          go (inr h) = inr (eqb-true s u h)

      -- what holds of the states before and of this one holds of all
      all : (P : ℕ → Type 0) → ((u : ℕ) → is_marked followed u ≡ true → P u) → P s → (u : ℕ) → is_marked (set followed s true) u ≡ true → P u
      all P old new u e = go (now_followed u e)
        where
          go : (is_marked followed u ≡ true) ⊎ (s ≡ u) → P u
          go (inl h) = old u h
          go (inr h) = rw (← h) new

      -- a mark is right that was, or that this state brings
      right : (P : ℕ → Type 0) {f : ℕ → Bool} {old new : List Bool} → Marked f old new → ((k : ℕ) → is_marked old k ≡ true → P k) → ((k : ℕ) → f k ≡ true → P k)
          → (k : ℕ) → is_marked new k ≡ true → P k
      right P {f} {old} m was brings k e = go (either m k e)
        where
          go : (is_marked old k ≡ true) ⊎ (f k ≡ true) → P k
          go (inl h) = was k h
          go (inr h) = brings k h

      pub following_next : {next : Uses} → AllMarked (leads_to plan s) (reads plan s) (plays plan s) marks next → Following plan next (set followed s true) (rounds + 1)
      following_next {next} m =
          let x = m.states in
          let y = m.parameters in
          let z = m.clips in
          record {
            states_long = x.long ∙ so_far.states_long;
            parameters_long = y.long ∙ so_far.parameters_long;
            clips_long = z.long ∙ so_far.clips_long;
            followed_long = one.long ∙ so_far.followed_long;
            reached = right (Reachable plan) x so_far.reached (λ u e. leads_reachable plan here e);
            read = right (λ k. is_marked (parameter_marks plan) k ≡ true) y so_far.read (λ k e. read_by plan n passes.passed k here e);
            played = right (λ k. is_marked (clip_marks plan) k ≡ true) z so_far.played (λ k e. played_by plan n passes.passed k here e);
            begun = stays x (initial_state plan) so_far.begun;
            led = λ u v e. all (λ w. leads_to plan w v ≡ true → is_marked next.states v ≡ true) (λ w h l. stays x v (so_far.led w v h l)) (comes x v) u e;
            reader = λ u k e. all (λ w. reads plan w k ≡ true → is_marked next.parameters k ≡ true) (λ w h l. stays y k (so_far.reader w k h l)) (comes y k) u e;
            player = λ u k e. all (λ w. plays plan w k ≡ true → is_marked next.clips k ≡ true) (λ w h l. stays z k (so_far.player w k h l)) (comes z k) u e;
            counted = omega (arith, so_far.counted, one_more (is_marked followed) (is_marked (set followed s true)) (state_count plan) s below fresh (comes one s (eq-eqb s s refl)) (λ k h e. stays one k e));
          }

    -- ---- all marked ones are followed

    abbrev Done : Type 0
    Done = (s : ℕ) → s < state_count plan → is_marked marks.states s ≡ true → is_marked followed s ≡ true

    pub none_left : None ≡ first_open marks.states followed → Done
    none_left e s h = none_open _ _ same_long s e (omega (arith, so_far.states_long, few_states plan n passes.passed))

    pub all_followed : rounds ≡ state_count plan → Done
    all_followed e s below h = all_counted (is_marked followed) (state_count plan) (omega (arith, so_far.counted)) s below

    module _ (done : Done) where
      complete : {s : ℕ} → Reachable plan s → is_marked marks.states s ≡ true
      complete initial = so_far.begun
      complete (target {s = s} r t h) = so_far.led s (target_state plan s t) (done s (reachable_below plan n passes.passed r) (complete r)) (leads_at plan s t h)

      by_state : {does : ℕ → ℕ → Bool} {k : ℕ} (x : UsedWithin plan (state_count plan - 1) does k) → is_marked followed x.state ≡ true
      by_state x =
          let r : Reachable plan x.state = chain_reachable x.within.chain in
          done x.state (reachable_below plan n passes.passed r) (complete r)

      states_marked : marks.states ≡ state_marks plan
      states_marked =
          ext_get_or false marks.states (state_marks plan) (so_far.states_long ∙ sym (state_marks_length plan))
          (λ s h. same_test _ _ (λ e. reachable_marked plan n passes.passed (so_far.reached s e)) (λ e. complete (marked_reachable plan n passes.passed e)))

      parameters_marked : marks.parameters ≡ parameter_marks plan
      unfolding parameter_marks
      parameters_marked =
          ext_get_or false marks.parameters (parameter_marks plan) (so_far.parameters_long ∙ sym (marks_length _ max_parameters))
          (λ k h. same_test _ _ (so_far.read k) (λ e. let x = marked_reader plan n passes.passed k e in so_far.reader x.state k (by_state x) x.uses))

      clips_marked : marks.clips ≡ clip_marks plan
      unfolding clip_marks
      clips_marked =
          ext_get_or false marks.clips (clip_marks plan) (so_far.clips_long ∙ sym (marks_length _ max_clips))
          (λ k h. same_test _ _ (so_far.played k) (λ e. let x = marked_player plan n passes.passed k e in so_far.player x.state k (by_state x) x.uses))

      pub marks_found : MarksOf plan marks
      marks_found = record { states = states_marked; parameters = parameters_marked; clips = clips_marked }

  -- ---- the beginning

  none_marked : (m k : ℕ) → is_marked (replicate m false) k ≡ true → ⊥
  none_marked m k e = unlike e (blank m k)
    where
      blank : (m k : ℕ) → is_marked (replicate m false) k ≡ false
      blank zero k = refl
      blank (suc m) zero = refl
      blank (suc m) (suc k) = blank m k

  pub following_first : Following plan (record { states = set (replicate max_states false) (initial_state plan) true; parameters = replicate max_parameters false; clips = replicate max_clips false }) (replicate max_states false) 0
  following_first =
      let one = marked_one (replicate max_states false) (initial_state plan) (omega (arith, length-replicate max_states false, initial_below plan n passes.passed, few_states plan n passes.passed)) in
      record {
        states_long = one.long ∙ length-replicate max_states false;
        parameters_long = length-replicate max_parameters false;
        clips_long = length-replicate max_clips false;
        followed_long = length-replicate max_states false;
        reached = λ s e. only s (either one s e);
        read = λ k e. absurd (none_marked max_parameters k e);
        played = λ k e. absurd (none_marked max_clips k e);
        begun = comes one (initial_state plan) (eq-eqb (initial_state plan) (initial_state plan) refl);
        led = λ s u e. absurd (none_marked max_states s e);
        reader = λ s k e. absurd (none_marked max_states s e);
        player = λ s k e. absurd (none_marked max_states s e);
        counted = omega arith;
      }
    where
      only : (s : ℕ) → (is_marked (replicate max_states false) s ≡ true) ⊎ (eqb (initial_state plan) s ≡ true) → Reachable plan s
      only s (inl h) = absurd (none_marked max_states s h)
      only s (inr h) = subst (Reachable plan) (eqb-true _ _ h) initial
