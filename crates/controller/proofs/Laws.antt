-- What `start` makes, over plain values: blank instances from zeros one rate at a time, the fresh player state by state, and the promise of each answer.
-- Assumes nothing.
use Prim.Native.Nat.{ℕ, zero, suc, ◌+◌, ◌*◌, ◌-◌, ◌<◌}
use native.Mathlib.Omega.{arith}
use native.Mathlib.Numerals.{add-one}
use mathlib.Core.Path.{◌≡◌, sym, ap, ◌∙◌}
use mathlib.Core.List.{List, ◌∷◌, ◌++◌}
use lib.ListN.{length, set, replicate}
use lib.Ieee.{Float}
use Rattle.std.specs.Prelude.{Result, Ok, Err}
use Rattle.model.specs.declared.Player.{Player}
use Rattle.model.specs.declared.Refusal.{Refusal}
use Rattle.model.specs.Answers.{values, unless_refused}
use Rattle.model.specs.Check.{check}
use Rattle.model.specs.Plan.{max_parameters, max_clip_nodes, state_count}
use Rattle.model.specs.Numbers.{0f, 1f}
use Rattle.model.specs.Clips.{blank_instances}
use Rattle.model.specs.Tree.{synchronize}
use Rattle.model.specs.Controller.{blank, fresh, synchronize_states, with_state, with_instances}
use Rattle.model.specs.Run.{start_verdict, start_player}
use Rattle.model.specs.Promises.{Started}
use Rattle.layout.specs.declared.Layout.{Layout}
use Rattle.layout.specs.declared.StateLayout.{StateLayout}
use Rattle.layout.specs.Layout.{layout_of, state_layout}

-- ---- blank instances

-- one more instance is blank, and m still to come
one_more_blank : (n m : ℕ) → set (blank_instances n ++ replicate (3 * suc m) 0f) (3 * n + 1) 1f ≡ blank_instances (suc n) ++ replicate (3 * m) 0f
unfolding blank_instances
one_more_blank zero m = let e : 3 * suc m ≡ suc (suc (suc (3 * m))) = omega arith in rw e
one_more_blank (suc n) m =
    let e : 3 * suc n + 1 ≡ suc (suc (suc (3 * n + 1))) = omega arith in
    rw e (ap (λ (l : List Float). 0f ∷ 1f ∷ 0f ∷ l) (one_more_blank n m))

pub blank_next : (l : List Float) (n : ℕ) → n < max_clip_nodes → l ≡ blank_instances n ++ replicate (3 * (max_clip_nodes - n)) 0f → set l (3 * n + 1) 1f ≡ blank_instances (n + 1) ++ replicate (3 * (max_clip_nodes - (n + 1))) 0f
blank_next l n h e =
    let s : max_clip_nodes - n ≡ suc (max_clip_nodes - (n + 1)) = omega arith in
    rw (e, s, one_more_blank n (max_clip_nodes - (n + 1)), add-one n)

-- ---- the states, and the answers

pub one_more_state : (plan : List ℕ) (numbers parameters : List Float) (s : ℕ) (here : StateLayout) (first before after : List Float) → here ≡ state_layout plan s → parameters ≡ replicate max_parameters 0f
    → before ≡ synchronize_states plan numbers s first → after ≡ synchronize plan numbers parameters 0f here.state before → after ≡ synchronize_states plan numbers (s + 1) first
unfolding state_layout synchronize_states
one_more_state plan numbers parameters s here first before after e z b a = rw (a, e, z, b, add-one s)

pub fresh_made : (plan : List ℕ) (numbers : List Float) (l : Layout) → l ≡ layout_of plan → (b : Player) → b ≡ blank → (after : List Float)
    → after ≡ synchronize_states plan numbers (state_count plan) b.instances → with_instances (with_state b l.initial) after ≡ fresh plan numbers
unfolding fresh layout_of
fresh_made plan numbers l found b e after a = rw (a, e, found)

-- the check's answer is the start's
module _ (plan : List ℕ) (numbers : List Float) {A : Type 0} (k : Result A Refusal) (done : values k ≡ check plan (length numbers)) (a : Result Unit Refusal) (told : values a ≡ values k) (q : Player) where
  pub start_handed : (x : Refusal) → k ≡ Err x → q ≡ blank → Started plan numbers (record { answer = a; player = q })
  unfolding values start_verdict start_player unless_refused
  start_handed x e f = record { answer = told ∙ done; player = rw (sym done ∙ ap values e) f }

  pub start_accepted : (x : A) → k ≡ Ok x → q ≡ fresh plan numbers → Started plan numbers (record { answer = a; player = q })
  unfolding values start_verdict start_player unless_refused
  start_accepted x e f = record { answer = told ∙ done; player = rw (sym done ∙ ap values e) f }
