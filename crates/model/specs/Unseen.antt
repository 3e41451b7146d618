-- Document 01, "Unseen by the chosen joints": reachable, played and read as it closes them, and the numbers that are unseen. Definitions only.
use Rattle.std.specs.Prelude.{ℕ, ◌<◌, ◌≡◌, ◌⊎◌, true, false}
use mathlib.Core.List.{List, Memᴰ}
use Rattle.model.specs.Plan.{joint_count, clip_count, state_count, initial_state, sample_count, node_count, is_clip, input_a, node_parameter, transition_count, condition_parameter, target_state, NumberName, Rate, Value, Duration, PoseFloat}
use Rattle.model.specs.Uses.{is_marked, state_marks, clip_marks}

-- 'reachable': a chain of transitions leads there from the initial state
pub data Reachable (plan : List ℕ) : ℕ → Type 0 where
  initial : Reachable plan (initial_state plan)
  target : {s : ℕ} → Reachable plan s → (t : ℕ) → t < transition_count plan s → Reachable plan (target_state plan s t)

-- 'plays': a clip node of a reachable state names the clip
pub data Played (plan : List ℕ) : ℕ → Type 0 where
  by_clip : {s : ℕ} → Reachable plan s → (i : ℕ) → i < node_count plan s → is_clip plan s i ≡ true → Played plan (input_a plan s i)

-- 'reads': the parameter of a blending node, or of a condition, of a reachable state
pub data Read (plan : List ℕ) : ℕ → Type 0 where
  by_node : {s : ℕ} → Reachable plan s → (i : ℕ) → i < node_count plan s → is_clip plan s i ≡ false → Read plan (node_parameter plan s i)
  by_condition : {s : ℕ} → Reachable plan s → (t : ℕ) → t < transition_count plan s → Read plan (condition_parameter plan s t)

-- the plan has such a number
abbrev pub HasNumber : List ℕ → NumberName → Type 0
HasNumber plan (Rate c) = c < clip_count plan
HasNumber plan (Value s t) = (s < state_count plan) × (t < transition_count plan s)
HasNumber plan (Duration s t) = (s < state_count plan) × (t < transition_count plan s)
HasNumber plan (PoseFloat c n j k) = (c < clip_count plan) × (n < sample_count plan c) × (j < joint_count plan) × (k < 8)

-- 'unseen', for each kind of number, by the marks of Card 3: 'these marks are the very ones in the list of what chosen joints cannot see'. Chains.antt shows
-- that they are what `Reachable`, `Played` and `Read` close. Of the calls' part of the list, `AlikeCall` of the crate noninterference leaves values of unread parameters open,
-- and a `Call` does not even hold the old contents of its output buffer
abbrev pub Unseen : List ℕ → List ℕ → NumberName → Type 0
Unseen plan chosen (Rate c) = is_marked (clip_marks plan) c ≡ false
Unseen plan chosen (Value s t) = is_marked (state_marks plan) s ≡ false
Unseen plan chosen (Duration s t) = is_marked (state_marks plan) s ≡ false
Unseen plan chosen (PoseFloat c n j k) = (¬ Memᴰ j chosen) ⊎ (is_marked (clip_marks plan) c ≡ false)
