-- Document 02, Card 3, "What can ever matter": the states that are reachable, the parameters that such a state reads and the clips that it plays, as marks
-- that compute. Definitions only.
use Rattle.std.specs.Prelude.{ℕ, zero, suc, ◌-◌, ◌≤◌, ◌<◌, ◌≡◌, Bool, true, false, not, ◌&&◌, ◌||◌, List, get_or, eqb}
use Rattle.model.specs.Plan.{max_clips, max_parameters, max_states, state_count, initial_state, node_count, is_clip, input_a, node_parameter, transition_count, condition_parameter, target_state}
use Rattle.model.specs.Table.{table_to}

-- ---- marks

-- of the numbers below n, by a test
abbrev pub marks : ℕ → (ℕ → Bool) → List Bool
marks n f = table_to (λ done k. f k) n

abbrev pub is_marked : List Bool → ℕ → Bool
is_marked ms k = get_or ms k false

-- whether one of f 0, .., f (n - 1) holds
unfoldable pub any_below : ℕ → (ℕ → Bool) → Bool
any_below zero f = false
any_below (suc n) f = any_below n f || f n

-- ---- what one state uses

-- a transition of state u leads to state s
unfoldable pub leads_to : List ℕ → ℕ → ℕ → Bool
leads_to plan u s = any_below (transition_count plan u) (λ t. eqb (target_state plan u t) s)

-- node i of state s is a lerp or additive node, and reads parameter n
abbrev pub node_reads : List ℕ → ℕ → ℕ → ℕ → Bool
node_reads plan s i n = not (is_clip plan s i) && eqb (node_parameter plan s i) n

unfoldable pub blends_by : List ℕ → ℕ → ℕ → Bool
blends_by plan s n = any_below (node_count plan s) (λ i. node_reads plan s i n)

-- a condition of state s reads parameter n
unfoldable pub asks_for : List ℕ → ℕ → ℕ → Bool
asks_for plan s n = any_below (transition_count plan s) (λ t. eqb (condition_parameter plan s t) n)

-- state s 'reads' parameter n: by a lerp or additive node, or by a condition
unfoldable pub reads : List ℕ → ℕ → ℕ → Bool
reads plan s n = blends_by plan s n || asks_for plan s n

-- node i of state s is a clip node, and names clip c, whether that has samples or not
abbrev pub node_plays : List ℕ → ℕ → ℕ → ℕ → Bool
node_plays plan s i c = is_clip plan s i && eqb (input_a plan s i) c

-- state s 'plays' clip c
unfoldable pub plays : List ℕ → ℕ → ℕ → Bool
plays plan s c = any_below (node_count plan s) (λ i. node_plays plan s i c)

-- ---- the figure's marks

-- the states to which a chain of at most n transitions leads from the initial one
unfoldable pub reached_in : List ℕ → ℕ → List Bool
reached_in plan zero = marks max_states (λ s. eqb (initial_state plan) s)
reached_in plan (suc n) =
    let before = reached_in plan n in
    marks max_states (λ s. is_marked before s || any_below (state_count plan) (λ u. is_marked before u && leads_to plan u s))

-- 'a state is marked exactly when a chain of at most S − 1 transitions leads to it from the initial one'
unfoldable pub state_marks : List ℕ → List Bool
state_marks plan = reached_in plan (state_count plan - 1)

-- whether a marked state passes a test with k
unfoldable pub by_marked_state : List ℕ → (ℕ → ℕ → Bool) → ℕ → Bool
by_marked_state plan does k = any_below (state_count plan) (λ s. is_marked (state_marks plan) s && does s k)

-- 'which parameters a reachable state reads'
unfoldable pub parameter_marks : List ℕ → List Bool
parameter_marks plan = marks max_parameters (by_marked_state plan (reads plan))

-- 'and which clips it plays'
unfoldable pub clip_marks : List ℕ → List Bool
clip_marks plan = marks max_clips (by_marked_state plan (plays plan))

-- ---- chains, which the marks are about

-- so many transitions, one behind the other, lead from the initial state to this one
pub data Chain (plan : List ℕ) : ℕ → ℕ → Type 0 where
  none : Chain plan 0 (initial_state plan)
  further : {n s : ℕ} → Chain plan n s → (t : ℕ) → t < transition_count plan s → Chain plan (suc n) (target_state plan s t)

-- 'a chain of at most' so many transitions
pub record ChainWithin (plan : List ℕ) (most s : ℕ) : Type 0 where
  pub transitions : ℕ
  pub few : transitions ≤ most
  pub chain : Chain plan transitions s

-- a state to which such a chain leads passes a test with k
pub record UsedWithin (plan : List ℕ) (most : ℕ) (does : ℕ → ℕ → Bool) (k : ℕ) : Type 0 where
  pub state : ℕ
  pub within : ChainWithin plan most state
  pub uses : does state k ≡ true
