-- Document 02, Card 7, "Loops played, and the rest". Definitions only.
use Rattle.std.specs.Prelude.{ℕ, ◌/◌, ◌%◌, Bool, not, ◌&&◌, ◌||◌, List, ltb, Float}
use Rattle.model.specs.declared.Player.{Player}
use Rattle.model.specs.Numbers.{floor_index}
use Rattle.model.specs.Answers.{Verdict, ◌then◌, require}
use Rattle.model.specs.Plan.{state_count, node_count, is_clip, input_a, clip_node_at, sample_count, is_empty, is_stopping}
use Rattle.model.specs.Clips.{local_time, instance_at, position_of}
use Rattle.model.specs.Controller.{play_verdict}

-- ---- of node n of state s

-- refusal 16 'if state or node is absent or the node isn't a clip'
abbrev pub is_clip_node : List ℕ → ℕ → ℕ → Bool
is_clip_node plan s n = ltb s (state_count plan) && (ltb n (node_count plan s) && is_clip plan s n)

-- refusal 17 'if the clip is empty or stops'
abbrev pub is_looping : List ℕ → ℕ → Bool
is_looping plan c = not (is_empty plan c || is_stopping plan c)

-- 'after 9, 16 ..; then 17 ..'
unfoldable pub loops_verdict : List ℕ → List Float → Player → ℕ → ℕ → Verdict
loops_verdict plan numbers p s n = play_verdict plan numbers p then require (is_clip_node plan s n) 16 0 then require (is_looping plan (input_a plan s n)) 17 0

-- 'its clip': how many samples it has
abbrev pub loop_length : List ℕ → ℕ → ℕ → ℕ
loop_length plan s n = sample_count plan (input_a plan s n)

module _ (plan : List ℕ) (numbers : List Float) (p : Player) (s n : ℕ) (time : Float) where
  -- 'the position uses the player's clip instance as handed in'
  abbrev pub played_position : Float
  played_position = position_of plan numbers (input_a plan s n) (local_time (instance_at p.instances (clip_node_at plan s n)) time)

  -- 'the position's floor as an index'
  unfoldable pub played_index : ℕ
  played_index = floor_index played_position

  -- 'how many whole loops its clip has played and the exact remainder'
  unfoldable pub whole_loops : ℕ
  whole_loops = played_index / loop_length plan s n

  unfoldable pub loop_rest : ℕ
  loop_rest = played_index % loop_length plan s n
