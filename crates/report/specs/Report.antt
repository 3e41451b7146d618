-- What a list of calls shows, as text: an answer, the player, the joints' matrices. Definitions only.
use Rattle.std.specs.Prelude.{ℕ, List, [], ◌∷◌, ◌++◌, length, get_or, Float, Option, None, Some}
use Rattle.std.specs.Float.{binary64}
use Rattle.std.specs.Float.Ieee.{to_bits}
use Rattle.model.specs.declared.Player.{Player}
use Rattle.model.specs.declared.LoopCount.{LoopCount}
use Rattle.model.specs.declared.ClipInstance.{ClipInstance}
use Rattle.model.specs.declared.Transition.{Transition}
use Rattle.model.specs.declared.Transition.TheVariants.{Idle, Running}
use Rattle.model.specs.Answers.{Verdict, accepted, refused}
use Rattle.model.specs.Text.{line_feed, comma}
use Rattle.model.specs.Clips.{instance_at}
use Rattle.model.specs.Plan.{max_clip_nodes}
use Rattle.model.specs.Program.{digits, decimal_fields, refused_line, joint_line, joined}
use Rattle.model.specs.Table.{table_to}
use Rattle.model.specs.Run.{Observation}
use Rattle.printing.specs.Written.{float_fields}

-- the bits of a 64-bit float, every NaN as 7ff8000000000000, which is how to_bits writes it
abbrev pub wide_text : Float → List ℕ
wide_text x = comma ∷ digits 16 16 (to_bits binary64 x)

-- `ok`, by its bytes, or the refusal
unfoldable pub answer_line : Verdict → List ℕ
answer_line accepted = 111 ∷ 107 ∷ line_feed ∷ []
answer_line (refused number place rest) = refused_line number place

-- `,idle`, or `,running` with the transition's start, target and duration
unfoldable pub transition_fields : Transition → List ℕ
transition_fields Idle = 44 ∷ 105 ∷ 100 ∷ 108 ∷ 101 ∷ []
transition_fields (Running start target duration) =
    (44 ∷ 114 ∷ 117 ∷ 110 ∷ 110 ∷ 105 ∷ 110 ∷ 103 ∷ []) ++
    wide_text start ++ decimal_fields (target ∷ []) ++ float_fields (duration ∷ [])

-- `player`, clock, speed, state, transition
unfoldable pub player_line : Float → Float → ℕ → Transition → List ℕ
player_line clock speed state transition =
    (112 ∷ 108 ∷ 97 ∷ 121 ∷ 101 ∷ 114 ∷ []) ++
    wide_text clock ++ wide_text speed ++ decimal_fields (state ∷ []) ++ transition_fields transition ++ line_feed ∷ []

abbrev pub player_text : Player → List ℕ
player_text p = player_line p.clock p.speed p.state p.transition

-- a line for each of some joints' matrices
unfoldable pub matrix_lines : List (List Float) → List ℕ
matrix_lines ms = joined (length ms) (λ j. joint_line j (get_or ms j []))

-- 0, .., n - 1
unfoldable pub below : ℕ → List ℕ
below n = table_to (λ l i. i) n

-- what is compared of a call, as text
unfoldable pub observation_text : Observation → List ℕ
observation_text o =
    answer_line o.answer ++ player_line o.clock o.speed o.state o.transition ++ matrix_lines o.matrices

-- what a question is told besides: `loops`, and the two numbers; nothing for other calls
unfoldable pub told_text : List ℕ → List ℕ
told_text [] = []
told_text (v ∷ vs) = (108 ∷ 111 ∷ 111 ∷ 112 ∷ 115 ∷ []) ++ decimal_fields (v ∷ vs) ++ line_feed ∷ []

-- what the program hands over, as the model's `told` has it
unfoldable pub told_values : Option LoopCount → List ℕ
told_values None = []
told_values (Some count) = count.loops ∷ count.rest ∷ []

-- ---- the rest of the player, once the calls are done

-- `parameters`
unfoldable pub parameters_line : List Float → List ℕ
parameters_line parameters =
    (112 ∷ 97 ∷ 114 ∷ 97 ∷ 109 ∷ 101 ∷ 116 ∷ 101 ∷ 114 ∷ 115 ∷ []) ++ float_fields parameters ++ line_feed ∷ []

-- `instance`
unfoldable pub instance_line : ℕ → ClipInstance → List ℕ
instance_line n i =
    (105 ∷ 110 ∷ 115 ∷ 116 ∷ 97 ∷ 110 ∷ 99 ∷ 101 ∷ []) ++
    decimal_fields (n ∷ []) ++ float_fields (i.start ∷ i.rate ∷ i.offset ∷ []) ++ line_feed ∷ []

-- those of the first clip nodes
abbrev pub instance_lines : ℕ → List Float → List ℕ
instance_lines count instances = joined count (λ n. instance_line n (instance_at instances n))

unfoldable pub end_text : Player → List ℕ
end_text p = parameters_line p.parameters ++ instance_lines max_clip_nodes p.instances
