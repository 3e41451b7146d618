-- What `inspect uses` prints of a figure: `ok` and a line for each state, parameter and clip, or the refusal. Definitions
-- only.
use Rattle.std.specs.Prelude.{ℕ, Bool, cond, List, [], ◌∷◌, ◌++◌, Float}
use Rattle.model.specs.declared.LineKind.TheVariants.{State, Clip}
use Rattle.model.specs.Answers.{Verdict, unless_refused}
use Rattle.model.specs.Plan.{state_count, parameter_count, clip_count}
use Rattle.model.specs.Run.{start_verdict}
use Rattle.model.specs.Text.{line_feed, name}
use Rattle.model.specs.Program.{decimal_fields, joined}
use Rattle.model.specs.Uses.{is_marked, state_marks, parameter_marks, clip_marks}
use Rattle.report.specs.Report.{answer_line}

-- a name, an index, and 1 for a mark or 0 for none
unfoldable pub mark_line : List ℕ → ℕ → Bool → List ℕ
mark_line kind k mark = kind ++ decimal_fields (k ∷ []) ++ decimal_fields (cond mark 1 0 ∷ []) ++ line_feed ∷ []

-- those of the first of a kind
abbrev pub mark_lines : List ℕ → ℕ → List Bool → List ℕ
mark_lines kind count ms = joined count (λ k. mark_line kind k (is_marked ms k))

-- `parameter`; the names of the other two are those of their lines in a figure's text
abbrev pub parameter_name : List ℕ
parameter_name = 112 ∷ 97 ∷ 114 ∷ 97 ∷ 109 ∷ 101 ∷ 116 ∷ 101 ∷ 114 ∷ []

-- the lines of a plan's states, parameters and clips, from the marks of each
unfoldable pub use_lines : List ℕ → List Bool → List Bool → List Bool → List ℕ
use_lines plan states parameters clips =
    mark_lines (name State) (state_count plan) states ++
    mark_lines parameter_name (parameter_count plan) parameters ++
    mark_lines (name Clip) (clip_count plan) clips

-- an answer's line, and the plan's lines unless it is refused
unfoldable pub uses_text : List ℕ → Verdict → List ℕ
uses_text plan v =
    answer_line v ++ unless_refused v (use_lines plan (state_marks plan) (parameter_marks plan) (clip_marks plan)) []

-- of a figure
abbrev pub uses_shown : List ℕ → List Float → List ℕ
uses_shown plan numbers = uses_text plan (start_verdict plan numbers)
