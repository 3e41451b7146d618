-- Document 02, Card 7, beside demand 3: what the questions of a list are told. The theorem is proofs/Questions.antt's.
use Rattle.std.specs.Prelude.{ℕ, Float}
use mathlib.Core.List.{List, [], ◌∷◌}
use Rattle.model.specs.declared.Player.{Player}
use Rattle.model.specs.Answers.{unless_refused}
use Rattle.model.specs.Run.{Call, call_verdict, after, told}
use Rattle.noninterference.specs.Trace.{of_reachable}

-- what a list's calls are told, by definition
unfoldable pub told_from : List ℕ → List Float → Player → List Call → List (List ℕ)
told_from plan numbers p [] = []
told_from plan numbers p (c ∷ cs) =
    of_reachable plan c (unless_refused (call_verdict plan numbers p c) (told plan numbers p c) (0 ∷ 0 ∷ [])) ∷ told_from plan numbers (after plan numbers p c) cs
