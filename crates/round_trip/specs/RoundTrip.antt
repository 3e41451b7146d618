-- What writing a figure and reading it have to do with each other. Definitions only: the theorems are Theorems.antt.
use Rattle.std.specs.Prelude.{ℕ, ◌≡◌, Bool, true, cond, ◌||◌, List, [], map, eqb, Float}
use Rattle.std.specs.Float.{binary32}
use Rattle.std.specs.Float.Ieee.{to_bits, nan_bits}
use Rattle.model.specs.Check.{within}
use Rattle.model.specs.Text.{got, read_figure, floats_of}
use Rattle.model.specs.Program.{figure_text}
use Rattle.model.specs.Answers.{Verdict, accepted, refused}
use Rattle.round_trip.specs.Counted.{Counted}

-- reading gives back what was written, with no text left
pub record Reads (text plan bits : List ℕ) : Type 0 where
  pub lines : ℕ
  pub reading : read_figure text ≡ got plan bits [] lines

-- an accepted text is the one that is written for what it reads to
pub record Writes (text plan bits rest : List ℕ) : Type 0 where
  pub counted : Counted plan bits
  pub written : text ≡ figure_text plan bits
  pub ended : rest ≡ []

-- ---- the same for floats, whose text is that of their bits

abbrev pub floats_text : List ℕ → List Float → List ℕ
floats_text plan numbers = figure_text plan (map (to_bits binary32) numbers)

pub record ReadsFloats (text plan : List ℕ) (numbers : List Float) : Type 0 where
  pub bits : List ℕ
  pub reads : Reads text plan bits
  pub floats : floats_of bits ≡ numbers

-- the pattern that is written for a pattern's float: every NaN as 7fc00000
unfoldable pub canonical : ℕ → ℕ
canonical b = cond (nan_bits binary32 b) 0x7fc00000 b

-- an accepted text is that of its floats but for NaN patterns, and their text is read to the same words and floats
pub record WritesFloats (text plan bits : List ℕ) : Type 0 where
  pub written : text ≡ figure_text plan bits
  pub rewritten : floats_text plan (floats_of bits) ≡ figure_text plan (map canonical bits)
  pub again : ReadsFloats (floats_text plan (floats_of bits)) plan (floats_of bits)

-- ---- refusals

-- a refusal that is about what words say: 2 to 5, and 14. The others of a start, 1, 6 and 7, are about lengths
abbrev pub is_of_content : ℕ → Bool
is_of_content number = within 2 number 5 || eqb number 14

unfoldable pub of_content : Verdict → Type 0
of_content accepted = Unit {0}
of_content (refused number place rest) = is_of_content number ≡ true
