-- Wide floats, and lines of matrices. Assumes nothing.
use Rattle.std.proofs.Common.{◌≡◌, ℕ, zero, suc, List, [], ◌∷◌, map, refl, ap, ◌∙◌}
use Rattle.std.specs.Prelude.{Float}
use Rattle.std.specs.Float.{binary64}
use Rattle.std.specs.Float.Ieee.{to_bits}
use Rattle.std.proofs.lemmas.List.{map-append}
use Rattle.model.specs.Text.{comma}
use Rattle.model.specs.Program.{digits, joint_line, joined}
use Rattle.model.specs.Table.{table_to}
use Rattle.model.proofs.Laws.Table.{table_length, table_at}
use Rattle.printing.specs.declared.Writer.{Writer}
use Rattle.printing.specs.Written.{Wrote}
use Rattle.printing.proofs.Laws.{joined_same}
use Rattle.report.specs.Report.{wide_text, matrix_lines, below}

-- the bits of one wide float
pub wide_written : {p q : Writer} (x : Float) (b : ℕ) → b ≡ to_bits binary64 x
    → Wrote (comma ∷ digits 16 16 b) p q → Wrote (wide_text x) p q
wide_written x b e w = rw e at w

-- ---- matrices

pub no_matrix_lines : matrix_lines [] ≡ []
unfolding matrix_lines joined
no_matrix_lines = refl

map_below : (n : ℕ) (f : ℕ → List Float) → map f (below n) ≡ table_to (λ l i. f i) n
unfolding below table_to
map_below zero f = refl
map_below (suc n) f = map-append f (below n) (n ∷ []) ∙ rw (map_below n f)

-- the lines of the matrices of joints 0, .., n - 1
pub matrix_lines_below : (n : ℕ) (f : ℕ → List Float)
    → matrix_lines (map f (below n)) ≡ joined n (λ j. joint_line j (f j))
unfolding matrix_lines
matrix_lines_below n f =
    rw (map_below n f, table_length (λ (l : List (List Float)) i. f i) n)
    (joined_same n _ _ (λ j h. ap (joint_line j) (table_at (λ (l : List (List Float)) i. f i) n [] j h)))
