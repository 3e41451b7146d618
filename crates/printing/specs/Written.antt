-- A text written into a slice. Definitions only.
use Rattle.std.specs.Prelude.{ℕ, ◌+◌, ◌≤◌, ◌≡◌, List, map, length, take, drop, Float}
use Rattle.std.proofs.lemmas.List.Edits.{sets}
use Rattle.std.specs.Float.{binary32}
use Rattle.std.specs.Float.Ieee.{to_bits}
use Rattle.model.specs.Plan.{output_at}
use Rattle.model.specs.Program.{bits_fields, joint_line, joined}
use Rattle.model.specs.Text.{overwritten}
use Rattle.printing.specs.declared.Writer.{Writer}
use Rattle.printing.specs.Sizes.{matrix_floats}

-- there is room for n bytes more
abbrev pub HasRoom : ℕ → Writer → Type 0
HasRoom n p = p.at + n ≤ length p.out.now

-- q is p with the text stored behind what was written, in the same slice
pub record Wrote (text : List ℕ) (p q : Writer) : Type 0 where
  pub stored : q.out.now ≡ sets p.out.now p.at text
  pub moved : q.at ≡ p.at + length text
  pub kept : length q.out.now ≡ length p.out.now
  pub same : q.out.ghost_name ≡ p.out.ghost_name

-- the same of a text that has `size` bytes at the most, and of one that has as many
abbrev pub WroteUpTo : ℕ → List ℕ → Writer → Writer → Type 0
WroteUpTo size text p q = Wrote text p q × (q.at ≤ p.at + size)

abbrev pub WroteExactly : ℕ → List ℕ → Writer → Writer → Type 0
WroteExactly size text p q = Wrote text p q × (q.at ≡ p.at + size)

-- a text from the first place on: its length, which is inside, and the whole slice afterwards
pub record Front (text before after : List ℕ) (end : ℕ) : Type 0 where
  pub ended : end ≡ length text
  pub inside : end ≤ length after
  pub whole : after ≡ overwritten text before

-- the fields of floats
abbrev pub float_fields : List Float → List ℕ
float_fields xs = bits_fields (map (to_bits binary32) xs)

-- joint j's matrix in an output
abbrev pub matrix_in : List Float → ℕ → List Float
matrix_in output j = take matrix_floats (drop (output_at j) output)

-- the lines of an output's first joints
abbrev pub joint_lines : ℕ → List Float → List ℕ
joint_lines count output = joined count (λ j. joint_line j (matrix_in output j))
