-- What putting words into a line does to its place. Definitions only.
use Rattle.std.specs.Prelude.{ℕ, ◌≡◌, ◌+◌, length}
use Rattle.printing.specs.declared.Writer.{Writer}

-- q is p with n bytes more written, in the same slice
pub record Moved (n : ℕ) (p q : Writer) : Type 0 where
  pub moved : q.at ≡ p.at + n
  pub kept : length q.out.now ≡ length p.out.now
  pub same : q.out.ghost_name ≡ p.out.ghost_name
