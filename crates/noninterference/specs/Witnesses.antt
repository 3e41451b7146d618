-- The figures that show that demand 3 says something. Definitions only: the theorems are in proofs/Witnesses.antt.
use Rattle.std.specs.Prelude.{ℕ, replicate}
use mathlib.Core.List.{List}
use Rattle.model.specs.Plan.{byte_root}
use Rattle.model.specs.Bench.{with_parents}
use Rattle.model.specs.Unused.{two_states}
use Rattle.noninterference.specs.Alike.{UnseenAt}

-- of an unchosen joint: of two roots with joint 0 chosen, joint 1's translation x, at place 9
unfoldable pub two_roots : List ℕ
two_roots = with_parents (replicate 2 byte_root)

-- of what no reachable state uses, whatever joints are chosen: the rate of `two_states`' clip 1, the value and the duration of its state 1, and the first
-- float of clip 1's poses
pub record UnusedPlaces (chosen : List ℕ) : Type 0 where
  pub rate : UnseenAt two_states chosen 1
  pub value : UnseenAt two_states chosen 2
  pub duration : UnseenAt two_states chosen 3
  pub pose : UnseenAt two_states chosen 20
