-- Document 02, Card 11: a frame of roots. Definitions only: the theorems are in proofs/Joints.antt.
use Rattle.model.specs.Bench.{with_parents}
use Rattle.std.specs.Prelude.{ℕ, ◌+◌, ◌*◌, replicate}
use Rattle.model.specs.Numbers.{0f}
use Rattle.model.specs.Answers.{Verdict}
use Rattle.model.specs.Plan.{root}
use Rattle.model.specs.Controller.{blank, frame_verdict}

-- the answer to a frame of so many roots with an output of so many floats
abbrev pub frame_of_roots : ℕ → ℕ → Verdict
frame_of_roots joints output_length = frame_verdict (with_parents (replicate joints root)) (replicate (1 + 8 * joints) 0f) blank output_length
