-- The step of the clips so far, and the sum of their samples.
use Rattle.std.proofs.Common.{◌*◌, ◌≤◌, drop}
use Rattle.model.specs.declared.LineKind.TheVariants.{Clip}
use Rattle.model.specs.Plan.{max_samples}
use Rattle.model.specs.Text.{read_line, times}
use Rattle.text.specs.Figures.{sampled}
use Rattle.text.proofs.ReaderLaws.{Passed}
use Rattle.text.proofs.put.Reader.read_clips.Given as goal

abbrev pub invariant-loop : goal.invariant-loop
invariant-loop l =
    let before = l.initial.self in
    Passed (read_line Clip) before l.self l.counter
    × sampled l.counter l.samples (times l.counter (read_line Clip) (drop before.progress.at before.text.now)) × (l.samples ≤ l.counter * max_samples)
