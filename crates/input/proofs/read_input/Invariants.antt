-- `read_input` ends: each turn reads a byte or fails, and it may fail 100 times. What it has filled is what it consumed.
use Rattle.std.proofs.Common.{length, take, ◌-◌, ◌≤◌, ◌+◌, ◌<◌}
use Rattle.std.specs.Io.KnownBytes.{Consumes}
use Rattle.input.proofs.read_input.Given as goal

abbrev pub invariant-loop-done : goal.invariant-loop-done
invariant-loop-done g l = record {
  within : l.done ≤ length l.text;
  few : l.failures < 100;
  filled : Consumes (g.R.Read.remaining l.initial.reader) (g.R.Read.remaining l.reader) (take l.done l.text);
}

abbrev pub decreases-loop-done : goal.decreases-loop-done
decreases-loop-done g l = length l.text - l.done + (100 - l.failures)
