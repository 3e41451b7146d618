-- `printing::put_digits` meets its contract: the digits still to come complete what it asks for. Assumes nothing.
use Rattle.std.proofs.Common.{◌≡◌, ◌++◌, length, drop}
use Rattle.model.specs.Program.{digits}
use Rattle.printing.proofs.put_digits.Given as goal

abbrev pub invariant-loop-k : goal.invariant-loop-k
invariant-loop-k l =
    digits l.base l.k l.rest ++ drop l.k l.out ≡ digits l.base (length l.initial.out) l.n
