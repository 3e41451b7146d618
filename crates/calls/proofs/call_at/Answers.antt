-- `calls::call_at` meets its contract: the names are tried in the order of the kinds. Assumes nothing.
use Rattle.std.proofs.Common.{rules}
use Rattle.model.specs.Run as Run
use Rattle.calls.specs.Read.{call_of}
use Rattle.calls.proofs.LineLaws.{of_any, of_this, of_another, of_none}
use Rattle.calls.proofs.call_at.Goals as goal

pub returns-then-skip : goal.returns-then-skip
unfolding call_of
returns-then-skip c = of_this (of_any _) c.if-skip.ensures (c.time_line.ensures Run.Update (λ time call is. search rules))

pub returns-then-skip-2 : goal.returns-then-skip-2
unfolding call_of
returns-then-skip-2 c =
    of_this (of_another (of_any _) c.if-skip.ensures) c.if-skip-2.ensures (c.time_line-then-skip-2.ensures Run.Speed (λ time call is. search rules))

pub returns-then-skip-3 : goal.returns-then-skip-3
returns-then-skip-3 c = of_this (of_another (of_another (of_any _) c.if-skip.ensures) c.if-skip-2.ensures) c.if-skip-3.ensures c.set_line.ensures

pub returns-then-skip-4 : goal.returns-then-skip-4
returns-then-skip-4 c =
    of_this (of_another (of_another (of_another (of_any _) c.if-skip.ensures) c.if-skip-2.ensures) c.if-skip-3.ensures)
    c.if-skip-4.ensures c.frame_line.ensures

pub returns-then-skip-5 : goal.returns-then-skip-5
returns-then-skip-5 c =
    of_this (of_another (of_another (of_another (of_another (of_any _) c.if-skip.ensures) c.if-skip-2.ensures) c.if-skip-3.ensures) c.if-skip-4.ensures)
    c.if-skip-5.ensures c.frame_line-then-skip-5.ensures

pub returns-then-skip-6 : goal.returns-then-skip-6
returns-then-skip-6 c =
    of_this (of_another (of_another (of_another (of_another (of_another (of_any _) c.if-skip.ensures) c.if-skip-2.ensures) c.if-skip-3.ensures) c.if-skip-4.ensures) c.if-skip-5.ensures)
    c.if-skip-6.ensures c.loops_line.ensures

pub returns-else-skip-6 : goal.returns-else-skip-6
returns-else-skip-6 c =
    of_none (of_another (of_another (of_another (of_another (of_another (of_another (of_any _) c.if-skip.ensures) c.if-skip-2.ensures) c.if-skip-3.ensures) c.if-skip-4.ensures) c.if-skip-5.ensures) c.if-skip-6.ensures)
