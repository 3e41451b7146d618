-- `calls::frame_line` meets its contract. Assumes nothing.
use Rattle.std.proofs.Common.{ℕ, List, Float}
use Rattle.model.specs.declared.FrameKind.{FrameKind}
use Rattle.model.specs.Run as Run
use Rattle.calls.specs.CallText.{CallLine, decimal_field, behind_field, line_end, frame_line}
use Rattle.calls.specs.Read.{call_of}
use Rattle.calls.proofs.LineLaws.{none_read, without, with_value}
use Rattle.calls.proofs.frame_line.Goals as goal

-- what follows behind ext
abbrev behind_ext : FrameKind → Float → List ℕ → CallLine
behind_ext kind ext s = behind_field (decimal_field s) (λ n. line_end (Run.Frame kind ext n))

pub returns-in_err-ext : goal.returns-in_err-ext
unfolding frame_line
returns-in_err-ext c = none_read c.from_residual.ensures (without _ c.in_err-ext.ensures)

pub returns-in_err-length : goal.returns-in_err-length
unfolding frame_line
returns-in_err-length c = with_value (behind_ext c.args.kind) c.in_ok-ext.ensures (none_read c.from_residual-in_err-length.ensures (without _ c.in_err-length.ensures))

pub returns : goal.returns
unfolding frame_line call_of
returns c = with_value (behind_ext c.args.kind) c.in_ok-ext.ensures (with_value (λ n. line_end (Run.Frame c.args.kind c.in_ok-ext.ext n)) c.in_ok-length.ensures c.ends.ensures)
