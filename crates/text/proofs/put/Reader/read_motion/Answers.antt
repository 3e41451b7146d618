use Rattle.std.proofs.Common.{arith}
use Rattle.std.proofs.lemmas.Result.{err_from_is_err_and}
use Rattle.text.proofs.ReaderLaws.{stops_at, goes_on}
use Rattle.text.proofs.FigureLaws.{clips_stop, clips_then, sampled_sum, poses_fit}
use Rattle.text.proofs.put.Reader.read_motion.Goals as goal

pub returns-in_err-samples : goal.returns-in_err-samples
returns-in_err-samples c =
    let p = err_from_is_err_and c.from_residual.result c.from_residual.ensures.1 in
    rw (p.1, p.2) (clips_stop _ _ _ c.in_err-samples.ensures.read)

pub returns-in_err-read_states : goal.returns-in_err-read_states
returns-in_err-read_states c =
    let p = err_from_is_err_and c.from_residual-in_err-read_states.result c.from_residual-in_err-read_states.ensures.1 in
    let clips = c.in_ok-samples.ensures in
    rw (p.1, p.2) (clips_then _ _ _ clips.read clips.samples (stops_at _ c.in_err-read_states.ensures))

pub overflow_mul-samples : goal.overflow_mul-samples
overflow_mul-samples c =
    let pre = c.requires in
    let clips = c.in_ok-samples.ensures in
    let sum = sampled_sum _ _ _ _ _ _ _ _ _ _ clips.read.step clips.samples in
    omega (arith, poses_fit _ _ _ sum.1 pre.1 pre.0)

pub returns : goal.returns
returns c =
    let clips = c.in_ok-samples.ensures in
    clips_then _ _ _ clips.read clips.samples (goes_on _ c.in_ok-read_states.ensures c.read_poses.ensures)
