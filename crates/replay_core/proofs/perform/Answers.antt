-- `replay_core::perform` meets its contract: each turn performs the first of the lines that are left. Assumes nothing.
use Rattle.std.proofs.Common.{◌≡◌, ◌+◌, ◌≤◌, ◌<◌, ◌⊎◌, inl, inr, length, sym, ◌∙◌, arith, rules}
use Rattle.calls.specs.Read.{end_of}
use Rattle.replay_core.specs.Replaying.{max_report}
use Rattle.replay_core.proofs.ListLaws.{nothing_performed, next_performed, performing}
use Rattle.replay_core.proofs.perform.Goals as goal
use Rattle.replay_core.proofs.perform.Goals.{then-loop-left-test+else-w-ge-MAX_REPORT, else-loop-left-test}

pub loop-left-init : goal.loop-left-init
loop-left-init c = nothing_performed _ _ _ _ _ c.new-w.ensures.first

pub loop-left-preserved : goal.loop-left-preserved
loop-left-preserved c =
    let so_far = c.loop-left.invariant in
    let read = c.call_at-read.ensures in
    let place : c.map_or.result ≡ end_of c.call_at-read.result = search rules in
    let room : c.loop-left.w.at + max_report ≤ length c.new-w.result.out.now = omega arith in
    next_performed _ _ _ _ _ c.new-w.ensures.first so_far c.loop-left-test.true room read.value read.result_value (c.line_done-done.ensures _) place
    c.put_call.ensures.0 c.put_call.ensures.1

pub returns : goal.returns
returns c =
    let so_far = c.loop-left.invariant in
    let stop : (c.loop-left.left.lines ≡ 0) ⊎ (length c.new-w.result.out.now < c.loop-left.w.at + max_report) =
    elim c.loop-left-test.branch [ then-loop-left-test+else-w-ge-MAX_REPORT w ↦ inr (omega arith) | else-loop-left-test w ↦ inl (omega arith) ]
    in
    let name = sym c.new-w.ensures.same ∙ sym so_far.put.same in
    performing _ _ _ _ _ c.new-w.ensures.held c.new-w.ensures.first so_far stop (search (rules, name))
