-- `plan::nodes::check_nodes` meets its contract. Invariant: of the state that begins so the first i nodes pass, and the marks and the clip node's number are
-- theirs. Assumes nothing.
use Prim.Native.Nat.{◌+◌, ◌*◌}
use native.Mathlib.Omega.{arith}
use Rattle.std.proofs.lemmas.Result.{IfOk-from_err}
use Rattle.model.proofs.Laws.Exits.{passed, leaves}
use Rattle.model.proofs.Laws.Named.{own_reason}
use Rattle.plan.proofs.Laws.{passing_stops, passing_all}
use Rattle.plan.proofs.NodeLaws.{nodes_none, node_verdict, node_next, has_inputs, clip_node_most, marks_all, node_at_named}
use mathlib.Core.Path.{refl}
use Rattle.plan.proofs.nodes.check_nodes.Goals as goal

pub loop-i-init : goal.loop-i-init
loop-i-init c = (omega arith, λ s b. nodes_none _ _ _ _ b _)

pub returns-in_err-check_node : goal.returns-in_err-check_node
returns-in_err-check_node c =
    let pre = c.requires in
    record {
      answer = λ s b. let so_far = c.loop-i.invariant.1 s b in passing_stops so_far.passing c.loop-i-test.true _ _ _ c.from_residual.ensures.1 (node_verdict _ _ _ _ b so_far c.loop-i-test.true pre.1 _ pre.3 _ _ c.in_err-check_node.ensures);
      marked = λ s b. IfOk-from_err _ _ c.from_residual.ensures.0;
      named = own_reason _ (leaves _ _ _ _ c.from_residual.ensures.1 c.in_err-check_node.ensures) (node_at_named _ _ _ _);
    }

pub mark-requires : goal.mark-requires
mark-requires c = (omega arith, has_inputs _ _ _ _ (passed _ _ c.in_ok-check_node.ensures) (omega arith))

pub loop-i-preserved : goal.loop-i-preserved
loop-i-preserved c =
    let pre = c.requires in (
      omega (arith, c.counted-clip_node.ensures, clip_node_most c.args.plan.now (c.args.at + 1 + 4 * c.loop-i.i) c.loop-i.clip_node),
      λ s b. rw (c.mark.ensures, c.counted-clip_node.ensures) (node_next _ _ _ _ b (c.loop-i.invariant.1 s b) c.loop-i-test.true pre.1 _ pre.3 _ _ c.in_ok-check_node.ensures _ refl),
    )

pub returns : goal.returns
returns c =
    let l = c.loop-i.invariant in
    let out = c.loop-i-test.false in
    record { answer = λ s b. passing_all (l.1 s b).passing _ out; marked = λ s b. marks_all _ _ _ _ (l.1 s b).marked _ (l.1 s b).passing.within out; named = tt }
