-- `plan::states::check_states` meets its contract. Invariant: the first s states pass, and the place, the clip nodes and the transitions are those after them. Assumes nothing.
use native.Mathlib.Omega.{arith}
use mathlib.Core.Path.{refl}
use Rattle.model.specs.Plan.{state_at, total, clip_nodes_before, transitions_before}
use Rattle.layout.proofs.Laws.{clips_next, state_next, transitions_next}
use Rattle.std.proofs.lemmas.Result.{IfOk-from_err}
use Rattle.model.proofs.Laws.Exits.{passed}
use Rattle.plan.proofs.Laws.{passing_none, passing_next, passing_stops, passing_all}
use Rattle.plan.proofs.StateLaws.{few, ends}
use Rattle.plan.proofs.states.check_states.Goals as goal

pub loop-s-init : goal.loop-s-init
unfolding total clip_nodes_before transitions_before
loop-s-init c = (passing_none _ _, c.requires.1, refl, refl, omega arith, omega arith, omega arith)

pub check_state-requires : goal.check_state-requires
check_state-requires c =
    (omega arith, omega arith, c.requires.2)

pub returns-in_err-check_state : goal.returns-in_err-check_state
returns-in_err-check_state c =
    let l = c.loop-s.invariant in
    let exit = c.from_residual.ensures in
    record {
      answer = passing_stops l.0 c.loop-s-test.true _ _ _ exit.1 (c.in_err-check_state.ensures.answer _ (record { place = l.1; clips = l.2 }));
      end = IfOk-from_err _ _ exit.0;
      transitions = IfOk-from_err _ _ exit.0;
    }

pub loop-s-preserved : goal.loop-s-preserved
loop-s-preserved c =
    let l = c.loop-s.invariant in
    let nodes = c.word-nodes.ensures.0 in
    let transitions = c.word-n.ensures.0 in
    let this = c.in_ok-check_state.ensures.answer _ (record { place = l.1; clips = l.2 }) in
    let ok = passed _ _ this in
    let small = few _ _ _ _ _ l.1 nodes transitions ok in
    (passing_next l.0 c.loop-s-test.true _ this, state_next _ _ _ _ l.1 nodes _ transitions, clips_next _ _ _ _ l.1 nodes ok _ l.2, transitions_next _ _ _ _ l.1 nodes _ transitions _ l.3, omega arith, omega arith, omega arith)

pub returns : goal.returns
returns c =
    let l = c.loop-s.invariant in
    let out = c.loop-s-test.false in
    let plan = c.args.plan.now in
    record { answer = passing_all l.0 _ out; end = ends (state_at plan) _ _ _ l.1 l.0.within out; transitions = ends (transitions_before plan) _ _ _ l.3 l.0.within out }
