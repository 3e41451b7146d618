-- `plan::states::check_state` meets its contract: the parts of a state in the definition's order. Assumes nothing.
use native.Mathlib.Omega.{arith}
use mathlib.Core.Path.{◌≡◌, refl, sym}
use Prim.Native.Nat.{ℕ}
use Rattle.std.proofs.lemmas.List.{length-take-le}
use Rattle.model.specs.Answers.{accepted}
use Rattle.model.proofs.Laws.Exits.{leaves}
use Rattle.plan.specs.Parts.{Begins}
use Rattle.plan.proofs.StateLaws.{tree_of, count_stops, Counted, is_counted, nodes_between, front_inside, nodes_stop, inputs_stop, is_tree, transition_count_stops, transitions_few, transitions_end}
use Rattle.plan.proofs.states.check_state.Goals as goal
use Rattle.plan.proofs.states.check_state.Goals.{After-word-nodes, In_ok-check_used}

pub returns-in_err-word_within : goal.returns-in_err-word_within
returns-in_err-word_within c = record { answer = λ s b. leaves _ _ _ _ c.from_residual.ensures.1 (count_stops _ _ _ b.place _ _ c.in_err-word_within.ensures) }

counted : (c : After-word-nodes) → let a = c.args in Counted a.plan.now a.at c.word-nodes.result
counted c = is_counted _ _ _ c.word-nodes.ensures.0 _ c.in_ok-word_within.ensures

pub check_nodes-requires : goal.check_nodes-requires
check_nodes-requires c =
    let pre = c.requires in
    let between = nodes_between (counted (goal.at.check_nodes-requires c).After-word-nodes) in
    (omega (arith, pre.0, between), between.1, pre.1, pre.2)

pub returns-in_err-check_nodes : goal.returns-in_err-check_nodes
returns-in_err-check_nodes c =
    record { answer = λ s b. leaves _ _ _ _ c.from_residual-in_err-check_nodes.ensures.1 (nodes_stop (counted (goal.at.returns-in_err-check_nodes c).After-word-nodes) _ b.place _ _ (c.in_err-check_nodes.ensures.answer s b)) }

pub slice_bounds-used-count : goal.slice_bounds-used-count
slice_bounds-used-count c = omega (arith, nodes_between (counted (goal.at.slice_bounds-used-count c).After-word-nodes))

pub slice_bounds-used-end : goal.slice_bounds-used-end
slice_bounds-used-end c = front_inside (counted (goal.at.slice_bounds-used-end c).After-word-nodes) _ c.check_nodes.array_long

pub slice_bounds-check_used-length : goal.slice_bounds-check_used-length
slice_bounds-check_used-length c =
    sym (length-take-le _ _ (front_inside (counted (goal.at.slice_bounds-check_used-length c).After-word-nodes) _ c.check_nodes.array_long))

pub returns-in_err-check_used : goal.returns-in_err-check_used
returns-in_err-check_used c =
    let nodes = c.in_ok-check_nodes.ensures in
    record { answer = λ s b. leaves _ _ _ _ c.from_residual-in_err-check_used.ensures.1 (inputs_stop (counted (goal.at.returns-in_err-check_used c).After-word-nodes) _ b.place _ _ (nodes.answer s b) (nodes.marked s b) c.check_nodes.array_long _ c.in_err-check_used.ensures _ refl) }

tree : (c : In_ok-check_used) (s : ℕ) → let a = c.args in Begins a.plan.now s a.at a.clip_node → tree_of a.plan.now s a.at c.word-nodes.result ≡ accepted
tree c s b =
    let nodes = c.in_ok-check_nodes.ensures in
    is_tree (is_counted _ _ _ c.word-nodes.ensures.0 _ c.in_ok-word_within.ensures) _ b.place _ _ (nodes.answer s b) (nodes.marked s b) c.check_nodes.array_long _ c.in_ok-check_used.ensures _ refl

pub returns-in_err-word_up_to : goal.returns-in_err-word_up_to
returns-in_err-word_up_to c =
    record { answer = λ s b. leaves _ _ _ _ c.from_residual-in_err-word_up_to.ensures.1 (transition_count_stops (counted (goal.at.returns-in_err-word_up_to c).After-word-nodes) _ b.place (tree (goal.at.returns-in_err-word_up_to c).In_ok-check_used s b) _ c.in_err-word_up_to.ensures _ refl) }

pub check_transitions-requires : goal.check_transitions-requires
check_transitions-requires c =
    let w = (goal.at.check_transitions-requires c).After-word-nodes in
    omega (arith, c.requires.0, nodes_between (counted w), transitions_few _ _ _ c.word-n.ensures.0 _ c.in_ok-word_up_to.ensures)

pub returns : goal.returns
returns c =
    let k = (goal.at.returns c).After-word-nodes in
    record { answer = λ s b. transitions_end (counted k) _ b.place (tree (goal.at.returns c).In_ok-check_used s b) _ c.in_ok-word_up_to.ensures _ refl _ c.word-n.ensures.0 _ c.requires.2 _ c.check_transitions.ensures }
