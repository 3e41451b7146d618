-- `layout::passed::Plan::state_layout` meets its contract. Invariant: the places and the count are those of state s. The check has seen that the words are there,
-- and its limits keep the sums small. Assumes nothing.
use Prim.Native.Nat.{◌+◌, ◌*◌, ◌≤◌, ◌<◌}
use mathlib.Core.Path.{◌≡◌, refl, ap}
use native.Mathlib.Nat.{div-le_self}
use native.Mathlib.Omega.{arith}
use lib.ListN.{length}
use Rattle.model.specs.Text.{max_word}
use Rattle.model.specs.Plan.{word, state_count, total, clip_nodes_before, transitions_before, number_at}
use Rattle.layout.specs.Layout.{layout_of}
use Rattle.layout.proofs.Laws.{laid_passes, state_ok, counts_read, clips_small, values_small, state_next, values_next, clips_next, state_found}
use Rattle.layout.proofs.passed.Plan.state_layout.Goals as goal
use Rattle.layout.proofs.passed.Plan.state_layout.Goals.{At-loop-s}

known : (c : At-loop-s)
    → let plan = c.args.self.now.words.now in
    let at = c.loop-s.at in
    (at + 1 + 4 * word plan at < length plan) × (c.loop-s.values_at ≤ max_word) × (c.loop-s.clip_node ≤ max_word)
known c =
    let ok = (laid_passes c.args.self.now.laid) in
    let below : c.loop-s.s < state_count c.args.self.now.words.now = omega arith in
    (counts_read _ _ _ _ c.loop-s.invariant.0 refl (state_ok _ ok _ below), omega (arith, values_small _ ok _ below), omega (arith, clips_small _ ok _ below))

pub loop-s-init : goal.loop-s-init
unfolding transitions_before total clip_nodes_before number_at layout_of
loop-s-init c =
    let e = c.args.self.now.laid.found in
    (ap (λ l. l.states_at) e, omega (arith, ap (λ l. l.clips) e), refl)

pub loop-s-preserved : goal.loop-s-preserved
loop-s-preserved c =
    let k = c.word_there-nodes.ensures.0 in
    let t = c.word_there-transitions.ensures.0 in
    let e = c.loop-s.invariant.0 in
    let ok = (laid_passes c.args.self.now.laid) in
    let below : c.loop-s.s < state_count c.args.self.now.words.now = omega arith in
    (state_next _ _ _ _ e k _ t, values_next _ _ _ _ e k _ t _ c.loop-s.invariant.1, clips_next _ _ _ _ e k (state_ok _ ok _ below) _ c.loop-s.invariant.2)

pub returns : goal.returns
returns c =
    let last : c.loop-s.s ≡ c.args.state = omega arith in
    rw last at (state_found _ _ _ _ c.loop-s.invariant.0 c.word_there-nodes-2.ensures.0 _ c.word_there.ensures.0 _ _ c.loop-s.invariant.1 c.loop-s.invariant.2)

pub word_there-nodes-requires : goal.word_there-nodes-requires
word_there-nodes-requires c = omega (arith, known (goal.at.word_there-nodes-requires c).At-loop-s)

pub overflow_add-transitions_at : goal.overflow_add-transitions_at
overflow_add-transitions_at c = omega (arith, known (goal.at.overflow_add-transitions_at c).At-loop-s)

pub overflow_mul-transitions_at : goal.overflow_mul-transitions_at
overflow_mul-transitions_at c = omega (arith, c.word_there-nodes.ensures)

pub overflow_add-transitions_at-in-loop-s : goal.overflow_add-transitions_at-in-loop-s
overflow_add-transitions_at-in-loop-s c = omega (arith, known (goal.at.overflow_add-transitions_at-in-loop-s c).At-loop-s, c.word_there-nodes.ensures)

pub word_there-transitions-requires : goal.word_there-transitions-requires
word_there-transitions-requires c = omega (arith, known (goal.at.word_there-transitions-requires c).At-loop-s, c.word_there-nodes.ensures)

pub overflow_add-clip_node : goal.overflow_add-clip_node
overflow_add-clip_node c = omega (arith, c.word_there-nodes.ensures)

pub overflow_add-clip_node-in-loop-s : goal.overflow_add-clip_node-in-loop-s
overflow_add-clip_node-in-loop-s c = omega (arith, known (goal.at.overflow_add-clip_node-in-loop-s c).At-loop-s, c.word_there-nodes.ensures, div-le_self (c.word_there-nodes.result + 1) 2)

pub overflow_mul-values_at : goal.overflow_mul-values_at
overflow_mul-values_at c = omega (arith, c.word_there-transitions.ensures)

pub overflow_add-values_at : goal.overflow_add-values_at
overflow_add-values_at c = omega (arith, known (goal.at.overflow_add-values_at c).At-loop-s, c.word_there-transitions.ensures)

pub overflow_add-at : goal.overflow_add-at
overflow_add-at c = omega (arith, known (goal.at.overflow_add-at c).At-loop-s, c.word_there-nodes.ensures)

pub overflow_mul-at : goal.overflow_mul-at
overflow_mul-at c = omega (arith, c.word_there-transitions.ensures)

pub overflow_add-at-in-loop-s : goal.overflow_add-at-in-loop-s
overflow_add-at-in-loop-s c = omega (arith, known (goal.at.overflow_add-at-in-loop-s c).At-loop-s, c.word_there-nodes.ensures, c.word_there-transitions.ensures)

pub word_there-nodes-requires-2 : goal.word_there-nodes-requires-2
word_there-nodes-requires-2 c = omega (arith, known (goal.at.word_there-nodes-requires-2 c).At-loop-s)

pub overflow_add-transitions_at-2 : goal.overflow_add-transitions_at-2
overflow_add-transitions_at-2 c = omega (arith, known (goal.at.overflow_add-transitions_at-2 c).At-loop-s)

pub overflow_mul-transitions_at-2 : goal.overflow_mul-transitions_at-2
overflow_mul-transitions_at-2 c = omega (arith, c.word_there-nodes-2.ensures)

pub overflow_add-transitions_at-3 : goal.overflow_add-transitions_at-3
overflow_add-transitions_at-3 c = omega (arith, known (goal.at.overflow_add-transitions_at-3 c).At-loop-s, c.word_there-nodes-2.ensures)

pub overflow_add-result : goal.overflow_add-result
overflow_add-result c = omega (arith, known (goal.at.overflow_add-result c).At-loop-s)

pub overflow_add-result-2 : goal.overflow_add-result-2
overflow_add-result-2 c = omega (arith, known (goal.at.overflow_add-result-2 c).At-loop-s, c.word_there-nodes-2.ensures)

pub word_there-requires : goal.word_there-requires
word_there-requires c = omega (arith, known (goal.at.word_there-requires c).At-loop-s, c.word_there-nodes-2.ensures)
