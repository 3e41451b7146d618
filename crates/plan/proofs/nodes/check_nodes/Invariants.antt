-- `plan::nodes::check_nodes` meets its contract. Invariant: of the state that begins so the first i nodes pass, and the marks and the clip node's number are
-- theirs. Assumes nothing.
use Prim.Native.Nat.{ℕ, ◌+◌, ◌≤◌}
use Rattle.plan.specs.Parts.{Begins}
use Rattle.plan.proofs.NodeLaws.{NodesPassed}
use Rattle.plan.proofs.nodes.check_nodes.Given as goal

abbrev pub invariant-loop-i : goal.invariant-loop-i
invariant-loop-i l =
    (l.clip_node ≤ l.first_clip_node + l.i) × ((s : ℕ) → Begins l.plan s l.at l.first_clip_node → NodesPassed l.plan s l.n l.i l.used l.clip_node)
