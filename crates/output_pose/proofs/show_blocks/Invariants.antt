-- `output_pose::show_blocks` meets its contract. Invariant: the output is the old one with the first joints' matrices written. Assumes nothing.
use Rattle.output_pose.specs.Shown.{shown_pose}
use Rattle.output_pose.proofs.Laws.{Through}
use Rattle.output_pose.proofs.show_blocks.Given as goal

abbrev pub invariant-loop-first : goal.invariant-loop-first
invariant-loop-first l =
    Through l.kind l.source.state.figure.plan.words.now l.source.state.figure.plan.layout.joints (shown_pose l.source l.target) l.initial.output l.output l.first
