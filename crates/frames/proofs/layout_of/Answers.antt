-- `frames::layout_of` meets its contract: the layout at hand is that of its own state. Assumes nothing.
use mathlib.Core.Path.{sym, ap, ◌∙◌}
use Rattle.layout.specs.Layout.{state_layout}
use Rattle.frames.proofs.layout_of.Goals as goal

pub returns-then-state-at_hand : goal.returns-then-state-at_hand
returns-then-state-at_hand c = c.args.at_hand.now.place.place ∙ ap (state_layout _) (sym c.if-state-at_hand.true)
