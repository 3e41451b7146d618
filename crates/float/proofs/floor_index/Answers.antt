-- `float::floor_index` meets its contract: truncation gives the floor's index, and the tests keep it in its range. Assumes nothing.
use Rattle.std.proofs.Common.{sym, ◌∙◌}
use denote.Floats.{passes}
use lib.Ieee.{of_bits, neg}
use Rattle.model.proofs.Laws.Wholes.{floor_is}
use Rattle.float.proofs.Index.{index_low, index_high}
use Rattle.float.proofs.floor_index.Goals as goal

pub truncating_f32_to_u64-requires : goal.truncating_f32_to_u64-requires
unfolding of_bits neg
truncating_f32_to_u64-requires c = record { lower_bound = passes _ c.if-x.true; upper_bound = passes _ c.if-x-2.true }

pub returns-then-x-2 : goal.returns-then-x-2
returns-then-x-2 c = c.truncating_f32_to_u64.ensures ∙ sym (floor_is _)

pub returns-else-x-2 : goal.returns-else-x-2
unfolding of_bits neg
returns-else-x-2 c = sym (floor_is _ ∙ index_high _ c.if-x.true c.if-x-2.false)

pub returns-else-x : goal.returns-else-x
unfolding of_bits neg
returns-else-x c = sym (floor_is _ ∙ index_low _ c.if-x.false)
