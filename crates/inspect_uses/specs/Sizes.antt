-- How many bytes lines have at the most. Definitions only.
use Rattle.std.specs.Prelude.{ℕ, ◌+◌, ◌*◌}
use Rattle.model.specs.Plan.{max_states, max_parameters, max_clips}
use Rattle.printing.specs.Sizes.{decimal_size, refusal_size}

-- `parameter`
abbrev pub name_size : ℕ
name_size = 9

-- a name, two fields and LF
abbrev pub mark_size : ℕ
mark_size = name_size + 2 * decimal_size + 1

-- those of all states, parameters and clips
abbrev pub uses_size : ℕ
uses_size = (max_states + max_parameters + max_clips) * mark_size

-- all that is printed. A refusal is longer than `ok`
abbrev pub max_uses_printed : ℕ
max_uses_printed = refusal_size + uses_size
