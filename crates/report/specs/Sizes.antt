-- How many bytes fields and lines have at the most. Definitions only.
use Rattle.std.specs.Prelude.{ℕ, ◌+◌, ◌*◌}
use Rattle.model.specs.Plan.{max_parameters, max_clip_nodes}
use Rattle.model.specs.Program.{number_bytes}
use Rattle.printing.specs.Sizes.{decimal_size, index_size}

-- digits of a 64-bit float's bits
abbrev pub wide_digits : ℕ
wide_digits = 16

abbrev pub wide_size : ℕ
wide_size = 1 + wide_digits

-- a name and fields
abbrev pub transition_size : ℕ
transition_size = 8 + wide_size + decimal_size + number_bytes

-- lines: a name, fields and LF
abbrev pub player_size : ℕ
player_size = 6 + 2 * wide_size + decimal_size + transition_size + 1

abbrev pub told_size : ℕ
told_size = 5 + 2 * decimal_size + 1

abbrev pub parameters_size : ℕ
parameters_size = 10 + max_parameters * number_bytes + 1

abbrev pub instance_size : ℕ
instance_size = 8 + index_size + 3 * number_bytes + 1

-- those of all clip nodes
abbrev pub instances_size : ℕ
instances_size = max_clip_nodes * instance_size
