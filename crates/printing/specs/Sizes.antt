-- How many bytes fields and lines have at the most. Definitions only.
use Rattle.std.specs.Prelude.{ℕ, ◌+◌, ◌*◌}
use Rattle.model.specs.Plan.{max_joints, output_at}
use Rattle.model.specs.Program.{number_bytes}

-- digits of a number of 64 bits, and of an index of joints or clip nodes
abbrev pub max_digits : ℕ
max_digits = 20

abbrev pub index_digits : ℕ
index_digits = 3

-- floats of a matrix
abbrev pub matrix_floats : ℕ
matrix_floats = output_at 1

-- fields: a comma and digits
abbrev pub decimal_size : ℕ
decimal_size = 1 + max_digits

abbrev pub index_size : ℕ
index_size = 1 + index_digits

-- lines: a name, fields and LF
abbrev pub refusal_size : ℕ
refusal_size = 7 + 2 * decimal_size + 1

abbrev pub joint_size : ℕ
joint_size = 5 + index_size + matrix_floats * number_bytes + 1

-- all that the program prints
abbrev pub max_printed : ℕ
max_printed = max_joints * joint_size
