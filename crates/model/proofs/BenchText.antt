-- Document 01, "Page matrices, text, program": names and a refusal as they are written, its whole input prints its whole output, and the limit of J in a text.
-- Theorems over the definitions.
use Rattle.std.specs.Prelude.{ℕ, ◌≡◌, refl, List, ◌++◌}
use Rattle.model.specs.declared.LineKind.TheVariants.{Figure, Joint, Clip, State, Node, Go, Pose}
use Rattle.model.specs.Text.{bad, digit, digit_count, numeral, is_field, field_in, name, forms, with_field, field_then, fields_in, begins, line_in, words_in, bits_in, prefixed, and_then, times, from_line, read_line, from_state, read_state, read_end, read_figure}
use Rattle.model.specs.Program.{glyph, digits, places, decimal_text, bits_text, decimal_fields, bits_fields, refused_line, joint_line, joined, played, printed_from, printed_by, printed}
use Rattle.model.proofs.Laws.Opened.{check_opened, all_opened}
use Rattle.model.specs.BenchText.{bytes, example_text, example_output}

-- the definitions of reading
unfoldable reading_opened : Unit {0}
unfolding digit digit_count numeral is_field field_in name forms with_field field_then fields_in begins line_in words_in bits_in prefixed and_then times from_line read_line from_state read_state read_end read_figure
reading_opened = tt

-- the names of lines, as they are written
pub names : (name Figure ≡ bytes "figure") × (name Joint ≡ bytes "joint") × (name Clip ≡ bytes "clip") × (name State ≡ bytes "state") × (name Node ≡ bytes "node") × (name Go ≡ bytes "go") × (name Pose ≡ bytes "pose")
unfolding name bytes
names = (refl, refl, refl, refl, refl, refl, refl)

-- a refusal, as it is written
pub refusal_written : refused_line 11 3 ≡ bytes "refused,11,3\n"
unfolding refused_line decimal_fields decimal_text digits places glyph bytes
refusal_written = refl

pub printed_example : printed example_text ≡ example_output
unfolding all_opened reading_opened glyph digits places decimal_text bits_text decimal_fields bits_fields joint_line joined played printed_from printed_by printed bytes example_text example_output
printed_example = refl

-- Card 11, in refusal 11: after 400 joints the next line is asked for, which is missing here; 401 are refused at their own. That a whole text of 400 is read
-- follows from the round trip (round_trip's `joints_400_back`).
pub joints_400_read : read_figure (bytes "figure,400,1,0,1,0\n") ≡ bad 2
unfolding check_opened reading_opened bytes
joints_400_read = refl

pub joints_401_read : (rest : List ℕ) → read_figure (bytes "figure,401,1,0,1,0\n" ++ rest) ≡ bad 1
unfolding check_opened reading_opened bytes
joints_401_read rest = refl
