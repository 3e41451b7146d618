-- The premises can be met: a figure with a line of each kind, two of its numbers NaN patterns, is read back by computing.
use Rattle.std.specs.Prelude.{ℕ, ◌+◌, ◌*◌, ◌≤◌, ◌<◌, ◌≡◌, refl, Bool, true, ◌&&◌, List, [], ◌∷◌, length, get_or, T, leb, Float}
use Rattle.std.proofs.Common.{leb-true}
use Rattle.std.specs.Float.{nan, binary32}
use Rattle.std.specs.Float.Ieee.{fits}
use Rattle.model.specs.Plan.{word, joint_count, clip_count, state_count, sample_count_at, sample_count, after_nodes, after_transitions, state_at, node_count, kind_at, transition_count_at, transition_count, condition_parameter_at, total, transitions_before, samples_before, poses_at, number_at}
use Rattle.model.specs.Check.{within}
use Rattle.model.specs.Text.{max_word, digit, digit_count, numeral, is_field, field_in, name, forms, with_field, field_then, fields_in, begins, line_in, words_in, bits_in, got, prefixed, and_then, times, from_line, read_line, from_state, read_state, read_end, read_figure}
use Rattle.model.specs.Program.{glyph, digits, places, decimal_text, bits_text, decimal_fields, bits_fields, joined, part, fields_text, line_text, state_text, figure_text}
use Rattle.round_trip.specs.Counted.{Counted}
use Rattle.model.specs.Run.{start_verdict}
use Rattle.model.specs.Bench.{with_parents, four_hundred}
use Rattle.model.proofs.Bench.{joints_400}
use Rattle.model.proofs.Laws.Tests.{and_left, and_right}
use Rattle.round_trip.specs.RoundTrip.{floats_text, ReadsFloats}
use Rattle.round_trip.proofs.Laws.Lines.{AtMost, most_get_or}
use Rattle.round_trip.proofs.Theorems.{writes_back, accepted_back}

-- one joint, one clip of one sample with an ending that a start refuses, one state with one node and one transition
pub plan : List ℕ
plan = 1 ∷ 1 ∷ 0 ∷ 1 ∷ 0 ∷ 255 ∷ 1 ∷ 14 ∷ 1 ∷ 0 ∷ 0 ∷ 0 ∷ 0 ∷ 1 ∷ 0 ∷ 0 ∷ 65535 ∷ []

pub bits : List ℕ
bits = 0x3f800000 ∷ 0x7fc00001 ∷ 0x3f000000 ∷ 0 ∷ 0 ∷ 0x80000000 ∷ 0x3f800000 ∷ 0x3f800000 ∷ 0 ∷ 0 ∷ 0xffffffff ∷ []

-- seven lines
pub read_back : read_figure (figure_text plan bits) ≡ got plan bits [] 7
unfolding plan bits word joint_count clip_count state_count sample_count_at sample_count after_nodes after_transitions state_at node_count kind_at transition_count_at transition_count condition_parameter_at total transitions_before samples_before poses_at number_at within digit digit_count numeral is_field field_in name forms with_field field_then fields_in begins line_in words_in bits_in prefixed and_then times from_line read_line from_state read_state read_end read_figure glyph digits places decimal_text bits_text decimal_fields bits_fields joined part fields_text line_text state_text figure_text
read_back = refl

pub counted : Counted plan bits
counted = (writes_back (figure_text plan bits) plan bits [] 7 read_back).counted

-- ---- Card 11, '400 joints pass': of 400 roots (`joints_400`), with any rate and poses, the whole text is read back

are_words : List ℕ → Bool
are_words [] = true
are_words (v ∷ vs) = leb v max_word && are_words vs

most_told : (vs : List ℕ) → are_words vs ≡ true → AtMost max_word vs
unfolding are_words
most_told [] e = tt
most_told (v ∷ vs) e = (leb-true v max_word (and_left (leb v max_word) (are_words vs) e), most_told vs (and_right (leb v max_word) (are_words vs) e))

words_fit : (i : ℕ) → word four_hundred i ≤ max_word
unfolding word are_words four_hundred with_parents
words_fit i = most_get_or max_word four_hundred i (most_told four_hundred refl)

pub joints_400_back : (numbers : List Float) → length numbers ≡ 1 + 8 * 400 → ((i : ℕ) → i < length numbers → T (fits binary32 (get_or numbers i nan)))
    → ReadsFloats (floats_text four_hundred numbers) four_hundred numbers
unfolding start_verdict four_hundred
joints_400_back numbers many fit = accepted_back four_hundred numbers (rw many joints_400) words_fit fit
