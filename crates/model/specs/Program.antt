-- Document 01, "Page matrices, text, program": what the program prints, and the text of a figure. Definitions only.
use Rattle.std.specs.Prelude.{ℕ, zero, suc, ◌+◌, ◌*◌, ◌/◌, ◌%◌, cond, List, [], ◌∷◌, ◌++◌, map, length, get_or, drop, ltb, Float}
use Rattle.std.specs.Float.{binary32}
use Rattle.std.specs.Float.Ieee.{to_bits}
use Rattle.model.specs.declared.LineKind.{LineKind}
use Rattle.model.specs.declared.LineKind.TheVariants.{Figure, Joint, Clip, State, Node, Go, Pose}
use Rattle.model.specs.declared.FieldForm.{FieldForm}
use Rattle.model.specs.declared.FieldForm.TheVariants.{Decimal, Bits}
use Rattle.model.specs.declared.FrameKind.TheVariants.{Ordinary}
use Rattle.model.specs.Numbers.{0f}
use Rattle.model.specs.Rotations.{identity_matrix, floats}
use Rattle.model.specs.Answers.{Verdict, accepted, refused}
use Rattle.model.specs.Plan.{joint_count, clip_count, state_count, node_count, transition_count, clip_words, joint_count_at, parent_at, sample_count_at, kind_at, condition_parameter_at, number_at, Rate, Value, poses_at, samples_before}
use Rattle.model.specs.Controller.{fresh}
use Rattle.model.specs.Run.{start_verdict, frame_matrices}
use Rattle.model.specs.Text.{front, line_feed, comma, name, forms, Reading, bad, got, read_figure, floats_of}

-- ---- numbers as text

unfoldable pub glyph : ℕ → ℕ
glyph d = cond (ltb d 10) (48 + d) (87 + d)

-- the last k digits of n in a base
unfoldable pub digits : ℕ → ℕ → ℕ → List ℕ
digits base zero n = []
digits base (suc k) n = digits base k (n / base) ++ glyph (n % base) ∷ []

-- how many decimal digits n has, if not more than suc k
unfoldable pub places : ℕ → ℕ → ℕ
places zero n = 1
places (suc k) n = cond (ltb n 10) 1 (suc (places k (n / 10)))

-- 'decimals'. Numbers of 64 bits have 20 digits at the most
unfoldable pub decimal_text : ℕ → List ℕ
decimal_text n = digits 10 (places 19 n) n

-- 'float bits'
unfoldable pub bits_text : ℕ → List ℕ
bits_text n = digits 16 8 n

-- a comma before each
unfoldable pub decimal_fields : List ℕ → List ℕ
decimal_fields [] = []
decimal_fields (v ∷ vs) = comma ∷ decimal_text v ++ decimal_fields vs

unfoldable pub bits_fields : List ℕ → List ℕ
bits_fields [] = []
bits_fields (v ∷ vs) = comma ∷ bits_text v ++ bits_fields vs

-- ---- what the program prints

-- `refused,number,place`; the bytes are those of `refused`
unfoldable pub refused_line : ℕ → ℕ → List ℕ
refused_line number place = (114 ∷ 101 ∷ 102 ∷ 117 ∷ 115 ∷ 101 ∷ 100 ∷ []) ++ decimal_fields (number ∷ place ∷ []) ++ line_feed ∷ []

-- `joint,index,` and 16 float bits, every NaN as 7fc00000, which is how to_bits writes it
unfoldable pub joint_line : ℕ → List Float → List ℕ
joint_line j xs = name Joint ++ decimal_fields (j ∷ []) ++ bits_fields (map (to_bits binary32) xs) ++ line_feed ∷ []

-- f 0, .., f (n - 1), one behind the other
unfoldable pub joined : ℕ → (ℕ → List ℕ) → List ℕ
joined zero f = []
joined (suc n) f = joined n f ++ f n

-- one frame with ext 0 after a start
unfoldable pub played : List ℕ → List Float → Verdict → List ℕ
played plan numbers accepted =
    let matrices = frame_matrices plan numbers (fresh plan numbers) 0f Ordinary in
    joined (joint_count plan) (λ j. joint_line j (floats (get_or matrices j identity_matrix)))
played plan numbers (refused number place rest) = refused_line number place

-- of a figure: what it plays, or why it does not start
abbrev pub figure_printed : List ℕ → List Float → List ℕ
figure_printed plan numbers = played plan numbers (start_verdict plan numbers)

-- of a text's reading: 11, else what the figure that it gives shows
unfoldable pub printed_from : (List ℕ → List Float → List ℕ) → Reading → List ℕ
printed_from shows (bad n) = refused_line 11 n
printed_from shows (got ws bs rest n) = shows ws (floats_of bs)

-- 'text of at most 65,536 bytes'
abbrev pub max_text : ℕ
max_text = 65536

-- a number in a text: a comma and eight digits
abbrev pub number_bytes : ℕ
number_bytes = 9

abbrev pub max_numbers : ℕ
max_numbers = max_text / number_bytes

-- of a text, by a program that shows figures: 13, then the reader's, then the figure's own
unfoldable pub printed_by : (List ℕ → List Float → List ℕ) → List ℕ → List ℕ
printed_by shows text = cond (ltb max_text (length text)) (refused_line 13 max_text) (printed_from shows (read_figure text))

-- the whole program: 13, then the reader's, then the start's
unfoldable pub printed : List ℕ → List ℕ
printed text = printed_by figure_printed text

-- ---- a figure as text. Numbers are given by their bits

-- n elements from place a on; 0 where there is none
unfoldable pub part : List ℕ → ℕ → ℕ → List ℕ
part xs a zero = []
part xs a (suc n) = part xs a n ++ get_or xs (a + n) 0 ∷ []

-- fields of these forms, from a line's words and bits
unfoldable pub fields_text : List FieldForm → List ℕ → List ℕ → List ℕ
fields_text [] words bits = []
fields_text (Decimal limit ∷ later) words bits = decimal_fields (front words ∷ []) ++ fields_text later (drop 1 words) bits
fields_text (Bits ∷ later) words bits = bits_fields (front bits ∷ []) ++ fields_text later words (drop 1 bits)

unfoldable pub line_text : LineKind → List ℕ → List ℕ → List ℕ
line_text kind words bits = name kind ++ fields_text (forms kind) words bits ++ line_feed ∷ []

module _ (plan bits : List ℕ) where
  unfoldable pub state_text : ℕ → List ℕ
  state_text s =
      line_text State (node_count plan s ∷ transition_count plan s ∷ []) [] ++
      joined (node_count plan s) (λ i. line_text Node (part plan (kind_at plan s i) 4) []) ++
      joined (transition_count plan s) (λ t. line_text Go (part plan (condition_parameter_at plan s t) 3) (part bits (number_at plan (Value s t)) 2))

  unfoldable pub figure_text : List ℕ
  figure_text =
      line_text Figure (part plan joint_count_at 5) [] ++
      joined (joint_count plan) (λ j. line_text Joint (part plan (parent_at j) 1) []) ++
      joined (clip_count plan) (λ c. line_text Clip (part plan (sample_count_at plan c) clip_words) (part bits (number_at plan (Rate c)) 1)) ++
      joined (state_count plan) state_text ++
      joined (samples_before plan (clip_count plan) * joint_count plan) (λ m. line_text Pose [] (part bits (poses_at plan + 8 * m) 8))
