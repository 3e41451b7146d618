-- Document 01, "Page matrices, text, program": the lines of a text, and what reading them gives. Definitions only.
-- A text is a list of bytes. Each definition takes the text from some byte on and says what stands there and what is left behind it.
use Rattle.std.specs.Prelude.{ℕ, zero, suc, ◌+◌, ◌-◌, ◌*◌, Bool, true, cond, not, ◌&&◌, ◌||◌, List, [], ◌∷◌, ◌++◌, map, length, get_or, drop, leb, ltb, eqb, Float, Result, Ok, Err}
use Rattle.std.specs.Float.{binary32}
use Rattle.std.specs.Float.Ieee.{of_bits}
use Rattle.model.specs.declared.LineKind.{LineKind}
use Rattle.model.specs.declared.LineKind.TheVariants.{Figure, Joint, Clip, State, Node, Go, Pose}
use Rattle.model.specs.declared.FieldForm.{FieldForm}
use Rattle.model.specs.declared.FieldForm.TheVariants.{Decimal, Bits}
use Rattle.model.specs.declared.Lengths.{Lengths}
use Rattle.model.specs.declared.Refusal.{Refusal}
use Rattle.model.specs.Answers.{number_of}
use Rattle.model.specs.Plan.{max_joints, max_clips, max_parameters, max_states, max_samples, max_nodes, max_transitions, clip_words, joint_count, clip_count, state_count, total}
use Rattle.model.specs.Check.{within}

-- ---- bytes

-- the first byte; 0, which no text needs, where there is none
abbrev pub front : List ℕ → ℕ
front s = get_or s 0 0

-- LF
abbrev pub line_feed : ℕ
line_feed = 10

abbrev pub comma : ℕ
comma = 44

-- the value of '0' to '9' and 'a' to 'f', lower case; 16 for any other byte
unfoldable pub digit : ℕ → ℕ
digit b = cond (within 48 b 57) (b - 48) (cond (within 97 b 102) (b - 87) 16)

-- how many digits of a base stand in front
unfoldable pub digit_count : ℕ → List ℕ → ℕ
digit_count base [] = 0
digit_count base (b ∷ s) = cond (ltb (digit b) base) (suc (digit_count base s)) 0

-- the number that the first k digits write
unfoldable pub numeral : ℕ → ℕ → List ℕ → ℕ
numeral base zero s = 0
numeral base (suc k) s = numeral base k s * base + digit (get_or s k 0)

-- ---- a field: all digits that stand in front

abbrev pub base_of : FieldForm → ℕ
base_of (Decimal limit) = 10
base_of Bits = 16

-- 'decimals, no leading zeros', and not above a limit; 'eight lower-case hexadecimal digits'
unfoldable pub is_field : FieldForm → ℕ → List ℕ → Bool
is_field (Decimal limit) k s = leb 1 k && (eqb k 1 || not (eqb (front s) 48)) && leb (numeral 10 k s) limit
is_field Bits k s = eqb k 8

pub data Field : Type 0 where
  none : Field
  field : (value : ℕ) (rest : List ℕ) → Field

unfoldable pub field_in : FieldForm → List ℕ → Field
field_in form s = let k = digit_count (base_of form) s in cond (is_field form k s) (field (numeral (base_of form) k s) (drop k s)) none

-- ---- a line: its name, its fields with a comma before each, LF

-- 'decimals to 65535'
abbrev pub max_word : ℕ
max_word = 65535

-- `figure`, `joint`, `clip`, `state`, `node`, `go`, `pose`, by their bytes
unfoldable pub name : LineKind → List ℕ
name Figure = 102 ∷ 105 ∷ 103 ∷ 117 ∷ 114 ∷ 101 ∷ []
name Joint = 106 ∷ 111 ∷ 105 ∷ 110 ∷ 116 ∷ []
name Clip = 99 ∷ 108 ∷ 105 ∷ 112 ∷ []
name State = 115 ∷ 116 ∷ 97 ∷ 116 ∷ 101 ∷ []
name Node = 110 ∷ 111 ∷ 100 ∷ 101 ∷ []
name Go = 103 ∷ 111 ∷ []
name Pose = 112 ∷ 111 ∷ 115 ∷ 101 ∷ []

-- the forms of a line's fields, in their order; a count's decimal has the count's upper limit
unfoldable pub forms : LineKind → List FieldForm
forms Figure = Decimal max_joints ∷ Decimal max_clips ∷ Decimal max_parameters ∷ Decimal max_states ∷ Decimal max_word ∷ []
forms Joint = Decimal max_word ∷ []
forms Clip = Decimal max_samples ∷ Bits ∷ Decimal max_word ∷ []
forms State = Decimal max_nodes ∷ Decimal max_transitions ∷ []
forms Node = Decimal max_word ∷ Decimal max_word ∷ Decimal max_word ∷ Decimal max_word ∷ []
forms Go = Decimal max_word ∷ Decimal max_word ∷ Decimal max_word ∷ Bits ∷ Bits ∷ []
forms Pose = Bits ∷ Bits ∷ Bits ∷ Bits ∷ Bits ∷ Bits ∷ Bits ∷ Bits ∷ []

abbrev pub field_count : LineKind → ℕ
field_count kind = length (forms kind)

-- of field k
abbrev pub form_of : LineKind → ℕ → FieldForm
form_of kind k = get_or (forms kind) k Bits

pub data Line : Type 0 where
  malformed : Line
  line : (values rest : List ℕ) → Line

-- a field before those of a line
unfoldable pub with_field : ℕ → Line → Line
with_field v malformed = malformed
with_field v (line vs rest) = line (v ∷ vs) rest

unfoldable pub field_then : Field → (List ℕ → Line) → Line
field_then none more = malformed
field_then (field v rest) more = with_field v (more rest)

-- fields of these forms, and the line's end
unfoldable pub fields_in : List FieldForm → List ℕ → Line
fields_in [] s = cond (eqb (front s) line_feed) (line [] (drop 1 s)) malformed
fields_in (form ∷ later) s = cond (eqb (front s) comma) (field_then (field_in form (drop 1 s)) (fields_in later)) malformed

unfoldable pub begins : List ℕ → List ℕ → Bool
begins [] s = true
begins (c ∷ cs) s = eqb (front s) c && begins cs (drop 1 s)

unfoldable pub line_in : LineKind → List ℕ → Line
line_in kind s = cond (begins (name kind) s) (fields_in (forms kind) (drop (length (name kind)) s)) malformed

-- of a line's values, those of its decimals, which are words of the plan, and those of its float bits
unfoldable pub words_in : List FieldForm → List ℕ → List ℕ
words_in [] vs = []
words_in (Decimal limit ∷ later) vs = front vs ∷ words_in later (drop 1 vs)
words_in (Bits ∷ later) vs = words_in later (drop 1 vs)

unfoldable pub bits_in : List FieldForm → List ℕ → List ℕ
bits_in [] vs = []
bits_in (Decimal limit ∷ later) vs = bits_in later (drop 1 vs)
bits_in (Bits ∷ later) vs = front vs ∷ bits_in later (drop 1 vs)

-- ---- lines, one after another

-- What was read: words for the plan, bits for the numbers, the text that is left, and how many lines; or the first bad line, counted from 1
pub data Reading : Type 0 where
  bad : (line : ℕ) → Reading
  got : (words bits rest : List ℕ) (lines : ℕ) → Reading

-- with what was read before it
unfoldable pub prefixed : List ℕ → List ℕ → ℕ → Reading → Reading
prefixed ws bs n (bad m) = bad (n + m)
prefixed ws bs n (got ws' bs' rest m) = got (ws ++ ws') (bs ++ bs') rest (n + m)

-- one reading, then another that may depend on the words of the first
unfoldable pub and_then : Reading → (List ℕ → List ℕ → Reading) → Reading
and_then (bad m) next = bad m
and_then (got ws bs rest n) next = prefixed ws bs n (next ws rest)

unfoldable pub times : ℕ → (List ℕ → Reading) → List ℕ → Reading
times zero read s = got [] [] s 0
times (suc n) read s = and_then (times n read s) (λ _. read)

unfoldable pub from_line : LineKind → Line → Reading
from_line kind malformed = bad 1
from_line kind (line vs rest) = got (words_in (forms kind) vs) (bits_in (forms kind) vs) rest 1

-- a line whose words and numbers follow each other in the figure too
unfoldable pub read_line : LineKind → List ℕ → Reading
read_line kind s = from_line kind (line_in kind s)

-- a state: the text has K and T in one line, the plan has T behind the nodes
unfoldable pub from_state : Reading → Reading
from_state (bad m) = bad m
from_state (got ws bs rest n) =
    let k = get_or ws 0 0 in
    let t = get_or ws 1 0 in
    prefixed (k ∷ []) bs n (and_then (times k (read_line Node) rest) (λ _ s. prefixed (t ∷ []) [] 0 (times t (read_line Go) s)))

unfoldable pub read_state : List ℕ → Reading
read_state s = from_state (read_line State s)

-- 'extra': a line where none is left to come
unfoldable pub read_end : List ℕ → Reading
read_end s = cond (eqb (length s) 0) (got [] [] [] 0) (bad 1)

-- N of the n clips with these words, added up
abbrev pub samples_in : List ℕ → ℕ → ℕ
samples_in clips n = total (λ c. get_or clips (clip_words * c) 0) n

-- one pose a clip, sample and joint
abbrev pub pose_count : List ℕ → List ℕ → ℕ
pose_count header clips = samples_in clips (clip_count header) * joint_count header

-- a whole text
unfoldable pub read_figure : List ℕ → Reading
read_figure text =
    and_then (read_line Figure text) (λ header s₁.
    and_then (times (joint_count header) (read_line Joint) s₁) (λ _ s₂.
    and_then (times (clip_count header) (read_line Clip) s₂) (λ clips s₃.
    and_then (times (state_count header) read_state s₃) (λ _ s₄.
    and_then (times (pose_count header clips) (read_line Pose) s₄) (λ _.
    read_end)))))

-- ---- 'Reading text': the answer, and both slices afterwards

pub data TextVerdict : Type 0 where
  accepted : (words numbers : ℕ) → TextVerdict
  refused : (number place rest : ℕ) → TextVerdict

-- what the program's answers stand for
unfoldable pub text_values : Result Lengths Refusal → TextVerdict
text_values (Ok l) = accepted l.words l.numbers
text_values (Err r) = refused (number_of r.reason) r.place 0

-- 11, then 12
unfoldable pub text_verdict : Reading → ℕ → ℕ → TextVerdict
text_verdict (bad n) plan_room numbers_room = refused 11 n 0
text_verdict (got ws bs rest n) plan_room numbers_room = cond (leb (length ws) plan_room && leb (length bs) numbers_room) (accepted (length ws) (length bs)) (refused 12 0 0)

-- the floats whose bits were read
abbrev pub floats_of : List ℕ → List Float
floats_of bs = map (of_bits binary32) bs

-- a slice that begins with what was read; 'what follows is kept'
unfoldable pub overwritten {ℓ} : {A : Type ℓ} → List A → List A → List A
overwritten new old = new ++ drop (length new) old

unfoldable pub read_words : Reading → List ℕ
read_words (bad n) = []
read_words (got ws bs rest n) = ws

unfoldable pub read_floats : Reading → List Float
read_floats (bad n) = []
read_floats (got ws bs rest n) = floats_of bs

unfoldable pub when_accepted {ℓ} : {A : Type ℓ} → TextVerdict → A → A → A
when_accepted (accepted words numbers) new old = new
when_accepted (refused number place rest) new old = old
