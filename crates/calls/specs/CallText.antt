-- A list of calls as text: `update,D` `speed,D` `set,N,F` `frame,D,L` `page,D,L` `loops,S,N,F`, a call a line. Definitions only.
-- D and F are float bits of 64 and 32 bits, the others decimals: N a parameter, L the output's length, and of `loops` a state and a node.
use Rattle.std.specs.Prelude.{ℕ, zero, suc, ◌+◌, cond, List, [], ◌∷◌, length, drop, eqb, Float}
use Rattle.std.specs.Float.{binary32, binary64}
use Rattle.std.specs.Float.Ieee.{of_bits}
use Rattle.model.specs.declared.FieldForm.TheVariants.{Decimal, Bits}
use Rattle.model.specs.declared.FrameKind.{FrameKind}
use Rattle.model.specs.declared.FrameKind.TheVariants.{Ordinary, Page}
use Rattle.model.specs.Text.{front, line_feed, comma, max_word, Field, none, field, field_in, begins}
use Rattle.model.specs.Run.{Call, Update, Speed, Set, Frame, Loops}
use Rattle.fields.specs.Wide.{wide_bits_in}

-- ---- a line

-- `update`, `speed`, `set`, `frame`, `page`, `loops`, by their bytes
abbrev pub update_name : List ℕ
update_name = 117 ∷ 112 ∷ 100 ∷ 97 ∷ 116 ∷ 101 ∷ []

abbrev pub speed_name : List ℕ
speed_name = 115 ∷ 112 ∷ 101 ∷ 101 ∷ 100 ∷ []

abbrev pub set_name : List ℕ
set_name = 115 ∷ 101 ∷ 116 ∷ []

abbrev pub frame_name : List ℕ
frame_name = 102 ∷ 114 ∷ 97 ∷ 109 ∷ 101 ∷ []

abbrev pub page_name : List ℕ
page_name = 112 ∷ 97 ∷ 103 ∷ 101 ∷ []

abbrev pub loops_name : List ℕ
loops_name = 108 ∷ 111 ∷ 111 ∷ 112 ∷ 115 ∷ []

pub data CallLine : Type 0 where
  malformed : CallLine
  line : (call : Call) (rest : List ℕ) → CallLine

-- a comma, and a field behind it
unfoldable pub behind_comma : (List ℕ → Field) → List ℕ → Field
behind_comma read s = cond (eqb (front s) comma) (read (drop 1 s)) none

unfoldable pub behind_field : Field → (ℕ → List ℕ → CallLine) → CallLine
behind_field none more = malformed
behind_field (field v rest) more = more v rest

-- D, F, and decimals
abbrev pub wide_field : List ℕ → Field
wide_field s = behind_comma wide_bits_in s

abbrev pub bits_field : List ℕ → Field
bits_field s = behind_comma (field_in Bits) s

abbrev pub decimal_field : List ℕ → Field
decimal_field s = behind_comma (field_in (Decimal max_word)) s

-- the line's end
unfoldable pub line_end : Call → List ℕ → CallLine
line_end call s = cond (eqb (front s) line_feed) (line call (drop 1 s)) malformed

-- behind the names of lines
unfoldable pub time_line : (Float → Call) → List ℕ → CallLine
time_line make s = behind_field (wide_field s) (λ d rest. line_end (make (of_bits binary64 d)) rest)

unfoldable pub set_line : List ℕ → CallLine
set_line s = behind_field (decimal_field s) (λ n rest. behind_field (bits_field rest) (λ v. line_end (Set n (of_bits binary32 v))))

unfoldable pub frame_line : FrameKind → List ℕ → CallLine
frame_line kind s = behind_field (wide_field s) (λ d rest. behind_field (decimal_field rest) (λ n. line_end (Frame kind (of_bits binary64 d) n)))

unfoldable pub loops_line : List ℕ → CallLine
loops_line s =
    behind_field (decimal_field s) (λ state rest.
    behind_field (decimal_field rest) (λ node rest.
    behind_field (bits_field rest) (λ time. line_end (Loops state node (of_bits binary32 time)))))

-- a kind of line: its name, and how it goes on
pub data Kind : Type 0 where
  named : (name : List ℕ) (behind : List ℕ → CallLine) → Kind

abbrev pub kinds : List Kind
kinds =
    named update_name (time_line Update) ∷ named speed_name (time_line Speed) ∷ named set_name set_line
    ∷ named frame_name (frame_line Ordinary) ∷ named page_name (frame_line Page) ∷ named loops_name loops_line ∷ []

-- a line of the first of some kinds whose name stands there
unfoldable pub line_in : List Kind → List ℕ → CallLine
line_in [] s = malformed
line_in (named name behind ∷ others) s = cond (begins name s) (behind (drop (length name) s)) (line_in others s)

unfoldable pub call_in : List ℕ → CallLine
call_in s = line_in kinds s

-- ---- a list

-- the calls, or the first malformed line, counted from 1
pub data CallList : Type 0 where
  bad_line : ℕ → CallList
  calls : List Call → CallList

unfoldable pub with_call : Call → CallList → CallList
with_call c (bad_line m) = bad_line (suc m)
with_call c (calls cs) = calls (c ∷ cs)

unfoldable pub line_then : CallLine → (List ℕ → CallList) → CallList
line_then malformed more = bad_line 1
line_then (line c rest) more = with_call c (more rest)

-- n lines, and then the end of the text
unfoldable pub read_calls : ℕ → List ℕ → CallList
read_calls zero s = cond (eqb (length s) 0) (calls []) (bad_line 1)
read_calls (suc n) s = line_then (call_in s) (read_calls n)

-- how many lines are ended
unfoldable pub line_count : List ℕ → ℕ
line_count [] = 0
line_count (b ∷ s) = cond (eqb b line_feed) 1 0 + line_count s

-- a whole text. A last line without LF is left over, and malformed
unfoldable pub call_list : List ℕ → CallList
call_list text = read_calls (line_count text) text
