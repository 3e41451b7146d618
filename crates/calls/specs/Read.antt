-- What the reader's types say of a text. Definitions only.
use Rattle.std.specs.Prelude.{ℕ, ◌+◌, ◌-◌, ◌≤◌, ◌≡◌, Bool, true, cond, List, length, drop, Float, Option, Some, None, MatchOption, Result, Ok, Err}
use denote.Ref.{Bor}
use Rattle.model.specs.Text.{begins, Field, none, field}
use Rattle.model.specs.Run as Run
use Rattle.fields.specs.declared.Field as Found
use Rattle.fields.specs.Found.{found}
use Rattle.calls.specs.declared.Call.{Call}
use Rattle.calls.specs.declared.Call.TheVariants.{Update, Speed, Set, Frame, Loops}
use Rattle.calls.specs.declared.CallAt.{CallAt}
use Rattle.calls.specs.declared.Malformed.{Malformed}
use Rattle.calls.specs.declared.Cursor.{Cursor}
use Rattle.calls.specs.CallText.{CallLine, malformed, line, call_in, CallList, bad_line, calls}

-- ---- the program's call and the text's

unfoldable pub call_of : Call → Run.Call
call_of (Update delta) = Run.Update delta
call_of (Speed value) = Run.Speed value
call_of (Set parameter value) = Run.Set parameter value
call_of (Frame kind ext length) = Run.Frame kind ext length
call_of (Loops state node time) = Run.Loops state node time

unfoldable pub as_call : Run.Call → Call
as_call (Run.Update delta) = Update delta
as_call (Run.Speed value) = Speed value
as_call (Run.Set parameter value) = Set parameter value
as_call (Run.Frame kind ext length) = Frame kind ext length
as_call (Run.Loops state node time) = Loops state node time

-- each call that the program makes of a time is the one that the text's line makes of it
abbrev pub Makes : (Float → Call → Type 0) → (Float → Run.Call) → Type 0
Makes made make = (time : Float) (call : Call) → made time call → call_of call ≡ make time

-- each field that the program reads at a place is the one that the text has there
abbrev pub Reads : (Bor (List ℕ) → ℕ → Option Found.Field → Type 0) → (List ℕ → Field) → Type 0
Reads read parse = (text : Bor (List ℕ)) (at : ℕ) (field : Option Found.Field) → read text at field → found text.now field ≡ parse (drop at text.now)

-- ---- the call at a place of a text, and the place behind its line; none where the line is malformed

unfoldable pub line_read : List ℕ → Option CallAt → CallLine
line_read text None = malformed
line_read text (Some r) = line (call_of r.call) (drop r.end text)

unfoldable pub call_placed : List ℕ → CallLine → Option CallAt
call_placed text malformed = None
call_placed text (line c rest) = Some (record { call = as_call c; end = length text - length rest })

abbrev pub call_at : List ℕ → ℕ → Option CallAt
call_at text at = call_placed text (call_in (drop at text))

-- the place behind the line; 0 where it is malformed
abbrev pub end_of : Option CallAt → ℕ
end_of None = 0
end_of (Some r) = r.end

-- what was read is this line of the text, no more and no less
pub record CallRead (text : List ℕ) (l : CallLine) (r : Option CallAt) : Type 0 where
  pub value : r ≡ call_placed text l
  pub reading : line_read text r ≡ l

-- ---- steps over a line

-- the text from the cursor's place on
abbrev pub left : Cursor → List ℕ
left c = drop c.at c.text.now

-- over some bytes, if they stand there
pub record Skipped (bytes : List ℕ) (before after : Cursor) (r : Bool) : Type 0 where
  pub test : r ≡ begins bytes (left before)
  pub place : after ≡ cond r (record { text = before.text; at = before.at + length bytes }) before
  pub inside : r ≡ true → after.at ≤ length before.text.now

-- over a field: its value, in some form; then the cursor stands behind it
pub record Stepped {A : Type 0} (form : ℕ → A) (f : Field) (before after : Cursor) (r : Option A) : Type 0 where
  pub text : after.text.now ≡ before.text.now
  pub value : MatchOption r (f ≡ none) (λ x. (v : ℕ) × (x ≡ form v) × (f ≡ field v (left after)))

-- ---- a list

-- the number of the first malformed line; 0 where there is none
unfoldable pub first_malformed : CallList → ℕ
first_malformed (bad_line n) = n
first_malformed (calls cs) = 0

-- so many lines, or which of them is the first malformed one
unfoldable pub checked : ℕ → CallList → Result ℕ Malformed
checked lines (bad_line n) = Err (record { line = n; lines = lines })
checked lines (calls cs) = Ok lines
