-- What the reader's functions say of a text: of a row of lines. Definitions only.
use Rattle.std.specs.Prelude.{ℕ, ◌+◌, ◌*◌, ◌≤◌, ◌<◌, ◌≡◌, List, length, get_or, take, drop, Float, Result, Ok, Err}
use Rattle.std.proofs.lemmas.List.Edits.{sets}
use Rattle.model.specs.declared.LineKind.{LineKind}
use Rattle.model.specs.declared.FieldForm.{FieldForm}
use Rattle.model.specs.Text.{field_count, form_of, words_in, bits_in, line, line_in, Reading, bad, got, floats_of}
use Rattle.model.specs.Laws.Text.{Bounded}
use Rattle.text.specs.declared.put.Progress.{Progress}
use Rattle.text.specs.declared.put.Malformed.{Malformed}

-- a place in the text that lies behind all that was read before it
pub record InText (text : List ℕ) (r : Progress) : Type 0 where
  pub spent : 3 * r.line + 2 * r.words + 9 * r.numbers ≤ r.at
  pub inside : r.at ≤ length text

-- at r a line of a kind, with its values in front of an array, and the place behind it
pub record LineAt (kind : LineKind) (text values : List ℕ) (r : Progress) (end : ℕ) : Type 0 where
  pub here : InText text r
  pub reading : line_in kind (drop r.at text) ≡ line (take (field_count kind) values) (drop end text)
  pub inside : end ≤ length text

-- behind a line, with nothing put yet; with one more word; with one more number
abbrev pub behind_line : Progress → ℕ → Progress
behind_line r at = record { at = at; line = r.line + 1; words = r.words; numbers = r.numbers }

abbrev pub with_word : Progress → Progress
with_word r = record { at = r.at; line = r.line; words = r.words + 1; numbers = r.numbers }

abbrev pub with_number : Progress → Progress
with_number r = record { at = r.at; line = r.line; words = r.words; numbers = r.numbers + 1 }

-- a line's values stand in an array, each as its form bounds it
pub record LineValues (kind : LineKind) (values : List ℕ) : Type 0 where
  pub count : field_count kind ≤ length values
  pub bounded : (k : ℕ) → k < field_count kind → Bounded (form_of kind k) (get_or values k 0)

-- From r to q: the words and the floats of the bits stand in the slices from r's counts on
pub record Put (ws bs : List ℕ) (r q : Progress) (plan_old plan_new : List ℕ) (numbers_old numbers_new : List Float)
    : Type 0 where
  pub words : q.words ≡ r.words + length ws
  pub numbers : q.numbers ≡ r.numbers + length bs
  pub plan : plan_new ≡ sets plan_old r.words ws
  pub floats : numbers_new ≡ sets numbers_old r.numbers (floats_of bs)

-- r and q are at the same place
abbrev pub Stays : Progress → Progress → Type 0
Stays r q = (q.at ≡ r.at) × (q.line ≡ r.line)

-- From r to q: the values of fields of these forms are put, and the place is the same
abbrev pub ValuesPut : List FieldForm → List ℕ → Progress → Progress → List ℕ → List ℕ → List Float → List Float
    → Type 0
ValuesPut fs vs r q plan_old plan_new numbers_old numbers_new =
    Put (words_in fs vs) (bits_in fs vs) r q plan_old plan_new numbers_old numbers_new × Stays r q

-- From r to q: lines of the text are read, and put
pub record Moved (text ws bs rest : List ℕ) (lines : ℕ) (r q : Progress)
    (plan_old plan_new : List ℕ) (numbers_old numbers_new : List Float) : Type 0 where
  pub left : rest ≡ drop q.at text
  pub inside : q.at ≤ length text
  pub spent : r.at + 3 * lines + 2 * length ws + 9 * length bs ≤ q.at
  pub line : q.line ≡ r.line + lines
  pub put : Put ws bs r q plan_old plan_new numbers_old numbers_new

-- how far a step came, or the line that stopped it
abbrev pub Step : Type 0
Step = Result Progress Malformed

-- what a step makes of a reading. After a bad line the slices are not spoken of
unfoldable pub ReadAs : List ℕ → Progress → List ℕ → List ℕ → List Float → List Float → Step → Reading → Type 0
ReadAs text r plan_old plan_new numbers_old numbers_new (Ok q) (got ws bs rest n) =
    Moved text ws bs rest n r q plan_old plan_new numbers_old numbers_new
ReadAs text r plan_old plan_new numbers_old numbers_new (Ok q) (bad n) = ⊥
ReadAs text r plan_old plan_new numbers_old numbers_new (Err m) (got ws bs rest n) = ⊥
ReadAs text r plan_old plan_new numbers_old numbers_new (Err m) (bad n) = m.line ≡ r.line + n

-- the same of what a definition reads where r is in the text
abbrev pub ReadBy : (List ℕ → Reading) → List ℕ → Progress → Step → List ℕ → List ℕ → List Float → List Float → Type 0
ReadBy read text r step plan_old plan_new numbers_old numbers_new =
    ReadAs text r plan_old plan_new numbers_old numbers_new step (read (drop r.at text))
