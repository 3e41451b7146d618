-- What a reader's steps do. Definitions only.
use Rattle.std.specs.Prelude.{ℕ, ◌+◌, ◌*◌, ◌≤◌, ◌≡◌, List, drop, Result, Ok, Err}
use Rattle.model.specs.declared.LineKind.{LineKind}
use Rattle.model.specs.declared.FieldForm.{FieldForm}
use Rattle.model.specs.Text.{malformed, line_in, Reading}
use Rattle.text.specs.declared.put.Progress.{Progress}
use Rattle.text.specs.declared.put.Malformed.{Malformed}
use Rattle.text.specs.declared.put.Reader.{Reader}
use Rattle.text.specs.Steps.{behind_line, LineAt, Step, ReadAs, ValuesPut}

-- the same text, and slices that lie where they did
pub record SameReader (before after : Reader) : Type 0 where
  pub text : after.text.now ≡ before.text.now
  pub plan : after.plan.ghost_name ≡ before.plan.ghost_name
  pub numbers : after.numbers.ghost_name ≡ before.numbers.ghost_name

-- and these hold what they did
abbrev pub Unwritten : Reader → Reader → Type 0
Unwritten before after = SameReader before after × (after.plan.now ≡ before.plan.now) × (after.numbers.now ≡ before.numbers.now)

-- room before r's place for so many words and numbers more
abbrev pub RoomFor : ℕ → ℕ → Progress → Type 0
RoomFor words numbers r = 3 * r.line + 2 * (r.words + words) + 9 * (r.numbers + numbers) ≤ r.at

-- the values of fields of these forms are put
pub record PutTo (fs : List FieldForm) (vs : List ℕ) (before after : Reader) : Type 0 where
  pub same : SameReader before after
  pub values : after.values ≡ before.values
  pub put : ValuesPut fs vs before.progress after.progress before.plan.now after.plan.now before.numbers.now after.numbers.now

-- how far a step came, or the line that stopped it, whatever it hands back
abbrev pub step_of : {A : Type 0} → Progress → Result A Malformed → Step
step_of q (Ok x) = Ok q
step_of q (Err m) = Err m

-- a step that reads so
pub record ReadTo {A : Type 0} (read : List ℕ → Reading) (before after : Reader) (r : Result A Malformed) : Type 0 where
  pub same : SameReader before after
  pub step : ReadAs before.text.now before.progress before.plan.now after.plan.now before.numbers.now after.numbers.now
      (step_of after.progress r) (read (drop before.progress.at before.text.now))

-- behind a line that was found, with nothing put yet; or before one that is malformed
abbrev pub LineRead : {A : Type 0} → LineKind → Reader → Reader → Result A Malformed → Type 0
LineRead kind before after (Ok x) =
    (after.progress ≡ behind_line before.progress after.progress.at) × LineAt kind before.text.now after.values before.progress after.progress.at
LineRead kind before after (Err m) = (m.line ≡ before.progress.line + 1) × (line_in kind (drop before.progress.at before.text.now) ≡ malformed)
