-- One line of a list of calls: its fields, its name, and the text that it uses up. Assumes nothing.
use Prim.Native.Nat.{ℕ, ◌-◌, ◌^◌, ◌≤◌, ◌<◌}
use native.Mathlib.Omega.{arith}
use mathlib.Core.Path.{◌≡◌, refl, sym, ap, ◌∙◌}
use mathlib.Core.Bool.{Bool, true, false, cond, ◌&&◌}
use mathlib.Core.List.{List, [], ◌∷◌}
use lib.Dec.{eqb}
use lib.ListN.{length, drop, length-drop}
use lib.Ieee.{Float}
use lib.Seq.{drop-drop}
use borrow.Author.Tests.{eqb-true}
use Rattle.std.specs.Bool.{then_some}
use Rattle.std.specs.Prelude.{Option, Some, None}
use Rattle.model.specs.declared.FieldForm.{FieldForm}
use Rattle.model.specs.declared.FieldForm.TheVariants.{Decimal, Bits}
use Rattle.model.specs.declared.FrameKind.{FrameKind}
use Rattle.model.specs.declared.FrameKind.TheVariants.{Ordinary, Page}
use Rattle.model.specs.Run as Run
use Rattle.model.specs.Text.{front, comma, line_feed, digit_count, numeral, max_word, Field, none, field, field_in, begins}
use Rattle.model.proofs.Laws.Text.{field_law}
use Rattle.fields.specs.declared.Field as Found
use Rattle.fields.specs.Found.{found}
use Rattle.fields.specs.Wide.{wide_bits_in}
use Rattle.fields.proofs.Bytes.{there}
use Rattle.calls.specs.declared.Call.{Call}
use Rattle.calls.specs.declared.Call.TheVariants.{Update, Speed, Set, Frame, Loops}
use Rattle.calls.specs.declared.CallAt.{CallAt}
use Rattle.calls.specs.declared.Cursor.{Cursor}
use Rattle.calls.specs.CallText.{CallLine, malformed, line, behind_comma, behind_field, wide_field, bits_field, decimal_field}
use Rattle.calls.specs.CallText.{line_end, time_line, set_line, frame_line, loops_line, Kind, named, kinds, line_in, call_in}
use Rattle.calls.specs.Read.{call_of, as_call, line_read, call_placed, call_at, CallRead, left, Skipped, Stepped}

-- ---- fields

single : (t b : Bool) → t && true ≡ b → t ≡ b
single true b e = e
single false b e = e

comma_read : (read : List ℕ → Field) (s : List ℕ) → begins (comma ∷ []) s ≡ true → behind_comma read s ≡ read (drop 1 s)
unfolding behind_comma begins
comma_read read s e = rw (single (eqb (front s) comma) true e)

no_comma : (read : List ℕ → Field) (s : List ℕ) → false ≡ begins (comma ∷ []) s → behind_comma read s ≡ none
unfolding behind_comma begins
no_comma read s e = rw (single (eqb (front s) comma) false (sym e))

-- behind some bytes
left_behind : {bytes : List ℕ} {before after : Cursor} → Skipped bytes before after true → left after ≡ drop (length bytes) (left before)
left_behind over = rw (over.place, drop-drop)

-- no comma, or a field that was read behind it
pub no_field_stepped : {A : Type 0} {form : ℕ → A} (read : List ℕ → Field) {before after : Cursor} → Skipped (comma ∷ []) before after false
    → Stepped form (behind_comma read (left before)) before after None
no_field_stepped read {before = before} past = record { text = rw past.place; value = no_comma read (left before) past.test }

pub field_stepped : {A : Type 0} {form : ℕ → A} (read : List ℕ → Field) {before middle after : Cursor} {f : Field} {r : Option A}
    → Skipped (comma ∷ []) before middle true → f ≡ read (left middle) → Stepped form f middle after r
    → Stepped form (behind_comma read (left before)) before after r
field_stepped read {before = before} over is step =
    let here = comma_read read (left before) (sym over.test) in
    record { text = rw over.place at step.text; value = rw (here, ← left_behind over, ← is) step.value }

-- a field as its reader has it
module _ (here : Cursor) where
  pub found_none : Stepped (λ v. v) (found here.text.now None) here here None
  unfolding found
  found_none = record { text = refl; value = refl }

  pub found_some : (f : Found.Field) → Stepped (λ v. v) (found here.text.now (Some f)) here (record { text = here.text; at = f.end }) (Some f.value)
  unfolding found
  found_some f = record { text = refl; value = (f.value, refl, refl) }

-- the same in another form
module _ {A : Type 0} (form : ℕ → A) {f : Field} {before after : Cursor} where
  pub formed : {v : ℕ} {x : A} → Stepped (λ v. v) f before after (Some v) → x ≡ form v → Stepped form f before after (Some x)
  formed step e = record { text = step.text; value = (step.value.0, e ∙ ap form step.value.1, step.value.2) }

  pub none_formed : {r : Option A} → Stepped (λ v. v) f before after None → r ≡ None → Stepped form f before after r
  none_formed step e = record { text = step.text; value = rw e step.value }

-- ---- lines

module _ {text : List ℕ} where
  pub none_read : {l : CallLine} {r : Option CallAt} → r ≡ None → l ≡ malformed → CallRead text l r
  unfolding line_read call_placed
  none_read e m = record { value = rw (e, m); reading = rw (e, m) }

as_call_of : (call : Call) → as_call (call_of call) ≡ call
unfolding as_call call_of
as_call_of (Update delta) = refl
as_call_of (Speed value) = refl
as_call_of (Set n v) = refl
as_call_of (Frame kind ext n) = refl
as_call_of (Loops s n t) = refl

-- a line that ends with LF, and one that does not
pub line_ends : (call : Call) {before after : Cursor} (r : Bool) → Skipped (line_feed ∷ []) before after r
    → CallRead before.text.now (line_end (call_of call) (left before)) (then_some r (record { call = call; end = after.at }))
unfolding line_end begins line_read call_placed
line_ends call {before} false past =
    let is : line_end (call_of call) (left before) ≡ malformed = rw (single _ false (sym past.test)) in
    none_read refl is
line_ends call {before} {after} true over =
    let rest : drop 1 (left before) ≡ drop after.at before.text.now = sym (left_behind over) ∙ rw over.place in
    let is : line_end (call_of call) (left before) ≡ line (call_of call) (drop after.at before.text.now) = rw (single _ true (sym over.test), rest) in
    let inside = over.inside refl in
    let place : after.at ≡ length before.text.now - length (drop after.at before.text.now) = omega (arith, inside, length-drop after.at before.text.now) in
    record { value = rw (is, as_call_of, ← place); reading = rw is }

-- a field of a line, with `more` behind it
module _ {A : Type 0} {form : ℕ → A} {f : Field} {before after : Cursor} where
  pub without : (more : ℕ → List ℕ → CallLine) → Stepped form f before after None → behind_field f more ≡ malformed
  unfolding behind_field
  without more step = rw step.value

  pub with_value : {x : A} (more : A → List ℕ → CallLine) {r : Option CallAt} → Stepped form f before after (Some x)
      → CallRead after.text.now (more x (left after)) r → CallRead before.text.now (behind_field f (λ v. more (form v))) r
  unfolding behind_field
  with_value more step read = rw (step.value.2, ← step.value.1, ← step.text) read

-- ---- names

-- the line at a place of a text, where the cursor stands, is of one of these kinds: the names of others do not stand there
pub record Among (text : List ℕ) (at : ℕ) (kinds : List Kind) (here : Cursor) : Type 0 where
  pub text_same : here.text.now ≡ text
  pub line : line_in kinds (left here) ≡ call_in (drop at text)

-- what `call_at` promises of its result
abbrev pub There : List ℕ → ℕ → Option CallAt → Type 0
There text at r = record { value : r ≡ call_at text at; result_value : line_read text r ≡ call_in (drop at text) }

pub of_any : (here : Cursor) → Among here.text.now here.at kinds here
unfolding call_in
of_any here = record { text_same = refl; line = refl }

module _ {text : List ℕ} {at : ℕ} {name : List ℕ} {behind : List ℕ → CallLine} {others : List Kind} {before after : Cursor}
    (among : Among text at (named name behind ∷ others) before) where
  pub of_this : {r : Option CallAt} → Skipped name before after true → CallRead after.text.now (behind (left after)) r → There text at r
  unfolding line_in
  of_this over read =
      let here : behind (left after) ≡ call_in (drop at text) = rw (left_behind over) (rw (← over.test) at among.line) in
      let same : after.text.now ≡ text = rw over.place among.text_same in
      record { value = read.value ∙ cc; result_value = cc }

  pub of_another : Skipped name before after false → Among text at others after
  unfolding line_in
  of_another past = record { text_same = rw past.place among.text_same; line = rw past.place (rw (← past.test) at among.line) }

pub of_none : {text : List ℕ} {at : ℕ} {here : Cursor} → Among text at [] here → There text at None
unfolding line_in line_read call_placed
of_none among = record { value = rw (← among.line); result_value = among.line }

-- ---- a line uses up text

none_field : {v : ℕ} {rest : List ℕ} → none ≡ field v rest → ⊥
none_field e = let z : ◌≡◌ {A = ℕ} 0 1 = cc in omega arith

malformed_line_lem : {c : Run.Call} {rest : List ℕ} → malformed ≡ line c rest → ⊥
malformed_line_lem e = let z : ◌≡◌ {A = ℕ} 0 1 = cc in omega arith

comma_field : (read : List ℕ → Field) (s : List ℕ) {v : ℕ} {rest : List ℕ} → behind_comma read s ≡ field v rest → read (drop 1 s) ≡ field v rest
unfolding behind_comma
comma_field read s {v} {rest} e = at (eqb (front s) comma) e
  where
    at : (t : Bool) → cond t (read (drop 1 s)) none ≡ field v rest → read (drop 1 s) ≡ field v rest
    at true e = e
    at false e = absurd (none_field e)

-- the bits of a 32-bit float fit 32 bits
pub bits_fit : {before after : Cursor} {v : ℕ} → Stepped (λ v. v) (bits_field (left before)) before after (Some v) → v < 2 ^ 32
bits_fit {before = before} step =
    omega (arith, step.value.1, (field_law Bits (drop 1 (left before)) _ _ (comma_field (field_in Bits) (left before) step.value.2)).most)

-- what is left behind a field is not longer
abbrev Keeps : (List ℕ → Field) → Type 0
Keeps read = (s : List ℕ) (v : ℕ) (rest : List ℕ) → read s ≡ field v rest → length rest ≤ length s

wide_keeps : Keeps wide_bits_in
unfolding wide_bits_in
wide_keeps s v rest e = at (eqb (digit_count 16 s) 16) e
  where
    at : (t : Bool) → cond t (field (numeral 16 16 s) (drop 16 s)) none ≡ field v rest → length rest ≤ length s
    at true e = let p : drop 16 s ≡ rest = cc in omega (arith, length-drop 16 s, ap length p)
    at false e = absurd (none_field e)

field_keeps : (form : FieldForm) → Keeps (field_in form)
field_keeps form s v rest e = omega (arith, (field_law form s v rest e).spent)

comma_keeps : (read : List ℕ → Field) → Keeps read → Keeps (behind_comma read)
comma_keeps read keeps s v rest e = omega (arith, length-drop 1 s, keeps (drop 1 s) v rest (comma_field read s e))

-- what is left behind a line is shorter
abbrev Spends : (List ℕ → CallLine) → Type 0
Spends f = (s : List ℕ) (c : Run.Call) (rest : List ℕ) → f s ≡ line c rest → length rest < length s

end_spends : (call : Run.Call) → Spends (line_end call)
unfolding line_end
end_spends call s c rest e = at (eqb (front s) line_feed) refl e
  where
    at : (t : Bool) → eqb (front s) line_feed ≡ t → cond t (line call (drop 1 s)) malformed ≡ line c rest → length rest < length s
    at true t e =
        let p : drop 1 s ≡ rest = cc in
        let q : front s ≡ line_feed = eqb-true (front s) line_feed t in
        omega (arith, length-drop 1 s, ap length p, there s 0 (omega arith))
    at false t e = absurd (malformed_line_lem e)

then_spends : (read : List ℕ → Field) (more : ℕ → List ℕ → CallLine) → Keeps read → ((v : ℕ) → Spends (more v)) → Spends (λ s. behind_field (read s) more)
unfolding behind_field
then_spends read more keeps spends s c rest e = at (read s) refl e
  where
    at : (f : Field) → read s ≡ f → behind_field f more ≡ line c rest → length rest < length s
    at none h e = absurd (malformed_line_lem e)
    at (field v left) h e = omega (arith, keeps s v left h, spends v left c rest e)

named_spends : (name : List ℕ) (behind : List ℕ → CallLine) (others : List Kind) → Spends behind → Spends (line_in others) → Spends (line_in (named name behind ∷ others))
unfolding line_in
named_spends name behind others spends later s c rest e = at (begins name s) e
  where
    at : (t : Bool) → cond t (behind (drop (length name) s)) (line_in others s) ≡ line c rest → length rest < length s
    at true e = omega (arith, length-drop (length name) s, spends (drop (length name) s) c rest e)
    at false e = later s c rest e

wide_then : (more : ℕ → List ℕ → CallLine) → ((v : ℕ) → Spends (more v)) → Spends (λ s. behind_field (wide_field s) more)
wide_then more = then_spends wide_field more (comma_keeps wide_bits_in wide_keeps)

decimal_then : (more : ℕ → List ℕ → CallLine) → ((v : ℕ) → Spends (more v)) → Spends (λ s. behind_field (decimal_field s) more)
decimal_then more = then_spends decimal_field more (comma_keeps (field_in (Decimal max_word)) (field_keeps (Decimal max_word)))

bits_then : (more : ℕ → List ℕ → CallLine) → ((v : ℕ) → Spends (more v)) → Spends (λ s. behind_field (bits_field s) more)
bits_then more = then_spends bits_field more (comma_keeps (field_in Bits) (field_keeps Bits))

none_spends : Spends (line_in [])
unfolding line_in
none_spends s c rest e = absurd (malformed_line_lem e)

time_spends : (make : Float → Run.Call) → Spends (time_line make)
unfolding time_line
time_spends make = wide_then _ (λ d. end_spends _)

set_spends : Spends set_line
unfolding set_line
set_spends = decimal_then _ (λ n. bits_then _ (λ v. end_spends _))

frame_spends : (kind : FrameKind) → Spends (frame_line kind)
unfolding frame_line
frame_spends kind = wide_then _ (λ d. decimal_then _ (λ n. end_spends _))

loops_spends : Spends loops_line
unfolding loops_line
loops_spends = decimal_then _ (λ s. decimal_then _ (λ n. bits_then _ (λ t. end_spends _)))

pub call_spends : Spends call_in
unfolding call_in
call_spends =
    named_spends _ _ _ (time_spends Run.Update)
    (named_spends _ _ _ (time_spends Run.Speed)
    (named_spends _ _ _ set_spends
    (named_spends _ _ _ (frame_spends Ordinary)
    (named_spends _ _ _ (frame_spends Page)
    (named_spends _ _ _ loops_spends
    none_spends)))))
