-- The place behind a line that is no malformed one is where the text goes on. Assumes nothing.
use Prim.Native.Nat.{ℕ, ◌+◌, ◌-◌, ◌≤◌}
use native.Mathlib.Omega.{arith}
use mathlib.Core.Path.{◌≡◌, refl, sym, ap, ◌∙◌}
use mathlib.Core.Bool.{Bool, true, false, cond}
use mathlib.Core.List.{List, [], ◌∷◌}
use lib.Ieee.{Float}
use lib.ListN.{length, drop, length-drop, drop_of_length-le}
use lib.Dec.{eqb, leb}
use lib.Seq.{drop-drop}
use borrow.Author.Tests.{leb-true, leb-false}
use Rattle.model.specs.declared.FieldForm.{FieldForm}
use Rattle.model.specs.declared.FieldForm.TheVariants.{Decimal, Bits}
use Rattle.model.specs.declared.FrameKind.{FrameKind}
use Rattle.model.specs.declared.FrameKind.TheVariants.{Ordinary, Page}
use Rattle.model.specs.Run.{Call, Update, Speed}
use Rattle.model.specs.Text.{front, comma, line_feed, max_word, base_of, digit_count, is_field}
use Rattle.model.specs.Text.{Field, none, field, field_in, begins}
use Rattle.fields.specs.Wide.{wide_bits_in}
use Rattle.calls.specs.CallText.{CallLine, malformed, line, behind_comma, behind_field, bits_field, decimal_field}
use Rattle.calls.specs.CallText.{line_end, time_line, set_line, frame_line, loops_line, Kind, named, line_in, call_in}
use Rattle.calls.specs.Read.{call_placed, call_at, end_of}

-- a text's rear part
record Rear (s rest : List ℕ) : Type 0 where
  from : ℕ
  is : rest ≡ drop from s

dropped : (s : List ℕ) (k : ℕ) → Rear s (drop k s)
dropped s k = record { from = k; is = refl }

rear_of : {s t u : List ℕ} → Rear s t → Rear t u → Rear s u
rear_of {s = s} a b = record { from = a.from + b.from; is = b.is ∙ rw a.is (drop-drop b.from a.from s) }

-- what is left behind a field, and behind a line
data FieldRear (s : List ℕ) : Field → Type 0 where
  no_field : FieldRear s none
  a_field : {v : ℕ} {rest : List ℕ} → Rear s rest → FieldRear s (field v rest)

data LineRear (s : List ℕ) : CallLine → Type 0 where
  no_line : LineRear s malformed
  a_line : {c : Call} {rest : List ℕ} → Rear s rest → LineRear s (line c rest)

either : {A : Type 0} (P : A → Type 0) (t : Bool) {a b : A} → P a → P b → P (cond t a b)
either P true a b = a
either P false a b = b

later_field : {s t : List ℕ} {f : Field} → Rear s t → FieldRear t f → FieldRear s f
later_field r no_field = no_field
later_field r (a_field h) = a_field (rear_of r h)

later_line : {s t : List ℕ} {l : CallLine} → Rear s t → LineRear t l → LineRear s l
later_line r no_line = no_line
later_line r (a_line h) = a_line (rear_of r h)

wide_rear : (s : List ℕ) → FieldRear s (wide_bits_in s)
unfolding wide_bits_in
wide_rear s = either (FieldRear s) (eqb (digit_count 16 s) 16) (a_field (dropped s 16)) no_field

field_rear : (form : FieldForm) (s : List ℕ) → FieldRear s (field_in form s)
unfolding field_in
field_rear form s =
    let k = digit_count (base_of form) s in
    either (FieldRear s) (is_field form k s) (a_field (dropped s k)) no_field

comma_rear : (read : List ℕ → Field) → ((s : List ℕ) → FieldRear s (read s))
    → (s : List ℕ) → FieldRear s (behind_comma read s)
unfolding behind_comma
comma_rear read rear s =
    either (FieldRear s) (eqb (front s) comma) (later_field (dropped s 1) (rear (drop 1 s))) no_field

then_rear : {s : List ℕ} {f : Field} (more : ℕ → List ℕ → CallLine) → FieldRear s f
    → ((v : ℕ) (rest : List ℕ) → LineRear rest (more v rest)) → LineRear s (behind_field f more)
unfolding behind_field
then_rear more no_field ends = no_line
then_rear more (a_field {v} {rest} rear) ends = later_line rear (ends v rest)

end_rear : (c : Call) (s : List ℕ) → LineRear s (line_end c s)
unfolding line_end
end_rear c s = either (LineRear s) (eqb (front s) line_feed) (a_line (dropped s 1)) no_line

time_rear : (make : Float → Call) (s : List ℕ) → LineRear s (time_line make s)
unfolding time_line
time_rear make s = then_rear _ (comma_rear wide_bits_in wide_rear s) (λ d rest. end_rear _ rest)

decimal_rear : (s : List ℕ) → FieldRear s (decimal_field s)
decimal_rear = comma_rear (field_in (Decimal max_word)) (field_rear (Decimal max_word))

bits_rear : (s : List ℕ) → FieldRear s (bits_field s)
bits_rear = comma_rear (field_in Bits) (field_rear Bits)

set_rear : (s : List ℕ) → LineRear s (set_line s)
unfolding set_line
set_rear s = then_rear _ (decimal_rear s) (λ n t. then_rear _ (bits_rear t) (λ v rest. end_rear _ rest))

loops_rear : (s : List ℕ) → LineRear s (loops_line s)
unfolding loops_line
loops_rear s =
    then_rear _ (decimal_rear s)
    (λ k t. then_rear _ (decimal_rear t) (λ n u. then_rear _ (bits_rear u) (λ v rest. end_rear _ rest)))

frame_rear : (kind : FrameKind) (s : List ℕ) → LineRear s (frame_line kind s)
unfolding frame_line
frame_rear kind s =
    then_rear _ (comma_rear wide_bits_in wide_rear s)
    (λ d t. then_rear _ (decimal_rear t) (λ n rest. end_rear _ rest))

-- a line with a name, or else others
named_rear : (name : List ℕ) (behind : List ℕ → CallLine) (others : List Kind) (s : List ℕ) → ((t : List ℕ) → LineRear t (behind t))
    → LineRear s (line_in others s) → LineRear s (line_in (named name behind ∷ others) s)
unfolding line_in
named_rear name behind others s rear =
    either (LineRear s) (begins name s) (later_line (dropped s (length name)) (rear (drop (length name) s)))

none_rear : (s : List ℕ) → LineRear s (line_in [] s)
unfolding line_in
none_rear s = no_line

call_rear : (s : List ℕ) → LineRear s (call_in s)
unfolding call_in
call_rear s =
    named_rear _ _ _ s (time_rear Update)
    (named_rear _ _ _ s (time_rear Speed)
    (named_rear _ _ _ s set_rear
    (named_rear _ _ _ s (frame_rear Ordinary)
    (named_rear _ _ _ s (frame_rear Page)
    (named_rear _ _ _ s loops_rear
    (none_rear s))))))

-- a rear part begins as many places before the end as it has
rear_place : (s : List ℕ) (k : ℕ) → drop (length s - length (drop k s)) s ≡ drop k s
rear_place s k = go (leb k (length s)) refl
  where
    go : (t : Bool) → leb k (length s) ≡ t → drop (length s - length (drop k s)) s ≡ drop k s
    go true e =
        let h = leb-true k (length s) e in
        let n : length s - length (drop k s) ≡ k = omega (arith, length-drop k s) in
        ap (λ i. drop i s) n
    go false e =
        let h = leb-false k (length s) e in
        let none : length s ≤ length s - length (drop k s) = omega (arith, length-drop k s) in
        drop_of_length-le s none ∙ sym (drop_of_length-le s {i = k} (omega arith))

pub text_behind : (text : List ℕ) (at : ℕ) {c : Call} {rest : List ℕ} → call_in (drop at text) ≡ line c rest
    → drop (end_of (call_at text at)) text ≡ rest
unfolding call_placed
text_behind text at {c} {rest} e = go (rw e at (call_rear (drop at text)))
  where
    go : LineRear (drop at text) (line c rest) → drop (end_of (call_at text at)) text ≡ rest
    go (a_line h) = let r = rear_of (dropped text at) h in rw (e, r.is) (rear_place text r.from)
