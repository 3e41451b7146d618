-- What a program's reading comes to, over plain values: the reader's answer where the text is short enough, and then
-- what is printed for the text, whatever the program shows of a figure. Assumes nothing.
use Prim.Native.Nat.{ℕ, ◌+◌, ◌*◌, ◌≤◌, ◌<◌}
use native.Mathlib.Omega.{arith}
use mathlib.Core.Path.{◌≡◌, refl, sym, ◌∙◌}
use mathlib.Core.Bool.{Bool, true, false, cond}
use mathlib.Core.List.{List}
use lib.ListN.{length, take, length-map}
use lib.Dec.{ltb}
use lib.Ieee.{Float, binary32, of_bits}
use borrow.Author.Tests.{lt-ltb, le-ltb, le-leb}
use Rattle.model.specs.declared.Refusal.{Refusal}
use Rattle.model.specs.Reasons.{is_named}
use Rattle.model.specs.Answers.{number_of, OwnReason}
use Rattle.model.specs.declared.Lengths.{Lengths}
use Rattle.std.specs.Prelude.{Result, Ok, Err}
use Rattle.model.specs.Plan.{max_plan}
use Rattle.model.specs.Text.{Reading, bad, got, read_figure, floats_of, overwritten, read_words, read_floats}
use Rattle.model.specs.Text.{accepted, refused, text_values, text_verdict, when_accepted}
use Rattle.model.specs.Program.{refused_line, printed_from, max_text, max_numbers, printed_by}
use Rattle.model.specs.Promises.{TextRead}
use Rattle.model.proofs.Laws.Reading.{figure_fits}
use Rattle.printing.proofs.Laws.{front_length, front_is}
use Rattle.round_trip.proofs.Theorems.{words_most}
use Rattle.program_text.specs.ProgramText.{reading_verdict, program_verdict, ProgramTextRead}

-- ---- reading

-- each refusal has a reason of its own
number_same : {n p r m q s : ℕ} → refused n p r ≡ refused m q s → n ≡ m
number_same e = grind arith

pub own_program_reason : (r : Result Lengths Refusal) (text : List ℕ) → text_values r ≡ program_verdict text → OwnReason r
unfolding text_values program_verdict reading_verdict
own_program_reason (Ok l) text e = tt
own_program_reason (Err x) text e = go (ltb max_text (length text)) (read_figure text) e
  where
    go : (long : Bool) (reading : Reading) → refused (number_of x.reason) x.place 0 ≡ cond long (refused 13 max_text 0) (reading_verdict reading) → is_named (number_of x.reason) ≡ true
    go true reading e = rw (number_same e)
    go false (bad n) e = rw (number_same e)
    go false (got ws bs rest n) e = cc

-- a text that is too long is not read
pub long_refused : (s plan : List ℕ) (numbers : List Float) (r : Result Lengths Refusal) → max_text < length s
    → text_values r ≡ refused 13 max_text 0 → ProgramTextRead s plan plan numbers numbers r
unfolding program_verdict when_accepted
long_refused s plan numbers r h e =
    let v : program_verdict s ≡ refused 13 max_text 0 = rw (lt-ltb max_text (length s) h) in
    record { answer = e ∙ sym v; plan = rw v; numbers = rw v }

-- no figure of another is refused for the length of the slices
room_enough : (s : List ℕ) (plan_room numbers_room : ℕ) → length s ≤ max_text → max_plan ≤ plan_room
    → max_numbers ≤ numbers_room → text_verdict (read_figure s) plan_room numbers_room ≡ reading_verdict (read_figure s)
unfolding text_verdict reading_verdict
room_enough s plan_room numbers_room short words-room numbers-room = go (read_figure s) refl
  where
    go : (x : Reading) → read_figure s ≡ x → text_verdict x plan_room numbers_room ≡ reading_verdict x
    go (bad n) e = refl
    go (got ws bs rest n) e =
        let fits : 2 * length ws + 9 * length bs ≤ length s = figure_fits s ws bs rest n e in
        let few : length ws ≤ max_plan = words_most s ws bs rest n e in
        rw (le-leb (length ws) plan_room (omega arith), le-leb (length bs) numbers_room (omega arith))

pub short_read : (s plan_old plan_new : List ℕ) (numbers_old numbers_new : List Float) (r : Result Lengths Refusal)
    → length s ≤ max_text → max_plan ≤ length plan_old → max_numbers ≤ length numbers_old
    → TextRead s plan_old plan_new numbers_old numbers_new r → ProgramTextRead s plan_old plan_new numbers_old numbers_new r
unfolding program_verdict
short_read s plan_old plan_new numbers_old numbers_new r short words-room numbers-room done =
    let enough = room_enough s (length plan_old) (length numbers_old) short words-room numbers-room in
    let v : text_verdict (read_figure s) (length plan_old) (length numbers_old) ≡ program_verdict s =
    enough ∙ rw (le-ltb max_text (length s) short)
    in
    record { answer = done.answer ∙ v; plan = rw v at done.plan; numbers = rw v at done.numbers }

-- ---- what is printed then

-- the figure in the front of both slices shows what the text does
pub record FigureRead (s plan : List ℕ) (numbers : List Float) (words count : ℕ) : Type 0 where
  pub words_there : words ≤ length plan
  pub numbers_there : count ≤ length numbers
  pub lines : (shows : List ℕ → List Float → List ℕ) → shows (take words plan) (take count numbers) ≡ printed_by shows s

module _ (s plan_old plan_new : List ℕ) (numbers_old numbers_new : List Float) (r : Result Lengths Refusal)
    (done : ProgramTextRead s plan_old plan_new numbers_old numbers_new r) where
  pub refusal_printed : (shows : List ℕ → List Float → List ℕ) (f : Refusal) → r ≡ Err f
      → refused_line (number_of f.reason) f.place ≡ printed_by shows s
  unfolding text_values program_verdict reading_verdict printed_by printed_from
  refusal_printed shows f e = go (ltb max_text (length s)) (read_figure s) (rw e at done.answer)
    where
      go : (long : Bool) (x : Reading)
          → refused (number_of f.reason) f.place 0 ≡ cond long (refused 13 max_text 0) (reading_verdict x)
          → refused_line (number_of f.reason) f.place ≡ cond long (refused_line 13 max_text) (printed_from shows x)
      go true x v = cc
      go false (bad n) v = cc
      go false (got ws bs rest n) v = cc

  pub figure_read : (l : Lengths) → r ≡ Ok l → FigureRead s plan_new numbers_new l.words l.numbers
  unfolding text_values program_verdict reading_verdict when_accepted read_words read_floats printed_by printed_from
  figure_read lengths e = go (ltb max_text (length s)) (read_figure s) refl refl
    where
      go : (long : Bool) (x : Reading) → ltb max_text (length s) ≡ long → read_figure s ≡ x
          → FigureRead s plan_new numbers_new lengths.words lengths.numbers
      go true x l t =
          let v : accepted lengths.words lengths.numbers ≡ refused 13 max_text 0 = rw (e, l) at done.answer in
          let z : ◌≡◌ {A = ℕ} 0 1 = cc in
          absurd (omega arith)
      go false (bad m) l t =
          let v : accepted lengths.words lengths.numbers ≡ refused 11 m 0 = rw (e, l, t) at done.answer in
          let z : ◌≡◌ {A = ℕ} 0 1 = cc in
          absurd (omega arith)
      go false (got ws bs rest m) l t =
          let v : accepted lengths.words lengths.numbers ≡ accepted (length ws) (length bs) = rw (e, l, t) at done.answer in
          let n : lengths.words ≡ length ws = cc in
          let k : lengths.numbers ≡ length (floats_of bs) = cc (length-map bs (of_bits binary32)) in
          let p : plan_new ≡ overwritten ws plan_old = rw (l, t) at done.plan in
          let q : numbers_new ≡ overwritten (floats_of bs) numbers_old = rw (l, t) at done.numbers in
          record {
            words_there = rw (n, p) (front_length ws plan_old);
            numbers_there = rw (k, q) (front_length (floats_of bs) numbers_old);
            lines = λ shows. rw (n, p, k, q, front_is ws plan_old, front_is (floats_of bs) numbers_old, l, t);
          }
