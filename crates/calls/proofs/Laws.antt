-- Lists of calls: what a list that was read tells, and the laws of the loop over its lines. Assumes nothing.
use Prim.Native.Nat.{ℕ, zero, suc, ◌+◌, ◌-◌, ◌≤◌, ◌<◌}
use native.Mathlib.Nat.{sub-zero, sub_self}
use native.Mathlib.Omega.{arith}
use mathlib.Core.Path.{◌≡◌, refl, sym}
use mathlib.Core.Bool.{Bool, true, false, cond}
use mathlib.Core.List.{List, [], ◌∷◌}
use lib.Dec.{eqb}
use lib.ListN.{length, drop, length-drop}
use borrow.Author.Tests.{eq-eqb, ne_eqb}
use Rattle.std.specs.Prelude.{nat_eq, count_by, Option, Some, None, Result, Ok, Err}
use Rattle.std.proofs.lemmas.List.Recursion.{is_count_by}
use Rattle.model.specs.Run as Run
use Rattle.model.specs.Text.{line_feed}
use Rattle.calls.specs.declared.CallAt.{CallAt}
use Rattle.calls.specs.declared.Malformed.{Malformed}
use Rattle.calls.specs.CallText.{CallLine, malformed, line, call_in, CallList, bad_line, calls, with_call, line_then, read_calls, line_count, call_list}
use Rattle.calls.specs.Read.{line_read, first_malformed, checked}

-- ---- a list, from its front on

-- a list of n + 1 calls: its first, and the others behind it
pub record FirstCall (n : ℕ) (s : List ℕ) (cs : List Run.Call) : Type 0 where
  pub call : Run.Call
  pub rest : List ℕ
  pub later : List Run.Call
  pub here : call_in s ≡ line call rest
  pub split : cs ≡ call ∷ later
  pub others : read_calls n rest ≡ calls later

bad_calls : {m : ℕ} {cs : List Run.Call} → bad_line m ≡ calls cs → ⊥
bad_calls e = let z : ◌≡◌ {A = ℕ} 0 1 = cc in omega arith

pub first_call : (n : ℕ) (s : List ℕ) {cs : List Run.Call} → read_calls (suc n) s ≡ calls cs → FirstCall n s cs
unfolding read_calls line_then with_call
first_call n s {cs} e = at (call_in s) refl e
  where
    more : (c : Run.Call) (rest : List ℕ) (l : CallList) → call_in s ≡ line c rest → read_calls n rest ≡ l → with_call c l ≡ calls cs → FirstCall n s cs
    more c rest (bad_line m) h q e = absurd (bad_calls e)
    more c rest (calls ds) h q e = record { call = c; rest = rest; later = ds; here = h; split = cc; others = q }

    at : (l : CallLine) → call_in s ≡ l → line_then l (read_calls n) ≡ calls cs → FirstCall n s cs
    at malformed h e = absurd (bad_calls e)
    at (line c rest) h e = more c rest (read_calls n rest) h refl e

pub no_calls : (s : List ℕ) {cs : List Run.Call} → read_calls zero s ≡ calls cs → cs ≡ []
unfolding read_calls
no_calls s {cs} e = at (eqb (length s) 0) e
  where
    at : (t : Bool) → cond t (calls []) (bad_line 1) ≡ calls cs → cs ≡ []
    at true e = cc
    at false e = absurd (bad_calls e)

-- a list without a malformed line
pub record WellFormed (l : CallList) : Type 0 where
  pub list : List Run.Call
  pub reading : l ≡ calls list

-- lines are counted from 1, so 0 is none
bad_counted : (n : ℕ) (s : List ℕ) {m : ℕ} → read_calls n s ≡ bad_line m → 1 ≤ m
unfolding read_calls line_then with_call
bad_counted zero s {m} e = at (eqb (length s) 0) e
  where
    at : (t : Bool) → cond t (calls []) (bad_line 1) ≡ bad_line m → 1 ≤ m
    at true e = absurd (bad_calls (sym e))
    at false e = let p : 1 ≡ m = cc in omega arith
bad_counted (suc n) s {m} e = at (call_in s) e
  where
    more : (c : Run.Call) (l : CallList) → with_call c l ≡ bad_line m → 1 ≤ m
    more c (bad_line k) e = let p : suc k ≡ m = cc in omega arith
    more c (calls cs) e = absurd (bad_calls (sym e))

    at : (l : CallLine) → line_then l (read_calls n) ≡ bad_line m → 1 ≤ m
    at malformed e = let p : 1 ≡ m = cc in omega arith
    at (line c rest) e = more c (read_calls n rest) e

pub well_formed : (text : List ℕ) → first_malformed (call_list text) ≡ 0 → WellFormed (call_list text)
unfolding call_list first_malformed
well_formed text e = at (read_calls (line_count text) text) refl e
  where
    at : (l : CallList) → read_calls (line_count text) text ≡ l → first_malformed l ≡ 0 → WellFormed l
    at (bad_line m) h e = absurd (omega (arith, bad_counted (line_count text) text h))
    at (calls cs) h e = record { list = cs; reading = refl }

-- the check's answer names the first malformed line, or there is none
pub checked_bad : (lines : ℕ) (l : CallList) {e : Malformed} → checked lines l ≡ Err e → (e.line ≡ first_malformed l) × (e.lines ≡ lines)
unfolding checked first_malformed
checked_bad lines (bad_line n) e = (cc, cc)
checked_bad lines (calls cs) e = absurd (let z : ◌≡◌ {A = ℕ} 0 1 = cc in omega arith)

pub checked_good : (lines : ℕ) (l : CallList) {n : ℕ} → checked lines l ≡ Ok n → (first_malformed l ≡ 0) × (n ≡ lines)
unfolding checked first_malformed
checked_good lines (bad_line n) e = absurd (let z : ◌≡◌ {A = ℕ} 0 1 = cc in omega arith)
checked_good lines (calls cs) e = (refl, cc)

-- ---- the loop over the lines of a list

-- what checking a list gives, with i lines before it
abbrev pub checked_behind : ℕ → ℕ → CallList → Result ℕ Malformed
checked_behind lines i (bad_line n) = Err (record { line = i + n; lines = lines })
checked_behind lines i (calls cs) = Ok lines

checked_front : (lines : ℕ) (l : CallList) → checked lines l ≡ checked_behind lines 0 l
unfolding checked
checked_front lines (bad_line n) = let e : 0 + n ≡ n = omega arith in rw e
checked_front lines (calls cs) = refl

checked_more : (lines i : ℕ) (c : Run.Call) (l : CallList) → checked_behind lines i (with_call c l) ≡ checked_behind lines (i + 1) l
unfolding with_call
checked_more lines i c (bad_line n) = let e : i + suc n ≡ i + 1 + n = omega arith in rw e
checked_more lines i c (calls cs) = refl

-- the first i of a number of lines are calls, and `at` is behind them
pub record Passed (text : List ℕ) (lines at i : ℕ) : Type 0 where
  pub reading : checked lines (read_calls lines text) ≡ checked_behind lines i (read_calls (lines - i) (drop at text))

pub none_passed : (text : List ℕ) (lines : ℕ) → Passed text lines 0 0
none_passed text lines = record { reading = rw sub-zero (checked_front _ _) }

module _ {text : List ℕ} {lines at i : ℕ} (passed : Passed text lines at i) where
  module _ (below : i < lines) (r : Option CallAt) (here : line_read text r ≡ call_in (drop at text)) where
    opened : checked lines (read_calls lines text) ≡ checked_behind lines i (line_then (line_read text r) (read_calls (lines - (i + 1))))
    unfolding read_calls
    opened =
        let e : lines - i ≡ suc (lines - (i + 1)) = omega arith in
        rw (passed.reading, e, here)

    pub line_bad : r ≡ None → checked lines (read_calls lines text) ≡ Err (record { line = i + 1; lines = lines })
    unfolding line_read line_then
    line_bad e = rw (opened, e)

    pub line_passed : {x : CallAt} → r ≡ Some x → Passed text lines x.end (i + 1)
    unfolding line_read line_then
    line_passed e = record { reading = rw (opened, e, checked_more) }

  module _ (done : lines ≤ i) (most : i ≤ lines) where
    ended : checked lines (read_calls lines text) ≡ checked_behind lines lines (read_calls zero (drop at text))
    ended =
        let e : i ≡ lines = omega arith in
        rw (e, sub_self) at passed.reading

    pub text_left : at < length text → Err (record { line = lines + 1; lines = lines }) ≡ checked lines (read_calls lines text)
    unfolding read_calls
    text_left h = rw (ended, ne_eqb (length (drop at text)) 0 (λ e. omega (arith, length-drop at text)))

    pub text_ended : length text ≤ at → Ok lines ≡ checked lines (read_calls lines text)
    unfolding read_calls
    text_ended h = rw (ended, eq-eqb (length (drop at text)) 0 (omega (arith, length-drop at text)))

-- ---- counting lines

counts : (t : Bool) (n : ℕ) → cond t 1 0 + n ≡ cond t (1 + n) n
counts true n = refl
counts false n = omega arith

pub count_lines : (s : List ℕ) → line_count s ≡ count_by (λ b. nat_eq b line_feed) s
unfolding line_count
count_lines = is_count_by line_count (λ b. nat_eq b line_feed) refl (λ b s. counts (eqb b line_feed) (line_count s))
