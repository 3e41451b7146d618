-- Texts put into a slice one behind the other, and how many digits a number has. Assumes nothing.
use Rattle.std.proofs.Common.{◌≡◌, ℕ, zero, suc, ◌+◌, ◌-◌, ◌*◌, ◌/◌, ◌%◌, ◌^◌, ◌≤◌, ◌<◌, Bool, true, false, cond, ltb, List, [], ◌∷◌, ◌++◌, map, length, get_or, take, drop, set, refl, ap, sym, ◌∙◌, arith, add-one, zero-add, length-append, append_assoc}
use Rattle.std.specs.Prelude.{max, Float}
use Rattle.std.specs.Float.{nan, binary32}
use Rattle.std.specs.Float.Ieee.{to_bits}
use Rattle.std.proofs.Math.Nat.{pow-succ'}
use Rattle.std.proofs.Math.Seq.{length-sets, take-suc, take-append_seam}
use Rattle.std.proofs.lemmas.Bool.{lt-ltb, le-ltb}
use Rattle.std.proofs.lemmas.List.{append-nil, map-append, drop-drop, drop-set}
use Rattle.std.proofs.lemmas.List.Edits.{sets, sets-eq}
use borrow.Rule.Slice.Mut.{set_vals}
use borrow.Rule.Slice.PartMut.{put_mid}
use Rattle.model.specs.Plan.{output_at}
use Rattle.model.specs.Text.{comma, overwritten}
use Rattle.model.specs.Program.{glyph, digits, places, decimal_text, bits_text, decimal_fields, bits_fields}
use Rattle.model.specs.Program.{joined}
use Rattle.model.proofs.Laws.Digits.{length_digits}
use Rattle.model.proofs.Laws.Stores.{sets-append}
use Rattle.printing.specs.declared.Writer.{Writer}
use Rattle.printing.specs.Written.{Wrote, Front, float_fields, matrix_in}
use Rattle.printing.specs.Sizes.{matrix_floats}

-- ---- texts one behind the other

pub nothing_written : (p : Writer) → Wrote [] p p
nothing_written p = record { stored = refl; moved = omega arith; kept = refl; same = refl }

-- one text and another right behind it
pub more_written : {p q r : Writer} {text more : List ℕ} → Wrote text p q → Wrote more q r → Wrote (text ++ more) p r
more_written {p = p} {text = text} {more = more} a b = record {
  stored = b.stored ∙ rw (a.moved, a.stored) (sets-append p.out.now p.at text more);
  moved = omega (arith, length-append text more);
  kept = b.kept ∙ a.kept;
  same = b.same ∙ a.same;
}

-- a text from the first byte on, in a slice that was lent to a writer: what it held before, and what it holds after
pub front_written : {p q : Writer} {text before after : List ℕ} → Wrote text p q → p.out.now ≡ before → p.at ≡ 0
    → q.at ≤ length before → after ≡ q.out.now → Front text before after q.at
unfolding overwritten
front_written {text = text} {before = before} w held first room same = record {
  ended = omega arith;
  inside = omega (arith, ap length same, ap length held);
  whole = rw (same, w.stored, held, first, sets-eq text before 0 (omega arith), zero-add) refl;
}

-- what was put over the front of a list
module _ {A : Type 0} (new old : List A) where
  pub front_length : length new ≤ length (overwritten new old)
  unfolding overwritten
  front_length = omega (arith, length-append new (drop (length new) old))

  pub front_is : take (length new) (overwritten new old) ≡ new
  unfolding overwritten
  front_is = take-append_seam new (drop (length new) old)

-- what stands before the place behind the text
pub front_text : {text before after : List ℕ} {end : ℕ} → Front text before after end → take end after ≡ text
front_text {text = text} {before = before} f = rw (f.ended, f.whole) (front_is text before)

-- a text that is put over a part of its length
pub copied : (p : Writer) (text : List ℕ) {ys : List ℕ} {n : ℕ} → n ≡ length text → p.at + n ≤ length p.out.now → ys ≡ text
    → Wrote text p (record { out = set_vals (put_mid p.at (p.at + n - p.at) p.out.now ys) p.out; at = p.at + n })
copied p text {ys = ys} {n = n} long room same =
    let end : p.at + (p.at + n - p.at) ≡ p.at + length text = omega arith in
    let stored : put_mid p.at (p.at + n - p.at) p.out.now ys ≡ sets p.out.now p.at text =
    rw (same, drop-drop, end, ← append_assoc) (sym (sets-eq text p.out.now p.at (omega arith)))
    in
    record { stored = stored; moved = omega arith; kept = ap length stored ∙ length-sets p.out.now p.at text; same = refl }

-- ---- digits

-- the last of k digits is stored, and k - 1 digits are still to come
pub last_digit : (xs : List ℕ) (base k rest b : ℕ) → 0 < k → k ≤ length xs → b ≡ glyph (rest % base)
    → digits base (k - 1) (rest / base) ++ drop (k - 1) (set xs (k - 1) b) ≡ digits base k rest ++ drop k xs
unfolding digits
last_digit xs base zero rest b l inside e = absurd (omega arith)
last_digit xs base (suc k) rest b l inside e =
    let one_less : suc k - 1 ≡ k = omega arith in
    let here : k < length xs = omega arith in
    rw (one_less, drop-set xs k b here, e, append_assoc (digits base k (rest / base)) (glyph (rest % base) ∷ []) (drop (suc k) xs), add-one k) refl

-- ---- how many digits

-- as many as the greatest power of ten has that is no larger, and one for 0
pub places_by_power : (fuel k n : ℕ) → k ≤ fuel → 10 ^ k ≤ max n 1 → n < 10 * 10 ^ k → places fuel n ≡ k + 1
unfolding places
places_by_power zero zero n few least small = refl
places_by_power zero (suc k) n few least small = absurd (omega arith)
places_by_power (suc fuel) zero n few least small = simp (lt-ltb n 10 (omega arith))
places_by_power (suc fuel) (suc k) n few least small =
    let large : 10 ≤ n = omega (arith, pow-succ' 10 k) in
    simp (le-ltb n 10 large) (omega (arith, places_by_power fuel k (n / 10) (omega arith) (omega (arith, pow-succ' 10 k)) (omega (arith, pow-succ' 10 k))))

few_places : (m fuel n : ℕ) → n < 10 ^ suc m → places fuel n ≤ suc m
unfolding places
few_places m zero n small = omega arith
few_places zero (suc fuel) n small = simp (lt-ltb n 10 small) (omega arith)
few_places (suc m) (suc fuel) n small = go (ltb n 10) (few_places m fuel (n / 10) (omega (arith, pow-succ' 10 (suc m))))
  where
    go : (t : Bool) → places fuel (n / 10) ≤ suc m → cond t 1 (suc (places fuel (n / 10))) ≤ suc (suc m)
    go true fewer = omega arith
    go false fewer = omega arith

-- ---- fields

-- an index of joints or clip nodes has few digits
pub short_index : (n : ℕ) → n < 10 ^ 3 → length (decimal_fields (n ∷ [])) ≤ 1 + 3
unfolding decimal_fields decimal_text
short_index n small =
    let k = places 19 n in
    omega (arith, ap length (append-nil (digits 10 k n)), length_digits 10 k n, few_places 2 19 n small)

-- the bits of one float
pub float_written : {p q : Writer} (x : Float) (b : ℕ) → b ≡ to_bits binary32 x
    → Wrote (comma ∷ digits 16 8 b) p q → Wrote (float_fields (x ∷ [])) p q
unfolding bits_fields bits_text
float_written x b e w = rw (append-nil, ← e) w

pub bits_append : (vs ws : List ℕ) → bits_fields (vs ++ ws) ≡ bits_fields vs ++ bits_fields ws
unfolding bits_fields
bits_append [] ws = refl
bits_append (v ∷ vs) ws =
    rw (bits_append vs ws) (sym (append_assoc (comma ∷ bits_text v) (bits_fields vs) (bits_fields ws)))

-- some floats and others right behind them
pub floats_written : {p q r : Writer} (some others : List Float)
    → Wrote (float_fields some) p q → Wrote (float_fields others) q r → Wrote (float_fields (some ++ others)) p r
floats_written some others a b =
    let bits_of = to_bits binary32 in
    rw (map-append bits_of some others, bits_append (map bits_of some) (map bits_of others)) (more_written a b)

-- one float more
pub next_float : {p q r : Writer} (floats : List Float) (k : ℕ) → k < length floats
    → Wrote (float_fields (take k floats)) p q → Wrote (float_fields (get_or floats k nan ∷ [])) q r
    → Wrote (float_fields (take (k + 1) floats)) p r
next_float floats k l a b =
    rw (add-one k, take-suc floats k nan l) (floats_written (take k floats) (get_or floats k nan ∷ []) a b)

-- ---- lines

two_decimals : (m n : ℕ) → decimal_fields (m ∷ n ∷ []) ≡ decimal_fields (m ∷ []) ++ decimal_fields (n ∷ [])
unfolding decimal_fields
two_decimals m n = ap (λ (text : List ℕ). comma ∷ text ++ decimal_fields (n ∷ [])) (sym (append-nil (decimal_text m)))

pub decimals_written : {p q r : Writer} (m n : ℕ) {k : ℕ} → k ≡ m → Wrote (decimal_fields (k ∷ [])) p q
    → Wrote (decimal_fields (n ∷ [])) q r → Wrote (decimal_fields (m ∷ n ∷ [])) p r
decimals_written m n e a b = rw (two_decimals m n) (more_written (rw e at a) b)

-- of as many floats as a matrix has, from joint j's place on
pub matrix_written : {p q : Writer} (j : ℕ) (output : List Float) {n : ℕ} → n ≡ matrix_floats
    → Wrote (float_fields (take n (drop (output_at j) output))) p q → Wrote (float_fields (matrix_in output j)) p q
matrix_written j output e w = rw e at w

-- one line more
pub next_line : {p q r : Writer} (n : ℕ) (lines : ℕ → List ℕ)
    → Wrote (joined n lines) p q → Wrote (lines n) q r → Wrote (joined (n + 1) lines) p r
unfolding joined
next_line n lines a b = rw (add-one n) (more_written a b)

-- equal lines make equal text
pub joined_same : (n : ℕ) (f g : ℕ → List ℕ) → ((j : ℕ) → j < n → f j ≡ g j) → joined n f ≡ joined n g
unfolding joined
joined_same zero f g same = refl
joined_same (suc n) f g same = rw (joined_same n f g (λ j h. same j (omega arith)), same n (omega arith))
