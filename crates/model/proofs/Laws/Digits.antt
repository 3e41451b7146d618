-- Digits: the length of those that are written; and of a run, its length, its digits, and the size of its number.
use Prim.Native.Nat.{ℕ, zero, suc, ◌/◌, ◌%◌, ◌^◌, ◌≤◌, ◌<◌}
use native.Mathlib.Omega.{arith}
use Rattle.std.proofs.Math.Nat.{pow-zero}
use Rattle.std.proofs.Common.{pow-suc}
use Rattle.std.specs.Prelude.{◌≡◌, Bool, get_or}
use Rattle.std.proofs.Math.Path.{refl}
use Rattle.std.proofs.Math.Bool.{true, false, cond}
use mathlib.Core.List.{List, [], ◌∷◌}
use Rattle.std.proofs.Math.Arith.{digits_lt}
use Rattle.std.proofs.Math.ListN.{length, length-append}
use Rattle.std.proofs.Math.Dec.{ltb}
use borrow.Author.Tests.{ltb-true}
use Rattle.model.specs.Text.{digit, digit_count, numeral}
use Rattle.model.specs.Program.{glyph, digits}

module _ (base : ℕ) where
  pub length_digits : (k n : ℕ) → length (digits base k n) ≡ k
  unfolding digits
  length_digits zero n = refl
  length_digits (suc k) n = omega (arith, length-append (digits base k (n / base)) (glyph (n % base) ∷ []), length_digits k (n / base))

  pub run_length : (s : List ℕ) → digit_count base s ≤ length s
  unfolding digit_count
  run_length [] = omega arith
  run_length (b ∷ s) = at (ltb (digit b) base) (run_length s)
    where
      at : (t : Bool) → digit_count base s ≤ length s → cond t (suc (digit_count base s)) 0 ≤ suc (length s)
      at true h = omega arith
      at false h = omega arith

  pub run_digit : (s : List ℕ) (k : ℕ) → k < digit_count base s → digit (get_or s k 0) < base
  unfolding digit_count
  run_digit [] k h = absurd (omega arith)
  run_digit (b ∷ s) k h = at (ltb (digit b) base) refl (run_digit s) k h
    where
      at : (t : Bool) → ltb (digit b) base ≡ t → ((k : ℕ) → k < digit_count base s → digit (get_or s k 0) < base) → (k : ℕ) → k < cond t (suc (digit_count base s)) 0 → digit (get_or (b ∷ s) k 0) < base
      at true e later zero h = ltb-true _ _ e
      at true e later (suc k) h = later k (omega arith)
      at false e later k h = absurd (omega arith)

  pub numeral_small : (s : List ℕ) (k : ℕ) → k ≤ digit_count base s → numeral base k s < base ^ k
  unfolding numeral
  numeral_small s zero h = rw (pow-zero base) (omega arith)
  numeral_small s (suc k) h = rw (pow-suc base k) (digits_lt (numeral_small s k (omega arith)) (run_digit s k h))
