-- Digits of a base up to 16: those that are written read to the number, and the number that is read writes the same digits.
use Prim.Native.Nat.{ℕ, zero, suc, ◌+◌, ◌-◌, ◌/◌, ◌%◌, ◌^◌, ◌≤◌, ◌<◌}
use native.Mathlib.Omega.{arith}
use Rattle.std.proofs.Math.Decide.{dec_lt}
use Rattle.std.proofs.Common.{mod-lt, div-add-mod', div-lt_iff_lt-mul, drop-cons}
use Rattle.std.proofs.Math.Nat.{pow-zero, pow-suc}
use Rattle.std.specs.Prelude.{◌≡◌, Bool, true, false, get_or, drop}
use Rattle.std.proofs.Math.Path.{refl}
use mathlib.Core.List.{List, ◌∷◌, ◌++◌, append_assoc}
use Rattle.std.proofs.Math.ListN.{length}
use Rattle.std.proofs.Math.Seq.{get_or_at}
use Rattle.std.proofs.Math.Arith.{digits_div, digits_mod}
use borrow.Author.Tests.{lt-ltb, le-ltb, le-leb, lt-leb}
use Rattle.model.specs.Check.{within}
use Rattle.model.proofs.Laws.Tests.{within_low, within_high}
use Rattle.model.specs.Text.{digit, digit_count, numeral}
use Rattle.model.specs.Program.{glyph, digits}
use Rattle.model.proofs.Laws.Digits.{length_digits, run_length, run_digit}

-- ---- one digit

pub digit_glyph : (d : ℕ) → d < 16 → digit (glyph d) ≡ d
unfolding digit glyph within
digit_glyph d h = go (dec_lt d 10)
  where
    go : Dec (d < 10) → digit (glyph d) ≡ d
    go (yes p) = simp (lt-ltb d 10 p, le-leb 48 (48 + d) (omega arith), le-leb (48 + d) 57 (omega arith)) (omega arith)
    go (no p) =
        simp (
          le-ltb d 10 (omega arith),
          le-leb 48 (87 + d) (omega arith),
          lt-leb (87 + d) 57 (omega arith),
          le-leb 97 (87 + d) (omega arith),
          le-leb (87 + d) 102 (omega arith),
        )
        (omega arith)

pub glyph_digit : (b : ℕ) → digit b < 16 → glyph (digit b) ≡ b
unfolding digit glyph
glyph_digit b h = go (within 48 b 57) refl (within 97 b 102) refl
  where
    go : (x : Bool) → within 48 b 57 ≡ x → (y : Bool) → within 97 b 102 ≡ y → glyph (digit b) ≡ b
    go true e y f = simp (e, lt-ltb (b - 48) 10 (omega (arith, within_low 48 b 57 e, within_high 48 b 57 e))) (omega (arith, within_low 48 b 57 e))
    go false e true f = simp (e, f, le-ltb (b - 87) 10 (omega (arith, within_low 97 b 102 f))) (omega (arith, within_low 97 b 102 f))
    go false e false f = absurd (let p : 16 < 16 = simp (e, f) at h in omega arith)

module _ (base : ℕ) (some : 0 < base) (few : base ≤ 16) where
  -- ---- written, then read

  written_digit : (n : ℕ) → digit (glyph (n % base)) ≡ n % base
  written_digit n = digit_glyph (n % base) (omega (arith, mod-lt n some))

  pub run_digits : (k n : ℕ) (r : List ℕ) → digit_count base (digits base k n ++ r) ≡ k + digit_count base r
  unfolding digits digit_count
  run_digits zero n r = omega arith
  run_digits (suc k) n r =
      rw (append_assoc, run_digits k (n / base) (glyph (n % base) ∷ r), written_digit n, lt-ltb (n % base) base (mod-lt n some)) (omega arith)

  pub numeral_digits : (k n : ℕ) (r : List ℕ) → n < base ^ k → numeral base k (digits base k n ++ r) ≡ n
  unfolding digits numeral
  numeral_digits zero n r h = let e : n < 1 = rw pow-zero at h in omega arith
  numeral_digits (suc k) n r h =
      let e : n / base < base ^ k = (div-lt_iff_lt-mul some).1 (rw pow-suc at h) in
      rw (
        append_assoc,
        numeral_digits k (n / base) (glyph (n % base) ∷ r) e,
        get_or_at (digits base k (n / base)) (glyph (n % base)) r 0 k (length_digits base k (n / base)),
        written_digit n,
      )
      (div-add-mod' n base)

  -- ---- read, then written

  pub digits_numeral : (s : List ℕ) (k : ℕ) → k ≤ digit_count base s → digits base k (numeral base k s) ++ drop k s ≡ s
  unfolding digits numeral
  digits_numeral s zero h = refl
  digits_numeral s (suc k) h =
      let d : digit (get_or s k 0) < base = run_digit base s k h in
      let there : k < length s = omega (arith, run_length base s) in
      rw (
        digits_div (numeral base k s) d,
        digits_mod (numeral base k s) d,
        glyph_digit (get_or s k 0) (omega arith),
        append_assoc,
        ← (drop-cons s k 0 there),
      )
      (digits_numeral s k (omega arith))
