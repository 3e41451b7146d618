-- Document 01, "Numbers": 'it wraps for bit patterns 80000000 to be6eb3bf', exactly these. Bench c and d stand at the upper end.
use Rattle.std.specs.Prelude.{ℕ, zero, suc, ◌+◌, ◌-◌, ◌/◌, ◌^◌, ◌<◌, ◌≤◌, ◌≡◌, refl, Bool, true, false, ℤ, pos, negsuc, ◌-ℤ◌, leb}
use Rattle.std.proofs.Common.{arith, sym, ap, ◌∙◌, leb-true, leb-false, le-leb, le-ltb, lt-ltb}
use Rattle.std.proofs.lemmas.Bool.{lt-leb}
use Rattle.std.proofs.Math.IntN.{pos-ne-negsuc}
use Rattle.model.specs.Numbers.{shifted_bits, first_guess}
use Rattle.model.specs.Wrap.{signed, exact_guess, Wraps, InWrapRange}

-- ---- signed numbers and differences

signed_low : (n : ℕ) → n < 2 ^ 31 → signed n ≡ pos n
signed_low n h = rw (lt-leb (2 ^ 31) n h, le-ltb n 0 (omega arith)) (ap pos (omega arith))

signed_high : (n : ℕ) → 2 ^ 31 ≤ n → n < 2 ^ 32 → signed n ≡ negsuc (2 ^ 32 - suc n)
signed_high n h k = rw (le-leb (2 ^ 31) n h, lt-ltb n (2 ^ 32) k) refl

minus : (a b : ℕ) → b ≤ a → pos a -ℤ pos b ≡ pos (a - b)
minus a zero h = ap pos (omega arith)
minus a (suc b) h = rw (le-ltb a (suc b) h) refl

-- ---- patterns of numbers that are not negative

module _ (bits : ℕ) (low : bits < 2 ^ 31) where
  guess_low : first_guess bits ≡ 0x5f37_59df - bits / 2
  unfolding first_guess
  guess_low = rw (lt-leb (2 ^ 31) bits low) (omega arith)

  shifted_low : shifted_bits bits ≡ bits / 2
  shifted_low = rw (lt-leb (2 ^ 31) bits low) (omega arith)

  exact_low : signed (first_guess bits) ≡ exact_guess bits
  exact_low =
      ap signed guess_low ∙ signed_low (0x5f37_59df - bits / 2) (omega arith)
      ∙ sym (ap (λ (s : ℕ). pos 0x5f37_59df -ℤ signed s) shifted_low ∙ ap (λ (z : ℤ). pos 0x5f37_59df -ℤ z) (signed_low (bits / 2) (omega arith)) ∙ minus 0x5f37_59df (bits / 2) (omega arith))

-- ---- and of negative ones: adding half of their size may be too much

module _ (bits : ℕ) (high : 2 ^ 31 ≤ bits) (fits : bits < 2 ^ 32) where
  guess_high : first_guess bits ≡ 0x5f37_59df + 2 ^ 31 - bits / 2
  unfolding first_guess
  guess_high = rw (le-leb (2 ^ 31) bits high) (omega arith)

  shifted_high : shifted_bits bits ≡ bits / 2 + 2 ^ 31
  shifted_high = rw (le-leb (2 ^ 31) bits high) refl

  exact_high : exact_guess bits ≡ pos (0x5f37_59df + 2 ^ 31 - bits / 2)
  exact_high =
      ap (λ (s : ℕ). pos 0x5f37_59df -ℤ signed s) shifted_high
      ∙ ap (λ (z : ℤ). pos 0x5f37_59df -ℤ z) (signed_high (bits / 2 + 2 ^ 31) (omega arith) (omega arith))
      ∙ ap pos (omega arith)

  exact_above : 0xbe6e_b3bf < bits → signed (first_guess bits) ≡ exact_guess bits
  exact_above h = ap signed guess_high ∙ signed_low (0x5f37_59df + 2 ^ 31 - bits / 2) (omega arith) ∙ sym exact_high

  wraps_within : bits ≤ 0xbe6e_b3bf → Wraps bits
  wraps_within h e =
      pos-ne-negsuc _ _ (sym (sym (ap signed guess_high ∙ signed_high (0x5f37_59df + 2 ^ 31 - bits / 2) (omega arith) (omega arith)) ∙ e ∙ exact_high))

-- ---- exactly there

pub wraps_exactly : (bits : ℕ) → bits < 2 ^ 32 → (Wraps bits → InWrapRange bits) × (InWrapRange bits → Wraps bits)
wraps_exactly bits fits = ((λ w. (not_below w (leb (2 ^ 31) bits) refl, not_above w (leb bits 0xbe6e_b3bf) refl)), λ r. wraps_within bits r.0 fits r.1)
  where
    not_below : Wraps bits → (t : Bool) → leb (2 ^ 31) bits ≡ t → 0x8000_0000 ≤ bits
    not_below w true e = leb-true (2 ^ 31) bits e
    not_below w false e = absurd (w (exact_low bits (leb-false (2 ^ 31) bits e)))

    not_above : Wraps bits → (t : Bool) → leb bits 0xbe6e_b3bf ≡ t → bits ≤ 0xbe6e_b3bf
    not_above w true e = leb-true bits 0xbe6e_b3bf e
    not_above w false e =
        let h : 0xbe6e_b3bf < bits = leb-false bits 0xbe6e_b3bf e in
        absurd (w (exact_above bits (omega arith) fits h))
