-- Where the guess of inv_sqrt wraps. Definitions only: the theorem is in proofs/Wrap.antt.
use Rattle.std.specs.Prelude.{ℕ, ◌^◌, ◌≤◌, ◌≡◌, cond, ℤ, pos, ◌-ℤ◌, leb}
use Rattle.std.proofs.Math.IntN.{sub_ℕ}
use Rattle.model.specs.Numbers.{shifted_bits, first_guess}

-- the number that a 32-bit pattern stands for in two's complement
abbrev pub signed : ℕ → ℤ
signed bits = sub_ℕ bits (cond (leb (2 ^ 31) bits) (2 ^ 32) 0)

-- the difference that the Rust writes, were there no limit to its size
abbrev pub exact_guess : ℕ → ℤ
exact_guess bits = pos 0x5f37_59df -ℤ signed (shifted_bits bits)

-- 'wraps': the pattern that comes out stands for another number
abbrev pub Wraps : ℕ → Type 0
Wraps bits = ¬ (signed (first_guess bits) ≡ exact_guess bits)

abbrev pub InWrapRange : ℕ → Type 0
InWrapRange bits = (0x8000_0000 ≤ bits) × (bits ≤ 0xbe6e_b3bf)
