-- `math::first_guess` meets its contract: the signed shift halves the pattern and copies its top bit. Assumes nothing.
use Rattle.std.specs.Prelude.{Bool, true, false, leb}
use Rattle.std.proofs.Common.{arith, ◌≡◌, ℕ, ◌<◌, ◌^◌, ◌+◌, ◌-◌, ◌%◌, ◌∙◌, refl, leb-true, leb-false, le-ltb, lt-ltb, to_z, of_z, w32}
use Rattle.std.proofs.lemmas.Int.{of_z-to_z}
use Rattle.std.specs.Int.Signed.{shr_z}
use Rattle.model.specs.Numbers.{first_guess}
use Rattle.math.proofs.first_guess.Goals as goal

kept : (n : ℕ) → of_z w32 (to_z w32 (n % 2 ^ 32)) ≡ n % 2 ^ 32
kept n = of_z-to_z w32 (n % 2 ^ 32) (omega arith)

-- by the pattern's top bit
by_top_bit : (bits : ℕ) → bits < 2 ^ 32 → (t : Bool) → leb (2 ^ 31) bits ≡ t → (0x5f37_59df + (2 ^ 32 - of_z w32 (shr_z (to_z w32 bits) 2))) % 2 ^ 32 ≡ first_guess bits
unfolding first_guess
by_top_bit bits fits true e = rw (e, le-ltb bits (2 ^ 31) (leb-true (2 ^ 31) bits e)) (omega arith)
by_top_bit bits fits false e = rw (e, lt-ltb bits (2 ^ 31) (leb-false (2 ^ 31) bits e)) (omega arith)

pub returns : goal.returns
returns c =
    let bits = c.args.bits in
    let fits = c.ranges.bits.fits in
    c.cast_unsigned.ensures ∙ kept _ ∙ rw (c.cast_signed-shifted.ensures, of_z-to_z w32 bits fits) (by_top_bit bits fits (leb (2 ^ 31) bits) refl)
