-- Document 02, Card 4: what is shown of ties. Definitions only: the theorems are in proofs/ExactlyOne.antt.
use Rattle.model.specs.Narrowing.{FallsIn}
use Rattle.model.specs.declared.Narrowed.TheVariants.{TooLarge, Normal, Zero}

pub record Ties : Type 0 where
  -- 2 ^ -150, half of the least subnormal: to zero
  pub to_zero : FallsIn 0x3690_0000_0000_0000 Zero
  -- 2 ^ -126 - 2 ^ -150, between the greatest subnormal and the least normal: up into the normal one
  pub to_normal : FallsIn 0x380f_ffff_e000_0000 (Normal 0x80_0000)
  -- 2 ^ 128 - 2 ^ 103, between the greatest float and 2 ^ 128, which is too large: up too
  pub to_too_large : FallsIn 0x47ef_ffff_f000_0000 TooLarge
