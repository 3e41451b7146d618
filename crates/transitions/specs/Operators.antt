-- What each operator says of a parameter p and a value v. Definitions only.
use Rattle.std.specs.Prelude.{Bool, Float}
use Rattle.std.specs.Float.Ieee.{lt, le, eq, ne}
use Rattle.layout.specs.declared.Operator.{Operator}
use Rattle.layout.specs.declared.Operator.TheVariants.{Less, AtMost, Greater, AtLeast, Equal, Unequal}

abbrev pub compares : Operator → Float → Float → Bool
compares Less p v = lt p v
compares AtMost p v = le p v
compares Greater p v = lt v p
compares AtLeast p v = le v p
compares Equal p v = eq p v
compares Unequal p v = ne p v
