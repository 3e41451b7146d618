-- The bench sheet's texts. Definitions only: the theorems are in proofs/BenchText.antt.
use Rattle.std.specs.Prelude.{ℕ, List, [] as []ᴸ, ◌∷◌ as ◌∷ᴸ◌, ◌++◌}
use Prim.Native.Char.{code}
use Prim.Native.String.{String, [], ◌∷◌}

-- of ASCII text, where a character's code is its byte
unfoldable pub bytes : String → List ℕ
bytes [] = []ᴸ
bytes (c ∷ s) = code c ∷ᴸ bytes s

unfoldable pub example_text : List ℕ
example_text =
    bytes "figure,1,1,0,1,0\n" ++
    bytes "joint,255\n" ++
    bytes "clip,1,3f800000,0\n" ++
    bytes "state,1,0\n" ++
    bytes "node,0,0,0,0\n" ++
    bytes "pose,3f800000,40000000,40400000,3f800000,3f800000,00000000,00000000,00000000\n"

unfoldable pub example_output : List ℕ
example_output =
    bytes "joint,0,3f800000,00000000,00000000,3f800000,00000000,3f800000,00000000,40000000,00000000,00000000,3f800000,40400000,00000000,00000000,00000000,3f800000\n"
