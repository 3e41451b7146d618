-- The index after another. Assumes nothing.
use mathlib.Core.Path.{◌≡◌, refl, sym, ap, ◌∙◌}
use Prim.Native.Nat.{suc, ◌+◌}
use native.Mathlib.Nat.{add-zero}
use native.Mathlib.Numerals.{add-one}
use mathlib.Core.Bool.{Bool, true, false, cond}
use lib.Dec.{T}
use lib.IntN.{pos}
use lib.Ieee.{Float, fin, binary32, lt, fits, of_int, to_unsigned}
use Rattle.model.specs.Numbers.{floor_index, ceiling_index}
use Rattle.model.proofs.Laws.Wholes.{floor_is}
use Rattle.float.proofs.Index.{ceiling_small, ceiling_large}

-- a ceiling that is not the floor is the index after it
pub ceiling_after : (x : Float) → T (fits binary32 x) → (ceiling_index x ≡ floor_index x → ⊥) → ceiling_index x ≡ suc (floor_index x)
ceiling_after x f other = go (lt x (fin false 1 (pos 24))) refl
  where
    one_more : (t : Bool) → ceiling_index x ≡ to_unsigned 64 x + cond t 1 0 → ceiling_index x ≡ suc (floor_index x)
    one_more true e = e ∙ add-one (to_unsigned 64 x) ∙ ap suc (sym (floor_is x))
    one_more false e = absurd (other (e ∙ add-zero (to_unsigned 64 x) ∙ sym (floor_is x)))

    go : (t : Bool) → lt x (fin false 1 (pos 24)) ≡ t → ceiling_index x ≡ suc (floor_index x)
    go true h = one_more (lt (of_int binary32 (pos (to_unsigned 64 x))) x) (ceiling_small x h)
    go false h = absurd (other (ceiling_large x f h ∙ sym (floor_is x)))
