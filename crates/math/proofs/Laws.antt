-- For matrix_to_quaternion: it multiplies t by the scale where its definition multiplies the scale by t, and it turns the axes where that has other
-- indices. Assumes nothing.
use Rattle.std.proofs.Common.{◌≡◌, ◌*◌, Bool, true, false, refl, ap, ◌∙◌, mul_comm}
use lib.Ieee.{Float, nan, inf, fin, Format, binary32, unlike, up, down, mul}
use Rattle.model.specs.declared.Quaternion.{Quaternion}
use Rattle.model.specs.declared.Matrix4.{Matrix4}
use Rattle.model.specs.Numbers.{◌*₃₂◌}
use Rattle.model.specs.Rotations.{scaled}
use Rattle.math.specs.declared.Unscaled.{Unscaled}
use Rattle.math.specs.Scaling.{scaled_by_root, turned, vector_turned_back, turned_back}

unlike_comm : (s t : Bool) → unlike s t ≡ unlike t s
unlike_comm true true = refl
unlike_comm true false = refl
unlike_comm false true = refl
unlike_comm false false = refl

pub float_mul_comm : (f : Format) (x y : Float) → mul f x y ≡ mul f y x
unfolding mul
float_mul_comm f nan nan = refl
float_mul_comm f nan (inf t) = refl
float_mul_comm f nan (fin t n d) = refl
float_mul_comm f (inf s) nan = refl
float_mul_comm f (inf s) (inf t) = rw (unlike_comm s t)
float_mul_comm f (inf s) (fin t n d) = rw (unlike_comm s t)
float_mul_comm f (fin s m e) nan = refl
float_mul_comm f (fin s m e) (inf t) = rw (unlike_comm s t)
float_mul_comm f (fin s m e) (fin t n d) = rw (unlike_comm s t, mul_comm (m * up e) (n * up d), mul_comm (down e) (down d))

-- `put` only orders the four parts, one of which is t
pub scaled_put :
    (put : Float → Float → Float → Float → Quaternion)
    → ((w qi qj qk s : Float) → scaled (put w qi qj qk) s ≡ put (w *₃₂ s) (qi *₃₂ s) (qj *₃₂ s) (qk *₃₂ s))
    → (w t qj qk s : Float)
    → scaled (put w t qj qk) s ≡ put (w *₃₂ s) (s *₃₂ t) (qj *₃₂ s) (qk *₃₂ s)
scaled_put put orders w t qj qk s = rw (float_mul_comm binary32 s t) (orders w t qj qk s)

-- what a function makes of the turned matrix is turned back after the scaling as well as before it
pub turned_case : (f : Matrix4 → Quaternion) (m n : Matrix4) (u v : Unscaled) → v ≡ turned_back u → scaled_by_root u ≡ f n → n ≡ turned m → scaled_by_root v ≡ vector_turned_back (f (turned m))
turned_case f m n u v a b c = ap scaled_by_root a ∙ ap vector_turned_back (b ∙ ap f c)
