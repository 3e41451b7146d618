-- Document 02, Card 4: 'every 64-bit pattern falls in exactly one of them', and what narrowing delivers in that one, the sign kept.
use Rattle.std.specs.Prelude.{ℕ, ◌≡◌, refl}
use Rattle.std.proofs.Common.{lit≤}
use Rattle.model.specs.Classes.{IsNaN, HasSign}
use Rattle.model.specs.Narrowing.{value, rounded_result, is_minus, FallsIn, delivered}
use Rattle.model.proofs.Laws.Opened.{floats_opened}
use Rattle.model.proofs.Laws.Narrowing.{result_has_sign, finite_keeps_sign, narrow_fits, nan_narrows, infinite_narrows, infinite_is_number, infinite_is, zero_is, pattern_delivers, case_of, falls, only}
use Rattle.model.specs.declared.Narrowed.{Narrowed}
use Rattle.model.specs.declared.Narrowed.TheVariants.{Nan, Infinite, TooLarge, Normal, Subnormal, Zero}
use Rattle.model.specs.ExactlyOne.{Ties}

-- 'every 64-bit pattern falls in exactly one of them': in a case c, and in no other
pub exactly_one : (b : ℕ) → (c : Narrowed) × FallsIn b c × ((d : Narrowed) → FallsIn b d → d ≡ c)
exactly_one b = (case_of (value b), falls b (value b) refl, only b)

-- 'the sign kept'; and what is a number stays one
pub sign_kept : (b : ℕ) → ¬ IsNaN (value b) → HasSign (rounded_result b) (is_minus b)
sign_kept = result_has_sign

-- what narrowing gives in each case is what the standard delivers in it
pub narrow_delivers : (b : ℕ) (c : Narrowed) → FallsIn b c → rounded_result b ≡ delivered (is_minus b) c
narrow_delivers b Nan h = nan_narrows (value b) h
narrow_delivers b Infinite h = infinite_is (rounded_result b) (is_minus b) (infinite_narrows (value b) h) (sign_kept b (infinite_is_number (value b) h))
narrow_delivers b TooLarge h = infinite_is (rounded_result b) (is_minus b) h.1 (finite_keeps_sign b h.0)
narrow_delivers b (Normal n) h = pattern_delivers b n h.0 h.2
narrow_delivers b (Subnormal n) h = pattern_delivers b n h.0 h.2
narrow_delivers b Zero h = zero_is (rounded_result b) (is_minus b) (narrow_fits (value b)) h.1 (finite_keeps_sign b h.0)

-- ---- the ties between the finite cases: half way between two results, the even one is taken. (Which patterns fall in each case is float's `ranges`.)

pub ties : Ties
unfolding floats_opened
ties = record { to_zero = (tt, refl); to_normal = (tt, lit≤ tt, refl); to_too_large = (tt, tt) }
