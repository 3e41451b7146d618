-- What an accepted test of a word tells, and conjunctions of tests.
use Rattle.std.specs.Prelude.{ℕ, ◌≤◌, ◌<◌, ◌≡◌, refl, Bool, true, false, not, ◌&&◌, ◌||◌, List, length, ltb, leb}
use Rattle.std.proofs.Common.{ltb-true, leb-true}
use Rattle.model.specs.Answers.{accepted}
use Rattle.model.specs.Check.{word_is, within}
use Rattle.model.proofs.Laws.Answers.{then_left, then_right, require_true}

pub word_true : (plan : List ℕ) (n p : ℕ) (ok : Bool) → word_is plan n p ok ≡ accepted → ok ≡ true
unfolding word_is
word_true plan n p ok e = require_true ok n p (then_right _ _ e)

pub word_there_lem : (plan : List ℕ) (n p : ℕ) (ok : Bool) → word_is plan n p ok ≡ accepted → p < length plan
unfolding word_is
word_there_lem plan n p ok e = ltb-true _ _ (require_true (ltb p (length plan)) 1 (length plan) (then_left _ _ e))

pub and_left : (a b : Bool) → a && b ≡ true → a ≡ true
and_left true b e = refl
and_left false b e = e

pub and_right : (a b : Bool) → a && b ≡ true → b ≡ true
and_right true b e = e
and_right false b e = cc

pub and_true : (a : Bool) → a && true ≡ a
and_true true = refl
and_true false = refl

pub and_false : (a : Bool) → a && false ≡ false
and_false true = refl
and_false false = refl

pub or_right : (a b : Bool) → a || b ≡ true → a ≡ false → b ≡ true
or_right true b e f = cc
or_right false b e f = e

pub not_true : (a : Bool) → not a ≡ true → a ≡ false
not_true true e = cc
not_true false e = refl

pub within_low : (low x high : ℕ) → within low x high ≡ true → low ≤ x
unfolding within
within_low low x high e = leb-true low x (and_left (leb low x) (leb x high) e)

pub within_high : (low x high : ℕ) → within low x high ≡ true → x ≤ high
unfolding within
within_high low x high e = leb-true x high (and_right (leb low x) (leb x high) e)
