-- A node that plays samples is a clip node. One that synchronising touches is a lerp node, and both its inputs are clip nodes.
use Rattle.std.specs.Prelude.{ℕ, ◌≡◌, true, false, ◌&&◌, List}
use Rattle.std.proofs.Common.{eqb-true}
use Rattle.model.specs.Plan.{kind, is_clip, is_lerp, input_a, input_b}
use Rattle.model.specs.Tree.{plays_samples, is_touched}
use Rattle.model.proofs.Laws.Tests.{and_left, and_right}

module _ (plan : List ℕ) (s i : ℕ) where
  pub plays_clip : plays_samples plan s i ≡ true → is_clip plan s i ≡ true
  unfolding plays_samples
  plays_clip e = and_left _ _ e

module _ (plan : List ℕ) (s i : ℕ) (t : is_touched plan s i ≡ true) where
  pub touched_blends : is_clip plan s i ≡ false
  unfolding is_touched is_lerp is_clip
  touched_blends = rw (eqb-true (kind plan s i) 1 (and_left _ _ t))

  both : plays_samples plan s (input_a plan s i) && plays_samples plan s (input_b plan s i) ≡ true
  unfolding is_touched
  both = and_right (is_lerp plan s i) _ t

  pub touched_a : is_clip plan s (input_a plan s i) ≡ true
  touched_a = plays_clip plan s _ (and_left _ _ both)

  pub touched_b : is_clip plan s (input_b plan s i) ≡ true
  touched_b = plays_clip plan s _ (and_right (plays_samples plan s (input_a plan s i)) _ both)
