-- What an accepted question for loops tells of its figure, player and node.
use Rattle.std.specs.Prelude.{ℕ, ◌<◌, ◌≡◌, refl, Bool, true, false, not, ◌||◌, List, Float}
use Rattle.std.proofs.Common.{arith}
use borrow.Author.Tests.{eqb-false}
use Rattle.model.specs.declared.Player.{Player}
use Rattle.model.specs.Answers.{accepted}
use Rattle.model.specs.Plan.{input_a, is_empty, is_stopping}
use Rattle.model.specs.Controller.{play_verdict}
use Rattle.model.specs.Loops.{is_clip_node, is_looping, loops_verdict, loop_length}
use Rattle.model.proofs.Laws.Answers.{then_left, then_right, require_true}

neither_first : (a b : Bool) → not (a || b) ≡ true → a ≡ false
neither_first true b e = cc
neither_first false b e = refl

module _ (plan : List ℕ) (numbers : List Float) (p : Player) (s n : ℕ) (e : loops_verdict plan numbers p s n ≡ accepted) where
  pub may_play : play_verdict plan numbers p ≡ accepted
  unfolding loops_verdict
  may_play = then_left _ _ (then_left _ _ e)

  pub is_clip_node_lem : is_clip_node plan s n ≡ true
  unfolding loops_verdict
  is_clip_node_lem = require_true _ _ _ (then_right _ _ (then_left _ _ e))

  pub is_looping_lem : is_looping plan (input_a plan s n) ≡ true
  unfolding loops_verdict
  is_looping_lem = require_true _ _ _ (then_right _ _ e)

  pub has_samples : 0 < loop_length plan s n
  unfolding is_empty
  has_samples =
      let some = eqb-false (loop_length plan s n) 0 (neither_first (is_empty plan (input_a plan s n)) (is_stopping plan (input_a plan s n)) is_looping_lem) in
      omega (arith, some)
