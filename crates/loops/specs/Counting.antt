-- What the steps of counting give, for the contracts between them. Definitions only.
use Rattle.std.specs.Prelude.{ℕ, ◌/◌, ◌%◌, ◌≡◌, List, Float, Result}
use Rattle.model.specs.declared.LoopCount.{LoopCount}
use Rattle.model.specs.declared.Player.{Player}
use Rattle.model.specs.declared.Refusal.{Refusal}
use Rattle.model.specs.Answers.{accepted}
use Rattle.model.specs.Controller.{play_verdict}
use Rattle.model.specs.Promises.{LoopsCounted}

-- of an index, in loops of so many samples
pub record IndexCounted (samples index : ℕ) (r : LoopCount) : Type 0 where
  pub loops : r.loops ≡ index / samples
  pub rest : r.rest ≡ index % samples

-- for every player with these instances that may be played: no other part of it counts
pub record CountedAt (plan : List ℕ) (numbers instances : List Float) (s n : ℕ) (time : Float) (r : Result LoopCount Refusal) : Type 0 where
  pub count : (p : Player) → p.instances ≡ instances → play_verdict plan numbers p ≡ accepted → LoopsCounted plan numbers p s n time r
