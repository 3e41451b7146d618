-- How many loops a clip has played, as hosts in C and Rust hold it. Definitions only.
use Rattle.std.specs.Prelude.{ℕ, ◌≡◌, List, Float, Result, Ok, Err}
use Rattle.model.specs.declared.LoopCount.{LoopCount}
use Rattle.model.specs.declared.Refusal.{Refusal}
use Rattle.model.specs.Answers.{number_of}
use Rattle.model.specs.Promises.{LoopsCounted}
use Rattle.host_player.specs.declared.HostPlayer.{HostPlayer}
use Rattle.host_player.specs.HostPlayer.{unpacked}
use Rattle.host_loops.specs.declared.HostLoops.{HostLoops}

-- a count, or a refusal, whose rest is 0
abbrev pub host_loops : Result LoopCount Refusal → HostLoops
host_loops (Ok c) = record { number = 0; place = 0; loops = c.loops; rest = c.rest }
host_loops (Err e) = record { number = number_of e.reason; place = e.place; loops = 0; rest = 0 }

-- the count that the model promises for the player that the flat one stands for, without an enum
pub record HostLoopsCounted (plan : List ℕ) (numbers : List Float) (before : HostPlayer) (s n : ℕ) (time : Float) (r : HostLoops) : Type 0 where
  pub count : Result LoopCount Refusal
  pub counted : LoopsCounted plan numbers (unpacked before) s n time count
  pub told : r ≡ host_loops count
