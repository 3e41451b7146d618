-- `host_loops::host_loops` meets its contract: what `loops` counted for the unpacked player, made flat. Assumes nothing.
use Prim.Native.Nat.{ℕ}
use mathlib.Core.Path.{◌≡◌, refl, subst}
use mathlib.Core.List.{List}
use lib.Ieee.{Float}
use Rattle.std.specs.Prelude.{Result}
use Rattle.model.specs.declared.Player.{Player}
use Rattle.model.specs.declared.LoopCount.{LoopCount}
use Rattle.model.specs.declared.Refusal.{Refusal}
use Rattle.model.specs.Promises.{LoopsCounted}
use Rattle.host_player.specs.declared.HostPlayer.{HostPlayer}
use Rattle.host_player.specs.HostPlayer.{unpacked}
use Rattle.host_loops.specs.HostLoops.{host_loops, HostLoopsCounted}
use Rattle.host_loops.proofs.host_loops.Goals as goal

made-flat : (plan : List ℕ) (numbers : List Float) (flat : HostPlayer) (s n : ℕ) (time : Float) (p : Player) (c : Result LoopCount Refusal)
    → p ≡ unpacked flat → LoopsCounted plan numbers p s n time c → HostLoopsCounted plan numbers flat s n time (host_loops c)
made-flat plan numbers flat s n time p c is counted =
    record { count = c; counted = subst (λ (q : Player). LoopsCounted plan numbers q s n time c) is counted; told = refl }

pub returns-in-Ok : goal.returns-in-Ok
returns-in-Ok c = made-flat _ _ _ _ _ _ _ _ c.from.ensures c.in-Ok.ensures

pub returns-in-Err : goal.returns-in-Err
returns-in-Err c = rw c.number.ensures (made-flat _ _ _ _ _ _ _ _ c.from.ensures c.in-Err.ensures)
