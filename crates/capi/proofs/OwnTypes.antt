-- The types whose bytes specs/PlayerSize.antt counts are those of the structs that hosts see, as Rattle lays them out. Assumes nothing.
use Rattle.std.specs.Prelude.{◌≡◌, refl}
use Rattle.host_player.proofs.HostPlayer.TheLaws.{mir as own_player}
use Rattle.host_uses.proofs.HostUses.TheLaws.{mir as own_uses}
use Rattle.host_loops.proofs.HostLoops.TheLaws.{mir as own_loops}
use Rattle.model.specs.BenchText.{bytes}
use Rattle.capi.specs.PlayerSize.{player, uses, loops}

pub player_is : player ≡ own_player
unfolding bytes
player_is = refl

pub uses_is : uses ≡ own_uses
unfolding bytes
uses_is = refl

pub loops_is : loops ≡ own_loops
unfolding bytes
loops_is = refl
