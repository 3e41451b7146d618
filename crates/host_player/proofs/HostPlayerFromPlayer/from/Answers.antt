-- `HostPlayer::from` meets its contract: the parts, packed, with the player's arrays. Assumes nothing.
use Rattle.host_player.proofs.HostPlayerFromPlayer.from.Goals as goal

pub returns : goal.returns
returns c = rw c.from.ensures at (c.from-parts.ensures c.args.player.parameters c.args.player.instances)
