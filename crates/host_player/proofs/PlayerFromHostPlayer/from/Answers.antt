-- `Player::from` meets its contract: the parts, unpacked, with the player's arrays. Assumes nothing.
use Rattle.host_player.proofs.PlayerFromHostPlayer.from.Goals as goal

pub returns : goal.returns
returns c = rw c.from.ensures at (c.from-parts.ensures c.args.flat.parameters c.args.flat.instances)
