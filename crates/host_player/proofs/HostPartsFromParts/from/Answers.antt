-- `HostParts::from` meets its contract, by the case of the transition. Assumes nothing.
use lib.Ieee.{of_bits}
use Rattle.host_player.specs.HostPlayer.{packed, packed_as, packed_with}
use Rattle.host_player.proofs.HostPartsFromParts.from.Goals as goal

pub returns-in-Idle : goal.returns-in-Idle
unfolding packed packed_as packed_with of_bits
returns-in-Idle c parameters instances = rw c.in-Idle.is

pub returns-in-Running : goal.returns-in-Running
unfolding packed packed_as packed_with
returns-in-Running c parameters instances = rw c.in-Running.is
