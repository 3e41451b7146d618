-- `Parts::from` of a host's meets its contract: the test is the definition's. Assumes nothing.
use borrow.Author.Tests.{eq-eqb, ne_eqb}
use Rattle.host_player.specs.HostPlayer.{transition_of, unpacked}
use Rattle.host_player.proofs.PartsFromHostParts.from.Goals as goal

pub returns-then-flat-eq0 : goal.returns-then-flat-eq0
unfolding transition_of unpacked
returns-then-flat-eq0 c parameters instances = rw (eq-eqb _ _ c.if-flat-eq0.true)

pub returns-else-flat-eq0 : goal.returns-else-flat-eq0
unfolding transition_of unpacked
returns-else-flat-eq0 c parameters instances = rw (ne_eqb _ _ c.if-flat-eq0.false)
