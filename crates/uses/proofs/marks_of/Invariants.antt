-- `uses::marks_of` meets its contract. Invariant: `Following`. It ends where no marked state is left to follow, or where all states were followed.
-- Assumes nothing.
use Rattle.uses.proofs.FollowLaws.{Following}
use Rattle.uses.proofs.marks_of.Given as goal

abbrev pub invariant-loop : goal.invariant-loop
invariant-loop l = Following l.plan.words.now l.marks l.followed l.counter
