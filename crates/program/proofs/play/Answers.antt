-- `program::play` meets its contract: a refused start is printed as such, an accepted one gives a fresh player.
-- Assumes nothing.
use Rattle.program.proofs.Laws.{refusal_played, start_accepted, player_fresh}
use Rattle.program.proofs.play.Goals as goal

pub first_frame-requires : goal.first_frame-requires
first_frame-requires c =
    let e = c.in-Ok.is in
    (start_accepted _ _ _ c.start-begun.ensures _ e, player_fresh _ _ _ c.start-begun.ensures _ e)

pub returns-in-Err : goal.returns-in-Err
returns-in-Err c =
    rw (refusal_played _ _ _ c.start-begun.ensures _ c.in-Err.is) at c.put_only_refusal.ensures

pub returns-in-Ok : goal.returns-in-Ok
returns-in-Ok c =
    rw (start_accepted _ _ _ c.start-begun.ensures _ c.in-Ok.is) c.first_frame.ensures
