-- `replay_core::call_done` meets its contract: the player and what is shown, by the call. Assumes nothing.
use Rattle.std.proofs.Common.{refl}
use Rattle.model.specs.Run.{call_verdict, changed, chosen_floats, told}
use Rattle.calls.specs.Read.{call_of}
use Rattle.replay_core.proofs.Laws.{accepted_done, set_done, loops_counted, loops_refused}
use Rattle.replay_core.proofs.call_done.Goals as goal

pub returns-in-Update : goal.returns-in-Update
unfolding call_of call_verdict changed chosen_floats told
returns-in-Update c =
    rw c.in-Update.is (accepted_done _ _ _ _ _ refl c.update.ensures.player refl refl c.accepted.ensures)

pub returns-in-Speed : goal.returns-in-Speed
unfolding call_of call_verdict changed chosen_floats told
returns-in-Speed c =
    rw c.in-Speed.is (accepted_done _ _ _ _ _ refl c.speed.ensures.player refl refl c.accepted-in-Speed.ensures)

pub returns-in-Set : goal.returns-in-Set
unfolding call_of
returns-in-Set c = rw c.in-Set.is (set_done _ _ _ _ _ _ c.set.ensures c.done.ensures)

pub returns-in-Frame : goal.returns-in-Frame
unfolding call_of
returns-in-Frame c = rw c.in-Frame.is c.frame_done.ensures

pub returns-in-Ok : goal.returns-in-Ok
unfolding call_of
returns-in-Ok c = rw c.in-Loops.is (loops_counted _ _ _ _ _ _ _ c.in-Ok.ensures (rw c.accepted-in-Ok.ensures))

pub returns-in-Err : goal.returns-in-Err
unfolding call_of
returns-in-Err c = rw c.in-Loops.is (loops_refused _ _ _ _ _ _ _ c.in-Err.ensures c.done-in-Err.ensures)
