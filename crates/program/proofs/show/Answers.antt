-- `program::show` meets its contract: by what is asked. Assumes nothing.
use Rattle.program.specs.Questions.{shown}
use Rattle.program.proofs.show.Goals as goal

pub returns-in-Frame : goal.returns-in-Frame
unfolding shown
returns-in-Frame c =
    rw c.in-Frame.is c.play.ensures

pub returns-in-Uses : goal.returns-in-Uses
unfolding shown
returns-in-Uses c =
    rw c.in-Uses.is c.show_uses.ensures
