-- `print_front` is safe: what is put ends inside the buffer. Assumes nothing.
use Rattle.std.proofs.Common.{refl, sym, length-take-le}
use Rattle.replay_print.proofs.print_front.Goals as goal

pub slice_bounds-out-end : goal.slice_bounds-out-end
slice_bounds-out-end g c = c.requires.inside _ _ _ (record { shown = _; shows = refl; left = _; met = c.put-size.ensures; leaves = refl })

pub slice_bounds-write_all-end : goal.slice_bounds-write_all-end
slice_bounds-write_all-end g c =
    sym (length-take-le _ _ (c.requires.inside _ _ _ (record { shown = _; shows = refl; left = _; met = c.put-size.ensures; leaves = refl })))
