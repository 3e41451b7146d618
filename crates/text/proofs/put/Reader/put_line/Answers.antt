use Rattle.std.proofs.Common.{◌∙◌, refl}
use Rattle.text.proofs.LineLaws.{bounded_at, none_put, room_left, next_put, all_put}
use Rattle.text.proofs.ReaderLaws.{same_self, same_on}
use Rattle.text.proofs.put.Reader.put_line.Goals as goal

pub loop-k-init : goal.loop-k-init
loop-k-init c = (c.forms-form-items.ensures, same_self _, refl, none_put)

pub put_value-requires : goal.put_value-requires
put_value-requires c =
    let inv = c.loop-k.invariant in
    let less = rw inv.0 at c.loop-k-test.true in
    rw (inv.0, inv.2) (bounded_at c.requires.0 _ _ less, room_left inv.3 less _ c.requires.1)

pub loop-k-preserved : goal.loop-k-preserved
loop-k-preserved c =
    let inv = c.loop-k.invariant in
    let e = c.put_value.ensures in
    (inv.0, same_on inv.1 e.same, e.values ∙ inv.2, next_put inv.3 (rw inv.0 at c.loop-k-test.true) _ _ _ _ (rw (inv.0, inv.2) at e.put))

pub returns : goal.returns
returns c =
    let inv = c.loop-k.invariant in
    record { same = inv.1; values = inv.2; put = all_put inv.3 (rw inv.0 at c.loop-k-test.false) }
