use Rattle.std.proofs.Common.{refl, ◌∙◌, length-set, arith}
use Rattle.text.proofs.FieldLaws.{fields_few, next_missing, next_read, field_missing, no_line_feed, fields_read}
use Rattle.text.proofs.lines.fields_at.Goals as goal

pub loop-k-init : goal.loop-k-init
loop-k-init c = (c.forms-form-items.ensures, refl, refl, refl)

pub returns-in_err-read : goal.returns-in_err-read
returns-in_err-read c =
    let inv = c.loop-k.invariant in
    rw c.from_residual.ensures (field_missing _ _ _ _ _ _ _ inv.3 (next_missing _ _ _ _ _ _ _ _ inv.0 inv.1 c.loop-k-test.true _ c.in_err-read.ensures.step))

pub bounds-read-k : goal.bounds-read-k
bounds-read-k c = omega (arith, rw c.loop-k.invariant.0 at c.loop-k-test.true, fields_few c.args.kind)

pub loop-k-preserved : goal.loop-k-preserved
loop-k-preserved c =
    let inv = c.loop-k.invariant in
    let next = next_read _ _ _ _ _ _ _ _ inv.0 inv.1 c.loop-k-test.true _ _ c.in_ok-read.ensures.step in
    (inv.0, c.next.ensures.text ∙ inv.1, rw length-set inv.2, next ∙ inv.3)

pub returns-then-byte-ne10 : goal.returns-then-byte-ne10
returns-then-byte-ne10 c =
    let inv = c.loop-k.invariant in
    no_line_feed _ _ _ _ _ _ _ inv.3 (rw inv.0 at c.loop-k-test.false) c.byte.ensures c.if-byte-ne10.true

pub returns : goal.returns
returns c =
    let inv = c.loop-k.invariant in
    fields_read _ _ _ _ _ _ _ inv.3 (rw inv.0 at c.loop-k-test.false) c.byte.ensures c.if-byte-ne10.false
