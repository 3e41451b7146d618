-- `read_input` fills `text` with what it consumes: a read's bytes come behind those of the reads before. Assumes nothing.
use Rattle.std.proofs.Common.{rules, ◌≡◌, ◌∙◌, ◌+◌, ◌≤◌, ℕ, List, ◌++◌, length, take, ap, sym, subst}
use Rattle.std.specs.Io.KnownBytes.{Consumes}
use Rattle.std.proofs.KnownBytes.{Consumes-trans}
use Rattle.std.proofs.Math.Seq.{take-append-add}
use Rattle.std.proofs.lemmas.List.{take-append-le, length-take-le}
use borrow.Rule.Slice.PartMut.{put_mid, post_of}
use Rattle.input.proofs.read_input.Goals as goal

-- the front before a write to the part behind it, and the first n bytes of what was written there
front_grows : (a k n : ℕ) (xs ys : List ℕ) → a ≤ length xs → n ≤ length ys → take a xs ++ take n ys ≡ take (a + n) (put_mid a k xs ys)
front_grows a k n xs ys within fits =
    let behind = ys ++ post_of a k xs in
    ap (λ l. take a xs ++ l) (sym (take-append-le n ys (post_of a k xs) fits)) ∙ sym (take-append-add (take a xs) behind n) ∙ ap (λ m. take (m + n) (take a xs ++ behind)) (length-take-le a xs within)

pub loop-done-preserved-in-Ok : goal.loop-done-preserved-in-Ok
loop-done-preserved-in-Ok g c =
    let kept = c.loop-done.invariant in
    let got = c.in-Ok.ensures in
    let text = front_grows _ _ _ c.loop-done.text c.read.new.buf kept.within got.bound.0 in
    record {
      within = search rules;
      few = kept.few;
      filled = subst (Consumes _ _) text (Consumes-trans _ _ _ _ _ kept.filled got.bytes.0);
    }
