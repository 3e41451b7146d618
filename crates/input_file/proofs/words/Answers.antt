use Rattle.std.proofs.Common.{◌≡◌, take, drop, ◌∙◌, ap, sym, arith, add-one}
use Rattle.std.proofs.lemmas.List.{take_all}
use Rattle.input_file.specs.Words.{words_size}
use Rattle.input_file.proofs.Laws.{marked, ends_at_zero, ends_at_mark, goes_on, ends_behind}
use Rattle.input_file.proofs.words.Goals as goal
use Rattle.input_file.proofs.words.Goals.{then-text-i-eq0-via-then-text-i-eq0, then-text-i-eq0-via-else-text-i-eq0+then-starts_with}

pub loop-i-init : goal.loop-i-init
loop-i-init c = omega arith

pub returns-then-text-i-eq0 : goal.returns-then-text-i-eq0
returns-then-text-i-eq0 c =
    let h = c.loop-i-test.true in
    let end : words_size (drop c.loop-i.i c.args.text.now) ≡ 0 = elim c.then-text-i-eq0.branch [
      | then-text-i-eq0-via-then-text-i-eq0 w ↦ ends_at_zero _ _ h w.if-text-i-eq0.true
      | then-text-i-eq0-via-else-text-i-eq0+then-starts_with w ↦ ends_at_mark _ _ h (marked c.args.text.now c.loop-i.i w.starts_with.ensures.value ∙ w.if-starts_with.true)
    ] in
    let here : c.loop-i.i ≡ words_size c.args.text.now = omega (arith, c.loop-i.invariant, end) in
    ap (λ n. take n c.args.text.now) here

pub loop-i-preserved : goal.loop-i-preserved
loop-i-preserved c =
    let on = goes_on _ _ c.loop-i-test.true c.if-text-i-eq0.false (marked c.args.text.now c.loop-i.i c.starts_with.ensures.value ∙ c.if-starts_with.false) in
    rw add-one (omega (arith, on, c.loop-i.invariant))

pub returns : goal.returns
returns c =
    let end = ends_behind c.args.text.now c.loop-i.i (omega arith) in
    sym (take_all _ c.args.text.now (omega (arith, c.loop-i.invariant, end)))
