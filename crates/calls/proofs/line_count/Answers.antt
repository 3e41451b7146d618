-- `calls::line_count` meets its contract. Assumes nothing.
use Rattle.std.proofs.Common.{◌≡◌, ◌∙◌, sym, rules, arith}
use Rattle.std.specs.Prelude.{nat_eq, count_by}
use Rattle.std.proofs.lemmas.List.Sums.{count_by-le-length}
use Rattle.calls.proofs.Laws.{count_lines}
use Rattle.calls.proofs.line_count.Goals as goal

pub returns : goal.returns
returns c =
    let text = c.args.text.now in
    let counted : c.count.result ≡ count_by (λ b. nat_eq b 10) text = search rules in
    (counted ∙ sym (count_lines text), omega (arith, counted, count_by-le-length (λ b. nat_eq b 10) text))
