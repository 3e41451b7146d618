-- `Writer::put_field` meets its contract: a comma, and digits right behind it. Assumes nothing.
use Rattle.std.proofs.Common.{◌∙◌, ℕ, ap, arith, sym, length-drop}
use Rattle.std.proofs.lemmas.List.{length-take}
use Rattle.model.specs.Program.{digits}
use Rattle.model.proofs.Laws.Digits.{length_digits}
use Rattle.printing.proofs.Laws.{more_written, copied}
use Rattle.printing.proofs.Writer.put_field.Goals as goal

pub returns : goal.returns
returns c =
    let a = c.args in
    more_written c.put_bytes.ensures
    (copied _ (digits a.base a.count a.n) (sym (length_digits a.base a.count a.n)) (omega arith)
    (c.put_digits.ensures ∙ ap (λ (n : ℕ). digits a.base n a.n) (omega (arith, length-take {A = ℕ}, length-drop {A = ℕ}))))
