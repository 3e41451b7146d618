use Rattle.std.proofs.Common.{◌≡◌, ◌≤◌, length, drop, drop_of_length-le, sym, ◌∙◌, arith}
use Rattle.std.proofs.lemmas.Option.{MatchOption-at_none}
use Rattle.model.specs.Text.{begins}
use Rattle.fields.proofs.Bytes.{rest_begins, no_name}
use Rattle.fields.proofs.name_at.Goals as goal
use Rattle.fields.proofs.name_at.Goals.{After-starts_with}

tested : (c : After-starts_with) → begins c.args.name.now (drop c.args.at c.args.text.now) ≡ c.starts_with.result
tested c =
    let a = c.args in
    sym (c.starts_with.ensures.value ∙ rest_begins a.name.now a.text.now c.in-Some.rest.now a.at c.requires c.in-Some.ensures.lookup.0.2)

pub returns-in-Some-clause-value : goal.returns-in-Some-clause-value
returns-in-Some-clause-value c = rw (tested (goal.at.returns-in-Some-clause-value c).After-starts_with, c.if-starts_with.true)

pub returns-in_default-clause-value : goal.returns-in_default-clause-value
returns-in_default-clause-value c = rw (tested (goal.at.returns-in_default-clause-value c).After-starts_with, c.if-starts_with.false)

pub returns-in_default-2-clause-value : goal.returns-in_default-2-clause-value
returns-in_default-2-clause-value c =
    let past = MatchOption-at_none _ _ c.in_default.is c.get.ensures.lookup.0 in
    let h : length c.args.text.now ≤ c.args.at = omega arith in
    rw (drop_of_length-le c.args.text.now h) (no_name c.args.name.now c.requires)
