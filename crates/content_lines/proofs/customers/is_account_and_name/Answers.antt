use Rattle.std.proofs.Common.{ap, ◌∙◌, arith, rules}
use Rattle.std.proofs.lemmas.Bool.Decides.{nat_tests}
use Rattle.content_lines.specs.Lines.{is_line, lines}
use Rattle.content_lines.proofs.Places.{next_passes}
use Rattle.content_lines.proofs.customers.is_account_and_name.Goals as goal

pub returns-then-is_line : goal.returns-then-is_line
returns-then-is_line c =
    let a = c.if-is_line.ensures ∙ ap (is_line 34) c.first_line.ensures in
    let n = next_passes c.args.bytes.now (lines 4 35) c.next_line.result c.is_some_and.result c.next_line.ensures c.is_some_and.ensures (λ x q. search rules) in
    grind (arith, nat_tests)
