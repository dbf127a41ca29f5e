use Rattle.std.proofs.Common.{ap, ◌∙◌, arith, rules}
use Rattle.std.proofs.lemmas.Bool.Decides.{nat_tests}
use Rattle.content_lines.proofs.Places.{next_passes}
use Rattle.content_answer.specs.Related.{digits, is_day}
use Rattle.content_answer.proofs.related.is_related.Goals as goal

pub returns-then-is_digits : goal.returns-then-is_digits
returns-then-is_digits c =
    let d = c.if-is_digits.ensures ∙ ap (digits 3) c.first_line.ensures in
    let n = next_passes c.args.content.now is_day c.next_line.result c.is_some_and.result c.next_line.ensures c.is_some_and.ensures (λ x q. search rules) in
    grind (arith, nat_tests)
