use Rattle.std.proofs.Common.{◌≡◌, ◌-◌, [], ◌++◌, take, drop, codes, Some, ap, rules}
use Rattle.content_lines.proofs.Writing.{wrote_answer, wrote_buffer, is_told}
use Rattle.content_money.specs.Numbers.{statement_number_of, number_format}
use Rattle.content_money.proofs.NumberLaws.{number_lawful, zeros_cut}
use Rattle.content_money.proofs.numbers.write_statement_number.Goals as goal

pub returns-in_err-ok_or-clause-laws : goal.returns-in_err-ok_or-clause-laws
returns-in_err-ok_or-clause-laws c = number_lawful

pub returns : goal.returns
returns c =
    let bs = c.args.content.now in
    let k = c.digits_end-end.result in
    let z = c.leading_zeros-start.result in
    let some : Some c.in_ok-ok_or.field-0 ≡ statement_number_of bs = search rules in
    let yes = is_told (statement_number_of bs) _ some in
    let w = zeros_cut bs k z c.digits_end-end.ensures.is c.leading_zeros-start.ensures.rest in
    let parts = ap (λ l. l ++ codes "/1") w in
    record {
      answer = wrote_answer number_format bs c.args.buffer.now yes (take (k - z) (drop z bs) ++ (codes "/1" ++ [])) parts _ c.put_parts.ensures.answer;
      buffer = wrote_buffer number_format bs c.args.buffer.now yes (take (k - z) (drop z bs) ++ (codes "/1" ++ [])) parts _ c.put_parts.ensures.buffer;
      laws = number_lawful;
    }
