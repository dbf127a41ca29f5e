use Rattle.std.proofs.Common.{◌≡◌, [], ◌++◌, take, drop, Some, None, ap, ◌∙◌, arith, rules}
use Rattle.std.proofs.lemmas.List.{append-nil}
use Rattle.contents.specs.Amounts.{normal}
use Rattle.content_lines.proofs.Writing.{wrote_answer, wrote_buffer, is_told}
use Rattle.content_money.specs.Money.{money_of, amount_part, dated_normal, money_format}
use Rattle.content_money.proofs.Dated.{part_told}
use Rattle.content_money.proofs.MoneyLaws.{money_lawful, money_dated}
use Rattle.content_money.proofs.money.write_money.Goals as goal

pub returns-in_err-ok_or-clause-laws : goal.returns-in_err-ok_or-clause-laws
returns-in_err-ok_or-clause-laws c = money_lawful c.args.currency

pub returns-in_err-amount-clause-buffer : goal.returns-in_err-amount-clause-buffer
returns-in_err-amount-clause-buffer c =
    let cur = c.args.currency in
    let bs = c.args.content.now in
    let some : Some c.in_ok-ok_or.field-0 ≡ money_of cur bs = search rules in
    let m = money_dated cur bs (is_told (money_of cur bs) _ some) in
    let p = part_told cur bs m.0 m.1 in
    let none : None ≡ amount_part bs = search rules in
    absurd (grind arith)

pub returns-in_err-amount-clause-laws : goal.returns-in_err-amount-clause-laws
returns-in_err-amount-clause-laws c = money_lawful c.args.currency

pub returns : goal.returns
returns c =
    let cur = c.args.currency in
    let bs = c.args.content.now in
    let some : Some c.in_ok-ok_or.field-0 ≡ money_of cur bs = search rules in
    let yes = is_told (money_of cur bs) _ some in
    let m = money_dated cur bs yes in
    let e : Some c.in_ok-amount.amount.now ≡ amount_part bs = search rules in
    let f = part_told cur bs m.0 m.1 in
    let n : c.in_ok-amount.amount.now ≡ normal (drop 9 bs) = cc in
    let parts : take 9 bs ++ (c.in_ok-amount.amount.now ++ []) ≡ dated_normal bs = ap (λ l. take 9 bs ++ l) (append-nil c.in_ok-amount.amount.now ∙ n) in
    record {
      answer = wrote_answer (money_format cur) bs c.args.buffer.now yes _ parts _ c.put_parts.ensures.answer;
      buffer = wrote_buffer (money_format cur) bs c.args.buffer.now yes _ parts _ c.put_parts.ensures.buffer;
      laws = money_lawful cur;
    }
