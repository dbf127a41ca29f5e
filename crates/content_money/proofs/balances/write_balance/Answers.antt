use Rattle.std.proofs.Common.{◌≡◌, ◌-◌, ◌∷◌, ◌++◌, length, take, drop, Some, None, sym, ap, ◌∙◌, arith, w64, SFits, rules}
use Rattle.std.proofs.lemmas.Int.{to_z-of_z}
use Rattle.std.proofs.lemmas.List.{take_rest}
use Rattle.contents.specs.Amounts.{normal}
use Rattle.content_lines.proofs.Writing.{wrote_answer, wrote_buffer, is_told}
use Rattle.content_money.specs.Money.{amount_part}
use Rattle.content_money.specs.Balances.{balance_of, normal_mark, balance_normal, balance_format}
use Rattle.content_money.proofs.Dated.{part_told}
use Rattle.content_money.proofs.BalanceLaws.{Told, balance_told, balance_lawful, mark_written}
use Rattle.content_money.proofs.balances.write_balance.Goals as goal
use Rattle.content_money.proofs.balances.write_balance.Goals.{In_ok-balance}

pub returns-in_err-balance-clause-laws : goal.returns-in_err-balance-clause-laws
returns-in_err-balance-clause-laws c = balance_lawful c.args.currency

-- the balance that was read
read : (c : In_ok-balance) → Some c.in_ok-balance.balance ≡ balance_of c.args.currency c.args.content.now
read c = search rules

told : (c : In_ok-balance) → Told c.args.currency c.args.content.now c.in_ok-balance.balance
told c = balance_told c.args.currency c.args.content.now c.in_ok-balance.balance (sym (read c))

pub returns-in_err-amount : goal.returns-in_err-amount
returns-in_err-amount c =
    let bs = c.args.content.now in
    let t = told (goal.at.returns-in_err-amount c).In_ok-balance in
    let none : None ≡ amount_part (take (length bs - 1) (drop 1 bs)) = search rules in
    let e = none ∙ ap amount_part (take_rest bs 1) ∙ part_told c.args.currency (drop 1 bs) t.amount t.dated in
    absurd (grind arith)

pub returns : goal.returns
returns c =
    let cur = c.args.currency in
    let bs = c.args.content.now in
    let ok = (goal.at.returns c).In_ok-balance in
    let t = told ok in
    let yes = is_told (balance_of cur bs) _ (read ok) in
    let some : Some c.in_ok-amount.amount.now ≡ amount_part (take (length bs - 1) (drop 1 bs)) = search rules in
    let e = some ∙ ap amount_part (take_rest bs 1) ∙ part_told cur (drop 1 bs) t.amount t.dated in
    let n : c.in_ok-amount.amount.now ≡ normal (drop 9 (drop 1 bs)) = cc in
    let f : SFits w64 c.in_ok-balance.balance.hundredths = search rules in
    let z = to_z-of_z w64 c.in_ok-balance.balance.hundredths f in
    let m : c.normal_mark-mark.result ≡ normal_mark bs = mark_written cur bs c.in_ok-balance.balance t _ (λ e. c.normal_mark-mark.ensures.zero (z ∙ e)) (λ n. c.normal_mark-mark.ensures.other (λ e. n (sym z ∙ e))) in
    let parts : c.normal_mark-mark.result ∷ (take 9 (take (length bs - 1) (drop 1 bs)) ++ c.in_ok-amount.amount.now) ≡ balance_normal bs = (λ i. m i ∷ (take 9 (take_rest bs 1 i) ++ n i)) in
    record {
      answer = wrote_answer (balance_format cur) bs c.args.buffer.now yes _ parts _ c.put_parts.ensures.answer;
      buffer = wrote_buffer (balance_format cur) bs c.args.buffer.now yes _ parts _ c.put_parts.ensures.buffer;
      laws = balance_lawful cur;
    }
