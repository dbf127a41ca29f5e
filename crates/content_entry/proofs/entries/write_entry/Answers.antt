use Rattle.std.proofs.Common.{◌≡◌, ◌++◌, Some, None, arith, rules}
use Rattle.std.proofs.lemmas.Bool.{cond-true}
use Rattle.contents.specs.Amounts.{is_amount, normal, normal_of}
use Rattle.content_lines.proofs.Writing.{wrote_answer, wrote_buffer, is_told}
use Rattle.content_entry.specs.Entries.{front, amount, behind, entry_of, entry_format}
use Rattle.content_entry.proofs.EntryLaws.{entry_is, entry_lawful}
use Rattle.content_entry.proofs.entries.write_entry.Goals as goal
use Rattle.content_entry.proofs.entries.write_entry.Goals.{In_ok-ok_or}

pub returns-in_err-ok_or-clause-laws : goal.returns-in_err-ok_or-clause-laws
returns-in_err-ok_or-clause-laws c = entry_lawful

read : (c : In_ok-ok_or) → Some c.in_ok-ok_or.field-0 ≡ entry_of c.args.content.now
read c = search rules

normal_told : (c : In_ok-ok_or) → normal_of (amount c.args.content.now) ≡ Some (normal (amount c.args.content.now))
normal_told c =
    let bs = c.args.content.now in
    cond-true (is_amount (amount bs)) (Some (normal (amount bs))) None (entry_is bs (is_told (entry_of bs) _ (read c))).is

pub returns-in_err-amount : goal.returns-in_err-amount
returns-in_err-amount c =
    let none : None ≡ normal_of (amount c.args.content.now) = search rules in
    let some = normal_told (goal.at.returns-in_err-amount c).In_ok-ok_or in
    absurd (grind arith)

pub returns : goal.returns
returns c =
    let bs = c.args.content.now in
    let ok = (goal.at.returns c).In_ok-ok_or in
    let yes = is_told (entry_of bs) _ (read ok) in
    let e : Some c.in_ok-amount.amount.now ≡ normal_of (amount bs) = search rules in
    let some = normal_told ok in
    let n : c.in_ok-amount.amount.now ≡ normal (amount bs) = cc in
    let parts : c.cut_at_amount-cut.result.front.now ++ (c.in_ok-amount.amount.now ++ c.cut_at_amount-cut.result.behind.now) ≡ front bs ++ (normal (amount bs) ++ behind bs) = (λ i. c.cut_at_amount-cut.ensures.front i ++ (n i ++ c.cut_at_amount-cut.ensures.behind i)) in
    record {
      answer = wrote_answer entry_format bs c.args.buffer.now yes _ parts _ c.put_parts.ensures.answer;
      buffer = wrote_buffer entry_format bs c.args.buffer.now yes _ parts _ c.put_parts.ensures.buffer;
      laws = entry_lawful;
    }
