use Rattle.std.proofs.Common.{◌≡◌, true, length, take, drop, ◌≤◌, ap, ◌∙◌, arith, rules}
use Rattle.std.specs.Str.{bytes_eq}
use Rattle.std.proofs.lemmas.Slice.Eq.{bytes_eq-Decides}
use Rattle.std.proofs.lemmas.List.{take_rest}
use Rattle.contents.specs.Amounts.{amount_of}
use Rattle.content_money.proofs.Dated.{dated_read}
use Rattle.content_money.proofs.money.read_dated.Goals as goal

pub returns : goal.returns
returns c =
    let cur = c.args.currency in
    let bs = c.args.content.now in
    let l : 9 ≤ length bs = omega arith in
    let s : bytes_eq (take 3 (drop 6 bs)) cur ≡ true = search (rules, bytes_eq-Decides) in
    dated_read cur bs c.in_ok-date.date c.in_ok-hundredths.hundredths l c.in_ok-date.ensures s (c.in_ok-hundredths.ensures ∙ ap amount_of (take_rest bs 9))
