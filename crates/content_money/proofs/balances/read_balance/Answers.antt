use Rattle.std.proofs.Common.{◌≡◌, drop, Some, sym, rules}
use Rattle.content_money.specs.Money.{dated_of}
use Rattle.content_money.proofs.Dated.{dated_told}
use Rattle.content_money.proofs.balances.read_balance.Goals as goal

pub count-hundredths-requires : goal.count-hundredths-requires
count-hundredths-requires c =
    let e : Some c.in_ok-money.money ≡ dated_of c.args.currency (drop 1 c.args.content.now) = search rules in
    (dated_told c.args.currency (drop 1 c.args.content.now) c.in_ok-money.money (sym e)).below
