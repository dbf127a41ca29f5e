use Rattle.std.proofs.Common.{sym}
use Rattle.content_money.proofs.Dated.{amount_below}
use Rattle.content_money.proofs.signs.read_signed.Goals as goal

pub count-requires : goal.count-requires
count-requires c = amount_below c.args.text.now c.in_ok-read_amount.field-0 (sym c.in_ok-read_amount.ensures)
