use Rattle.std.proofs.Common.{rules}
use Rattle.contents.proofs.NormalAmounts.{normal_laws}
use Rattle.contents.proofs.amounts.write_normal_amount.Goals as goal

pub returns : goal.returns
returns c = record { answer = search rules; buffer = search rules; laws = normal_laws c.args.text.now }
