use Rattle.std.proofs.Common.{rules}
use Rattle.reader.proofs.RowSteps.{format_is}
use Rattle.reader.proofs.rows.format_for.Goals as goal

pub returns : goal.returns
returns g c = search (rules, format_is c.args.tag c.args.rows.now)
