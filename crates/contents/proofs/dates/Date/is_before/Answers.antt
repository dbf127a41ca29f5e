use Rattle.std.proofs.Common.{rules}
use Rattle.contents.proofs.Calendar.{compares_as_days}
use Rattle.contents.proofs.dates.Date.is_before.Goals as goal

pub returns : goal.returns
returns c = record { answer = search rules; days = compares_as_days c.args.self c.args.other }
