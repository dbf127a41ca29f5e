use Rattle.std.proofs.Common.{rules}
use Rattle.reader.proofs.RowSteps.{filled_behind}
use Rattle.reader.proofs.rows.Walk.is_filled.Goals as goal

pub returns-then-self-row : goal.returns-then-self-row
returns-then-self-row g c = search (rules, filled_behind c.in-Some.behind.now)
