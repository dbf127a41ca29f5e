use Rattle.std.proofs.Common.{◌≡◌, length}
use Rattle.reader.specs.Rows.{seek, passing}
use Rattle.reader.proofs.rows.Walk.take.Given as goal

-- what is left gives the answer, short where a row that was passed over falls short
abbrev pub invariant-loop-row : goal.invariant-loop-row
invariant-loop-row g l = passing l.enough (seek l.field.tag l.count l.rows) ≡ seek l.field.tag l.fn.self.count l.fn.self.rows.now

abbrev pub decreases-loop-row : goal.decreases-loop-row
decreases-loop-row g l = length l.rows
