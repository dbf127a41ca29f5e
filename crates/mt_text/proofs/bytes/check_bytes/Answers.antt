use Rattle.std.proofs.Common.{rules}
use Rattle.mt_text.proofs.Steps.{foreign_more, foreign_all}
use Rattle.mt_text.proofs.bytes.check_bytes.Goals as goal

pub returns-then-not-is_carried : goal.returns-then-not-is_carried
returns-then-not-is_carried c = search (rules, foreign_more)

pub loop-i-preserved : goal.loop-i-preserved
loop-i-preserved c = search (rules, foreign_more)

pub returns : goal.returns
returns c = search (rules, foreign_all)
