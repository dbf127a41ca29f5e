use Rattle.content_lines.proofs.Laws.{lines_lawful}
use Rattle.content_lines.proofs.lines.Lines.write.Goals as goal

pub returns-clause-laws : goal.returns-clause-laws
returns-clause-laws c = lines_lawful c.args.self.count c.args.self.width
