use Rattle.content_lines.proofs.Laws.{words_lawful}
use Rattle.content_lines.proofs.words.write_word.Goals as goal

pub returns-clause-laws : goal.returns-clause-laws
returns-clause-laws c = words_lawful c.args.words
