use Rattle.content_answer.proofs.AnswerLaws.{related_lawful}
use Rattle.content_answer.proofs.related.write_related.Goals as goal

pub returns-clause-laws : goal.returns-clause-laws
returns-clause-laws c = related_lawful
