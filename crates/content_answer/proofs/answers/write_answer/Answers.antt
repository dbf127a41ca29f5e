use Rattle.content_answer.proofs.AnswerLaws.{answer_lawful}
use Rattle.content_answer.proofs.answers.write_answer.Goals as goal

pub returns-clause-laws : goal.returns-clause-laws
returns-clause-laws c = answer_lawful
