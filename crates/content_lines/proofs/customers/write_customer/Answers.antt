use Rattle.content_lines.proofs.Laws.{customer_lawful}
use Rattle.content_lines.proofs.customers.write_customer.Goals as goal

pub returns-clause-laws : goal.returns-clause-laws
returns-clause-laws c = customer_lawful
