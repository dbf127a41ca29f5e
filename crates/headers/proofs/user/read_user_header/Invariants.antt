use Rattle.headers.proofs.Steps.{Sofar}
use Rattle.headers.proofs.user.read_user_header.Given as goal

abbrev pub invariant-loop : goal.invariant-loop
invariant-loop l = Sofar l.text l.at l.counter l.from l.header
