use Rattle.std.proofs.Common.{arith}
use Rattle.contents.proofs.Steps.{leading_is_drop}
use Rattle.contents.proofs.amounts.leading_zeros.Goals as goal

pub returns-clause-rest : goal.returns-clause-rest
returns-clause-rest c = let e = leading_is_drop c.args.digits.now in grind arith
