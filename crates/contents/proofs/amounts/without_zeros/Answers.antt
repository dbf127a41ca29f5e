use Rattle.std.proofs.Common.{eqb, arith}
use Rattle.std.proofs.lemmas.List.Sums.{suffix_len-le-length}
use Rattle.contents.proofs.Steps.{trailing_is_take}
use Rattle.contents.proofs.amounts.without_zeros.Goals as goal

pub overflow_sub-result : goal.overflow_sub-result
overflow_sub-result c = let l = suffix_len-le-length (λ d. eqb d 48) c.args.digits.now in grind arith

pub returns-clause-rest : goal.returns-clause-rest
returns-clause-rest c = let e = trailing_is_take c.args.digits.now in grind arith
