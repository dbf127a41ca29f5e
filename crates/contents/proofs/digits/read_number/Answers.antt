use Rattle.std.proofs.Common.{◌+◌, ◌-◌, ◌*◌, ◌^◌, ◌<◌, ◌≤◌, get_or, arith}
use Rattle.std.proofs.lemmas.Bool.Decides.{nat_tests}
use Rattle.contents.proofs.Steps.{below_limit}
use Rattle.contents.proofs.digits.read_number.Goals as goal
use Rattle.contents.proofs.digits.read_number.Goals.{Else-not-is_digit}

small : (c : Else-not-is_digit) → get_or c.args.digits.now c.loop-b.b-index 0 - 48 ≤ 9
small c = let d = c.if-not-is_digit.ensures in grind (arith, nat_tests)

fits : (c : Else-not-is_digit) → c.loop-b.number * 10 + (get_or c.args.digits.now c.loop-b.b-index 0 - 48) < 10 ^ 19
fits c = below_limit c.loop-b.number c.loop-b.b-index _ c.loop-b.invariant.1 (omega arith) (small c)

pub overflow_mul-number : goal.overflow_mul-number
overflow_mul-number c = omega (arith, fits c)

pub overflow_add-number : goal.overflow_add-number
overflow_add-number c = omega (arith, fits (goal.at.overflow_add-number c).Else-not-is_digit)
