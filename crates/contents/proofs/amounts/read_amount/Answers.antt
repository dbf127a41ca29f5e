use Rattle.std.proofs.Common.{arith}
use Rattle.contents.proofs.AmountParts.{told_comma, Sum, add_up}
use Rattle.contents.proofs.amounts.read_amount.Goals as goal
use Rattle.contents.proofs.amounts.read_amount.Goals.{After-unit_of-unit}

-- the decimals of an amount are always read
sum : (c : After-unit_of-unit) → Sum c.args.text.now c.in_ok-whole.whole c.in_ok-decimals.decimals c.unit_of-unit.result
sum c =
    let bs = c.args.text.now in
    let k = c.in_ok-comma.comma in
    let t = told_comma bs k c.in_ok-comma.ensures in
    add_up bs k t.0 t.1 _ _ _ c.in_ok-whole.ensures c.in_ok-decimals.ensures c.unit_of-unit.ensures

pub overflow_mul-result : goal.overflow_mul-result
overflow_mul-result c = omega (arith, (sum c).fits)

pub overflow_add-result : goal.overflow_add-result
overflow_add-result c = omega (arith, (sum c).fits, (sum c).small)
