use Rattle.std.proofs.Common.{◌+◌, ◌-◌, length, take, drop, Some, None, sym, ap, ◌∙◌}
use Rattle.std.proofs.lemmas.Bool.{cond-true}
use Rattle.contents.specs.Amounts.{is_amount, normal}
use Rattle.contents.proofs.AmountParts.{told_comma, cut_whole, cut_decimals, normal_part}
use Rattle.contents.proofs.amounts.normal_amount.Goals as goal

pub returns : goal.returns
returns c =
    let bs = c.args.text.now in
    let k = c.in_ok-comma.comma in
    let t = told_comma bs k c.in_ok-comma.ensures in
    let part = normal_part bs (take (k - 0) bs) (take (length bs - (k + 1)) (drop (k + 1) bs)) k c.leading_zeros-start.result c.without_zeros.result t.0 t.1 (cut_whole bs k t.1) (cut_decimals bs k t.1) c.leading_zeros-start.ensures.within c.leading_zeros-start.ensures.rest c.without_zeros.ensures.within c.without_zeros.ensures.rest in
    ap Some part ∙ sym (cond-true (is_amount bs) (Some (normal bs)) None t.0)
