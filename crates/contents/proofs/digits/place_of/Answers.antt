use Rattle.std.proofs.Common.{eqb, rules, tests}
use Rattle.std.proofs.lemmas.Iterator.{YieldsList-from_slice}
use Rattle.std.proofs.lemmas.Iterator.Search.{position_from_yields_List}
use Rattle.std.proofs.lemmas.List.Sums.{prefix_len-le-length}
use Rattle.contents.proofs.Steps.{place_is_position}
use Rattle.contents.proofs.digits.place_of.Goals as goal

pub returns : goal.returns
returns c =
    let p = position_from_yields_List (λ x. eqb x c.args.b) _ _ c.position.result c.position.ensures.ran (YieldsList-from_slice c.args.text.now cc) (λ x b q k. search (rules, tests)) in
    let e = place_is_position c.args.b c.args.text.now in
    search (rules, prefix_len-le-length)
