use Rattle.std.proofs.Common.{sym, ◌∙◌, rules, tests}
use Rattle.std.proofs.lemmas.Iterator.{YieldsList-from_slice}
use Rattle.std.proofs.lemmas.Iterator.Search.{all_from_yields_List}
use Rattle.mt_text.specs.Classes.{holds}
use Rattle.mt_text.proofs.Steps.{every_is_all}
use Rattle.mt_text.proofs.classes.all_of.Goals as goal

pub returns : goal.returns
returns c =
    let all = all_from_yields_List (holds c.args.class) _ _ c.all.result c.all.ensures.ran (YieldsList-from_slice c.args.bytes.now cc) (λ x b q k. search (rules, tests)) in
    all ∙ sym (every_is_all (holds c.args.class) c.args.bytes.now)
