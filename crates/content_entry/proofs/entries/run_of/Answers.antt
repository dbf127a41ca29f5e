use Rattle.std.proofs.Common.{◌||◌, eqb, ◌∙◌, rules, tests}
use Rattle.std.proofs.lemmas.Iterator.{YieldsList-from_slice}
use Rattle.std.proofs.lemmas.Iterator.Consumers.{count_from_yields_List}
use Rattle.std.proofs.lemmas.Iterator.Search.{YieldsList-from_take_while}
use Rattle.std.proofs.lemmas.List.Folds.{length-prefix_len}
use Rattle.mt_text.specs.Classes.{digit}
use Rattle.content_entry.proofs.Steps.{run_is}
use Rattle.content_entry.proofs.entries.run_of.Goals as goal

pub returns-clause-is : goal.returns-clause-is
returns-clause-is c =
    let bs = c.args.bytes.now in
    count_from_yields_List c.take_while.result _ c.count.ensures.ran (YieldsList-from_take_while _ (λ b. digit b || eqb b 44) (YieldsList-from_slice bs cc) c.take_while.ensures.closure c.take_while.ensures.done (λ x b q k. search (rules, tests)))
    ∙ length-prefix_len (λ b. digit b || eqb b 44) bs
    ∙ run_is bs
