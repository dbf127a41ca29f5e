use Rattle.std.proofs.Common.{◌≡◌, ◌∙◌, sym, ap, rules, tests}
use Rattle.std.specs.Option.{option_map}
use Rattle.std.proofs.lemmas.Iterator.{YieldsList-from_slice}
use Rattle.std.proofs.lemmas.Iterator.Search.{find_from_yields_List}
use Rattle.books.specs.Keys.{alike}
use Rattle.books.proofs.Places.{found_is}
use Rattle.books.proofs.rows.found_in.Goals as goal

pub returns : goal.returns
returns g c =
    let says = g.K.Key.says in
    let e = find_from_yields_List (λ e. alike (says e.key) (says c.args.key.now)) _ _ c.find.result c.find.ensures.ran (YieldsList-from_slice c.args.row.now cc) (λ x b q k. search (rules, tests)) in
    let m : c.map.result ≡ option_map (λ e. e.record) (option_map (λ r. r.now) c.find.result) = search rules in
    m ∙ ap (option_map (λ e. e.record)) e ∙ sym (found_is says c.args.row.now c.args.key.now)
