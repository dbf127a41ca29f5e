use Rattle.std.proofs.Common.{◌≡◌, ℕ, ◌+◌, Bool, cond, ◌&&◌, eqb, List, [], ◌∷◌, rules, tests, refl, ap, ◌∙◌}
use Rattle.std.specs.List.{enumerate_from, list_all}
use Rattle.std.proofs.lemmas.Iterator.{YieldsList-from_slice}
use Rattle.std.proofs.lemmas.Iterator.Consumers.{YieldsList-from_enumerate}
use Rattle.std.proofs.lemmas.Iterator.Search.{all_from_yields_List}
use Rattle.headers.specs.User.{tracked, hyphen_place, small_hex}
use Rattle.headers.proofs.user.is_tracked.Goals as goal

abbrev fits : ℕ × ℕ → Bool
fits x = cond (hyphen_place x.0) (eqb x.1 45) (small_hex x.1)

all_fit : (i : ℕ) (bs : List ℕ) → list_all fits (enumerate_from i bs) ≡ tracked i bs
all_fit i [] = refl
all_fit i (b ∷ bs) = ap (λ x. fits (i, b) && x) (all_fit (i + 1) bs)

pub returns : goal.returns
returns c =
    all_from_yields_List fits _ _ c.all.result c.all.ensures.ran (YieldsList-from_enumerate (YieldsList-from_slice c.args.value.now cc) cc) (λ x b q k. search (rules, tests))
    ∙ all_fit 0 c.args.value.now
