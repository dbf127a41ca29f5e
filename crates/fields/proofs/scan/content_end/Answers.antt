use Rattle.std.proofs.Common.{ℕ, List, [], ◌∷◌, eqb, get_or, take, ◌&&◌, refl, ◌≡◌, ◌+◌, drop, ap, ◌∙◌, sym, arith}
use Rattle.std.specs.List.{position}
use lib.Pointwise.{pointwise}
use Rattle.std.proofs.lemmas.Bool.Decides.{nat_tests}
use Rattle.std.proofs.lemmas.List.{drop-drop}
use Rattle.fields.specs.Fields.{content_end}
use Rattle.fields.proofs.Steps.{ends_line, decided, at_end, at_none}
use Rattle.fields.proofs.scan.content_end.Goals as goal
use Rattle.fields.proofs.scan.content_end.Goals.{After-rest-in-Some}

-- what stands where the line's plain bytes end decides
line_end : (c : After-rest-in-Some) → content_end c.loop-plain.line c.loop-plain.from (drop c.loop-plain.from c.args.text.now) ≡ decided c.loop-plain.line (c.loop-plain.from + c.in-Some.plain) c.rest-in-Some.result.now
line_end c = at_end c.args.text.now c.loop-plain.line c.loop-plain.from c.in-Some.plain c.rest-in-Some.result.now c.rest-in-Some.ensures (sym c.in-Some.is ∙ c.plain_end.ensures ∙ ap (position ends_line) c.rest.ensures)

-- CR LF at the front, byte by byte
crlf : (bs : List ℕ) → pointwise eqb (take 2 bs) (13 ∷ 10 ∷ []) ≡ (eqb (get_or bs 0 0) 13 && eqb (get_or bs 1 0) 10)
crlf [] = refl
crlf (b ∷ []) = grind (arith, nat_tests)
crlf (b ∷ c ∷ bs) = grind (arith, nat_tests)

pub returns-in-Some-eq58 : goal.returns-in-Some-eq58
returns-in-Some-eq58 c = let e = line_end (goal.at.returns-in-Some-eq58 c).After-rest-in-Some in grind (arith, nat_tests)

pub loop-plain-preserved : goal.loop-plain-preserved
loop-plain-preserved c =
    let e = line_end (goal.at.loop-plain-preserved c).After-rest-in-Some in
    let d = drop-drop 2 (c.loop-plain.from + c.in-Some.plain) c.args.text.now in
    grind (arith, nat_tests)

pub returns-in-None : goal.returns-in-None
returns-in-None c = let e = line_end (goal.at.returns-in-None c).After-rest-in-Some in
    let p = c.in-None.ensures.cases in
    let q = crlf c.rest-in-Some.result.now in
    grind (arith, nat_tests)

pub returns : goal.returns
returns c =
    let e = at_none c.args.text.now c.loop-plain.line c.loop-plain.from (sym c.in_default.is ∙ c.plain_end.ensures ∙ ap (position ends_line) c.rest.ensures) in
    cc
