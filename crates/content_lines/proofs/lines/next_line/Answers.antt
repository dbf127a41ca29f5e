use Rattle.std.proofs.Common.{◌≡◌, [], ◌∷◌, cond, not, ◌&&◌, take, drop, codes, Some, None, false, true, sym, ap, ◌∙◌, arith, rules}
use Rattle.std.specs.Str.{bytes_eq}
use Rattle.std.specs.Option.{option_map}
use Rattle.std.proofs.lemmas.List.{take_rest, drop-drop}
use Rattle.std.proofs.lemmas.Bool.Decides.{nat_tests}
use Rattle.mt_text.specs.Classes.{among}
use Rattle.content_lines.specs.Formats.{begins}
use Rattle.content_lines.specs.Lines.{line_end, next_line}
use Rattle.content_lines.proofs.Places.{next_by}
use Rattle.content_lines.proofs.lines.next_line.Goals as goal

pub returns-in_err-rest : goal.returns-in_err-rest
returns-in_err-rest c =
    let bs = c.args.bytes.now in
    let t = take_rest bs c.first_end.result ∙ ap (λ n. drop n bs) c.first_end.ensures.is in
    let n : bytes_eq (take 2 (drop (line_end bs) bs)) (13 ∷ 10 ∷ []) ≡ false = ap (λ l. bytes_eq (take 2 l) (13 ∷ 10 ∷ [])) (sym t) ∙ c.in_err-rest.ensures.cases in
    let e : option_map (λ x. x.now) c.from_residual.result ≡ None = search rules in
    e ∙ sym (next_by bs ∙ ap (λ b. cond (b && not (begins (next_line bs))) (Some (next_line bs)) None) n)

pub returns : goal.returns
returns c =
    let bs = c.args.bytes.now in
    let t = take_rest bs c.first_end.result ∙ ap (λ n. drop n bs) c.first_end.ensures.is in
    let y : bytes_eq (take 2 (drop (line_end bs) bs)) (13 ∷ 10 ∷ []) ≡ true = ap (λ l. bytes_eq (take 2 l) (13 ∷ 10 ∷ [])) (sym t) ∙ c.in_ok-rest.ensures.cases.0 in
    let r : c.in_ok-rest.rest.now ≡ next_line bs = c.in_ok-rest.ensures.cases.1 ∙ ap (drop 2) t ∙ drop-drop 2 (line_end bs) bs in
    let o = c.is_opener.ensures ∙ ap (among (codes ":-")) c.byte_at.ensures ∙ ap begins r in
    let k = next_by bs ∙ ap (λ b. cond (b && not (begins (next_line bs))) (Some (next_line bs)) None) y in
    let s = c.then_some.ensures in
    grind (arith, nat_tests)
