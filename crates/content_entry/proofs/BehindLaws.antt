-- The bytes behind the amount of a statement entry.
use Rattle.std.proofs.Common.{◌≡◌, ℕ, suc, ◌+◌, ◌<◌, ◌≤◌, true, ◌&&◌, ◌||◌, eqb, List, [], ◌∷◌, ◌++◌, length, get_or, take, drop, sym, ap, ◌∙◌, ⊎_elim, add-one, arith}
use Rattle.std.proofs.lemmas.List.{take-append-drop, length-drop, length-take-le, drop_more, take_all}
use Rattle.std.proofs.lemmas.Bool.{cases_Bool, and_parts, or_cases, eqb-true, cond-true, cond-false}
use Rattle.std.proofs.lemmas.Bool.Decides.{nat_tests}
use Rattle.mt_text.specs.Classes.{alphanumeric, capital, every, printable}
use Rattle.content_lines.specs.Formats.{laid}
use Rattle.content_lines.specs.Lines.{is_line, line_end, first_line, next_line, goes_on}
use Rattle.content_lines.proofs.Places.{place_within, at_byte, goes_on_parts}
use Rattle.content_lines.proofs.Shapes.{every_append, alphanumerics_printable, laid_line, laid_on, laid_behind, is_line_parts}
use Rattle.content_entry.specs.Behind.{is_type, slashes, is_references, is_rest, is_behind}
use Rattle.content_entry.proofs.Steps.{slashes_within}

-- bytes of x, and how many
record Plain (bs : List ℕ) (most : ℕ) : Type 0 where
  printed : every printable bs ≡ true
  few : length bs ≤ most

type_plain : (t : List ℕ) → is_type t ≡ true → Plain t 4
type_plain t h =
    let p = and_parts (eqb (length t) 4) (capital (get_or t 0 0) && every alphanumeric (drop 1 t)) h in
    let q = and_parts (capital (get_or t 0 0)) (every alphanumeric (drop 1 t)) p.1 in
    let n = eqb-true (length t) 4 p.0 in
    let q0 = q.0 in
    let c : printable (get_or t 0 0) ≡ true = grind (arith, nat_tests) in
    let x : t ≡ get_or t 0 0 ∷ drop 1 t = drop_more t 0 0 (omega arith) in
    record { printed = ap (every printable) x ∙ (λ i. c i && alphanumerics_printable (drop 1 t) q.1 i); few = omega arith }

-- the two slashes where the references are cut
slashes_at : (l : List ℕ) → slashes l < length l → (get_or l (slashes l) 0 ≡ 47) × (get_or l (slashes l + 1) 0 ≡ 47)
slashes_at [] h = absurd (omega arith)
slashes_at (b ∷ bs) h =
    ⊎_elim
    (λ e.
    let p = and_parts _ _ e in
    let z : slashes (b ∷ bs) ≡ 0 = cond-true _ _ _ e in
    (ap (λ n. get_or (b ∷ bs) n 0) z ∙ eqb-true _ _ p.0, ap (λ n. get_or (b ∷ bs) (n + 1) 0) z ∙ eqb-true _ _ p.1))
    (λ e.
    let z : slashes (b ∷ bs) ≡ suc (slashes bs) = cond-false _ _ _ e ∙ add-one (slashes bs) in
    let ih = slashes_at bs (omega arith) in
    let y : slashes (b ∷ bs) + 1 ≡ suc (slashes bs + 1) = omega arith in
    (ap (λ n. get_or (b ∷ bs) n 0) z ∙ ih.0, ap (λ n. get_or (b ∷ bs) n 0) y ∙ ih.1))
    (cases_Bool (eqb b 47 && eqb (get_or bs 0 0) 47))

slashes_split : (l : List ℕ) → slashes l < length l → take (slashes l) l ++ 47 ∷ 47 ∷ drop (slashes l + 2) l ≡ l
slashes_split l h =
    let e = slashes_at l h in
    let k : slashes l + 1 < length l = at_byte l (slashes l + 1) 47 e.1 (omega arith) in
    let two : slashes l + 1 + 1 ≡ slashes l + 2 = omega arith in
    (λ i. take (slashes l) l ++ (sym e.0 i) ∷ (sym e.1 i) ∷ drop (sym two i) l)
    ∙ ap (λ t. take (slashes l) l ++ get_or l (slashes l) 0 ∷ t) (sym (drop_more l (slashes l + 1) 0 k))
    ∙ ap (λ t. take (slashes l) l ++ t) (sym (drop_more l (slashes l) 0 h))
    ∙ take-append-drop (slashes l) l

references_plain : (l : List ℕ) → is_references l ≡ true → Plain l 34
references_plain l h =
    ⊎_elim
    (λ e.
    let p = is_line_parts 16 l (sym (cond-true _ _ _ e) ∙ h) in
    record { printed = p.printed; few = omega (arith, p.most) })
    (λ e.
    let k : (is_line 16 (take (slashes l) l) && is_line 16 (drop (slashes l + 2) l)) ≡ true = sym (cond-false _ _ _ e) ∙ h in
    let q = and_parts _ _ k in
    let a = is_line_parts 16 (take (slashes l) l) q.0 in
    let b = is_line_parts 16 (drop (slashes l + 2) l) q.1 in
    let w = slashes_within l in
    let lt : slashes l < length l = grind (arith, nat_tests) in
    let n = length-take-le (slashes l) l w in
    let m = length-drop (slashes l + 2) l in
    record {
      printed = ap (every printable) (sym (slashes_split l lt)) ∙ every_append printable (take (slashes l) l) (47 ∷ 47 ∷ drop (slashes l + 2) l) a.printed b.printed;
      few = omega (arith, a.most, b.most);
    })
    (cases_Bool (eqb (slashes l) (length l)))

pub record Laid (bs : List ℕ) (most : ℕ) : Type 0 where
  pub out : laid bs ≡ true
  pub few : length bs ≤ most

rest_laid : (bs : List ℕ) → is_rest bs ≡ true → Laid bs 70
rest_laid bs h =
    let p = and_parts (is_references (first_line bs)) (eqb (line_end bs) (length bs) || (goes_on bs && is_line 34 (next_line bs))) h in
    let d = references_plain (first_line bs) p.0 in
    let x = length-take-le (line_end bs) bs (place_within 13 bs) in
    ⊎_elim
    (λ e.
    let f = eqb-true _ _ e in
    let a : first_line bs ≡ bs = take_all (line_end bs) bs (omega arith) in
    record { out = ap laid (sym a) ∙ laid_line (first_line bs) d.printed; few = omega (arith, d.few) })
    (λ e.
    let q = and_parts _ _ e in
    let n = is_line_parts 34 (next_line bs) q.1 in
    let o = goes_on_parts bs q.0 in
    let y = length-drop (line_end bs + 2) bs in
    record { out = laid_on bs d.printed q.0 (laid_line (next_line bs) n.printed); few = omega (arith, d.few, n.most, o.before) })
    (or_cases (eqb (line_end bs) (length bs)) (goes_on bs && is_line 34 (next_line bs)) p.1)

pub behind_laid : (bs : List ℕ) → is_behind bs ≡ true → Laid bs 74
behind_laid bs h =
    let p = and_parts (is_type (take 4 bs)) (is_rest (drop 4 bs)) h in
    let t = type_plain (take 4 bs) p.0 in
    let r = rest_laid (drop 4 bs) p.1 in
    let d = length-drop 4 bs in
    record { out = ap laid (sym (take-append-drop 4 bs)) ∙ laid_behind (take 4 bs) (drop 4 bs) t.printed r.out; few = omega (arith, r.few) }
