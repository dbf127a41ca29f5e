-- Statement numbers: what is read, and their laws.
use Rattle.std.proofs.Common.{ltb, ◌≡◌, ℕ, ◌+◌, ◌-◌, ◌<◌, ◌≤◌, true, false, cond, ◌&&◌, eqb, List, [], ◌∷◌, ◌++◌, length, take, drop, is_some, Some, None, codes, decimal, sym, refl, ap, ◌∙◌, ⊎_elim, arith}
use Rattle.std.proofs.lemmas.Fmt.{decimal-digits_value}
use Rattle.std.proofs.lemmas.Slice.Eq.{bytes_eq-Decides}
use Rattle.std.proofs.lemmas.List.{take_at, drop_at, take-append-drop, length-append, nil_from_length}
use Rattle.std.proofs.lemmas.Slice.{between_is}
use Rattle.std.proofs.lemmas.Bool.{and_parts, or_cases, eqb-true, cond-true}
use Rattle.std.proofs.lemmas.Bool.Decides.{nat_tests}
use Rattle.mt_text.specs.Classes.{between, digit, every, printable}
use Rattle.contents.specs.Digits.{number, place}
use Rattle.contents.specs.Amounts.{without_leading}
use Rattle.contents.proofs.AmountParts.{own, digits_below}
use Rattle.contents.proofs.NormalAmounts.{Led, led}
use Rattle.content_lines.specs.Formats as formats
use Rattle.content_lines.specs.Formats.{tidy, Lawful}
use Rattle.content_lines.proofs.Chosen.{passed, told_some}
use Rattle.content_lines.proofs.Shapes.{every_append, digits_printable, laid_line, tidy_from}
use Rattle.content_money.specs.Numbers.{digits, page, is_number, is_page, statement_number_of, number_format}

-- ---- the parts of an accepted number

record Parts (bs : List ℕ) : Type 0 where
  some : 1 ≤ length (digits bs)
  most : length (digits bs) ≤ 5
  ds : every digit (digits bs) ≡ true
  above : 0 < number (digits bs)
  rest : is_page (page bs) ≡ true

parts : (bs : List ℕ) → is_some (statement_number_of bs) ≡ true → Parts bs
parts bs h =
    let t = told_some (statement_number_of bs) h in
    let p = passed (is_number (digits bs) && is_page (page bs)) (Some (number (digits bs))) t.0 t.1 in
    let q = and_parts (is_number (digits bs)) (is_page (page bs)) p.0 in
    let r = and_parts (between 1 5 (length (digits bs))) (every digit (digits bs) && ltb 0 (number (digits bs))) q.0 in
    let s = and_parts (every digit (digits bs)) (ltb 0 (number (digits bs))) r.1 in
    let r0 = r.0 in
    let s1 = s.1 in
    record { some = grind (arith, nat_tests); most = grind (arith, nat_tests); ds = s.0; above = grind (arith, nat_tests); rest = q.1 }

-- a number put together from digits and its page
place_behind : (ds : List ℕ) → every digit ds ≡ true → place 47 (ds ++ codes "/1") ≡ length ds
place_behind [] h = refl
place_behind (d ∷ ds) h =
    let p = and_parts (digit d) (every digit ds) h in
    let q = p.0 in
    let n : eqb d 47 ≡ false = grind (arith, nat_tests) in
    (λ i. cond (n i) 0 (place_behind ds p.1 i + 1)) ∙ omega arith

module _ (ds : List ℕ) (h : every digit ds ≡ true) where
  digits_at : digits (ds ++ codes "/1") ≡ ds
  digits_at = ap (λ n. take n (ds ++ codes "/1")) (place_behind ds h) ∙ take_at ds (codes "/1") (length ds) refl

  page_at : page (ds ++ codes "/1") ≡ codes "/1"
  page_at = ap (λ n. drop n (ds ++ codes "/1")) (place_behind ds h) ∙ drop_at ds (codes "/1") (length ds) refl

-- ---- the laws

zeros_off : (bs : List ℕ) → is_some (statement_number_of bs) ≡ true → Led (digits bs) (without_leading (digits bs))
zeros_off bs h = let p = parts bs h in led (digits bs) p.ds p.some

-- the digits without zeros in front are told by the number
told_by : (bs : List ℕ) → is_some (statement_number_of bs) ≡ true → decimal (number (digits bs)) ≡ without_leading (digits bs)
told_by bs h =
    let l = zeros_off bs h in
    let p = parts bs h in
    let b = digits_below (digits bs) 5 p.ds p.most in
    ap decimal (sym l.same) ∙ decimal-digits_value own (without_leading (digits bs)) l.digits (omega (arith, l.some)) l.first (omega (arith, l.same))

again : (bs : List ℕ) → is_some (statement_number_of bs) ≡ true → statement_number_of (number_format.normal bs) ≡ Some (number (digits bs))
again bs h =
    let l = zeros_off bs h in
    let p = parts bs h in
    let d = digits_at (without_leading (digits bs)) l.digits in
    let g = page_at (without_leading (digits bs)) l.digits in
    let w = without_leading (digits bs) in
    let n : is_number w ≡ true = (let a = p.above in let s = l.same in let m = p.most in let f = l.fewer in let o = l.some in let e = l.digits in grind (arith, nat_tests)) in
    (λ i. cond (is_number (d i) && is_page (g i)) (Some (number (d i))) None)
    ∙ (λ i. cond (n i && true) (Some (l.same i)) None)

accepted_told : (bs : List ℕ) → is_some (statement_number_of bs) ≡ true → statement_number_of bs ≡ Some (number (digits bs))
accepted_told bs h =
    let t = told_some (statement_number_of bs) h in
    let p = passed (is_number (digits bs) && is_page (page bs)) (Some (number (digits bs))) t.0 t.1 in
    cond-true (is_number (digits bs) && is_page (page bs)) (Some (number (digits bs))) None p.0

page_bytes : (bs : List ℕ) → is_page bs ≡ true → (every printable bs ≡ true) × (length bs ≤ 2)
page_bytes bs h =
    ⊎_elim
    (λ e. let n = nil_from_length bs (eqb-true _ _ e) in (ap (every printable) n, omega (arith, ap length n)))
    (λ e. let n = (bytes_eq-Decides bs (codes "/1")).0 e in (ap (every printable) n, omega (arith, ap length n)))
    (or_cases _ _ h)

number_tidy : (bs : List ℕ) → is_some (statement_number_of bs) ≡ true → tidy bs ≡ true
number_tidy bs h =
    let p = parts bs h in
    let g = page_bytes (page bs) p.rest in
    let s : digits bs ++ page bs ≡ bs = take-append-drop (place 47 bs) bs in
    let n = ap length s in
    let a = length-append (digits bs) (page bs) in
    tidy_from bs (omega (arith, p.some)) (omega (arith, p.most, g.1))
    (laid_line bs (ap (every printable) (sym s) ∙ every_append printable (digits bs) (page bs) (digits_printable (digits bs) p.ds) g.0))

number_said : (m n : ℕ) → formats.number m ≡ formats.number n → m ≡ n
number_said m n e = cc

pub number_lawful : Lawful number_format
number_lawful =
    record {
      accepted = λ c h. ap is_some (again c h);
      same = λ c h.
          ap formats.number (ap number (digits_at (without_leading (digits c)) (zeros_off c h).digits) ∙ (zeros_off c h).same);
      one_normal = λ c d h k e.
          ap (λ l. l ++ codes "/1") (sym (told_by c h) ∙ ap decimal (number_said _ _ e) ∙ told_by d k);
      one_value = λ c d h k e. accepted_told c h ∙ ap Some (number_said _ _ e) ∙ sym (accepted_told d k);
      fits = number_tidy;
    }

-- ---- writing

-- the digits without zeros in front, as the code cuts them
pub zeros_cut : (bs : List ℕ) (k z : ℕ) → k ≡ place 47 bs → drop z (take k bs) ≡ without_leading (take k bs) → take (k - z) (drop z bs) ≡ without_leading (digits bs)
zeros_cut bs k z e r = between_is bs z k ∙ r ∙ ap (λ n. without_leading (take n bs)) e
