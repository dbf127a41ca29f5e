-- The laws of the formats made of lines.
use Rattle.std.proofs.Common.{◌≡◌, ℕ, ◌+◌, ◌*◌, ◌<◌, ◌≤◌, Bool, true, false, ◌&&◌, eqb, List, [], ◌∷◌, length, get_or, drop, codes, sym, refl, ap, ◌∙◌, ⊎_elim, arith}
use Rattle.std.specs.Str.{bytes_eq}
use Rattle.std.proofs.lemmas.Slice.Eq.{bytes_eq-Decides}
use Rattle.std.proofs.lemmas.List.{length-drop, length-take-le, drop_more}
use Rattle.std.proofs.lemmas.Bool.{cases_Bool, and_parts, or_cases, eqb-true, cond-true, cond-false}
use Rattle.content_lines.specs.declared.words.Words.{Words}
use Rattle.content_lines.specs.declared.words.Words.TheVariants.{Credit, Charges}
use Rattle.content_lines.specs.Formats.{as_it_stands, laid, tidy, Lawful}
use Rattle.content_lines.specs.Lines.{is_line, line_end, first_line, next_line, goes_on, lines, lines_of, lines_format}
use Rattle.content_lines.specs.Words.{words_of, one_of, words_format}
use Rattle.content_lines.specs.Customers.{account_and_name, is_customer, customer_format}
use Rattle.content_lines.proofs.Places.{place_within, at_byte, goes_on_parts}
use Rattle.content_lines.proofs.Shapes.{laid_on, tidy_from, is_line_parts, Laid, lines_laid}

-- a format whose contents are normal as they stand has only its shape to show
pub stands : {V : Type 0} (accepts : List ℕ → Bool) (value : List ℕ → V) → ((c : List ℕ) → accepts c ≡ true → tidy c ≡ true) → Lawful (as_it_stands accepts value)
stands accepts value shape =
    record {
      accepted = λ c h. h;
      same = λ c h. refl;
      one_normal = λ c d _ _ e. cc;
      one_value = λ c d _ _ e. let f : c ≡ d = cc in ap value f;
      fits = shape;
    }

pub lines_lawful : (count width : ℕ) → count * (width + 2) ≤ 222 → Lawful (lines_format count width)
lines_lawful count width m =
    stands (lines count width) (lines_of count width)
    (λ c h. let l = lines_laid count width c h in tidy_from c l.some (omega (arith, l.few)) l.out)

-- each word is tidy
word_tidy : (w c : List ℕ) → bytes_eq c w ≡ true → tidy w ≡ true → tidy c ≡ true
word_tidy w c h t = ap tidy ((bytes_eq-Decides c w).0 h) ∙ t

never : (c : List ℕ) → false ≡ true → tidy c ≡ true
never c h = absurd (grind arith)

word_tidy_by : (words : Words) (c : List ℕ) → one_of (words_of words) c ≡ true → tidy c ≡ true
word_tidy_by Credit c h = ⊎_elim (λ e. word_tidy (codes "CRED") c e refl) (never c) (or_cases _ _ h)
word_tidy_by Charges c h =
    ⊎_elim (λ e. word_tidy (codes "BEN") c e refl)
    (λ k.
    ⊎_elim (λ e. word_tidy (codes "OUR") c e refl)
    (λ l. ⊎_elim (λ e. word_tidy (codes "SHA") c e refl) (never c) (or_cases _ _ l))
    (or_cases _ _ k))
    (or_cases _ _ h)

pub words_lawful : (words : Words) → Lawful (words_format words)
words_lawful words = stands (one_of (words_of words)) (λ _. tt) (word_tidy_by words)

-- a customer with an account line
account_laid : (bs : List ℕ) → account_and_name bs ≡ true → Laid bs 186
account_laid bs h =
    let p = and_parts (is_line 34 (first_line bs)) (goes_on bs && lines 4 35 (next_line bs)) h in
    let q = and_parts (goes_on bs) (lines 4 35 (next_line bs)) p.1 in
    let l = is_line_parts 34 (first_line bs) p.0 in
    let g = goes_on_parts bs q.0 in
    let r = lines_laid 4 35 (next_line bs) q.1 in
    let t = length-take-le (line_end bs) bs (place_within 13 bs) in
    let d = length-drop (line_end bs + 2) bs in
    record { some = omega (arith, g.before); few = omega (arith, l.most, r.few, g.before); out = laid_on bs l.printed q.0 r.out }

customer_tidy : (c : List ℕ) → is_customer c ≡ true → tidy c ≡ true
customer_tidy c h =
    ⊎_elim
    (λ e.
    let k : account_and_name (drop 1 c) ≡ true = sym (cond-true _ _ _ e) ∙ h in
    let r = account_laid (drop 1 c) k in
    let s = eqb-true _ _ e in
    let n : 0 < length c = at_byte c 0 47 s (omega arith) in
    let d = length-drop 1 c in
    let x : c ≡ 47 ∷ drop 1 c = drop_more c 0 0 n ∙ ap (λ b. b ∷ drop 1 c) s in
    tidy_from c n (omega (arith, r.few)) (ap laid x ∙ laid_cons (drop 1 c) r.out))
    (λ e.
    let k : lines 4 35 c ≡ true = sym (cond-false _ _ _ e) ∙ h in
    let r = lines_laid 4 35 c k in
    tidy_from c r.some (omega (arith, r.few)) r.out)
    (cases_Bool (eqb (get_or c 0 0) 47))
  where
    laid_cons : (bs : List ℕ) → laid bs ≡ true → laid (47 ∷ bs) ≡ true
    laid_cons [] k = refl
    laid_cons (b ∷ bs) k = k

pub customer_lawful : Lawful customer_format
customer_lawful = stands is_customer (λ _. tt) customer_tidy
