-- Tidy contents, from what their lines are made of.
use Rattle.std.proofs.Common.{◌≡◌, ℕ, zero, suc, ◌+◌, ◌*◌, ◌≤◌, Bool, true, false, not, ◌&&◌, ◌||◌, eqb, List, [], ◌∷◌, ◌++◌, length, sym, refl, ap, ◌∙◌, subst, ⊎_elim, arith}
use Rattle.std.proofs.lemmas.List.{length-drop, length-take-le, take_all}
use Rattle.std.proofs.lemmas.Bool.{and_parts, and_from, or_cases, eqb-true, cond-true}
use Rattle.std.proofs.lemmas.Bool.Decides.{nat_tests}
use Rattle.mt_text.specs.Classes.{between, every, digit, capital, alphanumeric, printable}
use Rattle.content_lines.specs.Formats.{begins, laid, tidy}
use Rattle.content_lines.specs.Lines.{is_line, line_end, first_line, next_line, goes_on, lines}
use Rattle.content_lines.proofs.Places.{place_within, goes_on_parts}

-- ---- classes

pub every_weaker : (p q : ℕ → Bool) → ((b : ℕ) → p b ≡ true → q b ≡ true) → (bs : List ℕ) → every p bs ≡ true → every q bs ≡ true
every_weaker p q f [] h = refl
every_weaker p q f (b ∷ bs) h = let r = and_parts _ _ h in and_from _ _ (f b r.0) (every_weaker p q f bs r.1)

pub every_append : (p : ℕ → Bool) (xs ys : List ℕ) → every p xs ≡ true → every p ys ≡ true → every p (xs ++ ys) ≡ true
every_append p [] ys h k = k
every_append p (x ∷ xs) ys h k = let r = and_parts (p x) (every p xs) h in and_from (p x) (every p (xs ++ ys)) r.0 (every_append p xs ys r.1 k)

pub digits_printable : (bs : List ℕ) → every digit bs ≡ true → every printable bs ≡ true
digits_printable = every_weaker digit printable (λ b h. grind (arith, nat_tests))

pub capitals_printable : (bs : List ℕ) → every capital bs ≡ true → every printable bs ≡ true
capitals_printable = every_weaker capital printable (λ b h. grind (arith, nat_tests))

pub alphanumerics_printable : (bs : List ℕ) → every alphanumeric bs ≡ true → every printable bs ≡ true
alphanumerics_printable = every_weaker alphanumeric printable (λ b h. grind (arith, nat_tests))

-- ---- lines put together

pub laid_more : (b : ℕ) (bs : List ℕ) → printable b ≡ true → laid bs ≡ true → laid (b ∷ bs) ≡ true
laid_more b [] h k = h
laid_more b (c ∷ bs) h k = cond-true _ _ _ h ∙ k

pub laid_line : (bs : List ℕ) → every printable bs ≡ true → laid bs ≡ true
laid_line [] h = refl
laid_line (b ∷ bs) h = let r = and_parts _ _ h in laid_more b bs r.0 (laid_line bs r.1)

pub laid_lines : (line rest : List ℕ) → every printable line ≡ true → begins rest ≡ false → laid rest ≡ true → laid (line ++ 13 ∷ 10 ∷ rest) ≡ true
laid_lines [] rest h n k = (λ i. not (n i) && k i)
laid_lines (b ∷ line) rest h n k = let r = and_parts _ _ h in laid_more b (line ++ 13 ∷ 10 ∷ rest) r.0 (laid_lines line rest r.1 n k)

pub tidy_from : (bs : List ℕ) → 1 ≤ length bs → length bs ≤ 220 → laid bs ≡ true → tidy bs ≡ true
tidy_from bs l m h = grind (arith, nat_tests)

-- a content whose first line goes on
pub laid_on : (bs : List ℕ) → every printable (first_line bs) ≡ true → goes_on bs ≡ true → laid (next_line bs) ≡ true → laid bs ≡ true
laid_on bs h g k =
    let p = goes_on_parts bs g in
    let P : List ℕ → Type 0 = λ l. laid l ≡ true in
    subst P p.split (laid_lines (first_line bs) (next_line bs) h p.next k)

-- ---- lines

pub record IsLine (width : ℕ) (line : List ℕ) : Type 0 where
  pub some : 1 ≤ length line
  pub most : length line ≤ width
  pub printed : every printable line ≡ true

pub is_line_parts : (width : ℕ) (line : List ℕ) → is_line width line ≡ true → IsLine width line
is_line_parts width line h =
    let p = and_parts (between 1 width (length line)) (every printable line) h in
    let q = p.0 in
    record { some = grind (arith, nat_tests); most = grind (arith, nat_tests); printed = p.1 }

-- laid out, and not too long
pub record Laid (bs : List ℕ) (most : ℕ) : Type 0 where
  pub some : 1 ≤ length bs
  pub few : length bs + 2 ≤ most
  pub out : laid bs ≡ true

lines_laid_by : (n width : ℕ) (bs : List ℕ) → is_line width (first_line bs) ≡ true → (eqb (line_end bs) (length bs) || (goes_on bs && lines n width (next_line bs))) ≡ true → ((cs : List ℕ) → lines n width cs ≡ true → Laid cs (n * (width + 2))) → Laid bs (suc n * (width + 2))
lines_laid_by n width bs h k on =
    let p = is_line_parts width (first_line bs) h in
    let s : suc n * (width + 2) ≡ n * (width + 2) + (width + 2) = omega arith in
    let w = place_within 13 bs in
    let t = length-take-le (line_end bs) bs w in
    ⊎_elim
    (λ e.
    let f = eqb-true (line_end bs) (length bs) e in
    let a : first_line bs ≡ bs = take_all (line_end bs) bs (omega arith) in
    record { some = omega (arith, p.some); few = omega (arith, p.most); out = ap laid (sym a) ∙ laid_line (first_line bs) p.printed })
    (λ e.
    let q = and_parts (goes_on bs) (lines n width (next_line bs)) e in
    let g = goes_on_parts bs q.0 in
    let r = on (next_line bs) q.1 in
    let d = length-drop (line_end bs + 2) bs in
    record { some = omega (arith, g.before); few = omega (arith, p.most, r.few, g.before); out = laid_on bs p.printed q.0 r.out })
    (or_cases (eqb (line_end bs) (length bs)) (goes_on bs && lines n width (next_line bs)) k)

pub lines_laid : (n width : ℕ) (bs : List ℕ) → lines n width bs ≡ true → Laid bs (n * (width + 2))
lines_laid zero width bs h = absurd (grind arith)
lines_laid (suc n) width bs h =
    let p = and_parts (is_line width (first_line bs)) (eqb (line_end bs) (length bs) || (goes_on bs && lines n width (next_line bs))) h in
    lines_laid_by n width bs p.0 p.1 (lines_laid n width)

-- bytes of x in front of a content that is laid out
pub laid_behind : (front rest : List ℕ) → every printable front ≡ true → laid rest ≡ true → laid (front ++ rest) ≡ true
laid_behind [] rest h k = k
laid_behind (b ∷ front) rest h k = let r = and_parts _ _ h in laid_more b (front ++ rest) r.0 (laid_behind front rest r.1 k)
