-- Where a byte stands, and a content cut into its lines.
use Rattle.std.proofs.Common.{◌≡◌, ℕ, zero, suc, ◌+◌, ◌-◌, ◌<◌, ◌≤◌, Bool, true, false, cond, not, ◌&&◌, ◌||◌, eqb, List, [], ◌∷◌, ◌++◌, length, get_or, take, drop, Some, None, Option, Bor, sym, refl, ap, ◌∙◌, ⊎_elim, add-one, arith}
use Rattle.std.specs.Option.{MatchOption, option_map}
use Rattle.std.proofs.lemmas.List.{get_or_past, drop_more}
use Rattle.std.specs.Str.{bytes_eq}
use Rattle.std.proofs.lemmas.Bool.{cases_Bool, cases_lt, and_parts, eqb-true, cond-true, cond-false}
use Rattle.std.proofs.lemmas.Bool.Decides.{nat_tests}
use Rattle.contents.specs.Digits.{place}
use Rattle.contents.proofs.AmountParts.{place_splits}
use Rattle.content_lines.specs.Formats.{begins}
use Rattle.content_lines.specs.Lines.{is_line, line_end, first_line, next_line, next_of, goes_on, lines}

pub place_within : (b : ℕ) (bs : List ℕ) → place b bs ≤ length bs
place_within b [] = omega arith
place_within b (c ∷ cs) = let h = place_within b cs in grind (arith, nat_tests)

-- a byte that stands in the first part stands there in the whole, and else it is looked for behind it
pub place_in : (b : ℕ) (xs ys : List ℕ) → place b xs < length xs → place b (xs ++ ys) ≡ place b xs
place_in b [] ys h = absurd (omega arith)
place_in b (x ∷ xs) ys h =
    ⊎_elim
    (λ e. ap (λ t. cond t 0 (place b (xs ++ ys) + 1)) e ∙ sym (ap (λ t. cond t 0 (place b xs + 1)) e))
    (λ e. ap (λ n. cond (eqb x b) 0 (n + 1)) (place_in b xs ys (grind (arith, nat_tests))))
    (cases_Bool (eqb x b))

pub place_past : (b : ℕ) (xs ys : List ℕ) → place b xs ≡ length xs → place b (xs ++ ys) ≡ length xs + place b ys
place_past b [] ys h = omega arith
place_past b (x ∷ xs) ys h =
    let n : eqb x b ≡ false = grind (arith, nat_tests) in
    let ih : place b (xs ++ ys) ≡ length xs + place b ys = place_past b xs ys (grind (arith, nat_tests)) in
    ap (λ t. cond t 0 (place b (xs ++ ys) + 1)) n ∙ omega arith

-- where a byte is told that is not 0, the bytes have not ended
pub at_byte : (bs : List ℕ) (i b : ℕ) → get_or bs i 0 ≡ b → 0 < b → i < length bs
at_byte bs i b e h = ⊎_elim (λ l. l) (λ l. absurd (let p = get_or_past bs i 0 l in omega arith)) (cases_lt i (length bs))

-- what a line's end is followed by
pub record GoesOn (bs : List ℕ) : Type 0 where
  pub before : line_end bs + 2 ≤ length bs
  pub next : begins (next_line bs) ≡ false
  pub split : first_line bs ++ 13 ∷ 10 ∷ next_line bs ≡ bs

pub goes_on_parts : (bs : List ℕ) → goes_on bs ≡ true → GoesOn bs
goes_on_parts bs h =
    let p = and_parts (eqb (get_or bs (line_end bs + 1) 0) 10) (not (begins (next_line bs))) h in
    let e = eqb-true (get_or bs (line_end bs + 1) 0) 10 p.0 in
    let l : line_end bs + 1 < length bs = at_byte bs (line_end bs + 1) 10 e (omega arith) in
    let two : line_end bs + 1 + 1 ≡ line_end bs + 2 = omega arith in
    record {
      before = omega arith;
      next = let q = p.1 in grind (arith, nat_tests);
      split =
          (λ i. first_line bs ++ 13 ∷ (sym e i) ∷ drop (sym two i) bs)
          ∙ ap (λ t. first_line bs ++ 13 ∷ t) (sym (drop_more bs (line_end bs + 1) 0 l))
          ∙ place_splits 13 bs (omega arith);
    }

-- one line of a content of lines
pub lines_more : (n width : ℕ) (bs : List ℕ) → 0 < n → lines n width bs ≡ (is_line width (first_line bs) && (eqb (line_end bs) (length bs) || (goes_on bs && lines (n - 1) width (next_line bs))))
lines_more zero width bs h = absurd (omega arith)
lines_more (suc n) width bs h =
    let e : n ≡ suc n - 1 = omega arith in
    ap (λ k. is_line width (first_line bs) && (eqb (line_end bs) (length bs) || (goes_on bs && lines k width (next_line bs)))) e

-- what `next_line` tells
pub next_some : (bs rest : List ℕ) → Some rest ≡ next_of bs → (goes_on bs ≡ true) × (rest ≡ next_line bs)
next_some bs rest h = by (goes_on bs) h
  where
    by : (b : Bool) → Some rest ≡ cond b (Some (next_line bs)) None → (b ≡ true) × (rest ≡ next_line bs)
    by true e = (refl, cc)
    by false e = absurd (grind arith)

pub next_none : (bs : List ℕ) → None ≡ next_of bs → goes_on bs ≡ false
next_none bs h = by (goes_on bs) h
  where
    by : (b : Bool) → None ≡ cond b (Some (next_line bs)) None → b ≡ false
    by true e = absurd (grind arith)
    by false e = refl

-- a test of what `next_line` tells, asked by `is_some_and`
pub next_passes : {Q : Bor (List ℕ) → Type 0} (bs : List ℕ) (test : List ℕ → Bool) (o : Option (Bor (List ℕ))) (r : Bool) → option_map (λ x. x.now) o ≡ next_of bs → MatchOption o (r ≡ false) Q → ((x : Bor (List ℕ)) → Q x → r ≡ test x.now) → r ≡ (goes_on bs && test (next_line bs))
next_passes bs test None r e m q = let n = next_none bs e in grind (arith, nat_tests)
next_passes bs test (Some x) r e m q =
    let n = next_some bs x.now e in
    let n0 = n.0 in
    let t = q x m ∙ ap test n.1 in
    grind (arith, nat_tests)

-- CR LF stands at a line's end where LF stands behind it
pub crlf : (bs : List ℕ) → bytes_eq (take 2 (drop (line_end bs) bs)) (13 ∷ 10 ∷ []) ≡ eqb (get_or bs (line_end bs + 1) 0) 10
crlf [] = refl
crlf (b ∷ bs) =
    ⊎_elim
    (λ e.
    let z : line_end (b ∷ bs) ≡ 0 = cond-true _ _ _ e in
    ap (λ n. bytes_eq (take 2 (drop n (b ∷ bs))) (13 ∷ 10 ∷ [])) z ∙ here bs e ∙ sym (ap (λ n. eqb (get_or (b ∷ bs) (n + 1) 0) 10) z))
    (λ e.
    let z : line_end (b ∷ bs) ≡ suc (line_end bs) = cond-false _ _ _ e ∙ add-one (line_end bs) in
    let y : line_end (b ∷ bs) + 1 ≡ suc (line_end bs + 1) = omega arith in
    ap (λ n. bytes_eq (take 2 (drop n (b ∷ bs))) (13 ∷ 10 ∷ [])) z ∙ crlf bs ∙ sym (ap (λ n. eqb (get_or (b ∷ bs) n 0) 10) y))
    (cases_Bool (eqb b 13))
  where
    here : (cs : List ℕ) → eqb b 13 ≡ true → bytes_eq (take 2 (b ∷ cs)) (13 ∷ 10 ∷ []) ≡ eqb (get_or (b ∷ cs) 1 0) 10
    here [] e = grind (arith, nat_tests)
    here (c ∷ cs) e = grind (arith, nat_tests)

-- the second line, as CR LF and the byte behind it tell it
pub next_by : (bs : List ℕ) → next_of bs ≡ cond (bytes_eq (take 2 (drop (line_end bs) bs)) (13 ∷ 10 ∷ []) && not (begins (next_line bs))) (Some (next_line bs)) None
next_by bs = ap (λ b. cond (b && not (begins (next_line bs))) (Some (next_line bs)) None) (sym (crlf bs))
