-- What stands before the amount of a statement entry tells the same whatever follows it.
use Rattle.std.proofs.Common.{◌≡◌, ℕ, ◌+◌, ◌<◌, ◌≤◌, Bool, true, false, cond, ◌&&◌, eqb, List, [], ◌∷◌, ◌++◌, length, get_or, take, drop, is_some, Some, None, sym, refl, ap, ◌∙◌, ⊎_elim, arith}
use Rattle.std.proofs.lemmas.List.{take-append-le, drop-append-le, get_or_append_left, length-drop, drop_more, drop_all, drop-drop, take-append-drop, take-take, drop-take}
use Rattle.std.proofs.lemmas.Bool.{cases_Bool, cases_lt, and_parts, eqb-true, cond-true, cond-false}
use Rattle.std.proofs.lemmas.Bool.Decides.{nat_tests}
use Rattle.mt_text.specs.Classes.{digit, capital, every, printable}
use Rattle.contents.specs.Dates.{date_of, month_day_of}
use Rattle.content_lines.proofs.Chosen.{passed, told_some, date_digits, month_day_digits}
use Rattle.content_lines.proofs.Shapes.{every_append, digits_printable}
use Rattle.content_money.specs.declared.signs.Sign.{Sign}
use Rattle.content_money.specs.declared.signs.Sign.TheVariants.{Plus, Minus}
use Rattle.content_entry.specs.Entries.{mark_at, is_month_day, sign_of, mark_end, amount_at, front_of, front}

-- the first byte of what follows
first_behind : (f r : List ℕ) → get_or (f ++ r) (length f) 0 ≡ get_or r 0 0
first_behind [] r = refl
first_behind (b ∷ f) r = first_behind f r

no_capital : (b : ℕ) → digit b ≡ true → capital b ≡ false
no_capital b h = grind (arith, nat_tests)

-- bounds of the places
record Places (bs : List ℕ) : Type 0 where
  mark : 6 ≤ mark_at bs
  stop : mark_at bs + 1 ≤ mark_end bs
  start : mark_end bs ≤ amount_at bs
  day : digit (get_or bs 6 0) ≡ true → 10 ≤ mark_at bs
  two : eqb (get_or bs (mark_at bs) 0) 82 ≡ true → mark_at bs + 2 ≤ mark_end bs
  funds : capital (get_or bs (mark_end bs) 0) ≡ true → mark_end bs + 1 ≤ amount_at bs
  few : amount_at bs ≤ 13

places : (bs : List ℕ) → Places bs
places bs = by (digit (get_or bs 6 0)) refl (eqb (get_or bs (mark_at bs) 0) 82) refl (capital (get_or bs (mark_end bs) 0)) refl
  where
    by : (d : Bool) → digit (get_or bs 6 0) ≡ d → (m : Bool) → eqb (get_or bs (mark_at bs) 0) 82 ≡ m → (c : Bool) → capital (get_or bs (mark_end bs) 0) ≡ c → Places bs
    by d e m f c g =
        let ma : mark_at bs ≡ cond d 10 6 = ap (λ t. cond t 10 6) e in
        let me : mark_end bs ≡ mark_at bs + cond m 2 1 = ap (λ t. mark_at bs + cond t 2 1) f in
        let aa : amount_at bs ≡ mark_end bs + cond c 1 0 = ap (λ t. mark_end bs + cond t 1 0) g in
        record {
          mark = grind (arith, nat_tests);
          stop = grind (arith, nat_tests);
          start = grind (arith, nat_tests);
          day = λ h. grind (arith, nat_tests);
          two = λ h. grind (arith, nat_tests);
          funds = λ h. grind (arith, nat_tests);
          few = grind (arith, nat_tests);
        }

sign_same : (b c d : ℕ) → (eqb b 82 ≡ true → c ≡ d) → sign_of b c ≡ sign_of b d
sign_same b c d f =
    ⊎_elim
    (λ e. ap (sign_of b) (f e))
    (λ e. ap (λ t. cond (eqb b 67) (Some Plus) (cond (eqb b 68) (Some Minus) (cond t (cond (eqb c 67) (Some Minus) (cond (eqb c 68) (Some Plus) None)) None))) e ∙ sym (ap (λ t. cond (eqb b 67) (Some Plus) (cond (eqb b 68) (Some Minus) (cond t (cond (eqb d 67) (Some Minus) (cond (eqb d 68) (Some Plus) None)) None))) e))
    (cases_Bool (eqb b 82))

-- with another amount behind it, the amount begins at the same place and the sign is the same
module _ (f r s : List ℕ) (hr : digit (get_or r 0 0) ≡ true) (hs : digit (get_or s 0 0) ≡ true) (at : amount_at (f ++ r) ≡ length f) where
  agree : (i : ℕ) → i < length f → get_or (f ++ s) i 0 ≡ get_or (f ++ r) i 0
  agree i h = get_or_append_left f s 0 i h ∙ sym (get_or_append_left f r 0 i h)

  here : Places (f ++ r)
  here = places (f ++ r)

  long : 7 ≤ length f
  long = omega (arith, here.mark, here.stop, here.start)

  same_mark : mark_at (f ++ s) ≡ mark_at (f ++ r)
  same_mark = ap (λ b. cond (digit b) 10 6) (agree 6 (omega (arith, long)))

  same_first : get_or (f ++ s) (mark_at (f ++ s)) 0 ≡ get_or (f ++ r) (mark_at (f ++ r)) 0
  same_first = ap (λ n. get_or (f ++ s) n 0) same_mark ∙ agree (mark_at (f ++ r)) (omega (arith, here.stop, here.start))

  same_stop : mark_end (f ++ s) ≡ mark_end (f ++ r)
  same_stop = (λ i. same_mark i + cond (eqb (same_first i) 82) 2 1)

  same_funds : capital (get_or (f ++ s) (mark_end (f ++ s)) 0) ≡ capital (get_or (f ++ r) (mark_end (f ++ r)) 0)
  same_funds =
      ap (λ n. capital (get_or (f ++ s) n 0)) same_stop
      ∙ ⊎_elim
      (λ c. ap capital (agree (mark_end (f ++ r)) (omega (arith, here.funds c))))
      (λ c.
      let e : mark_end (f ++ r) ≡ length f = (let z : amount_at (f ++ r) ≡ mark_end (f ++ r) + 0 = ap (λ t. mark_end (f ++ r) + cond t 1 0) c in omega arith) in
      ap (λ n. capital (get_or (f ++ s) n 0)) e ∙ ap capital (first_behind f s) ∙ no_capital (get_or s 0 0) hs ∙ sym c)
      (cases_Bool (capital (get_or (f ++ r) (mark_end (f ++ r)) 0)))

  pub same_start : amount_at (f ++ s) ≡ length f
  same_start = (λ i. same_stop i + cond (same_funds i) 1 0) ∙ at

  same_day : is_month_day (f ++ s) ≡ is_month_day (f ++ r)
  same_day =
      let six = agree 6 (omega (arith, long)) in
      ⊎_elim
      (λ d.
      let ten : 10 ≤ length f = omega (arith, here.day d, here.stop, here.start) in
      let part : (t : List ℕ) → take 4 (drop 6 (f ++ t)) ≡ take 4 (drop 6 f) =
      (λ t. ap (take 4) (drop-append-le 6 f t (omega arith)) ∙ take-append-le 4 (drop 6 f) t (omega (arith, length-drop 6 f))) in
      (λ i. cond (digit (six i)) (is_some (month_day_of ((part s ∙ sym (part r)) i))) true))
      (λ d. ap (λ b. cond (digit b) (is_some (month_day_of (take 4 (drop 6 (f ++ s))))) true) six ∙ cond-false _ _ _ d ∙ sym (cond-false _ _ _ d))
      (cases_Bool (digit (get_or (f ++ r) 6 0)))

  pub same_front : front_of (f ++ s) ≡ front_of (f ++ r)
  same_front =
      let date : take 6 (f ++ s) ≡ take 6 (f ++ r) = take-append-le 6 f s (omega (arith, long)) ∙ sym (take-append-le 6 f r (omega (arith, long))) in
      let sign : sign_of (get_or (f ++ s) (mark_at (f ++ s)) 0) (get_or (f ++ s) (mark_at (f ++ s) + 1) 0) ≡ sign_of (get_or (f ++ r) (mark_at (f ++ r)) 0) (get_or (f ++ r) (mark_at (f ++ r) + 1) 0) =
      (λ i. sign_of (same_first i) (get_or (f ++ s) (same_mark i + 1) 0))
      ∙ sign_same (get_or (f ++ r) (mark_at (f ++ r)) 0) (get_or (f ++ s) (mark_at (f ++ r) + 1) 0) (get_or (f ++ r) (mark_at (f ++ r) + 1) 0)
      (λ e. agree (mark_at (f ++ r) + 1) (omega (arith, here.two e, here.start))) in
      (λ i. cond (is_some (date_of (date i)) && same_day i) (sign i) None)

-- ---- its bytes

take_add : (bs : List ℕ) (a b : ℕ) → take (a + b) bs ≡ take a bs ++ take b (drop a bs)
take_add bs a b =
    sym (take-append-drop a (take (a + b) bs))
    ∙ (λ i. take-take a (a + b) bs (omega arith) i ++ drop-take a b bs i)

every_take : (bs : List ℕ) (a b : ℕ) → every printable (take a bs) ≡ true → every printable (take b (drop a bs)) ≡ true → every printable (take (a + b) bs) ≡ true
every_take bs a b h k = ap (every printable) (take_add bs a b) ∙ every_append printable (take a bs) (take b (drop a bs)) h k

take_one : (bs : List ℕ) (n : ℕ) → printable (get_or bs n 0) ≡ true → every printable (take 1 (drop n bs)) ≡ true
take_one bs n h =
    ⊎_elim
    (λ l. ap (λ t. every printable (take 1 t)) (drop_more bs n 0 l) ∙ (λ i. h i && true))
    (λ l. ap (λ t. every printable (take 1 t)) (drop_all n bs l))
    (cases_lt n (length bs))

sign_printable : (b c : ℕ) (s : Sign) → sign_of b c ≡ Some s → (printable b ≡ true) × (eqb b 82 ≡ true → printable c ≡ true)
sign_printable b c s h =
    ⊎_elim
    (λ e. (ap printable (eqb-true _ _ e), λ f. absurd (grind (arith, nat_tests))))
    (λ e.
    ⊎_elim
    (λ f. (ap printable (eqb-true _ _ f), λ g. absurd (grind (arith, nat_tests))))
    (λ f.
    let k : cond (eqb b 82) (cond (eqb c 67) (Some Minus) (cond (eqb c 68) (Some Plus) None)) None ≡ Some s = sym (cond-false _ _ _ e ∙ cond-false _ _ _ f) ∙ h in
    let p = passed _ _ _ k in (
      ap printable (eqb-true _ _ p.0),
      λ _.
          ⊎_elim
          (λ g. ap printable (eqb-true _ _ g))
          (λ g. ap printable (eqb-true _ _ (passed (eqb c 68) (Some Plus) s (sym (cond-false (eqb c 67) (Some Minus) (cond (eqb c 68) (Some Plus) None) g) ∙ p.1)).0))
          (cases_Bool (eqb c 67)),
    ))
    (cases_Bool (eqb b 68)))
    (cases_Bool (eqb b 67))

-- date, month and day
days_printable : (bs : List ℕ) → is_some (date_of (take 6 bs)) ≡ true → is_month_day bs ≡ true → every printable (take (mark_at bs) bs) ≡ true
days_printable bs h k =
    let d = told_some (date_of (take 6 bs)) h in
    let six = digits_printable (take 6 bs) (date_digits (take 6 bs) d.0 d.1).digits in
    ⊎_elim
    (λ e.
    let z : mark_at bs ≡ 10 = cond-true _ _ _ e in
    let j : is_some (month_day_of (take 4 (drop 6 bs))) ≡ true = sym (cond-true _ _ _ e) ∙ k in
    let m = told_some _ j in
    ap (λ n. every printable (take n bs)) z ∙ every_take bs 6 4 six (digits_printable (take 4 (drop 6 bs)) (month_day_digits (take 4 (drop 6 bs)) m.0 m.1).digits))
    (λ e. let z : mark_at bs ≡ 6 = cond-false _ _ _ e in ap (λ n. every printable (take n bs)) z ∙ six)
    (cases_Bool (digit (get_or bs 6 0)))

-- one byte or two
some_printable : (bs : List ℕ) (n : ℕ) (t : Bool) → printable (get_or bs n 0) ≡ true → (t ≡ true → printable (get_or bs (n + 1) 0) ≡ true) → every printable (take (cond t 2 1) (drop n bs)) ≡ true
some_printable bs n true h k = every_take (drop n bs) 1 1 (take_one bs n h) (ap (λ l. every printable (take 1 l)) (drop-drop 1 n bs) ∙ take_one bs (n + 1) (k refl))
some_printable bs n false h k = take_one bs n h

funds_printable : (bs : List ℕ) (n : ℕ) (t : Bool) → (t ≡ true → printable (get_or bs n 0) ≡ true) → every printable (take (cond t 1 0) (drop n bs)) ≡ true
funds_printable bs n true k = take_one bs n (k refl)
funds_printable bs n false k = refl

capital_printable : (b : ℕ) → capital b ≡ true → printable b ≡ true
capital_printable b h = grind (arith, nat_tests)

pub front_printable : (bs : List ℕ) (s : Sign) → front_of bs ≡ Some s → (every printable (front bs) ≡ true) × (amount_at bs ≤ 13)
front_printable bs s h =
    let p = passed _ _ _ h in
    let q = and_parts (is_some (date_of (take 6 bs))) (is_month_day bs) p.0 in
    let m = sign_printable (get_or bs (mark_at bs) 0) (get_or bs (mark_at bs + 1) 0) s p.1 in
    let a = days_printable bs q.0 q.1 in
    let b = every_take bs (mark_at bs) (cond (eqb (get_or bs (mark_at bs) 0) 82) 2 1) a (some_printable bs (mark_at bs) (eqb (get_or bs (mark_at bs) 0) 82) m.0 m.1) in
    let c = every_take bs (mark_end bs) (cond (capital (get_or bs (mark_end bs) 0)) 1 0) b (funds_printable bs (mark_end bs) (capital (get_or bs (mark_end bs) 0)) (capital_printable (get_or bs (mark_end bs) 0))) in
    (c, (places bs).few)
