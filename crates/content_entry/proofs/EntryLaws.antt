-- The laws of statement entries.
use Rattle.std.proofs.Common.{◌≡◌, ℕ, suc, ◌+◌, ◌≤◌, Bool, true, false, cond, ◌&&◌, ◌||◌, eqb, ltb, List, [], ◌∷◌, ◌++◌, length, get_or, take, drop, is_some, Some, None, sym, refl, ap, ◌∙◌, ⊎_elim, add-one, arith}
use Rattle.std.proofs.lemmas.List.{take-append-drop, take_at, drop_at, get_or_append_left, get_or-take, length-append, length-drop, length-take-le}
use Rattle.std.proofs.lemmas.Bool.{cases_Bool, and_parts, and_from, cond-true, cond-false}
use Rattle.mt_text.specs.Classes.{digit, every}
use Rattle.contents.specs.Digits.{and_then}
use Rattle.contents.specs.Amounts.{whole, decimals, is_amount, hundredths, normal}
use Rattle.contents.proofs.AmountParts.{parts}
use Rattle.contents.proofs.NormalAmounts.{normal_is_amount, normal_worth, same_worth}
use Rattle.content_lines.specs.Formats.{entry, laid, tidy, Lawful}
use Rattle.content_lines.proofs.Chosen.{after, passed, told_some}
use Rattle.content_lines.proofs.Shapes.{every_weaker, every_append, laid_behind, tidy_from}
use Rattle.content_money.specs.declared.signs.Sign.{Sign}
use Rattle.content_money.specs.Signs.{signed, signed_of}
use Rattle.content_money.proofs.Dated.{amount_printable}
use Rattle.content_entry.specs.Behind.{is_behind}
use Rattle.content_entry.specs.Entries.{amount_at, front_of, run, front, rest, amount, behind, is_above, entry_of, entry_format}
use Rattle.content_entry.proofs.Steps.{run_within}
use Rattle.content_entry.proofs.FrontLaws.{same_start, same_front, front_printable}
use Rattle.content_entry.proofs.BehindLaws.{behind_laid}

-- once the sign is read, amount and what stands behind it decide
pub entry_read : (bs : List ℕ) (sign : Sign) → Some sign ≡ front_of bs → entry_of bs ≡ cond (is_above (amount bs) && is_behind (behind bs)) (signed_of sign (amount bs)) None
entry_read bs sign e = ap (λ o. and_then o (λ sign. cond (is_above (amount bs) && is_behind (behind bs)) (signed_of sign (amount bs)) None)) (sym e)

-- ---- the run of an amount

abbrev part : ℕ → Bool
part b = digit b || eqb b 44

run_stops : (bs : List ℕ) → part (get_or (drop (run bs) bs) 0 0) ≡ false
run_stops [] = refl
run_stops (b ∷ bs) =
    ⊎_elim
    (λ e.
    let z : run (b ∷ bs) ≡ suc (run bs) = cond-true _ _ _ e ∙ add-one (run bs) in
    ap (λ n. part (get_or (drop n (b ∷ bs)) 0 0)) z ∙ run_stops bs)
    (λ e.
    let z : run (b ∷ bs) ≡ 0 = cond-false _ _ _ e in
    ap (λ n. part (get_or (drop n (b ∷ bs)) 0 0)) z ∙ e)
    (cases_Bool (part b))

run_behind : (xs ys : List ℕ) → every part xs ≡ true → part (get_or ys 0 0) ≡ false → run (xs ++ ys) ≡ length xs
run_behind [] [] h k = refl
run_behind [] (y ∷ ys) h k = cond-false _ _ _ k
run_behind (x ∷ xs) ys h k =
    let p = and_parts _ _ h in
    cond-true _ _ _ p.0 ∙ ap (λ n. n + 1) (run_behind xs ys p.1 k) ∙ add-one (length xs)

digits_part : (bs : List ℕ) → every digit bs ≡ true → every part bs ≡ true
digits_part = every_weaker digit part (λ b h. ap (λ t. t || eqb b 44) h)

amount_run : (a : List ℕ) → is_amount a ≡ true → every part a ≡ true
amount_run a h =
    let p = parts a h in
    ap (every part) (sym p.split) ∙ every_append part (whole a) (44 ∷ decimals a) (digits_part (whole a) p.front) (digits_part (decimals a) p.back)

-- an amount begins with a digit
first_of_digits : (ds more : List ℕ) → every digit ds ≡ true → 1 ≤ length ds → digit (get_or (ds ++ more) 0 0) ≡ true
first_of_digits [] more h l = absurd (omega arith)
first_of_digits (d ∷ ds) more h l = (and_parts _ _ h).0

record First (a : List ℕ) : Type 0 where
  some : 1 ≤ length a
  most : length a ≤ 15
  first : digit (get_or a 0 0) ≡ true

first_digit : (a : List ℕ) → is_amount a ≡ true → First a
first_digit a h =
    let p = parts a h in
    record {
      some = omega (arith, p.behind);
      most = p.short;
      first = ap (λ l. digit (get_or l 0 0)) (sym p.split) ∙ first_of_digits (whole a) (44 ∷ decimals a) p.front (omega (arith, p.at, p.some));
    }

-- ---- what an accepted entry is

pub record Entry (bs : List ℕ) : Type 0 where
  pub sign : Sign
  pub signs : front_of bs ≡ Some sign
  pub is : is_amount (amount bs) ≡ true
  pub above : ltb 0 (hundredths (amount bs)) ≡ true
  pub ends : is_behind (behind bs) ≡ true

pub entry_is : (bs : List ℕ) → is_some (entry_of bs) ≡ true → Entry bs
entry_is bs h =
    let t = told_some _ h in
    let s = after _ _ _ t.1 in
    let p = passed _ _ _ s.2 in
    let q = and_parts _ _ p.0 in
    let r = and_parts _ _ q.0 in
    record { sign = s.0; signs = s.1; is = r.0; above = r.1; ends = q.1 }

entry_told : (bs : List ℕ) (e : Entry bs) → entry_of bs ≡ Some (signed e.sign (hundredths (amount bs)))
entry_told bs e =
    entry_read bs e.sign (sym e.signs)
    ∙ cond-true _ _ _ (and_from _ _ (and_from _ _ e.is e.above) e.ends)
    ∙ ap (λ o. and_then o (λ h. Some (signed e.sign h))) (cond-true _ _ _ e.is)

-- its three parts
pub record Split (bs : List ℕ) : Type 0 where
  pub within : amount_at bs ≤ length bs
  pub start : length (front bs) ≡ amount_at bs
  pub whole : front bs ++ rest bs ≡ bs
  pub halves : amount bs ++ behind bs ≡ rest bs
  pub at : amount_at (front bs ++ rest bs) ≡ length (front bs)
  pub first : digit (get_or (rest bs) 0 0) ≡ true

pub split : (bs : List ℕ) → Entry bs → Split bs
split bs e =
    let f = first_digit (amount bs) e.is in
    let r : run (rest bs) ≤ length (rest bs) = run_within (rest bs) in
    let l = length-take-le (run (rest bs)) (rest bs) r in
    let d = length-drop (amount_at bs) bs in
    let w : amount_at bs ≤ length bs = omega (arith, f.some) in
    let s = length-take-le (amount_at bs) bs w in
    let a = take-append-drop (amount_at bs) bs in
    record {
      within = w;
      start = s;
      whole = a;
      halves = take-append-drop (run (rest bs)) (rest bs);
      at = ap amount_at a ∙ sym s;
      first = ap digit (sym (get_or-take (run (rest bs)) (rest bs) 0 0 (omega (arith, f.some)))) ∙ f.first;
    }

-- ---- the normal content

-- the amount that is written begins with a digit and ends where it did
pub record Again (bs : List ℕ) : Type 0 where
  pub front_is : front (entry_format.normal bs) ≡ front bs
  pub amount_is : amount (entry_format.normal bs) ≡ normal (amount bs)
  pub behind_is : behind (entry_format.normal bs) ≡ behind bs
  pub sign_is : front_of (entry_format.normal bs) ≡ front_of bs

again : (bs : List ℕ) → Entry bs → Again bs
again bs e =
    let p = split bs e in
    let n = normal (amount bs) in
    let ia = normal_is_amount (amount bs) e.is in
    let k = first_digit n ia in
    let new = n ++ behind bs in
    let d : digit (get_or new 0 0) ≡ true = ap digit (get_or_append_left n (behind bs) 0 0 (omega (arith, k.some))) ∙ k.first in
    let at : amount_at (front bs ++ new) ≡ length (front bs) = same_start (front bs) (rest bs) new p.first d p.at in
    let f : front (front bs ++ new) ≡ front bs = ap (λ m. take m (front bs ++ new)) at ∙ take_at (front bs) new (length (front bs)) refl in
    let r : rest (front bs ++ new) ≡ new = ap (λ m. drop m (front bs ++ new)) at ∙ drop_at (front bs) new (length (front bs)) refl in
    let u : run new ≡ length n = run_behind n (behind bs) (amount_run n ia) (run_stops (rest bs)) in
    record {
      front_is = f;
      amount_is = ap (λ l. take (run l) l) r ∙ ap (λ m. take m new) u ∙ take_at n (behind bs) (length n) refl;
      behind_is = ap (λ l. drop (run l) l) r ∙ ap (λ m. drop m new) u ∙ drop_at n (behind bs) (length n) refl;
      sign_is = same_front (front bs) (rest bs) new p.first d p.at ∙ ap front_of p.whole;
    }

entry_again : (bs : List ℕ) → Entry bs → Entry (entry_format.normal bs)
entry_again bs e =
    let a = again bs e in
    record {
      sign = e.sign;
      signs = a.sign_is ∙ e.signs;
      is = ap is_amount a.amount_is ∙ normal_is_amount (amount bs) e.is;
      above = ap (λ l. ltb 0 (hundredths l)) a.amount_is ∙ ap (ltb 0) (normal_worth (amount bs) e.is) ∙ e.above;
      ends = ap is_behind a.behind_is ∙ e.ends;
    }

-- ---- the laws

said : (a b : List ℕ) (m n : ℕ) (c d : List ℕ) → entry a m c ≡ entry b n d → (a ≡ b) × (m ≡ n) × (c ≡ d)
said a b m n c d e = (cc, cc, cc)

-- entries with the same front have the same sign
one_sign : (c d : List ℕ) → (x : Entry c) (y : Entry d) → front c ≡ front d → x.sign ≡ y.sign
one_sign c d x y e =
    let p = split c x in
    let q = split d y in
    let s : front_of (front c ++ rest d) ≡ front_of (front c ++ rest c) = same_front (front c) (rest c) (rest d) p.first q.first p.at in
    let t : Some y.sign ≡ Some x.sign = sym y.signs ∙ ap front_of (sym q.whole) ∙ ap (λ l. front_of (l ++ rest d)) (sym e) ∙ s ∙ ap front_of p.whole ∙ x.signs in
    cc

entry_tidy : (bs : List ℕ) → is_some (entry_of bs) ≡ true → tidy bs ≡ true
entry_tidy bs h =
    let e = entry_is bs h in
    let p = split bs e in
    let f = front_printable bs e.sign e.signs in
    let k = first_digit (amount bs) e.is in
    let b = behind_laid (behind bs) e.ends in
    let x : laid (amount bs ++ behind bs) ≡ true = laid_behind (amount bs) (behind bs) (amount_printable (amount bs) e.is) b.out in
    let y : laid (front bs ++ rest bs) ≡ true = laid_behind (front bs) (rest bs) f.0 (ap laid (sym p.halves) ∙ x) in
    let l = ap length p.whole in
    let m = ap length p.halves in
    let n = length-append (front bs) (rest bs) in
    let o = length-append (amount bs) (behind bs) in
    tidy_from bs (omega (arith, k.some)) (omega (arith, p.start, f.1, k.most, b.few)) (ap laid (sym p.whole) ∙ y)

pub entry_lawful : Lawful entry_format
entry_lawful =
    record {
      accepted = λ c h. ap is_some (entry_told (entry_format.normal c) (entry_again c (entry_is c h)));
      same = λ c h.
          let e = entry_is c h in
          let a = again c e in
          (λ i. entry (a.front_is i) ((ap hundredths a.amount_is ∙ normal_worth (amount c) e.is) i) (a.behind_is i));
      one_normal = λ c d h k e.
          let x = entry_is c h in
          let y = entry_is d k in
          let s = said (front c) (front d) (hundredths (amount c)) (hundredths (amount d)) (behind c) (behind d) e in
          let w = same_worth (amount c) (amount d) x.is y.is s.1 in
          (λ i. s.0 i ++ (w i ++ s.2 i));
      one_value = λ c d h k e.
          let x = entry_is c h in
          let y = entry_is d k in
          let s = said (front c) (front d) (hundredths (amount c)) (hundredths (amount d)) (behind c) (behind d) e in
          let g = one_sign c d x y s.0 in
          entry_told c x ∙ (λ i. Some (signed (g i) (s.1 i))) ∙ sym (entry_told d y);
      fits = entry_tidy;
    }
