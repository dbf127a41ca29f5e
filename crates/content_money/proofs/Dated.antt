-- Date, currency and amount: what is read, and what the normal content tells.
use Rattle.std.proofs.Common.{leb, ◌≡◌, ℕ, ◌^◌, ◌<◌, ◌≤◌, true, cond, eqb, List, ◌∷◌, ◌++◌, length, take, drop, Some, None, Option, sym, ap, ◌∙◌, arith}
use Rattle.std.specs.Str.{bytes_eq}
use Rattle.std.proofs.lemmas.Slice.Eq.{bytes_eq-Decides}
use Rattle.std.proofs.lemmas.List.{take-append-drop, take-append-le, drop-append-le, take_at, drop_at, drop-drop, length-append, length-drop, length-take-le}
use Rattle.std.proofs.lemmas.Bool.{and_parts, cond-true, leb-true, le-leb}
use Rattle.mt_text.specs.Classes.{capital, every, printable}
use Rattle.contents.specs.declared.dates.Date.{Date}
use Rattle.contents.specs.Digits.{and_then}
use Rattle.contents.specs.Dates.{date_of}
use Rattle.contents.specs.Amounts.{whole, decimals, is_amount, hundredths, amount_of, normal}
use Rattle.contents.proofs.AmountParts.{parts, worth}
use Rattle.contents.proofs.NormalAmounts.{normal_is_amount, normal_worth, same_worth}
use Rattle.content_lines.proofs.Chosen.{after, passed, date_digits}
use Rattle.content_lines.proofs.Shapes.{every_append, digits_printable, capitals_printable}
use Rattle.content_money.specs.declared.money.Money.{Money}
use Rattle.content_money.specs.Money.{is_currency, dated_of, dated_normal, amount_part}

-- ---- amounts

pub amount_told : (bs : List ℕ) (h : ℕ) → amount_of bs ≡ Some h → (is_amount bs ≡ true) × (hundredths bs ≡ h)
amount_told bs h e = let p = passed _ _ _ e in let f = p.1 in (p.0, cc)

-- the bound of every amount
pub amount_below : (bs : List ℕ) (h : ℕ) → amount_of bs ≡ Some h → h < 10 ^ 16
amount_below bs h e =
    let p = amount_told bs h e in
    let w = worth bs p.0 in
    omega (arith, p.1, w.whole_below, w.decimals_below)

pub amount_again : (bs : List ℕ) → is_amount bs ≡ true → amount_of (normal bs) ≡ amount_of bs
amount_again bs h =
    cond-true _ _ _ (normal_is_amount bs h)
    ∙ ap Some (normal_worth bs h)
    ∙ sym (cond-true _ _ _ h)

pub amount_printable : (bs : List ℕ) → is_amount bs ≡ true → every printable bs ≡ true
amount_printable bs h =
    let p = parts bs h in
    ap (every printable) (sym p.split)
    ∙ every_append printable (whole bs) (44 ∷ decimals bs) (digits_printable (whole bs) p.front) (digits_printable (decimals bs) p.back)

-- ---- date, currency, amount

-- by the nine bytes in front and the amount
abbrev dated_by : List ℕ → List ℕ → Option ℕ → Option Money
dated_by cur a o = and_then (date_of (take 6 a)) (λ d. cond (bytes_eq (take 3 (drop 6 a)) cur) (and_then o (λ h. Some (record { date = d; currency = cur; hundredths = h }))) None)

dated_at : (cur a c : List ℕ) → length a ≡ 9 → dated_of cur (a ++ c) ≡ dated_by cur a (amount_of c)
dated_at cur a c l =
    let n : 9 ≤ length (a ++ c) = omega (arith, length-append a c) in
    let t : take 6 (a ++ c) ≡ take 6 a = take-append-le 6 a c (omega arith) in
    let d : drop 6 (a ++ c) ≡ drop 6 a ++ c = drop-append-le 6 a c (omega arith) in
    let u : take 3 (drop 6 a ++ c) ≡ take 3 (drop 6 a) = take-append-le 3 (drop 6 a) c (omega (arith, length-drop 6 a)) in
    let v : drop 9 (a ++ c) ≡ c = drop_at a c 9 l in
    cond-true _ _ _ (le-leb _ _ n)
    ∙ (λ i. and_then (date_of (t i)) (λ e. cond (bytes_eq ((ap (take 3) d ∙ u) i) cur) (and_then (amount_of (v i)) (λ h. Some (record { date = e; currency = cur; hundredths = h }))) None))

pub front_nine : (bs : List ℕ) → 9 ≤ length bs → length (take 9 bs) ≡ 9
front_nine bs h = length-take-le 9 bs h

dated_is : (cur bs : List ℕ) → 9 ≤ length bs → dated_of cur bs ≡ dated_by cur (take 9 bs) (amount_of (drop 9 bs))
dated_is cur bs h = ap (dated_of cur) (sym (take-append-drop 9 bs)) ∙ dated_at cur (take 9 bs) (drop 9 bs) (front_nine bs h)

-- what was told, and what it was told by
pub record Dated (cur bs : List ℕ) (m : Money) : Type 0 where
  pub long : 9 ≤ length bs
  pub date : date_of (take 6 bs) ≡ Some m.date
  pub same : take 3 (drop 6 bs) ≡ cur
  pub amount : is_amount (drop 9 bs) ≡ true
  pub worth : hundredths (drop 9 bs) ≡ m.hundredths
  pub below : m.hundredths < 10 ^ 16

pub dated_told : (cur bs : List ℕ) (m : Money) → dated_of cur bs ≡ Some m → Dated cur bs m
dated_told cur bs m e =
    let p = passed (leb 9 (length bs)) (and_then (date_of (take 6 bs)) (λ d. cond (bytes_eq (take 3 (drop 6 bs)) cur) (and_then (amount_of (drop 9 bs)) (λ h. Some (record { date = d; currency = cur; hundredths = h }))) None)) m e in
    let q = after (date_of (take 6 bs)) (λ d. cond (bytes_eq (take 3 (drop 6 bs)) cur) (and_then (amount_of (drop 9 bs)) (λ h. Some (record { date = d; currency = cur; hundredths = h }))) None) m p.1 in
    let r = passed (bytes_eq (take 3 (drop 6 bs)) cur) (and_then (amount_of (drop 9 bs)) (λ h. Some (record { date = q.0; currency = cur; hundredths = h }))) m q.2 in
    let s = after (amount_of (drop 9 bs)) (λ h. Some (record { date = q.0; currency = cur; hundredths = h })) m r.1 in
    let f = s.2 in
    let made : ◌≡◌ {A = Money} (record { date = q.0; currency = cur; hundredths = s.0 }) m = cc in
    let a = amount_told (drop 9 bs) s.0 s.1 in
    let w : s.0 ≡ m.hundredths = ap (λ m. m.hundredths) made in
    record {
      long = leb-true 9 (length bs) p.0;
      date = q.1 ∙ ap (λ m. Some m.date) made;
      same = (bytes_eq-Decides (take 3 (drop 6 bs)) cur).0 r.0;
      amount = a.0;
      worth = a.1 ∙ w;
      below = omega (arith, w, amount_below (drop 9 bs) s.0 s.1);
    }

-- what is told once date, currency and amount are read
pub dated_read : (cur bs : List ℕ) (d : Date) (n : ℕ) → 9 ≤ length bs → Some d ≡ date_of (take 6 bs) → bytes_eq (take 3 (drop 6 bs)) cur ≡ true → Some n ≡ amount_of (drop 9 bs) → Some (record { date = d; currency = cur; hundredths = n }) ≡ dated_of cur bs
dated_read cur bs d n l e f a =
    let money = λ (d : Date) (n : ℕ). Some (record { date = d; currency = cur; hundredths = n }) in
    ap (λ o. and_then o (money d)) a
    ∙ sym (cond-true (bytes_eq (take 3 (drop 6 bs)) cur) (and_then (amount_of (drop 9 bs)) (money d)) None f)
    ∙ ap (λ o. and_then o (λ d. cond (bytes_eq (take 3 (drop 6 bs)) cur) (and_then (amount_of (drop 9 bs)) (money d)) None)) e
    ∙ sym (cond-true (leb 9 (length bs)) _ None (le-leb _ _ l))

-- the normal content tells the same
pub dated_again : (cur bs : List ℕ) (m : Money) → dated_of cur bs ≡ Some m → dated_of cur (dated_normal bs) ≡ dated_of cur bs
dated_again cur bs m e =
    let p = dated_told cur bs m e in
    dated_at cur (take 9 bs) (normal (drop 9 bs)) (front_nine bs p.long)
    ∙ ap (dated_by cur (take 9 bs)) (amount_again (drop 9 bs) p.amount)
    ∙ sym (dated_is cur bs p.long)

-- its parts
pub front_again : (bs : List ℕ) → 9 ≤ length bs → take 9 (dated_normal bs) ≡ take 9 bs
front_again bs h = take_at (take 9 bs) (normal (drop 9 bs)) 9 (front_nine bs h)

pub amount_part_again : (bs : List ℕ) → 9 ≤ length bs → drop 9 (dated_normal bs) ≡ normal (drop 9 bs)
amount_part_again bs h = drop_at (take 9 bs) (normal (drop 9 bs)) 9 (front_nine bs h)

-- contents with one front and one worth have one normal content and tell one value
pub dated_one_normal : (cur c d : List ℕ) (m n : Money) → dated_of cur c ≡ Some m → dated_of cur d ≡ Some n → take 9 c ≡ take 9 d → hundredths (drop 9 c) ≡ hundredths (drop 9 d) → dated_normal c ≡ dated_normal d
dated_one_normal cur c d m n e f p q =
    let s = same_worth (drop 9 c) (drop 9 d) (dated_told cur c m e).amount (dated_told cur d n f).amount q in
    (λ i. p i ++ s i)

pub dated_one_value : (cur c d : List ℕ) (m n : Money) → dated_of cur c ≡ Some m → dated_of cur d ≡ Some n → take 9 c ≡ take 9 d → hundredths (drop 9 c) ≡ hundredths (drop 9 d) → dated_of cur c ≡ dated_of cur d
dated_one_value cur c d m n e f p q =
    let x = dated_told cur c m e in
    let y = dated_told cur d n f in
    let a : amount_of (drop 9 c) ≡ amount_of (drop 9 d) =
    cond-true _ _ _ x.amount
    ∙ ap Some q
    ∙ sym (cond-true _ _ _ y.amount) in
    dated_is cur c x.long ∙ (λ i. dated_by cur (p i) (a i)) ∙ sym (dated_is cur d y.long)

-- ---- its bytes

pub record Bytes (bs : List ℕ) : Type 0 where
  pub printed : every printable bs ≡ true
  pub most : length bs ≤ 24

split_nine : (bs : List ℕ) → take 6 bs ++ (take 3 (drop 6 bs) ++ drop 9 bs) ≡ bs
split_nine bs =
    ap (λ l. take 6 bs ++ (take 3 (drop 6 bs) ++ l)) (sym (drop-drop 3 6 bs))
    ∙ ap (λ l. take 6 bs ++ l) (take-append-drop 3 (drop 6 bs))
    ∙ take-append-drop 6 bs

pub dated_bytes : (cur bs : List ℕ) (m : Money) → is_currency cur ≡ true → dated_of cur bs ≡ Some m → Bytes bs
dated_bytes cur bs m k e =
    let p = dated_told cur bs m e in
    let q = and_parts (eqb (length cur) 3) (every capital cur) k in
    let r = parts (drop 9 bs) p.amount in
    record {
      printed =
          ap (every printable) (sym (split_nine bs))
          ∙ every_append printable (take 6 bs) (take 3 (drop 6 bs) ++ drop 9 bs) (digits_printable (take 6 bs) (date_digits (take 6 bs) m.date p.date).digits)
          (every_append printable (take 3 (drop 6 bs)) (drop 9 bs) (ap (every printable) p.same ∙ capitals_printable cur q.1) (amount_printable (drop 9 bs) p.amount));
      most = omega (arith, r.short, length-drop 9 bs);
    }

-- ---- the amount's part, for the writer

pub part_told : (cur bs : List ℕ) (m : Money) → dated_of cur bs ≡ Some m → amount_part bs ≡ Some (normal (drop 9 bs))
part_told cur bs m e =
    let p = dated_told cur bs m e in
    cond-true _ _ _ (le-leb _ _ p.long)
    ∙ cond-true _ _ _ p.amount
