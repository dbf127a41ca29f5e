-- What is known where a chain of tests and readings told something.
use Rattle.std.proofs.Common.{◌≡◌, ℕ, ◌+◌, ◌-◌, ◌*◌, Bool, true, false, cond, ◌&&◌, eqb, leb, List, [], ◌∷◌, length, get_or, is_some, Some, None, Option, refl, arith}
use Rattle.std.proofs.lemmas.Bool.{and_parts, eqb-true}
use Rattle.contents.specs.declared.dates.Date.{Date}
use Rattle.contents.specs.declared.dates.MonthDay.{MonthDay}
use Rattle.contents.specs.declared.times.Time.{Time}
use Rattle.mt_text.specs.Classes.{digit, every}
use Rattle.contents.specs.Digits.{and_then, pair}
use Rattle.contents.specs.Dates.{real_date, real_day, full_year, date_of, month_day_of}
use Rattle.contents.specs.Times.{time_of}

-- the reading before told a value too
pub after : {X Y : Type 0} (o : Option X) (f : X → Option Y) (y : Y) → and_then o f ≡ Some y → (x : X) × (o ≡ Some x) × (f x ≡ Some y)
after (Some x) f y h = (x, refl, h)
after None f y h = absurd (grind arith)

-- the test before was passed
pub passed : {X : Type 0} (b : Bool) (o : Option X) (x : X) → cond b o None ≡ Some x → (b ≡ true) × (o ≡ Some x)
passed true o x h = (refl, h)
passed false o x h = absurd (grind arith)

-- something was told
pub told_some : {X : Type 0} (o : Option X) → is_some o ≡ true → (x : X) × (o ≡ Some x)
told_some (Some x) h = (x, refl)
told_some None h = absurd (grind arith)

-- ---- dates and times are digits

pair_digits : (at : ℕ) (bs : List ℕ) (n : ℕ) → pair at bs ≡ Some n → (digit (get_or bs at 0) ≡ true) × (digit (get_or bs (at + 1) 0) ≡ true)
pair_digits at bs n h = and_parts (digit (get_or bs at 0)) (digit (get_or bs (at + 1) 0)) (passed (digit (get_or bs at 0) && digit (get_or bs (at + 1) 0)) (Some ((get_or bs at 0 - 48) * 10 + (get_or bs (at + 1) 0 - 48))) n h).0

abbrev TwoDigits : ℕ → List ℕ → Type 0
TwoDigits at bs = (digit (get_or bs at 0) ≡ true) × (digit (get_or bs (at + 1) 0) ≡ true)

six : (bs : List ℕ) → length bs ≡ 6 → TwoDigits 0 bs → TwoDigits 2 bs → TwoDigits 4 bs → every digit bs ≡ true
six [] l p q r = absurd (omega arith)
six (a ∷ []) l p q r = absurd (omega arith)
six (a ∷ b ∷ []) l p q r = absurd (omega arith)
six (a ∷ b ∷ c ∷ []) l p q r = absurd (omega arith)
six (a ∷ b ∷ c ∷ d ∷ []) l p q r = absurd (omega arith)
six (a ∷ b ∷ c ∷ d ∷ e ∷ []) l p q r = absurd (omega arith)
six (a ∷ b ∷ c ∷ d ∷ e ∷ f ∷ []) l p q r = (λ i. p.0 i && (p.1 i && (q.0 i && (q.1 i && (r.0 i && (r.1 i && true))))))
six (a ∷ b ∷ c ∷ d ∷ e ∷ f ∷ g ∷ bs) l p q r = absurd (omega arith)

four : (bs : List ℕ) → length bs ≡ 4 → TwoDigits 0 bs → TwoDigits 2 bs → every digit bs ≡ true
four [] l p q = absurd (omega arith)
four (a ∷ []) l p q = absurd (omega arith)
four (a ∷ b ∷ []) l p q = absurd (omega arith)
four (a ∷ b ∷ c ∷ []) l p q = absurd (omega arith)
four (a ∷ b ∷ c ∷ d ∷ []) l p q = (λ i. p.0 i && (p.1 i && (q.0 i && (q.1 i && true))))
four (a ∷ b ∷ c ∷ d ∷ e ∷ bs) l p q = absurd (omega arith)

-- so many digits
pub record Digits (n : ℕ) (bs : List ℕ) : Type 0 where
  pub long : length bs ≡ n
  pub digits : every digit bs ≡ true

pub date_digits : (bs : List ℕ) (d : Date) → date_of bs ≡ Some d → Digits 6 bs
date_digits bs d h =
    let l = passed (eqb (length bs) 6) (and_then (pair 0 bs) (λ yy. and_then (pair 2 bs) (λ m. and_then (pair 4 bs) (λ d. real_date (full_year yy) m d)))) d h in
    let y = after (pair 0 bs) (λ yy. and_then (pair 2 bs) (λ m. and_then (pair 4 bs) (λ d. real_date (full_year yy) m d))) d l.1 in
    let m = after (pair 2 bs) (λ m. and_then (pair 4 bs) (λ d. real_date (full_year y.0) m d)) d y.2 in
    let e = after (pair 4 bs) (λ e. real_date (full_year y.0) m.0 e) d m.2 in
    let n = eqb-true (length bs) 6 l.0 in
    record { long = n; digits = six bs n (pair_digits 0 bs y.0 y.1) (pair_digits 2 bs m.0 m.1) (pair_digits 4 bs e.0 e.1) }

pub month_day_digits : (bs : List ℕ) (d : MonthDay) → month_day_of bs ≡ Some d → Digits 4 bs
month_day_digits bs d h =
    let l = passed (eqb (length bs) 4) (and_then (pair 0 bs) (λ m. and_then (pair 2 bs) (λ d. cond (real_day true m d) (Some (record { month = m; day = d })) None))) d h in
    let m = after (pair 0 bs) (λ m. and_then (pair 2 bs) (λ d. cond (real_day true m d) (Some (record { month = m; day = d })) None)) d l.1 in
    let e = after (pair 2 bs) (λ e. cond (real_day true m.0 e) (Some (record { month = m.0; day = e })) None) d m.2 in
    let n = eqb-true (length bs) 4 l.0 in
    record { long = n; digits = four bs n (pair_digits 0 bs m.0 m.1) (pair_digits 2 bs e.0 e.1) }

pub time_digits : (bs : List ℕ) (t : Time) → time_of bs ≡ Some t → Digits 4 bs
time_digits bs t h =
    let l = passed (eqb (length bs) 4) (and_then (pair 0 bs) (λ h. and_then (pair 2 bs) (λ m. cond (leb h 23 && leb m 59) (Some (record { hour = h; minute = m })) None))) t h in
    let m = after (pair 0 bs) (λ h. and_then (pair 2 bs) (λ m. cond (leb h 23 && leb m 59) (Some (record { hour = h; minute = m })) None)) t l.1 in
    let e = after (pair 2 bs) (λ e. cond (leb m.0 23 && leb e 59) (Some (record { hour = m.0; minute = e })) None) t m.2 in
    let n = eqb-true (length bs) 4 l.0 in
    record { long = n; digits = four bs n (pair_digits 0 bs m.0 m.1) (pair_digits 2 bs e.0 e.1) }
