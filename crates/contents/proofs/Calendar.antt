-- Days in the order of the calendar, and by their count.
use Rattle.std.proofs.Common.{◌≡◌, ℕ, zero, suc, ◌+◌, ◌-◌, ◌<◌, ◌≤◌, Bool, true, false, cond, sym, refl, ap, ⊎_elim, arith}
use Rattle.std.proofs.lemmas.Bool.{cases_lt, cases_order}
use Rattle.std.proofs.lemmas.Bool.Decides.{nat_tests}
use Rattle.contents.specs.declared.dates.Date.{Date}
use Rattle.contents.specs.Dates.{leap, days_in, year_length, is_real, days_of_years, days_of_months, day_count, ComparesAsDays}

-- ---- a count that grows by so much with each step

module _ (f step : ℕ → ℕ) (grows : (n : ℕ) → f (suc n) ≡ f n + step n) where
  -- a later place lies at least one whole step on
  step_on : (i j : ℕ) → i < j → f i + step i ≤ f j
  step_on i zero h = absurd (omega arith)
  step_on i (suc j) h =
      ⊎_elim
      (λ l. omega (arith, step_on i j l, grows j))
      (λ l. let e : i ≡ j = omega arith in omega (arith, grows j, ap f e, ap step e))
      (cases_lt i j)

years_on : (i j : ℕ) → i < j → days_of_years i + year_length (1980 + i) ≤ days_of_years j
years_on = step_on days_of_years (λ n. year_length (1980 + n)) (λ n. refl)

months_on : (l : Bool) (i j : ℕ) → i < j → days_of_months l i + days_in l (suc i) ≤ days_of_months l j
months_on l = step_on (days_of_months l) (λ n. days_in l (suc n)) (λ n. refl)

whole_year : (l : Bool) → days_of_months l 12 ≡ cond l 366 365
whole_year true = refl
whole_year false = refl

-- ---- a real day lies within its month and its year

record Real (a : Date) : Type 0 where
  from : 1980 ≤ a.year
  month_low : 1 ≤ a.month
  month_high : a.month ≤ 12
  day_low : 1 ≤ a.day
  day_high : a.day ≤ days_in (leap a.year) a.month

real : (a : Date) → is_real a ≡ true → Real a
real a h =
    record {
      from = grind (arith, nat_tests);
      month_low = grind (arith, nat_tests);
      month_high = grind (arith, nat_tests);
      day_low = grind (arith, nat_tests);
      day_high = grind (arith, nat_tests);
    }

module _ (a b : Date) (ra : Real a) (rb : Real b) where
  -- up to its day, a month has no more days than it has
  month_end : days_of_months (leap a.year) (a.month - 1) + a.day ≤ days_of_months (leap a.year) (a.month - 1) + days_in (leap a.year) (suc (a.month - 1))
  month_end =
      let m : a.month ≡ suc (a.month - 1) = omega (arith, ra.month_low) in
      omega (arith, ra.day_high, ap (days_in (leap a.year)) m)

  earlier_year : a.year < b.year → day_count a < day_count b
  earlier_year h =
      let y : 1980 + (a.year - 1980) ≡ a.year = omega (arith, ra.from) in
      let on = years_on (a.year - 1980) (b.year - 1980) (omega (arith, ra.from)) in
      let year = ap year_length y in
      let months = months_on (leap a.year) (a.month - 1) 12 (omega (arith, ra.month_low, ra.month_high)) in
      omega (arith, month_end, whole_year (leap a.year), rb.day_low)

  earlier_month : a.year ≡ b.year → a.month < b.month → day_count a < day_count b
  earlier_month e h =
      let years = ap (λ y. days_of_years (y - 1980)) e in
      let months = ap (λ y. days_of_months (leap y) (b.month - 1)) e in
      let on = months_on (leap a.year) (a.month - 1) (b.month - 1) (omega (arith, ra.month_low)) in
      omega (arith, month_end, rb.day_low)

  earlier_day : a.year ≡ b.year → a.month ≡ b.month → a.day < b.day → day_count a < day_count b
  earlier_day e m h =
      let years = ap (λ y. days_of_years (y - 1980)) e in
      let months : days_of_months (leap a.year) (a.month - 1) ≡ days_of_months (leap b.year) (b.month - 1) = (λ i. days_of_months (leap (e i)) (m i - 1)) in
      omega arith

  same_day : a.year ≡ b.year → a.month ≡ b.month → a.day ≡ b.day → day_count a ≡ day_count b
  same_day e m d = (λ i. days_of_years (e i - 1980) + days_of_months (leap (e i)) (m i - 1) + d i)

pub compares_as_days : (a b : Date) → ComparesAsDays a b
compares_as_days a b ha hb =
    let ra = real a ha in
    let rb = real b hb in
    ⊎_elim
    (λ y. ⊎_elim
    (λ m. ⊎_elim
    (λ d. let e = same_day a b ra rb y m d in grind (arith, nat_tests))
    (λ o. ⊎_elim (λ d. let e = earlier_day a b ra rb y m d in grind (arith, nat_tests)) (λ d. let e = earlier_day b a rb ra (sym y) (sym m) d in grind (arith, nat_tests)) o)
    (cases_order a.day b.day))
    (λ o. ⊎_elim (λ m. let e = earlier_month a b ra rb y m in grind (arith, nat_tests)) (λ m. let e = earlier_month b a rb ra (sym y) m in grind (arith, nat_tests)) o)
    (cases_order a.month b.month))
    (λ o. ⊎_elim (λ y. let e = earlier_year a b ra rb y in grind (arith, nat_tests)) (λ y. let e = earlier_year b a rb ra y in grind (arith, nat_tests)) o)
    (cases_order a.year b.year)
