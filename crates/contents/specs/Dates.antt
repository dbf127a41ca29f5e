-- Days of the calendar, 1980 to 2079.
use Rattle.std.specs.Prelude.{◌≡◌, ℕ, zero, suc, ◌+◌, ◌-◌, ◌%◌, Bool, true, cond, not, ◌&&◌, ◌||◌, List, [], ◌∷◌, length, Some, None, Option, ◌==◌, nat_le, nat_lt}
use Rattle.contents.specs.declared.dates.Date.{Date}
use Rattle.contents.specs.declared.dates.MonthDay.{MonthDay}
use Rattle.mt_text.specs.Classes.{among, between}
use Rattle.contents.specs.Digits.{pair, and_then}

-- every fourth year has 366 days, of the full centuries only every fourth
abbrev pub leap : ℕ → Bool
leap year = year % 4 == 0 && (not (year % 100 == 0) || year % 400 == 0)

-- how many days a month has: February 28 or 29, April, June, September and November 30, the others 31
abbrev pub days_in : Bool → ℕ → ℕ
days_in leap_year month = cond (month == 2) (cond leap_year 29 28) (cond (among (4 ∷ 6 ∷ 9 ∷ 11 ∷ []) month) 30 31)

-- a month of the twelve, and a day that it has
abbrev pub real_day : Bool → ℕ → ℕ → Bool
real_day leap_year month day = between 1 12 month && between 1 (days_in leap_year month) day

-- two digits of a year: 80 to 99 are 1980 to 1999, 00 to 79 are 2000 to 2079
abbrev pub full_year : ℕ → ℕ
full_year yy = cond (nat_le 80 yy) (1900 + yy) (2000 + yy)

-- the day of a year, a month and a day, if there is one
abbrev pub real_date : ℕ → ℕ → ℕ → Option Date
real_date y m d = cond (real_day (leap y) m d) (Some (record { year = y; month = m; day = d })) None

-- YYMMDD
abbrev pub date_of : List ℕ → Option Date
date_of bs = cond (length bs == 6) (and_then (pair 0 bs) (λ yy. and_then (pair 2 bs) (λ m. and_then (pair 4 bs) (λ d. real_date (full_year yy) m d)))) None

-- MMDD: a day that some year has, so 0229 too
abbrev pub month_day_of : List ℕ → Option MonthDay
month_day_of bs = cond (length bs == 4) (and_then (pair 0 bs) (λ m. and_then (pair 2 bs) (λ d. cond (real_day true m d) (Some (record { month = m; day = d })) None))) None

-- the earlier of two days: by year, then by month, then by day
abbrev pub before : Date → Date → Bool
before a b = nat_lt a.year b.year || (a.year == b.year && (nat_lt a.month b.month || (a.month == b.month && nat_lt a.day b.day)))

-- a day of the calendar from 1980 on
abbrev pub is_real : Date → Bool
is_real a = nat_le 1980 a.year && real_day (leap a.year) a.month a.day

-- how many days a year has
abbrev pub year_length : ℕ → ℕ
year_length year = cond (leap year) 366 365

-- the days of so many years from 1980 on, and of so many months from January on
abbrev pub days_of_years : ℕ → ℕ
days_of_years zero = 0
days_of_years (suc n) = days_of_years n + year_length (1980 + n)

abbrev pub days_of_months : Bool → ℕ → ℕ
days_of_months leap_year zero = 0
days_of_months leap_year (suc n) = days_of_months leap_year n + days_in leap_year (suc n)

-- which day it is, counted from 1 on 1 January 1980
abbrev pub day_count : Date → ℕ
day_count a = days_of_years (a.year - 1980) + days_of_months (leap a.year) (a.month - 1) + a.day

-- of two real days the earlier is the one with the lower count
abbrev pub ComparesAsDays : Date → Date → Type 0
ComparesAsDays a b = is_real a ≡ true → is_real b ≡ true → before a b ≡ nat_lt (day_count a) (day_count b)
