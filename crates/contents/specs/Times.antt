-- Times of day.
use Rattle.std.specs.Prelude.{ℕ, cond, ◌&&◌, List, length, Some, None, Option, ◌==◌, nat_le}
use Rattle.contents.specs.declared.times.Time.{Time}
use Rattle.contents.specs.Digits.{pair, and_then}

-- HHMM, 0000 to 2359
abbrev pub time_of : List ℕ → Option Time
time_of bs = cond (length bs == 4) (and_then (pair 0 bs) (λ h. and_then (pair 2 bs) (λ m. cond (nat_le h 23 && nat_le m 59) (Some (record { hour = h; minute = m })) None))) None
