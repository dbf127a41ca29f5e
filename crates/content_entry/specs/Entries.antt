-- Statement entries: each part before the amount is found by the next byte.
use Rattle.std.specs.Prelude.{ℕ, ◌+◌, Bool, true, cond, ◌&&◌, ◌||◌, List, [], ◌∷◌, ◌++◌, take, drop, ℤ, is_some, Some, None, Option, ◌==◌, nat_lt, slice_index}
use Rattle.mt_text.specs.Classes.{digit, capital}
use Rattle.contents.specs.Digits.{and_then}
use Rattle.contents.specs.Dates.{date_of, month_day_of}
use Rattle.contents.specs.Amounts.{is_amount, hundredths, normal}
use Rattle.content_lines.specs.Formats.{Format, entry}
use Rattle.content_money.specs.declared.signs.Sign.{Sign}
use Rattle.content_money.specs.declared.signs.Sign.TheVariants.{Plus, Minus}
use Rattle.content_money.specs.Signs.{signed_of}
use Rattle.content_entry.specs.Behind.{is_behind}

-- six bytes are the date; where a digit follows, the next four are month and day
abbrev pub mark_at : List ℕ → ℕ
mark_at bs = cond (digit (slice_index bs 6)) 10 6

abbrev pub is_month_day : List ℕ → Bool
is_month_day bs = cond (digit (slice_index bs 6)) (is_some (month_day_of (take 4 (drop 6 bs)))) true

-- the mark: C (67) and RD count plus, D (68) and RC minus; an R (82) takes the next byte with it
abbrev pub sign_of : ℕ → ℕ → Option Sign
sign_of b c =
    cond (b == 67) (Some Plus)
    (cond (b == 68) (Some Minus)
    (cond (b == 82) (cond (c == 67) (Some Minus) (cond (c == 68) (Some Plus) None)) None))

abbrev pub mark_end : List ℕ → ℕ
mark_end bs = mark_at bs + cond (slice_index bs (mark_at bs) == 82) 2 1

-- a capital behind the mark is the funds code; the amount begins behind it
abbrev pub amount_at : List ℕ → ℕ
amount_at bs = mark_end bs + cond (capital (slice_index bs (mark_end bs))) 1 0

-- the sign that date and mark give
abbrev pub front_of : List ℕ → Option Sign
front_of bs = cond (is_some (date_of (take 6 bs)) && is_month_day bs) (sign_of (slice_index bs (mark_at bs)) (slice_index bs (mark_at bs + 1))) None

-- how many digits and commas (44) the bytes begin with
abbrev pub run : List ℕ → ℕ
run [] = 0
run (b ∷ bs) = cond (digit b || b == 44) (run bs + 1) 0

-- what stands before the amount, the amount, and what stands behind it
abbrev pub front : List ℕ → List ℕ
front bs = take (amount_at bs) bs

abbrev pub rest : List ℕ → List ℕ
rest bs = drop (amount_at bs) bs

abbrev pub amount : List ℕ → List ℕ
amount bs = take (run (rest bs)) (rest bs)

abbrev pub behind : List ℕ → List ℕ
behind bs = drop (run (rest bs)) (rest bs)

-- an amount above zero
abbrev pub is_above : List ℕ → Bool
is_above bs = is_amount bs && nat_lt 0 (hundredths bs)

-- the signed line that is told
abbrev pub entry_of : List ℕ → Option ℤ
entry_of bs = and_then (front_of bs) (λ sign. cond (is_above (amount bs) && is_behind (behind bs)) (signed_of sign (amount bs)) None)

abbrev pub entry_format : Format (Option ℤ)
entry_format = record { accepts = λ bs. is_some (entry_of bs); says = λ bs. entry (front bs) (hundredths (amount bs)) (behind bs); normal = λ bs. front bs ++ (normal (amount bs) ++ behind bs); value = entry_of }
