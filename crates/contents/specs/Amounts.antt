-- Amounts: digits with one comma, worth a number of hundredths.
use Rattle.std.specs.Prelude.{ℕ, ◌+◌, ◌-◌, ◌*◌, ◌^◌, Bool, cond, ◌&&◌, List, [], ◌∷◌, ◌++◌, length, take, drop, Some, None, Option, Result, ◌==◌, nat_eq, nat_le, nat_lt}
use Rattle.mt_text.specs.Classes.{between, digit, every}
use Rattle.mt_text.specs.Refusals.{Refusal, refused_at}
use Rattle.mt_text.specs.Lent.{fitted, overwritten}
use Rattle.contents.specs.Digits.{number, place}

-- where the first comma (44) stands, what stands before it, and what behind it
abbrev pub comma : List ℕ → ℕ
comma bs = place 44 bs

abbrev pub whole : List ℕ → List ℕ
whole bs = take (comma bs) bs

abbrev pub decimals : List ℕ → List ℕ
decimals bs = drop (comma bs + 1) bs

-- 2 to 15 characters, the comma one of them, with at least one character before it and at most two behind it
abbrev pub comma_fits : ℕ → ℕ → Bool
comma_fits len at = between 2 15 len && (between 1 (len - 1) at && nat_le (len - 1 - at) 2)

-- an amount: so shaped, and digits but for its comma
abbrev pub is_amount : List ℕ → Bool
is_amount bs = comma_fits (length bs) (comma bs) && (every digit (whole bs) && every digit (decimals bs))

-- its worth in hundredths: one digit behind the comma counts tenths, two count hundredths
abbrev pub hundredths : List ℕ → ℕ
hundredths bs = number (whole bs) * 100 + number (decimals bs) * 10 ^ (2 - length (decimals bs))

-- what reading an amount answers
abbrev pub amount_of : List ℕ → Option ℕ
amount_of bs = cond (is_amount bs) (Some (hundredths bs)) None

-- digits without the zeros (48) in front, but for the last digit
abbrev pub without_leading : List ℕ → List ℕ
without_leading [] = []
without_leading (d ∷ ds) = cond (d == 48 && nat_lt 0 (length ds)) (without_leading ds) (d ∷ ds)

-- digits without the zeros at the end
abbrev pub without_trailing : List ℕ → List ℕ
without_trailing [] = []
without_trailing (d ∷ ds) = cond (every (nat_eq 48) (d ∷ ds)) [] (d ∷ without_trailing ds)

-- the normal amount
abbrev pub normal : List ℕ → List ℕ
normal bs = without_leading (whole bs) ++ 44 ∷ without_trailing (decimals bs)

abbrev pub normal_of : List ℕ → Option (List ℕ)
normal_of bs = cond (is_amount bs) (Some (normal bs)) None

-- writing it at the front of a buffer: the answer, and what the buffer then holds
abbrev pub normal_answer : List ℕ → List ℕ → Result ℕ Refusal
normal_answer bs buffer = cond (is_amount bs) (fitted (normal bs) buffer) (refused_at 9 0)

abbrev pub normal_written : List ℕ → List ℕ → List ℕ
normal_written bs buffer = cond (is_amount bs) (overwritten (normal bs) buffer) buffer
