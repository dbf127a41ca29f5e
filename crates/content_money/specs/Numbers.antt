-- Statement numbers: one to five digits from 1 on, and perhaps /1.
use Rattle.std.specs.Prelude.{ℕ, Bool, cond, ◌&&◌, ◌||◌, List, ◌++◌, length, take, drop, is_some, Some, None, codes, Option, ◌==◌, nat_lt}
use Rattle.std.specs.Str.{bytes_eq}
use Rattle.mt_text.specs.Classes.{between, digit, every}
use Rattle.contents.specs.Digits.{number, place}
use Rattle.contents.specs.Amounts.{without_leading}
use Rattle.content_lines.specs.Formats as formats
use Rattle.content_lines.specs.Formats.{Format}

-- what stands before the slash (47), and the slash with what stands behind it
abbrev pub digits : List ℕ → List ℕ
digits bs = take (place 47 bs) bs

abbrev pub page : List ℕ → List ℕ
page bs = drop (place 47 bs) bs

-- one to five digits that write a number above zero
abbrev pub is_number : List ℕ → Bool
is_number ds = between 1 5 (length ds) && (every digit ds && nat_lt 0 (number ds))

abbrev pub number_of_digits : List ℕ → Option ℕ
number_of_digits ds = cond (is_number ds) (Some (number ds)) None

-- no page, or page 1
abbrev pub is_page : List ℕ → Bool
is_page rest = length rest == 0 || bytes_eq rest (codes "/1")

abbrev pub statement_number_of : List ℕ → Option ℕ
statement_number_of bs = cond (is_number (digits bs) && is_page (page bs)) (Some (number (digits bs))) None

abbrev pub number_format : Format (Option ℕ)
number_format = record { accepts = λ bs. is_some (statement_number_of bs); says = λ bs. formats.number (number (digits bs)); normal = λ bs. without_leading (digits bs) ++ codes "/1"; value = statement_number_of }
