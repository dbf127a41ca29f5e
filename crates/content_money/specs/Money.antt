-- Money: date, currency and amount.
use Rattle.std.specs.Prelude.{ℕ, Bool, cond, ◌&&◌, List, ◌++◌, length, take, drop, is_some, Some, None, Option, ◌==◌, nat_le, nat_lt}
use Rattle.std.specs.Str.{bytes_eq}
use Rattle.mt_text.specs.Classes.{capital, every}
use Rattle.contents.specs.Digits.{and_then}
use Rattle.contents.specs.Dates.{date_of}
use Rattle.contents.specs.Amounts.{hundredths, amount_of, normal, normal_of}
use Rattle.content_lines.specs.Formats.{Format, money}
use Rattle.content_money.specs.declared.money.Money.{Money}

-- a currency: three capitals
abbrev pub is_currency : List ℕ → Bool
is_currency cur = length cur == 3 && every capital cur

-- six bytes are the date, three the currency, the rest is the amount
abbrev pub dated_of : List ℕ → List ℕ → Option Money
dated_of cur bs = cond (nat_le 9 (length bs)) (and_then (date_of (take 6 bs)) (λ d. cond (bytes_eq (take 3 (drop 6 bs)) cur) (and_then (amount_of (drop 9 bs)) (λ h. Some (record { date = d; currency = cur; hundredths = h }))) None)) None

-- above zero
abbrev pub money_of : List ℕ → List ℕ → Option Money
money_of cur bs = and_then (dated_of cur bs) (λ m. cond (nat_lt 0 m.hundredths) (Some m) None)

-- date and currency as they are, the normal amount
abbrev pub dated_normal : List ℕ → List ℕ
dated_normal bs = take 9 bs ++ normal (drop 9 bs)

-- the normal amount behind date and currency, if there is one
abbrev pub amount_part : List ℕ → Option (List ℕ)
amount_part bs = cond (nat_le 9 (length bs)) (normal_of (drop 9 bs)) None

abbrev pub money_format : List ℕ → Format (Option Money)
money_format cur = record { accepts = λ bs. is_some (money_of cur bs); says = λ bs. money (take 9 bs) (hundredths (drop 9 bs)); normal = dated_normal; value = money_of cur }
