-- Balances: a mark, then date, currency and amount.
use Rattle.std.specs.Prelude.{ℕ, cond, List, ◌∷◌, take, drop, ℤ, pos, is_some, Some, None, Option, ◌==◌, slice_index}
use Rattle.contents.specs.Digits.{and_then}
use Rattle.contents.specs.Amounts.{hundredths}
use Rattle.content_lines.specs.Formats.{Format, balance}
use Rattle.content_money.specs.declared.balances.Balance.{Balance}
use Rattle.content_money.specs.declared.signs.Sign.{Sign}
use Rattle.content_money.specs.declared.signs.Sign.TheVariants.{Plus, Minus}
use Rattle.content_money.specs.Money.{dated_of, dated_normal}
use Rattle.content_money.specs.Signs.{signed}

-- C (67) counts plus, D (68) minus
abbrev pub mark_of : ℕ → Option Sign
mark_of b = cond (b == 67) (Some Plus) (cond (b == 68) (Some Minus) None)

-- zero is accepted
abbrev pub balance_of : List ℕ → List ℕ → Option Balance
balance_of cur bs = and_then (mark_of (slice_index bs 0)) (λ sign. and_then (dated_of cur (drop 1 bs)) (λ m. Some (record { date = m.date; currency = cur; hundredths = signed sign m.hundredths })))

-- the hundredths that are told, with their sign
abbrev pub worth : Option Balance → ℤ
worth (Some b) = b.hundredths
worth None = pos 0

-- the mark as it is, or C where the amount is zero
abbrev pub normal_mark : List ℕ → ℕ
normal_mark bs = cond (hundredths (drop 9 (drop 1 bs)) == 0) 67 (slice_index bs 0)

abbrev pub balance_normal : List ℕ → List ℕ
balance_normal bs = normal_mark bs ∷ dated_normal (drop 1 bs)

abbrev pub balance_format : List ℕ → Format (Option Balance)
balance_format cur = record { accepts = λ bs. is_some (balance_of cur bs); says = λ bs. balance (take 9 (drop 1 bs)) (worth (balance_of cur bs)); normal = balance_normal; value = balance_of cur }
