-- Amounts with a sign.
use Rattle.std.specs.Prelude.{ℕ, List, ℤ, pos, neg_ℤ, Some, Option}
use Rattle.contents.specs.Digits.{and_then}
use Rattle.contents.specs.Amounts.{amount_of}
use Rattle.content_money.specs.declared.signs.Sign.{Sign}
use Rattle.content_money.specs.declared.signs.Sign.TheVariants.{Plus, Minus}

-- what each sign makes of so many hundredths
abbrev pub signed : Sign → ℕ → ℤ
signed Plus h = pos h
signed Minus h = neg_ℤ (pos h)

-- an amount, counted by a sign
abbrev pub signed_of : Sign → List ℕ → Option ℤ
signed_of sign bs = and_then (amount_of bs) (λ h. Some (signed sign h))
