-- What is too long for an amount.
use Rattle.std.proofs.Common.{◌≡◌, ℕ, ◌≤◌, List, length, None, arith}
use Rattle.std.proofs.lemmas.Bool.Decides.{nat_tests}
use Rattle.contents.specs.Amounts.{amount_of}

-- sixteen characters and more are no amount
pub too_long : (bs : List ℕ) → 16 ≤ length bs → amount_of bs ≡ None
too_long bs h = grind (arith, nat_tests)
