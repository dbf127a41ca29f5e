-- What is too long for a text.
use Rattle.std.proofs.Common.{◌≡◌, ℕ, ◌≤◌, List, length, arith}
use Rattle.std.proofs.lemmas.Bool.Decides.{nat_tests}
use Rattle.mt_text.specs.Refusals.{refused_at}
use Rattle.layout.specs.Walk.{laid_out}

-- 10,001 bytes and more are refused for their length
pub too_long : (bs : List ℕ) → 10001 ≤ length bs → laid_out bs ≡ refused_at 1 0
too_long bs h = grind (arith, nat_tests)
