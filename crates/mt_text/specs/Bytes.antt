-- The first look at a text: causes 1 and 2.
use Rattle.std.specs.Prelude.{ℕ, ◌+◌, cond, ◌||◌, List, [], ◌∷◌, length, Ok, Result, ◌==◌, nat_lt}
use Rattle.mt_text.specs.Classes.{carried}
use Rattle.mt_text.specs.Refusals.{Refusal, refused_at}

-- the first byte that no text may hold is refused by 2 where it stands; the bytes begin at offset n
abbrev pub foreign_from : ℕ → List ℕ → Result (Unit {0}) Refusal
foreign_from n [] = Ok tt
foreign_from n (b ∷ bs) = cond (carried b) (foreign_from (n + 1) bs) (refused_at 2 n)

-- an empty text, and one of over 10,000 bytes, is refused by 1 at its start
abbrev pub checked : List ℕ → Result (Unit {0}) Refusal
checked text = cond (length text == 0 || nat_lt 10000 (length text)) (refused_at 1 0) (foreign_from 0 text)
