-- Statement numbers.
use Rattle.std.specs.Prelude.{ℕ, cond, Some, None, Option}
use Rattle.mt_text.specs.Classes.{between}
use Rattle.books.specs.declared.number.Number.{Number}

-- the number of this value: 1 to 99,999
abbrev pub numbered : ℕ → Option Number
numbered n = cond (between 1 99999 n) (Some (record { value = n })) None
