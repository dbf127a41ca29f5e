-- Decimal digits as numbers: the byte 48 is the digit 0.
use Rattle.std.specs.Prelude.{ℕ, ◌+◌, ◌-◌, ◌*◌, cond, ◌&&◌, List, [], ◌∷◌, length, Some, None, Option, ◌==◌, nat_le, slice_index}
use Rattle.mt_text.specs.Classes.{digit, every}

-- go on with a value, where there is one
abbrev pub and_then : {X Y : Type 0} → Option X → (X → Option Y) → Option Y
and_then (Some x) f = f x
and_then None f = None

-- the number that two digits at a place write; none where one of them is no digit or is missing
abbrev pub pair : ℕ → List ℕ → Option ℕ
pair at bs = cond (digit (slice_index bs at) && digit (slice_index bs (at + 1))) (Some ((slice_index bs at - 48) * 10 + (slice_index bs (at + 1) - 48))) None

-- the number that digits write behind those that write n
abbrev pub number_after : ℕ → List ℕ → ℕ
number_after n [] = n
number_after n (d ∷ ds) = number_after (n * 10 + (d - 48)) ds

-- the number that digits write; no digits write 0
abbrev pub number : List ℕ → ℕ
number ds = number_after 0 ds

-- the number of up to nineteen digits, which 64 bits hold; none where there are more or another byte
abbrev pub number_of : List ℕ → Option ℕ
number_of ds = cond (every digit ds && nat_le (length ds) 19) (Some (number ds)) None

-- how many bytes stand before the first that equals b: all of them where none does
abbrev pub place : ℕ → List ℕ → ℕ
place b [] = 0
place b (c ∷ cs) = cond (c == b) 0 (place b cs + 1)
