-- Writing at the front of a buffer that the caller lends: cause 14 where it is too short.
use Rattle.std.specs.Prelude.{ℕ, cond, List, ◌++◌, length, drop, Ok, Result, nat_le}
use Rattle.mt_text.specs.Refusals.{Refusal, refused}

-- the answer: how many bytes were written
abbrev pub fitted : List ℕ → List ℕ → Result ℕ Refusal
fitted bytes buffer = cond (nat_le (length bytes) (length buffer)) (Ok (length bytes)) (refused 14)

-- what the buffer then holds: the bytes and its own rest, or all that it held
abbrev pub overwritten : List ℕ → List ℕ → List ℕ
overwritten bytes buffer = cond (nat_le (length bytes) (length buffer)) (bytes ++ drop (length bytes) buffer) buffer
