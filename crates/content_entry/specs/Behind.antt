-- What stands behind the amount of a statement entry: transaction type, references, further information.
use Rattle.std.specs.Prelude.{ℕ, ◌+◌, Bool, cond, ◌&&◌, ◌||◌, List, [], ◌∷◌, length, take, drop, ◌==◌, slice_index}
use Rattle.mt_text.specs.Classes.{capital, alphanumeric, every}
use Rattle.content_lines.specs.Lines.{is_line, line_end, first_line, next_line, goes_on}

-- 1!a3!c
abbrev pub is_type : List ℕ → Bool
is_type t = length t == 4 && (capital (slice_index t 0) && every alphanumeric (drop 1 t))

-- how many bytes stand before the first two slashes (47): all of them where there are none
abbrev pub slashes : List ℕ → ℕ
slashes [] = 0
slashes (b ∷ bs) = cond (b == 47 && slice_index bs 0 == 47) 0 (slashes bs + 1)

-- one reference, or two with two slashes between them
abbrev pub is_references : List ℕ → Bool
is_references line = cond (slashes line == length line) (is_line 16 line) (is_line 16 (take (slashes line) line) && is_line 16 (drop (slashes line + 2) line))

-- the references end the first line; a second line may follow
abbrev pub is_rest : List ℕ → Bool
is_rest bs = is_references (first_line bs) && (line_end bs == length bs || (goes_on bs && is_line 34 (next_line bs)))

abbrev pub is_behind : List ℕ → Bool
is_behind bs = is_type (take 4 bs) && is_rest (drop 4 bs)
