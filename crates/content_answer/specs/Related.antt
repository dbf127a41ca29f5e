-- Related messages: 3!n CR LF date [CR LF 10!n].
use Rattle.std.specs.Prelude.{ℕ, Bool, ◌&&◌, ◌||◌, List, length, is_some, ◌==◌}
use Rattle.mt_text.specs.Classes.{digit, every}
use Rattle.contents.specs.Dates.{date_of}
use Rattle.content_lines.specs.Formats.{Format, as_it_stands}
use Rattle.content_lines.specs.Lines.{line_end, first_line, next_line, goes_on}

-- so many digits
abbrev pub digits : ℕ → List ℕ → Bool
digits n bs = length bs == n && every digit bs

-- a day, and perhaps session and sequence in a line of their own
abbrev pub is_day : List ℕ → Bool
is_day bs = is_some (date_of (first_line bs)) && (line_end bs == length bs || (goes_on bs && digits 10 (next_line bs)))

-- a type and a day
abbrev pub is_related : List ℕ → Bool
is_related bs = digits 3 (first_line bs) && (goes_on bs && is_day (next_line bs))

abbrev pub related_format : Format (Unit {0})
related_format = as_it_stands is_related (λ _. tt)
