-- Lines: n*mx is 1 to n lines, each of 1 to m bytes of x, with CR LF between them.
use Rattle.std.specs.Prelude.{ℕ, zero, suc, ◌+◌, Bool, false, cond, not, ◌&&◌, ◌||◌, List, length, take, drop, Some, None, Option, ◌==◌, slice_index}
use Rattle.mt_text.specs.Classes.{between, every, printable}
use Rattle.contents.specs.Digits.{place}
use Rattle.content_lines.specs.Formats.{Format, as_it_stands, begins}

-- 1 to width bytes of x
abbrev pub is_line : ℕ → List ℕ → Bool
is_line width line = between 1 width (length line) && every printable line

-- where the first line ends: at the first CR, or with the bytes
abbrev pub line_end : List ℕ → ℕ
line_end bs = place 13 bs

abbrev pub first_line : List ℕ → List ℕ
first_line bs = take (line_end bs) bs

-- what stands behind its CR LF
abbrev pub next_line : List ℕ → List ℕ
next_line bs = drop (line_end bs + 2) bs

-- behind the first line stand CR and LF, and then neither : nor -
abbrev pub goes_on : List ℕ → Bool
goes_on bs = slice_index bs (line_end bs + 1) == 10 && not (begins (next_line bs))

-- what stands behind the first line, where something may
abbrev pub next_of : List ℕ → Option (List ℕ)
next_of bs = cond (goes_on bs) (Some (next_line bs)) None

-- one to count lines
abbrev pub lines : ℕ → ℕ → List ℕ → Bool
lines zero width bs = false
lines (suc count) width bs = is_line width (first_line bs) && (line_end bs == length bs || (goes_on bs && lines count width (next_line bs)))

-- the value, a reference or an account, is the content
abbrev pub lines_of : ℕ → ℕ → List ℕ → Option (List ℕ)
lines_of count width bs = cond (lines count width bs) (Some bs) None

abbrev pub lines_format : ℕ → ℕ → Format (Option (List ℕ))
lines_format count width = as_it_stands (lines count width) (lines_of count width)
