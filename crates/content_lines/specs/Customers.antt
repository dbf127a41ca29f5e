-- Customers: [/34x CR LF]4*35x.
use Rattle.std.specs.Prelude.{ℕ, Bool, cond, ◌&&◌, List, drop, ◌==◌, slice_index}
use Rattle.content_lines.specs.Formats.{Format, as_it_stands}
use Rattle.content_lines.specs.Lines.{is_line, first_line, next_line, goes_on, lines}

-- behind the slash (47): an account, and then one to four lines
abbrev pub account_and_name : List ℕ → Bool
account_and_name bs = is_line 34 (first_line bs) && (goes_on bs && lines 4 35 (next_line bs))

-- a first line that begins with a slash is an account line
abbrev pub is_customer : List ℕ → Bool
is_customer bs = cond (slice_index bs 0 == 47) (account_and_name (drop 1 bs)) (lines 4 35 bs)

abbrev pub customer_format : Format (Unit {0})
customer_format = as_it_stands is_customer (λ _. tt)
