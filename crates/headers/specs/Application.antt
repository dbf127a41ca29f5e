-- Block 2, the application header: of an input text {2:I type address priority },
-- of an output text {2:O type time date address session sequence date time priority }.
use Rattle.std.specs.Prelude.{ℕ, Bool, cond, ◌&&◌, List, length, take, is_some, Some, None, codes, Option, ◌==◌, slice_index}
use Rattle.mt_text.specs.Classes.{digit, among, every}
use Rattle.contents.specs.Digits.{number}
use Rattle.contents.specs.Dates.{date_of}
use Rattle.contents.specs.Times.{time_of}
use Rattle.headers.specs.declared.application.Application.{Application}
use Rattle.headers.specs.declared.application.Direction.{Direction}
use Rattle.headers.specs.declared.application.Direction.TheVariants.{Input, Output}
use Rattle.headers.specs.Parts.{cut, starts}
use Rattle.headers.specs.Basic.{is_address, is_sender}

-- how a direction is printed
abbrev pub direction_word : Direction → List ℕ
direction_word Input = codes "input"
direction_word Output = codes "output"

-- the end of a block 2: a priority, which is S, U or N, and '}' (125)
abbrev pub is_end : List ℕ → Bool
is_end bs = among (codes "SUN") (slice_index bs 0) && slice_index bs 1 == 125

-- input, its 21 bytes: opening, type 3!n, address, priority, '}' (125)
abbrev pub is_input : List ℕ → Bool
is_input bs = length bs == 21 && (starts (codes "{2:I") bs && (every digit (cut 4 7 bs) && (is_address (cut 7 19 bs) && is_end (cut 19 21 bs))))

-- a day, and a time of day
unfoldable pub is_date : List ℕ → Bool
is_date bs = is_some (date_of bs)

unfoldable pub is_time : List ℕ → Bool
is_time bs = is_some (time_of bs)

-- where an output text came from: time, date, sender, date, time
abbrev pub is_origin : List ℕ → Bool
is_origin bs = length bs == 42 && (is_time (cut 0 4 bs) && (is_date (cut 4 10 bs) && (is_sender (cut 10 32 bs) && (is_date (cut 32 38 bs) && is_time (cut 38 42 bs)))))

-- output, its 51 bytes: opening, type 3!n, origin, priority, '}'
abbrev pub is_output : List ℕ → Bool
is_output bs = length bs == 51 && (starts (codes "{2:O") bs && (every digit (cut 4 7 bs) && (is_origin (cut 7 49 bs) && is_end (cut 49 51 bs))))

-- the type of the message: three digits in both directions
abbrev pub type_of : List ℕ → ℕ
type_of bs = number (cut 4 7 bs)

-- what stands at the front of the bytes behind block 1, if it is a block 2
abbrev pub application_of : List ℕ → Option Application
application_of bs =
    cond (is_input (take 21 bs)) (Some (record { direction = Input; message_type = type_of (take 21 bs); width = 21 }))
    (cond (is_output (take 51 bs)) (Some (record { direction = Output; message_type = type_of (take 51 bs); width = 51 }))
    None)
