-- Block 1, the basic header: {1:F01 sender }
use Rattle.std.specs.Prelude.{ℕ, Bool, ◌&&◌, List, length, codes, ◌==◌, slice_index}
use Rattle.mt_text.specs.Classes.{digit, capital, alphanumeric, every}
use Rattle.headers.specs.Parts.{cut, starts}

-- an address, 4!a2!a2!c1!c3!c: six capitals, then six capitals or digits
abbrev pub is_address : List ℕ → Bool
is_address bs = length bs == 12 && (every capital (cut 0 6 bs) && every alphanumeric (cut 6 12 bs))

-- a sender: address, session 4!n, sequence 6!n
abbrev pub is_sender : List ℕ → Bool
is_sender bs = length bs == 22 && (is_address (cut 0 12 bs) && (every digit (cut 12 16 bs) && every digit (cut 16 22 bs)))

-- its 29 bytes: opening, sender, '}' (125)
abbrev pub is_basic : List ℕ → Bool
is_basic bs = length bs == 29 && (starts (codes "{1:F01") bs && (is_sender (cut 6 28 bs) && slice_index bs 28 == 125))
