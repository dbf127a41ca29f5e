-- Block 5, the trailer: {5:{CHK: 12!h }}
use Rattle.std.specs.Prelude.{ℕ, Bool, ◌&&◌, List, length, codes, ◌==◌, slice_index}
use Rattle.mt_text.specs.Classes.{hex, every}
use Rattle.headers.specs.Parts.{cut, starts}

-- its 22 bytes: opening, checksum 12!h, two '}' (125)
abbrev pub is_trailer : List ℕ → Bool
is_trailer bs =
    (length bs == 22)
    && (starts (codes "{5:{CHK:") bs
    && (every hex (cut 8 20 bs)
    && (slice_index bs 20 == 125
    && slice_index bs 21 == 125)))
