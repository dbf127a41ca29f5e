-- Tags: two digits and perhaps a capital, between colons.
use Rattle.std.specs.Prelude.{ℕ, cond, ◌&&◌, List, Some, None, Option, ◌==◌, slice_index}
use Rattle.mt_text.specs.Classes.{digit, capital}
use Rattle.fields.specs.declared.tags.Tag.{Tag}

-- the tag at the front: ':' (58), two digits, at most one capital, ':'
abbrev pub tag_at : List ℕ → Option Tag
tag_at bs =
    cond (slice_index bs 0 == 58 && (digit (slice_index bs 1) && digit (slice_index bs 2)))
    (cond (slice_index bs 3 == 58) (Some (record { tens = slice_index bs 1; units = slice_index bs 2; letter = None }))
    (cond (capital (slice_index bs 3) && slice_index bs 4 == 58) (Some (record { tens = slice_index bs 1; units = slice_index bs 2; letter = Some (slice_index bs 3) }))
    None))
    None

-- how many bytes a tag takes with its two colons
abbrev pub letter_width : Option ℕ → ℕ
letter_width None = 4
letter_width (Some c) = 5

abbrev pub width : Tag → ℕ
width t = letter_width t.letter
