-- The escaped form of a byte: \r, \n, \\, \xNN, or the byte itself.
use Rattle.std.specs.Prelude.{ℕ, ◌+◌, ◌-◌, ◌*◌, ◌%◌, cond, Some, None, Option, ◌==◌}
use Rattle.mt_text.specs.Classes.{between}
use Rattle.layouts.specs.declared.escape.Escape.{Escape}
use Rattle.layouts.specs.declared.escape.Escape.TheVariants.{Out, Begun, Hex, Half, Broken}

-- what a hexadecimal digit is worth
abbrev pub hex_value : ℕ → Option ℕ
hex_value b =
    cond (between 48 57 b) (Some (b - 48))
    (cond (between 65 70 b) (Some (b - 65 + 10))
    (cond (between 97 102 b) (Some (b - 97 + 10))
    None))

abbrev pub first_digit : Option ℕ → Escape × Option ℕ
first_digit (Some h) = (Half h, None)
first_digit None = (Broken, None)

abbrev pub second_digit : ℕ → Option ℕ → Escape × Option ℕ
second_digit h (Some l) = (Out, Some ((h * 16 % 256 + l) % 256))
second_digit h None = (Broken, None)

-- one byte more: '\' is 92, 'r' 114, 'n' 110, 'x' 120
abbrev pub stepped : Escape → ℕ → Escape × Option ℕ
stepped Out b = cond (b == 92) (Begun, None) (Out, Some b)
stepped Begun b =
    cond (b == 114) (Out, Some 13)
    (cond (b == 110) (Out, Some 10)
    (cond (b == 92) (Out, Some 92)
    (cond (b == 120) (Hex, None)
    (Broken, None))))
stepped Hex b = first_digit (hex_value b)
stepped (Half h) b = second_digit h (hex_value b)
stepped Broken b = (Broken, None)
