-- The opening and the signed lines of a text, added up.
use Rattle.std.specs.Prelude.{◌+ℤ◌, IfSome, FitsSigned}
use Rattle.std.specs.Int.{w64}
use Rattle.reader.specs.Values.{Told}

-- the opening and the signed lines add up within 64 bits
abbrev pub AddsUp : Told → Type 0
AddsUp v = IfSome v.opening (λ o. FitsSigned w64 (o.hundredths +ℤ v.lines))
