-- The classes of bytes, most of which the formats name by one letter. A byte is its number, 0 to 255.
use Rattle.std.specs.Prelude.{ℕ, Bool, true, false, ◌&&◌, ◌||◌, List, [], ◌∷◌, codes, ◌==◌, nat_le}
use Rattle.mt_text.specs.declared.classes.Class.{Class}
use Rattle.mt_text.specs.declared.classes.Class.TheVariants.{Digit, Capital, Alphanumeric, Hex, Printable, LetterOrDigit}

-- from the one number to the other, both included
abbrev pub between : ℕ → ℕ → ℕ → Bool
between low high b = nat_le low b && nat_le b high

-- one of the numbers listed
abbrev pub among : List ℕ → ℕ → Bool
among [] b = false
among (c ∷ cs) b = b == c || among cs b

-- the test holds of each byte
abbrev pub every : (ℕ → Bool) → List ℕ → Bool
every test [] = true
every test (b ∷ bs) = test b && every test bs

-- n: 0 to 9
abbrev pub digit : ℕ → Bool
digit = between 48 57

-- a: A to Z
abbrev pub capital : ℕ → Bool
capital = between 65 90

-- a to z
abbrev pub small : ℕ → Bool
small = between 97 122

-- c: a capital or a digit
abbrev pub alphanumeric : ℕ → Bool
alphanumeric b = capital b || digit b

-- h: a digit or A to F
abbrev pub hex : ℕ → Bool
hex b = digit b || between 65 70 b

-- x: a letter, a digit, a space or one of the signs
abbrev pub printable : ℕ → Bool
printable b = capital b || (small b || (digit b || among (codes " /-?:().,'+") b))

-- a letter, capital or small, or a digit
abbrev pub letter_or_digit : ℕ → Bool
letter_or_digit b = capital b || (small b || digit b)

-- each class by its name
abbrev pub holds : Class → ℕ → Bool
holds Digit = digit
holds Capital = capital
holds Alphanumeric = alphanumeric
holds Hex = hex
holds Printable = printable
holds LetterOrDigit = letter_or_digit

-- what a text may hold at all: x, CR, LF and the braces
abbrev pub carried : ℕ → Bool
carried b = printable b || among (13 ∷ 10 ∷ 123 ∷ 125 ∷ []) b
