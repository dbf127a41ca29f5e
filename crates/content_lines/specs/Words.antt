-- Fixed words.
use Rattle.std.specs.Prelude.{ℕ, Bool, false, ◌||◌, List, [], ◌∷◌, codes}
use Rattle.std.specs.Str.{bytes_eq}
use Rattle.content_lines.specs.declared.words.Words.{Words}
use Rattle.content_lines.specs.declared.words.Words.TheVariants.{Credit, Charges}
use Rattle.content_lines.specs.Formats.{Format, as_it_stands}

-- the words of each list
abbrev pub words_of : Words → List (List ℕ)
words_of Credit = codes "CRED" ∷ []
words_of Charges = codes "BEN" ∷ codes "OUR" ∷ codes "SHA" ∷ []

-- one of the words listed
abbrev pub one_of : List (List ℕ) → List ℕ → Bool
one_of [] bs = false
one_of (word ∷ words) bs = bytes_eq bs word || one_of words bs

abbrev pub words_format : Words → Format (Unit {0})
words_format words = as_it_stands (one_of (words_of words)) (λ _. tt)
