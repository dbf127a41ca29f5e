-- References: 1 to 16 bytes of x, kept in two words and a length.
use Rattle.std.specs.Prelude.{ℕ, zero, suc, ◌+◌, ◌*◌, ◌/◌, ◌%◌, Bool, cond, ◌&&◌, List, [], ◌∷◌, ◌++◌, length, take, drop, Some, None, Option, ◌==◌}
use Rattle.mt_text.specs.Classes.{between, every, printable}
use Rattle.books.specs.declared.reference.Reference.{Reference}

-- the bytes that are a reference
abbrev pub is_reference : List ℕ → Bool
is_reference bs = between 1 16 (length bs) && every printable bs

-- the bytes, if they are a reference
abbrev pub if_reference : List ℕ → Option (List ℕ)
if_reference bs = cond (is_reference bs) (Some bs) None

-- a word holds bytes, the first in its lowest eight bits
abbrev pub word_of : List ℕ → ℕ
word_of [] = 0
word_of (b ∷ bs) = word_of bs * 256 + b

abbrev pub bytes_of : ℕ → ℕ → List ℕ
bytes_of zero word = []
bytes_of (suc n) word = (word % 256) ∷ bytes_of n (word / 256)

-- bytes as they are kept: eight in the first word, the rest in the second
unfoldable pub kept : List ℕ → Reference
kept bs = record { first = word_of (take 8 bs); second = word_of (drop 8 bs); len = length bs }

abbrev pub reference_of : List ℕ → Option Reference
reference_of bs = cond (is_reference bs) (Some (kept bs)) None

-- the bytes that it holds
unfoldable pub spelled : Reference → List ℕ
spelled r = take r.len (bytes_of 8 r.first ++ bytes_of 8 r.second)

-- whether it is its bytes as they are kept; so of every one that can be made
unfoldable pub is_kept : Reference → Bool
is_kept r = r.first == word_of (take 8 (spelled r)) && (r.second == word_of (drop 8 (spelled r)) && r.len == length (spelled r))

-- what a reference says: its bytes. Anything else, which cannot be made, would say its own parts
-- behind 256, which is no byte: so no two that differ say the same
unfoldable pub says_of : Reference → List ℕ
says_of r = cond (is_kept r) (spelled r) (256 ∷ r.first ∷ r.second ∷ r.len ∷ [])

-- what is told of a reference, if there is one
abbrev pub said : (Reference → List ℕ) → Option Reference → Option (List ℕ)
said tell None = None
said tell (Some r) = Some (tell r)
