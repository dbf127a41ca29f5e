-- Runs of calls on a book, and the keys of its entries.
use Rattle.std.specs.Prelude.{◌≡◌, ℕ, Bool, true, not, ◌&&◌, List, [], ◌∷◌}
use Rattle.books.specs.declared.book.Entry.{Entry}
use Rattle.books.specs.declared.calls.Call.{Call}
use Rattle.books.specs.declared.calls.Call.TheVariants.{Put, Remove}
use Rattle.books.specs.Lists.{has, put_list, without, at}

module _ {K R : Type 0} (says : K → List ℕ) where
  -- the lists that a call leaves
  abbrev pub left : (ℕ → ℕ) → Call K R → (ℕ → List (Entry K R)) → ℕ → List (Entry K R)
  left rooms (Put a k r) lists = at a (put_list says (rooms a) (lists a) k r) lists
  left rooms (Remove a k) lists = at a (without says (lists a) k) lists

  -- and those that a run of calls leaves, the first call first
  abbrev pub left_by : (ℕ → ℕ) → List (Call K R) → (ℕ → List (Entry K R)) → ℕ → List (Entry K R)
  left_by rooms [] lists = lists
  left_by rooms (c ∷ cs) lists = left_by rooms cs (left rooms c lists)

  -- no two entries have equal keys
  abbrev pub apart : List (Entry K R) → Bool
  apart [] = true
  apart (e ∷ es) = not (has says es e.key) && apart es

  -- of any account
  abbrev pub AllApart : (ℕ → List (Entry K R)) → Type 0
  AllApart lists = (a : ℕ) → apart (lists a) ≡ true
