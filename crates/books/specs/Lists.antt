-- One account's list of entries, and what look-up, put and removal make of it.
use Rattle.std.specs.Prelude.{ℕ, zero, suc, Bool, cond, List, [], ◌∷◌, ◌++◌, length, Some, None, Ok, Option, Result, ◌==◌, nat_lt, slice_set}
use Rattle.mt_text.specs.Refusals.{Refusal, refused}
use Rattle.books.specs.declared.book.Entry.{Entry}
use Rattle.books.specs.Keys.{alike}

-- over keys that say something and records of any kind
module _ {K R : Type 0} (says : K → List ℕ) where
  -- the place of a key, or the length where it is absent
  abbrev pub place_of : List (Entry K R) → K → ℕ
  place_of [] k = 0
  place_of (e ∷ es) k = cond (alike (says e.key) (says k)) 0 (suc (place_of es k))

  -- the record under a key
  abbrev pub found : List (Entry K R) → K → Option R
  found [] k = None
  found (e ∷ es) k = cond (alike (says e.key) (says k)) (Some e.record) (found es k)

  -- whether the key is there
  abbrev pub has : List (Entry K R) → K → Bool
  has es k = nat_lt (place_of es k) (length es)

  -- what a put answers, under this room: 17 where the key is new and the room full
  abbrev pub put_answer : ℕ → List (Entry K R) → K → Result (Unit {0}) Refusal
  put_answer room es k = cond (has es k) (Ok tt) (cond (nat_lt (length es) room) (Ok tt) (refused 17))

  -- what it leaves: the new entry in the place of the key's, or at the end, or all as it was
  abbrev pub put_list : ℕ → List (Entry K R) → K → R → List (Entry K R)
  put_list room es k r =
      cond (has es k)
      (slice_set es (place_of es k) (record { key = k; «record» = r }))
      (cond (nat_lt (length es) room) (es ++ (record { key = k; «record» = r }) ∷ []) es)

  -- what a removal leaves
  abbrev pub without : List (Entry K R) → K → List (Entry K R)
  without [] k = []
  without (e ∷ es) k = cond (alike (says e.key) (says k)) es (e ∷ without es k)

-- the entry at a place, counted from 0
abbrev pub entry_at : {X : Type 0} → List X → ℕ → Option X
entry_at [] n = None
entry_at (x ∷ xs) zero = Some x
entry_at (x ∷ xs) (suc n) = entry_at xs n

-- all lists as they were, but for that of account a
abbrev pub at : {X : Type 0} → ℕ → X → (ℕ → X) → ℕ → X
at a x lists b = cond (b == a) x (lists b)
