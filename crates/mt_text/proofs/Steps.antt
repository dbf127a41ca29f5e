-- The definitions that recurse over the bytes of a text, one step further or in the library's words.
use Rattle.std.proofs.Common.{◌≡◌, ℕ, ◌+◌, ◌<◌, ◌≤◌, Bool, cond, ◌&&◌, List, length, get_or, drop, Ok, refl}
use Rattle.std.specs.List.{list_all}
use Rattle.std.proofs.lemmas.List.{at_drop_more, at_drop_all}
use Rattle.std.proofs.lemmas.List.Recursion.{same_from_clauses}
use Rattle.mt_text.specs.Classes.{every, carried}
use Rattle.mt_text.specs.Refusals.{refused_at}
use Rattle.mt_text.specs.Bytes.{foreign_from}

pub every_is_all : (test : ℕ → Bool) (bs : List ℕ) → every test bs ≡ list_all test bs
every_is_all test bs = same_from_clauses (every test) (list_all test) (λ b r. test b && r) refl (λ _ _. refl) (λ _ _. refl) bs

pub foreign_more : (text : List ℕ) (i : ℕ) → i < length text → foreign_from i (drop i text) ≡ cond (carried (get_or text i 0)) (foreign_from (i + 1) (drop (i + 1) text)) (refused_at 2 i)
foreign_more text i h = at_drop_more (foreign_from i) text i 0 h

pub foreign_all : (text : List ℕ) (i : ℕ) → length text ≤ i → foreign_from i (drop i text) ≡ Ok tt
foreign_all text i h = at_drop_all (foreign_from i) text i h
