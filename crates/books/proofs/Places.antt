-- What a search of a list finds.
use Rattle.std.proofs.Common.{◌≡◌, ℕ, suc, ◌+◌, Bool, true, false, cond, ltb, List, [], ◌∷◌, length, Some, None, sym, refl, ap, ◌∙◌, arith}
use Rattle.std.specs.List.{find, position}
use Rattle.std.specs.Option.{option_map}
use Rattle.std.proofs.lemmas.List.Recursion.{is_position_or_len}
use Rattle.std.proofs.lemmas.Grind.{common_steps}
use Rattle.books.specs.declared.book.Entry.{Entry}
use Rattle.books.specs.Keys.{alike}
use Rattle.books.specs.Lists.{place_of, found, has}

some_where : (b : Bool) (x p : ℕ) → Some p ≡ cond b (Some x) None → (b ≡ true) × (p ≡ x)
some_where true x p e = (refl, cc)
some_where false x p e = cc

none_where : (b : Bool) (x : ℕ) → None ≡ cond b (Some x) None → b ≡ false
none_where true x e = cc
none_where false x e = refl

count_on : (b : Bool) (n : ℕ) → cond b 0 (suc n) ≡ cond b 0 (1 + n)
count_on b n = ap (cond b 0) (omega arith)

module _ {K R : Type 0} (says : K → List ℕ) where
  -- whether an entry is the key's
  abbrev pub keyed : K → Entry K R → Bool
  keyed k e = alike (says e.key) (says k)

  -- the record under a key is that of the first entry that has it
  pub found_is : (es : List (Entry K R)) (k : K) → found says es k ≡ option_map (λ e. e.record) (find (keyed k) es)
  found_is [] k = refl
  found_is (e ∷ es) k = let ih = found_is es k in grind (arith, common_steps)

  -- what a search answers, in the words of the list
  answer_is : (es : List (Entry K R)) (k : K) → position (keyed k) es ≡ cond (has says es k) (Some (place_of says es k)) None
  answer_is es k = ap (λ n. cond (ltb n (length es)) (Some n) None) (sym (is_position_or_len (λ l. place_of says l k) (keyed k) refl (λ x xs. count_on (keyed k x) (place_of says xs k)) es))

  pub sought_some : (es : List (Entry K R)) (k : K) (p : ℕ) → Some p ≡ position (keyed k) es → (has says es k ≡ true) × (p ≡ place_of says es k)
  sought_some es k p e = some_where _ _ _ (e ∙ answer_is es k)

  pub sought_none : (es : List (Entry K R)) (k : K) → None ≡ position (keyed k) es → has says es k ≡ false
  sought_none es k e = none_where _ (place_of says es k) (e ∙ answer_is es k)
