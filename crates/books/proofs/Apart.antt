-- Every call keeps the keys of each account's entries different.
use Rattle.std.proofs.Common.{◌≡◌, ℕ, suc, Bool, true, false, cond, ◌||◌, List, [], ◌∷◌, ◌++◌, set, sym, refl, ap, ◌∙◌, arith}
use Rattle.std.proofs.lemmas.Grind.{common_steps}
use Rattle.std.proofs.lemmas.Bool.Decides.{nat_tests}
use Rattle.books.specs.declared.book.Entry.{Entry}
use Rattle.books.specs.declared.calls.Call.{Call}
use Rattle.books.specs.declared.calls.Call.TheVariants.{Put, Remove}
use Rattle.books.specs.Keys.{alike}
use Rattle.books.specs.Lists.{place_of, has, put_list, without, at}
use Rattle.books.specs.Calls.{left, left_by, apart, AllApart}
use Rattle.books.proofs.Packing.{alike_same, alike_flip}

module _ {K R : Type 0} (says : K → List ℕ) where
  has_cons : (e : Entry K R) (es : List (Entry K R)) (k : K) → has says (e ∷ es) k ≡ (alike (says e.key) (says k) || has says es k)
  has_cons e es k = grind (arith, common_steps)

  -- keys that say the same are had alike
  has_same : (es : List (Entry K R)) (k q : K) → says k ≡ says q → has says es k ≡ has says es q
  has_same [] k q e = refl
  has_same (x ∷ es) k q e = let ih = has_same es k q e in grind (arith, common_steps, nat_tests, has_cons)

  -- ---- a record replaced in its place

  set_cons : (x v : Entry K R) (es : List (Entry K R)) (n : ℕ) (t : Bool) → set (x ∷ es) (cond t 0 (suc n)) v ≡ cond t (v ∷ es) (x ∷ set es n v)
  set_cons x v es n true = refl
  set_cons x v es n false = refl

  has_set : (es : List (Entry K R)) (v : Entry K R) (q : K) → has says (set es (place_of says es v.key) v) q ≡ has says es q
  has_set [] v q = refl
  has_set (x ∷ es) v q = ap (λ l. has says l q) (set_cons x v es (place_of says es v.key) (alike (says x.key) (says v.key))) ∙ by (has_set es v q) (alike (says x.key) (says v.key)) refl
    where
      by : has says (set es (place_of says es v.key) v) q ≡ has says es q → (t : Bool) → alike (says x.key) (says v.key) ≡ t → has says (cond t (v ∷ es) (x ∷ set es (place_of says es v.key) v)) q ≡ has says (x ∷ es) q
      by more true e = has_cons v es q ∙ ap (λ l. alike l (says q) || has says es q) (sym (alike_same _ _ e)) ∙ sym (has_cons x es q)
      by more false e = has_cons x _ q ∙ ap (λ b. alike (says x.key) (says q) || b) more ∙ sym (has_cons x es q)

  apart_set : (es : List (Entry K R)) (v : Entry K R) → apart says es ≡ true → apart says (set es (place_of says es v.key) v) ≡ true
  apart_set [] v h = refl
  apart_set (x ∷ es) v h = let ih = apart_set es v in grind (arith, common_steps, nat_tests, has_same, has_set, set_cons, alike_same)

  -- ---- an entry more at the end

  has_push : (es : List (Entry K R)) (v : Entry K R) (q : K) → has says (es ++ v ∷ []) q ≡ (has says es q || alike (says v.key) (says q))
  has_push [] v q = grind (arith, common_steps, nat_tests, has_cons)
  has_push (x ∷ es) v q = let ih = has_push es v q in grind (arith, common_steps, nat_tests, has_cons)

  apart_push : (es : List (Entry K R)) (v : Entry K R) → has says es v.key ≡ false → apart says es ≡ true → apart says (es ++ v ∷ []) ≡ true
  apart_push [] v n h = refl
  apart_push (x ∷ es) v n h = let ih = apart_push es v in grind (arith, common_steps, nat_tests, has_cons, has_push, alike_flip)

  -- ---- an entry less

  lacks_without : (es : List (Entry K R)) (k q : K) → has says es q ≡ false → has says (without says es k) q ≡ false
  lacks_without [] k q h = h
  lacks_without (x ∷ es) k q h = let ih = lacks_without es k q in grind (arith, common_steps, nat_tests, has_cons)

  pub apart_without : (es : List (Entry K R)) (k : K) → apart says es ≡ true → apart says (without says es k) ≡ true
  apart_without [] k h = refl
  apart_without (x ∷ es) k h = let ih = apart_without es k in grind (arith, common_steps, nat_tests, has_cons, lacks_without)

  -- ---- calls

  pub apart_put : (room : ℕ) (es : List (Entry K R)) (k : K) (r : R) → apart says es ≡ true → apart says (put_list says room es k r) ≡ true
  apart_put room es k r h =
      let v : Entry K R = record { key = k; «record» = r } in
      grind (arith, common_steps, nat_tests, apart_set es v h, apart_push es v)

  at_apart : (a : ℕ) (es : List (Entry K R)) (lists : ℕ → List (Entry K R)) → apart says es ≡ true → AllApart says lists → AllApart says (at a es lists)
  at_apart a es lists h all b = grind (arith, common_steps)

  pub left_apart : (rooms : ℕ → ℕ) (c : Call K R) (lists : ℕ → List (Entry K R)) → AllApart says lists → AllApart says (left says rooms c lists)
  left_apart rooms (Put a k r) lists all = at_apart a _ lists (apart_put (rooms a) (lists a) k r (all a)) all
  left_apart rooms (Remove a k) lists all = at_apart a _ lists (apart_without (lists a) k (all a)) all

  pub left_by_apart : (rooms : ℕ → ℕ) (cs : List (Call K R)) (lists : ℕ → List (Entry K R)) → AllApart says lists → AllApart says (left_by says rooms cs lists)
  left_by_apart rooms [] lists all = all
  left_by_apart rooms (c ∷ cs) lists all = left_by_apart rooms cs (left says rooms c lists) (left_apart rooms c lists all)
