-- A gap that is closed by moving what follows one place down.
use Rattle.std.proofs.Common.{◌≡◌, ℕ, suc, ◌+◌, ◌-◌, ◌<◌, ◌≤◌, List, [], ◌∷◌, ◌++◌, length, take, drop, sym, refl, ap, ◌∙◌, append_assoc, arith}
use Rattle.std.proofs.lemmas.Grind.{common_steps}
use lib.Seq.{paste}
use Rattle.std.proofs.lemmas.List.Edits.{drop-paste, take-paste}
use Rattle.std.proofs.lemmas.List.{length-drop, length-take-le, drop-take, take-take, drop-drop, drop-append-le}
use Rattle.std.proofs.lemmas.Bool.Decides.{nat_tests}
use Rattle.books.specs.declared.book.Entry.{Entry}
use Rattle.books.specs.Lists.{place_of, without}

-- the cells, the n that follow the gap moved one place down
abbrev pub closed : {X : Type 0} → List X → ℕ → ℕ → List X
closed cells gap n = paste cells gap (drop (gap + 1) cells) n

right : {X : Type 0} (d s : List X) (at n : ℕ) → paste d at s n ≡ take at d ++ (take n s ++ drop (at + n) d)
right d s at n = simp append_assoc

module _ {X : Type 0} (xs : List X) (gap : ℕ) where
  -- what lies below the gap, and past what was moved, is as it was
  pub closed_before : (m n : ℕ) → m ≤ gap → gap ≤ length xs → take m (closed xs gap n) ≡ take m xs
  closed_before m n h l = grind (arith, common_steps)

  pub closed_after : (m n : ℕ) → gap + n ≤ m → gap + n < length xs → drop m (closed xs gap n) ≡ drop m xs
  closed_after m n h l =
      let f : (gap + n) + (m - (gap + n)) ≡ m = omega arith in
      let le : n ≤ length (drop (gap + 1) xs) = simp length-drop (omega arith) in
      let moved = drop-paste xs gap (drop (gap + 1) xs) n (omega arith) le in
      let t = drop-drop (m - (gap + n)) (gap + n) (closed xs gap n) in
      let u = drop-drop (m - (gap + n)) (gap + n) xs in
      cc

nest : (a b c : ℕ) → a + b + c ≡ a + (b + c)
nest a b c = omega arith

-- a row of len from `from` on, whose entry p is taken out
pub closed_row : {X : Type 0} (xs : List X) (from p n len : ℕ) → p + n + 1 ≡ len → from + len ≤ length xs
    → take (len - 1) (drop from (closed xs (from + p) n)) ≡ take p (take len (drop from xs)) ++ drop (suc p) (take len (drop from xs))
closed_row xs from p n len el h =
    let tail = drop (from + p + 1) xs in
    let z = drop from xs in
    let lz : length z ≡ length xs - from = length-drop from xs in
    let lt : length tail ≡ length xs - (from + p + 1) = length-drop (from + p + 1) xs in
    let lp = length-take-le (from + p) xs (omega arith) in
    let split : drop from (closed xs (from + p) n) ≡ paste z p tail n =
    ap (drop from) (right xs tail (from + p) n) ∙ drop-append-le from (take (from + p) xs) (take n tail ++ drop (from + p + n) xs) (omega arith)
    ∙ ap (λ l. l ++ (take n tail ++ drop (from + p + n) xs)) (drop-take from p xs)
    ∙ ap (λ l. take p z ++ (take n tail ++ l)) (ap (λ k. drop k xs) (nest from p n) ∙ sym (drop-drop (p + n) from xs)) ∙ sym (right z tail p n) in
    let k : len - 1 ≡ p + n = omega arith in
    let k2 : suc p + n ≡ len = omega arith in
    let k3 : from + p + 1 ≡ from + suc p = omega arith in
    ap (take (len - 1)) split ∙ ap (λ m. take m (paste z p tail n)) k ∙ take-paste z p tail n (omega arith) (omega arith)
    ∙ ap (λ l. l ++ take n tail) (sym (take-take p len z (omega arith)))
    ∙ ap (λ l. take p (take len z) ++ l) (ap (take n) (ap (λ m. drop m xs) k3 ∙ sym (drop-drop (suc p) from xs)) ∙ sym (drop-take (suc p) n z) ∙ ap (λ m. drop (suc p) (take m z)) k2)

module _ {K R : Type 0} (says : K → List ℕ) where
  pub without_at : (es : List (Entry K R)) (k : K) → place_of says es k < length es → without says es k ≡ take (place_of says es k) es ++ drop (suc (place_of says es k)) es
  without_at [] k h = absurd (omega arith)
  without_at (e ∷ es) k h = let ih = without_at es k in grind (arith, common_steps, nat_tests)

  pub without_none : (es : List (Entry K R)) (k : K) → length es ≤ place_of says es k → without says es k ≡ es
  without_none [] k h = refl
  without_none (e ∷ es) k h = let ih = without_none es k in grind (arith, common_steps, nat_tests)
