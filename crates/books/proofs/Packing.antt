-- Bytes in words, and what references say.
use Rattle.std.specs.Prelude.{◌≡◌, ℕ, zero, suc, ◌+◌, ◌-◌, ◌*◌, ◌/◌, ◌%◌, ◌^◌, ◌<◌, ◌≤◌, min, Bool, ◌&&◌, true, false, List, [], ◌∷◌, ◌++◌, length, take, drop, Some, ◌==◌, slice_index, refl}
use Rattle.std.proofs.Common.{sym, ap, subst, ◌∙◌, inl, inr, arith, lit<}
use Rattle.std.proofs.Math.Nat.{pow-le-pow_right}
use Rattle.std.proofs.lemmas.Nat.{pow-add, shr-shr, div-mul-add, mod-mul-add}
use Rattle.std.proofs.lemmas.List.{at_drop_more, at_drop_all, take_all, drop_all}
use Rattle.std.proofs.lemmas.Bool.{cases_lt, and_parts, and_from, eqb-true, eq-eqb, cond-true}
use Rattle.std.proofs.lemmas.Bool.Decides.{nat_tests}
use Rattle.mt_text.specs.Classes.{every, printable}
use Rattle.books.specs.declared.reference.Reference.{Reference}
use Rattle.books.specs.Keys.{alike}
use Rattle.books.specs.KeyLaws.{tells_apart}
use Rattle.books.specs.References.{is_reference, word_of, bytes_of, kept, spelled, is_kept, says_of, reference_of, if_reference}

-- ---- rows of numbers

pub alike_self : (xs : List ℕ) → alike xs xs ≡ true
alike_self [] = refl
alike_self (x ∷ xs) = and_from (x == x) (alike xs xs) (eq-eqb x x refl) (alike_self xs)

pub alike_same : (xs ys : List ℕ) → alike xs ys ≡ true → xs ≡ ys
alike_same [] [] h = refl
alike_same [] (y ∷ ys) h = absurd (let z : ◌≡◌ {A = ℕ} 0 1 = cc in omega arith)
alike_same (x ∷ xs) [] h = absurd (let z : ◌≡◌ {A = ℕ} 0 1 = cc in omega arith)
alike_same (x ∷ xs) (y ∷ ys) h =
    let p = and_parts (x == y) (alike xs ys) h in
    let e = eqb-true x y p.0 in
    let f = alike_same xs ys p.1 in
    (λ i. e i ∷ f i)

-- tests that hold together are one
agree : (s t : Bool) → (s ≡ true → t ≡ true) → (t ≡ true → s ≡ true) → s ≡ t
agree true t f g = sym (f refl)
agree false true f g = g refl
agree false false f g = refl

pub alike_flip : (xs ys : List ℕ) → alike xs ys ≡ alike ys xs
alike_flip xs ys = agree _ _ (back xs ys) (back ys xs)
  where
    back : (xs ys : List ℕ) → alike xs ys ≡ true → alike ys xs ≡ true
    back xs ys h = ap (λ l. alike l xs) (sym (alike_same xs ys h)) ∙ alike_self xs

-- ---- bytes in a word

printable_byte : (b : ℕ) → printable b ≡ true → b < 256
printable_byte b h = grind (arith, nat_tests)

-- a byte more in the lowest place
module _ (w b : ℕ) (h : b < 256) where
  lowest : (w * 256 + b) % 256 ≡ b
  lowest = mod-mul-add w 256 b h

  higher : (w * 256 + b) / 256 ≡ w
  higher = div-mul-add w 256 b h

one_word : (m : ℕ) (bs : List ℕ) → every printable bs ≡ true → length bs ≤ m → take (length bs) (bytes_of m (word_of bs)) ≡ bs
one_word m [] h l = refl
one_word zero (b ∷ bs) h l = absurd (omega arith)
one_word (suc m) (b ∷ bs) h l =
    let p = and_parts (printable b) (every printable bs) h in
    let k = printable_byte b p.0 in
    (λ i. lowest (word_of bs) b k i ∷ take (length bs) (bytes_of m (higher (word_of bs) b k i)))
    ∙ ap (λ r. b ∷ r) (one_word m bs p.1 (omega arith))

-- bytes kept in two words come out again
two_words : (n m : ℕ) (bs : List ℕ) → every printable bs ≡ true → length bs ≤ n + m → take (length bs) (bytes_of n (word_of (take n bs)) ++ bytes_of m (word_of (drop n bs))) ≡ bs
two_words zero m bs h l = one_word m bs h (omega arith)
two_words (suc n) m [] h l = refl
two_words (suc n) m (b ∷ bs) h l =
    let p = and_parts (printable b) (every printable bs) h in
    let k = printable_byte b p.0 in
    (λ i. lowest (word_of (take n bs)) b k i ∷ take (length bs) (bytes_of n (higher (word_of (take n bs)) b k i) ++ bytes_of m (word_of (drop n bs))))
    ∙ ap (λ r. b ∷ r) (two_words n m bs p.1 (omega arith))

-- ---- references

module _ (bs : List ℕ) (h : is_reference bs ≡ true) where
  pub spelled_kept : spelled (kept bs) ≡ bs
  unfolding spelled kept
  spelled_kept =
      let p = and_parts _ (every printable bs) h in
      let q = p.0 in
      let l : length bs ≤ 8 + 8 = grind (arith, nat_tests) in
      two_words 8 8 bs p.1 l

  pub kept_is_kept : is_kept (kept bs) ≡ true
  unfolding is_kept kept
  kept_is_kept =
      let e = spelled_kept in
      and_from _ _ (eq-eqb _ _ (ap (λ l. word_of (take 8 l)) (sym e)))
      (and_from _ _ (eq-eqb _ _ (ap (λ l. word_of (drop 8 l)) (sym e))) (eq-eqb _ _ (ap length (sym e))))

  pub says_kept : says_of (kept bs) ≡ bs
  unfolding says_of
  says_kept = cond-true _ _ _ kept_is_kept ∙ spelled_kept

-- the comparison by fields is that of what is said
pub same_is : (a b : Reference) → (a.first == b.first && (a.second == b.second && a.len == b.len)) ≡ alike (says_of a) (says_of b)
same_is a b = agree _ _ there back
  where
    there : (a.first == b.first && (a.second == b.second && a.len == b.len)) ≡ true → alike (says_of a) (says_of b) ≡ true
    there h =
        let p = and_parts (a.first == b.first) (a.second == b.second && a.len == b.len) h in
        let q = and_parts (a.second == b.second) (a.len == b.len) p.1 in
        let e = eqb-true _ _ p.0 in
        let f = eqb-true _ _ q.0 in
        let g = eqb-true _ _ q.1 in
        let same : a ≡ b = λ i. record { first = e i; second = f i; len = g i } in
        ap (λ r. alike (says_of a) (says_of r)) (sym same) ∙ alike_self (says_of a)

    back : alike (says_of a) (says_of b) ≡ true → (a.first == b.first && (a.second == b.second && a.len == b.len)) ≡ true
    back h =
        let same = tells_apart a b (alike_same _ _ h) in
        and_from _ _ (eq-eqb _ _ (ap (λ r. r.first) same)) (and_from _ _ (eq-eqb _ _ (ap (λ r. r.second) same)) (eq-eqb _ _ (ap (λ r. r.len) same)))

-- ---- references cut into words, and out of them

-- cut behind the eighth byte, where there are so many
pub cut_at_eight : (bs : List ℕ) (cut : ℕ) → cut ≡ min (length bs) 8 → (take cut bs ≡ take 8 bs) × (drop cut bs ≡ drop 8 bs)
cut_at_eight bs cut e =
    elim (cases_lt (length bs) 8) [
      | inl h ↦ (take_all cut bs (omega arith) ∙ sym (take_all 8 bs (omega arith)), drop_all cut bs (omega arith) ∙ sym (drop_all 8 bs (omega arith)))
      | inr h ↦ (let n : cut ≡ 8 = omega arith in (ap (λ m. take m bs) n, ap (λ m. drop m bs) n))
    ]

pub kept_in_parts : (bs : List ℕ) (first second : ℕ) → first ≡ word_of (take 8 bs) → second ≡ word_of (drop 8 bs) → record { first = first; second = second; len = length bs } ≡ kept bs
unfolding kept
kept_in_parts bs first second p q = λ i. record { first = p i; second = q i; len = length bs }

pub spelled_cut : (r : Reference) (end : ℕ) → end ≡ min r.len 16 → take end (bytes_of 8 r.first ++ bytes_of 8 r.second) ≡ spelled r
unfolding spelled
spelled_cut r end e =
    elim (cases_lt r.len 16) [
      | inl h ↦ (let n : end ≡ r.len = omega arith in ap (λ m. take m (bytes_of 8 r.first ++ bytes_of 8 r.second)) n)
      | inr h ↦ take_all end (bytes_of 8 r.first ++ bytes_of 8 r.second) (omega arith) ∙ sym (take_all r.len (bytes_of 8 r.first ++ bytes_of 8 r.second) (omega arith))
    ]

-- what `read` answers: the reference of the bytes, which says and gives back just them
pub record ReadAnswer (bs : List ℕ) (r : Reference) : Type 0 where
  pub value : Some r ≡ reference_of bs
  pub says : Some (says_of r) ≡ if_reference bs
  pub gives : Some (spelled r) ≡ if_reference bs

pub read_of : (bs : List ℕ) (r : Reference) → is_reference bs ≡ true → r ≡ kept bs → ReadAnswer bs r
read_of bs r h e = record {
  value = ap Some e ∙ sym (cond-true _ _ _ h);
  says = ap (λ x. Some (says_of x)) e ∙ ap Some (says_kept bs h) ∙ sym (cond-true _ _ _ h);
  gives = ap (λ x. Some (spelled x)) e ∙ ap Some (spelled_kept bs h) ∙ sym (cond-true _ _ _ h);
}

-- ---- the steps of packing, from the last byte to the first

pub word_more : (bs : List ℕ) (i : ℕ) → i < length bs → word_of (drop i bs) ≡ word_of (drop (i + 1) bs) * 256 + slice_index bs i
word_more bs i h = at_drop_more word_of bs i 0 h

pub word_none : (bs : List ℕ) (i : ℕ) → length bs ≤ i → word_of (drop i bs) ≡ 0
word_none bs i h = at_drop_all word_of bs i h

pub none_packed : (bs : List ℕ) → (0 ≡ word_of (drop (length bs) bs)) × (0 < 256 ^ (length bs - length bs))
none_packed bs =
    let n : length bs - length bs ≡ 0 = omega arith in
    let P : ℕ → Type 0 = λ m. 0 < 256 ^ m in
    (sym (word_none bs (length bs) (omega arith)), subst P (sym n) (lit< tt))

pub below_more : (w k b : ℕ) → w < 256 ^ k → b < 256 → w * 256 + b < 256 ^ (k + 1)
below_more w k b h l = let e : 256 ^ (k + 1) ≡ 256 ^ k * 256 = pow-add 256 k 1 in omega arith

pub below_word : (w k b : ℕ) → w < 256 ^ k → k < 8 → b < 256 → w * 256 + b < 2 ^ 64
below_word w k b h l m =
    let p : 256 ^ (k + 1) ≤ 256 ^ 8 = (let q : k + 1 ≤ 8 = omega arith in pow-le-pow_right (omega arith) q) in
    omega (arith, below_more w k b h m)

-- the byte before those packed
pub packed_more : (bs : List ℕ) (i w b : ℕ) → 0 < i → i ≤ length bs → b ≡ slice_index bs (i - 1) → b < 256 → w ≡ word_of (drop i bs) → w < 256 ^ (length bs - i)
    → (w * 256 + b ≡ word_of (drop (i - 1) bs)) × (w * 256 + b < 256 ^ (length bs - (i - 1)))
packed_more bs i w b p l e k h m =
    let n : i - 1 + 1 ≡ i = omega arith in
    let t : length bs - i + 1 ≡ length bs - (i - 1) = omega arith in
    let P : ℕ → Type 0 = λ x. w * 256 + b < 256 ^ x in
    let v : w ≡ word_of (drop (i - 1 + 1) bs) = h ∙ ap (λ x. word_of (drop x bs)) (sym n) in
    ((λ j. v j * 256 + e j) ∙ sym (word_more bs (i - 1) (omega arith)), subst P t (below_more w (length bs - i) b m k))

-- a word's bytes by its quotients
pub bytes_by_quotients : (w : ℕ) → bytes_of 8 w ≡ (w % 256) ∷ (w / 256 % 256) ∷ (w / 65536 % 256) ∷ (w / 16777216 % 256) ∷ (w / 4294967296 % 256) ∷ (w / 1099511627776 % 256) ∷ (w / 281474976710656 % 256) ∷ (w / 72057594037927936 % 256) ∷ []
bytes_by_quotients w =
    let two = shr-shr w 8 8 in
    let three = ap (λ n. n / 256) two ∙ shr-shr w 16 8 in
    let four = ap (λ n. n / 256) three ∙ shr-shr w 24 8 in
    let five = ap (λ n. n / 256) four ∙ shr-shr w 32 8 in
    let six = ap (λ n. n / 256) five ∙ shr-shr w 40 8 in
    let seven = ap (λ n. n / 256) six ∙ shr-shr w 48 8 in
    (λ i. (w % 256) ∷ (w / 256 % 256) ∷ (two i % 256) ∷ (three i % 256) ∷ (four i % 256) ∷ (five i % 256) ∷ (six i % 256) ∷ (seven i % 256) ∷ [])
