-- One step of the loops over digits, in the loops' own words.
use Rattle.std.proofs.Common.{◌≡◌, ℕ, zero, suc, min, ◌+◌, ◌-◌, ◌*◌, ◌^◌, ◌<◌, ◌≤◌, Bool, true, false, cond, ◌&&◌, eqb, ltb, List, [], ◌∷◌, ◌++◌, length, get_or, take, drop, Some, None, Option, sym, refl, ap, ◌∙◌, subst, arith}
use native.Mathlib.Nat.{pow-le-pow_right}
use Rattle.std.proofs.lemmas.Nat.{pow-add}
use Rattle.std.proofs.lemmas.List.{take_more, take_all}
use Rattle.std.specs.List.{prefix_len, suffix_len, position_or_len}
use Rattle.std.proofs.lemmas.List.Recursion.{is_position_or_len}
use Rattle.std.proofs.lemmas.List.Sums.{suffix_len-take_yes, suffix_len-take_no}
use Rattle.std.proofs.lemmas.Bool.Decides.{nat_tests}
use Rattle.mt_text.specs.Classes.{digit, every}
use Rattle.contents.specs.Digits.{number_after, place}
use Rattle.contents.specs.Amounts.{without_leading, without_trailing}

-- ---- where a byte stands

pub place_is_position : (b : ℕ) (bs : List ℕ) → place b bs ≡ position_or_len (λ c. eqb c b) bs
place_is_position b bs = is_position_or_len (place b) (λ c. eqb c b) refl (λ c cs. ap (cond (eqb c b) 0) (omega arith)) bs

-- ---- the number of some digits

-- the number that the digits write behind those that write n, if they are digits
abbrev pub reads : ℕ → List ℕ → Option ℕ
reads n ds = cond (every digit ds) (Some (number_after n ds)) None

-- i digits write a number below 10 ^ i, and nineteen of them one that 64 bits hold
pub below_more : (n i d : ℕ) → n < 10 ^ i → d ≤ 9 → n * 10 + d < 10 ^ (i + 1)
below_more n i d h k = let e : 10 ^ (i + 1) ≡ 10 ^ i * 10 = pow-add 10 i 1 in omega arith

pub below_limit : (n i d : ℕ) → n < 10 ^ i → i < 19 → d ≤ 9 → n * 10 + d < 10 ^ 19
below_limit n i d h k l =
    let p : 10 ^ (i + 1) ≤ 10 ^ 19 = (let q : i + 1 ≤ 19 = omega arith in pow-le-pow_right (omega arith) q) in
    omega (arith, below_more n i d h l)

-- ---- zeros in front and at the end

one_more : (t : Bool) (k l : ℕ) (d : ℕ) (es : List ℕ) → cond t (drop (min k l) es) (d ∷ es) ≡ drop (min (cond t (1 + k) 0) (suc l)) (d ∷ es)
one_more true k l d es = let e : suc (min k l) ≡ min (1 + k) (suc l) = omega arith in ap (λ m. drop m (d ∷ es)) e
one_more false k l d es = let e : 0 ≡ min 0 (suc l) = omega arith in ap (λ m. drop m (d ∷ es)) e

-- the digits that are left begin behind the zeros, or at the last digit
pub leading_is_drop : (ds : List ℕ) → without_leading ds ≡ drop (min (prefix_len (λ d. eqb d 48) ds) (length ds - 1)) ds
leading_is_drop [] = refl
leading_is_drop (d ∷ []) = grind (arith, nat_tests)
leading_is_drop (d ∷ e ∷ ds) =
    let step = one_more (eqb d 48) (prefix_len (λ x. eqb x 48) (e ∷ ds)) (length ds) d (e ∷ ds) in
    let ih : without_leading (e ∷ ds) ≡ drop (min (prefix_len (λ x. eqb x 48) (e ∷ ds)) (length ds)) (e ∷ ds) = leading_is_drop (e ∷ ds) ∙ ap (λ m. drop (min (prefix_len (λ x. eqb x 48) (e ∷ ds)) m) (e ∷ ds)) (omega arith) in
    let last : suc (suc (length ds)) - 1 ≡ suc (length ds) = omega arith in
    let some : ltb 0 (suc (length ds)) ≡ true = grind (arith, nat_tests) in
    let go : (eqb d 48 && ltb 0 (suc (length ds))) ≡ eqb d 48 = grind (arith, nat_tests) in
    ap (λ t. cond t (without_leading (e ∷ ds)) (d ∷ e ∷ ds)) go ∙ ap (λ xs. cond (eqb d 48) xs (d ∷ e ∷ ds)) ih ∙ step ∙ ap (λ m. drop (min (prefix_len (λ x. eqb x 48) (d ∷ e ∷ ds)) m) (d ∷ e ∷ ds)) (sym last)

every_push : (test : ℕ → Bool) (ds : List ℕ) (d : ℕ) → every test (ds ++ d ∷ []) ≡ (every test ds && test d)
every_push test [] d = both (test d)
  where
    both : (b : Bool) → (b && true) ≡ b
    both true = refl
    both false = refl
every_push test (e ∷ ds) d = ap (λ b. test e && b) (every_push test ds d) ∙ sym (assoc (test e) (every test ds) (test d))
  where
    assoc : (x y z : Bool) → ((x && y) && z) ≡ (x && (y && z))
    assoc true y z = refl
    assoc false y z = refl

-- a zero at the end goes, another digit stays with all before it
pub trailing_zero : (ds : List ℕ) → without_trailing (ds ++ 48 ∷ []) ≡ without_trailing ds
trailing_zero [] = refl
trailing_zero (d ∷ ds) = let e = every_push (eqb 48) ds 48 in let ih = trailing_zero ds in grind (arith, nat_tests)

pub trailing_other : (ds : List ℕ) (d : ℕ) → eqb 48 d ≡ false → without_trailing (ds ++ d ∷ []) ≡ ds ++ d ∷ []
trailing_other [] d h = grind (arith, nat_tests)
trailing_other (e ∷ ds) d h = let p = every_push (eqb 48) ds d in let ih = trailing_other ds d h in grind (arith, nat_tests)

-- the last of the first n digits
take_last : (ds : List ℕ) (n : ℕ) → n < length ds → take (n + 1) ds ≡ take n ds ++ get_or ds n 0 ∷ []
take_last ds n h = take_more ds n 0 h

trailing_step : (ds : List ℕ) (n : ℕ) (t : Bool) → n < length ds → eqb (get_or ds n 0) 48 ≡ t → without_trailing (take n ds) ≡ take (n - suffix_len (λ d. eqb d 48) (take n ds)) ds → without_trailing (take (n + 1) ds) ≡ take ((n + 1) - suffix_len (λ d. eqb d 48) (take (n + 1) ds)) ds
trailing_step ds n true h e ih =
    let zero_here : get_or ds n 0 ≡ 48 = grind (arith, nat_tests) in
    let back : (n + 1) - 1 ≡ n = omega arith in
    let one : suffix_len (λ d. eqb d 48) (take (n + 1) ds) ≡ 1 + suffix_len (λ d. eqb d 48) (take n ds) = subst (λ m. suffix_len (λ d. eqb d 48) (take (n + 1) ds) ≡ 1 + suffix_len (λ d. eqb d 48) (take m ds)) back (suffix_len-take_yes (λ d. eqb d 48) ds (n + 1) 0 (omega arith) (omega arith) (subst (λ m. eqb (get_or ds m 0) 48 ≡ true) (sym back) e)) in
    ap without_trailing (take_last ds n h ∙ ap (λ d. take n ds ++ d ∷ []) zero_here) ∙ trailing_zero (take n ds) ∙ ih ∙ ap (λ m. take m ds) (omega arith)
trailing_step ds n false h e ih =
    let other : eqb 48 (get_or ds n 0) ≡ false = grind (arith, nat_tests) in
    let back : (n + 1) - 1 ≡ n = omega arith in
    let none : suffix_len (λ d. eqb d 48) (take (n + 1) ds) ≡ 0 = suffix_len-take_no (λ d. eqb d 48) ds (n + 1) 0 (omega arith) (omega arith) (subst (λ m. eqb (get_or ds m 0) 48 ≡ false) (sym back) e) in
    let last = take_last ds n h in
    ap without_trailing last ∙ trailing_other (take n ds) (get_or ds n 0) other ∙ sym last ∙ ap (λ m. take m ds) (omega arith)

-- the digits that are left end before the zeros at the end
trailing_of_front : (ds : List ℕ) (n : ℕ) → n ≤ length ds → without_trailing (take n ds) ≡ take (n - suffix_len (λ d. eqb d 48) (take n ds)) ds
trailing_of_front ds zero h = refl
trailing_of_front ds (suc n) h =
    let e : n + 1 ≡ suc n = omega arith in
    subst (λ m. without_trailing (take m ds) ≡ take (m - suffix_len (λ d. eqb d 48) (take m ds)) ds) e (trailing_step ds n (eqb (get_or ds n 0) 48) (omega arith) refl (trailing_of_front ds n (omega arith)))

pub trailing_is_take : (ds : List ℕ) → without_trailing ds ≡ take (length ds - suffix_len (λ d. eqb d 48) ds) ds
trailing_is_take ds = let all = take_all (length ds) ds (omega arith) in subst (λ es. without_trailing es ≡ take (length ds - suffix_len (λ d. eqb d 48) es) ds) all (trailing_of_front ds (length ds) (omega arith))
