-- The two parts of an amount, and what digits are worth.
use Rattle.std.proofs.Common.{◌≡◌, ℕ, zero, suc, ◌+◌, ◌-◌, ◌*◌, ◌^◌, ◌<◌, ◌≤◌, Bool, true, false, cond, eqb, List, [], ◌∷◌, ◌++◌, length, get_or, take, drop, Some, None, sym, refl, ap, ◌∙◌, ⊎_elim, add-one, arith, rules}
use Rattle.std.proofs.lemmas.List.{take-append-drop, take_rest, drop_more, drop-append-le, length-drop, length-take-le}
use Rattle.std.proofs.lemmas.Str.Parse.{IsNumeralModel, numerals_by_fold, digits_value_short}
use Rattle.std.proofs.lemmas.Bool.{cases_Bool, and_parts, eqb-true}
use Rattle.std.proofs.lemmas.Bool.Decides.{nat_tests}
use Rattle.mt_text.specs.Classes.{digit, every}
use Rattle.contents.specs.Digits.{number_after, number, number_of, place}
use Rattle.contents.specs.Amounts.{comma, whole, decimals, comma_fits, is_amount, without_leading, without_trailing, normal, hundredths}

-- ---- a text cut at a byte

pub at_place : (b : ℕ) (bs : List ℕ) → place b bs < length bs → get_or bs (place b bs) 0 ≡ b
at_place b [] h = absurd (omega arith)
at_place b (c ∷ cs) h =
    ⊎_elim
    (λ e. ap (λ t. get_or (c ∷ cs) (cond t 0 (place b cs + 1)) 0) e ∙ eqb-true c b e)
    (λ e. ap (λ t. get_or (c ∷ cs) (cond t 0 (place b cs + 1)) 0) e ∙ ap (λ n. get_or (c ∷ cs) n 0) (add-one (place b cs)) ∙ at_place b cs (grind (arith, nat_tests)))
    (cases_Bool (eqb c b))

pub place_splits : (b : ℕ) (bs : List ℕ) → place b bs < length bs → take (place b bs) bs ++ b ∷ drop (place b bs + 1) bs ≡ bs
place_splits b bs h =
    ap (λ c. take (place b bs) bs ++ c ∷ drop (place b bs + 1) bs) (sym (at_place b bs h))
    ∙ ap (λ l. take (place b bs) bs ++ l) (sym (drop_more bs (place b bs) 0 h))
    ∙ take-append-drop (place b bs) bs

-- up to n elements behind the first list and one more
take_behind : (xs ys : List ℕ) (y n k : ℕ) → n ≡ length xs + 1 + k → take n (xs ++ y ∷ ys) ≡ xs ++ y ∷ take k ys
take_behind [] ys y n k e = let f : n ≡ suc k = omega arith in ap (λ m. take m (y ∷ ys)) f
take_behind (x ∷ xs) ys y n k e =
    let f : n ≡ suc (length xs + 1 + k) = omega arith in
    ap (λ m. take m (x ∷ xs ++ y ∷ ys)) f ∙ ap (λ l. x ∷ l) (take_behind xs ys y (length xs + 1 + k) k refl)

-- a part that begins before the comma and ends behind it
pub take_across : (xs ys : List ℕ) (y s k : ℕ) → s ≤ length xs → k ≤ length ys → take ((length xs + 1 + k) - s) (drop s (xs ++ y ∷ ys)) ≡ drop s xs ++ y ∷ take k ys
take_across xs ys y s k h l =
    ap (take ((length xs + 1 + k) - s)) (drop-append-le s xs (y ∷ ys) h)
    ∙ take_behind (drop s xs) ys y ((length xs + 1 + k) - s) k (omega (arith, length-drop s xs))

-- ---- what an amount is made of

pub record Parts (bs : List ℕ) : Type 0 where
  pub fits : comma_fits (length bs) (comma bs) ≡ true
  pub front : every digit (whole bs) ≡ true
  pub back : every digit (decimals bs) ≡ true
  pub split : whole bs ++ 44 ∷ decimals bs ≡ bs
  pub at : length (whole bs) ≡ comma bs
  pub behind : length (decimals bs) + (comma bs + 1) ≡ length bs
  pub some : 1 ≤ comma bs
  pub few : length (decimals bs) ≤ 2
  pub short : length bs ≤ 15

pub parts : (bs : List ℕ) → is_amount bs ≡ true → Parts bs
parts bs h =
    let p = and_parts (comma_fits (length bs) (comma bs)) _ h in
    let q = and_parts (every digit (whole bs)) (every digit (decimals bs)) p.1 in
    let f = p.0 in
    let lt : comma bs < length bs = grind (arith, nat_tests) in
    let l = length-drop (comma bs + 1) bs in
    record {
      fits = p.0;
      front = q.0;
      back = q.1;
      split = place_splits 44 bs lt;
      at = length-take-le (comma bs) bs (omega arith);
      behind = omega arith;
      some = grind (arith, nat_tests);
      few = grind (arith, nat_tests);
      short = grind (arith, nat_tests);
    }

-- what `comma_of` tells where it tells a place
pub told_comma : (bs : List ℕ) (k : ℕ) → Some k ≡ cond (is_amount bs) (Some (comma bs)) None → (is_amount bs ≡ true) × (k ≡ comma bs)
told_comma bs k h = by (is_amount bs) h
  where
    by : (b : Bool) → Some k ≡ cond b (Some (comma bs)) None → (b ≡ true) × (k ≡ comma bs)
    by true e = (refl, cc)
    by false e = absurd (grind arith)

-- the text's two parts, as the code cuts them
pub cut_whole : (bs : List ℕ) (k : ℕ) → k ≡ comma bs → take (k - 0) bs ≡ whole bs
cut_whole bs k e = let f : k - 0 ≡ comma bs = omega arith in ap (λ m. take m bs) f

pub cut_decimals : (bs : List ℕ) (k : ℕ) → k ≡ comma bs → take (length bs - (k + 1)) (drop (k + 1) bs) ≡ decimals bs
cut_decimals bs k e = take_rest bs (k + 1) ∙ ap (λ m. drop (m + 1) bs) e

-- the part of an amount without its needless zeros is its normal form
pub normal_part : (bs w d : List ℕ) (k s n : ℕ) → is_amount bs ≡ true → k ≡ comma bs → w ≡ whole bs → d ≡ decimals bs → s ≤ length w → drop s w ≡ without_leading w → n ≤ length d → take n d ≡ without_trailing d → take ((k + 1 + n) - s) (drop s bs) ≡ normal bs
normal_part bs w d k s n h ek ew ed ls es ln en =
    let p = parts bs h in
    let lw = ap length ew in
    let ld = ap length ed in
    let l : (k + 1 + n) - s ≡ (length (whole bs) + 1 + n) - s = omega (arith, p.at) in
    ap (λ m. take m (drop s bs)) l
    ∙ ap (λ t. take ((length (whole bs) + 1 + n) - s) (drop s t)) (sym p.split)
    ∙ take_across (whole bs) (decimals bs) 44 s n (omega arith) (omega arith)
    ∙ ap (λ t. drop s t ++ 44 ∷ take n (decimals bs)) (sym ew)
    ∙ ap (λ t. drop s w ++ 44 ∷ take n t) (sym ed)
    ∙ ap (λ t. t ++ 44 ∷ take n d) (es ∙ ap without_leading ew)
    ∙ ap (λ t. without_leading (whole bs) ++ 44 ∷ t) (en ∙ ap without_trailing ed)

-- ---- what digits are worth

pub own : IsNumeralModel (λ ds. every digit ds ≡ true) number
own = numerals_by_fold _ (search rules) number_after (search rules)

-- up to k digits write a number below 10 ^ k
pub digits_below : (ds : List ℕ) (k : ℕ) → every digit ds ≡ true → length ds ≤ k → number ds < 10 ^ k
digits_below ds k h l = digits_value_short own ds k h l

-- an amount's number in front is below 10 ^ 14, and what stands behind its comma is worth less than a unit
pub record Worth (bs : List ℕ) : Type 0 where
  pub whole_below : number (whole bs) < 10 ^ 14
  pub decimals_below : number (decimals bs) * 10 ^ (2 - length (decimals bs)) < 100

by_length : (n k : ℕ) → k ≤ 2 → n < 10 ^ k → n * 10 ^ (2 - k) < 100
by_length n zero l h = omega arith
by_length n (suc zero) l h = omega arith
by_length n (suc (suc zero)) l h = omega arith
by_length n (suc (suc (suc k))) l h = absurd (omega arith)

pub worth : (bs : List ℕ) → is_amount bs ≡ true → Worth bs
worth bs h =
    let p = parts bs h in
    record {
      whole_below = digits_below (whole bs) 14 p.front (omega (arith, p.at, p.behind, p.short));
      decimals_below = by_length _ (length (decimals bs)) p.few (digits_below (decimals bs) (length (decimals bs)) p.back (omega arith));
    }

-- the whole units, the decimals and what their last digit counts, as the code adds them up
pub record Sum (bs : List ℕ) (w d u : ℕ) : Type 0 where
  pub amount : is_amount bs ≡ true
  pub fits : w < 10 ^ 14
  pub small : d * u < 100
  pub is : w * 100 + d * u ≡ hundredths bs

read_part : (ds : List ℕ) → every digit ds ≡ true → length ds ≤ 19 → number_of ds ≡ Some (number ds)
read_part ds h l = grind (arith, nat_tests)

-- what reading the two parts gives, and what they are worth together
module _ (bs : List ℕ) (k : ℕ) (h : is_amount bs ≡ true) (e : k ≡ comma bs) where
  pub read_whole : number_of (take (k - 0) bs) ≡ Some (number (whole bs))
  read_whole =
      let p = parts bs h in
      ap number_of (cut_whole bs k e) ∙ read_part (whole bs) p.front (omega (arith, p.at, p.behind, p.short))

  pub read_decimals : number_of (take (length bs - (k + 1)) (drop (k + 1) bs)) ≡ Some (number (decimals bs))
  read_decimals =
      let p = parts bs h in
      ap number_of (cut_decimals bs k e) ∙ read_part (decimals bs) p.back (omega (arith, p.few))

  pub places : length bs - k - 1 ≡ length (decimals bs)
  places = let p = parts bs h in omega (arith, p.behind)

  pub add_up : (w d u : ℕ) → Some w ≡ number_of (take (k - 0) bs) → Some d ≡ number_of (take (length bs - (k + 1)) (drop (k + 1) bs)) → u ≡ 10 ^ (2 - (length bs - k - 1)) → Sum bs w d u
  add_up w d u ew ed eu =
      let w' : Some w ≡ Some (number (whole bs)) = ew ∙ read_whole in
      let d' : Some d ≡ Some (number (decimals bs)) = ed ∙ read_decimals in
      let a : w ≡ number (whole bs) = cc in
      let b : d ≡ number (decimals bs) = cc in
      let g = worth bs h in
      let f : d * u ≡ number (decimals bs) * 10 ^ (2 - length (decimals bs)) = (λ i. b i * eu i) ∙ ap (λ n. number (decimals bs) * 10 ^ (2 - n)) places in
      record { amount = h; fits = omega (arith, g.whole_below); small = omega (arith, g.decimals_below); is = (λ i. a i * 100 + f i) }
