-- The laws of normal amounts.
use Rattle.std.proofs.Common.{◌≡◌, ℕ, ◌+◌, ◌-◌, ◌*◌, ◌/◌, ◌%◌, ◌^◌, ◌<◌, ◌≤◌, Bool, true, false, cond, ◌&&◌, eqb, ltb, List, [], ◌∷◌, ◌++◌, length, get_or, take, drop, Some, None, decimal, sym, refl, ap, ◌∙◌, arith}
use Rattle.std.proofs.lemmas.Fmt.{decimal-digits_value}
use Rattle.std.proofs.lemmas.List.{take_at, drop_at, drop-drop, length-append}
use Rattle.std.proofs.lemmas.Bool.{and_parts, cond-true}
use Rattle.std.proofs.lemmas.Bool.Decides.{nat_tests}
use Rattle.mt_text.specs.Classes.{digit, every}
use Rattle.contents.specs.Digits.{number_after, number, place}
use Rattle.contents.specs.Amounts.{whole, decimals, comma_fits, is_amount, without_leading, without_trailing, normal, hundredths}
use Rattle.contents.specs.AmountLaws.{NormalLaws}
use Rattle.contents.proofs.AmountParts.{own, parts, worth}

-- ---- zeros in front

-- digits without zeros in front: still digits, some of them, no more than before, writing the same
-- number, and beginning with a zero only where that is all
pub record Led (ds rs : List ℕ) : Type 0 where
  pub digits : every digit rs ≡ true
  pub some : 1 ≤ length rs
  pub fewer : length rs ≤ length ds
  pub same : number rs ≡ number ds
  pub first : get_or rs 0 0 ≡ 48 → length rs ≡ 1

-- a zero with digits behind it goes, anything else stays
led_by : (d : ℕ) (ds : List ℕ) → every digit (d ∷ ds) ≡ true → (1 ≤ length ds → Led ds (without_leading ds)) → (b : Bool) → (eqb d 48 && ltb 0 (length ds)) ≡ b → Led (d ∷ ds) (cond b (without_leading ds) (d ∷ ds))
led_by d ds h on true e =
    let r = on (grind (arith, nat_tests)) in
    let z : d ≡ 48 = grind (arith, nat_tests) in
    record { digits = r.digits; some = r.some; fewer = omega (arith, r.fewer); same = r.same ∙ ap (λ n. number_after (0 * 10 + (n - 48)) ds) (sym z); first = r.first }
led_by d ds h on false e = record { digits = h; some = omega arith; fewer = omega arith; same = refl; first = λ z. grind (arith, nat_tests) }

pub led : (ds : List ℕ) → every digit ds ≡ true → 1 ≤ length ds → Led ds (without_leading ds)
led [] h l = absurd (omega arith)
led (d ∷ ds) h l = led_by d ds h (λ k. led ds (and_parts (digit d) (every digit ds) h).1 k) (eqb d 48 && ltb 0 (length ds)) refl

-- ---- zeros at the end

-- up to two decimals as hundredths
abbrev cents : List ℕ → ℕ
cents ds = number ds * 10 ^ (2 - length ds)

-- the decimals that so many hundredths have, with no zero at the end
abbrev shortest : ℕ → List ℕ
shortest n = cond (eqb n 0) [] (cond (eqb (n % 10) 0) ((48 + n / 10) ∷ []) ((48 + n / 10) ∷ (48 + n % 10) ∷ []))

-- digits without zeros at the end: still digits, no more than before, worth the same, and told by their worth
record Trailed (ds rs : List ℕ) : Type 0 where
  pub digits : every digit rs ≡ true
  pub fewer : length rs ≤ length ds
  same : cents rs ≡ cents ds
  told : rs ≡ shortest (cents ds)

shortest_one : (n t : ℕ) → n ≡ t * 10 → 0 < t → shortest n ≡ (48 + t) ∷ []
shortest_one n t e h =
    let q : n / 10 ≡ t = omega arith in
    let r : n % 10 ≡ 0 = omega arith in
    let z : eqb n 0 ≡ false = grind (arith, nat_tests) in
    (λ i. cond (z i) [] (cond (eqb (r i) 0) ((48 + q i) ∷ []) ((48 + q i) ∷ (48 + r i) ∷ [])))

shortest_two : (n t u : ℕ) → n ≡ t * 10 + u → 0 < u → u < 10 → shortest n ≡ (48 + t) ∷ (48 + u) ∷ []
shortest_two n t u e h k =
    let q : n / 10 ≡ t = omega arith in
    let r : n % 10 ≡ u = omega arith in
    let z : eqb n 0 ≡ false = grind (arith, nat_tests) in
    let y : eqb u 0 ≡ false = grind (arith, nat_tests) in
    (λ i. cond (z i) [] (cond (eqb (r i) 0) ((48 + q i) ∷ []) ((48 + q i) ∷ (48 + r i) ∷ [])))
    ∙ (λ i. cond (y i) ((48 + t) ∷ []) ((48 + t) ∷ (48 + u) ∷ []))

-- one decimal, and two, by whether they are zeros
module _ (a : ℕ) (h : digit a ≡ true) where
  low_a : 48 ≤ a
  low_a = grind (arith, nat_tests)

  one : (x : Bool) → eqb 48 a ≡ x → Trailed (a ∷ []) (cond (x && true) [] (a ∷ []))
  one true e =
      let z : 48 ≡ a = grind (arith, nat_tests) in
      record { digits = refl; fewer = omega arith; same = ap (λ d. cents (d ∷ [])) z; told = ap (λ d. shortest (cents (d ∷ []))) z }
  one false e =
      let t : (48 + (a - 48)) ≡ a = omega (arith, low_a) in
      let p : 0 < a - 48 = grind (arith, nat_tests) in
      record {
        digits = grind (arith, nat_tests);
        fewer = omega arith;
        same = refl;
        told = sym (shortest_one (cents (a ∷ [])) (a - 48) (omega arith) p ∙ ap (λ d. d ∷ []) t);
      }

  module _ (b : ℕ) (k : digit b ≡ true) where
    two : (x y : Bool) → eqb 48 a ≡ x → eqb 48 b ≡ y → Trailed (a ∷ b ∷ []) (cond (x && (y && true)) [] (a ∷ cond (y && true) [] (b ∷ [])))
    two true true e f =
        let z : 48 ≡ a = grind (arith, nat_tests) in
        let w : 48 ≡ b = grind (arith, nat_tests) in
        record { digits = refl; fewer = omega arith; same = (λ i. cents (z i ∷ w i ∷ [])); told = (λ i. shortest (cents (z i ∷ w i ∷ []))) }
    two false true e f =
        let w : 48 ≡ b = grind (arith, nat_tests) in
        let t : (48 + (a - 48)) ≡ a = omega (arith, low_a) in
        let p : 0 < a - 48 = grind (arith, nat_tests) in
        let c : cents (a ∷ b ∷ []) ≡ (a - 48) * 10 = omega arith in
        record {
          digits = grind (arith, nat_tests);
          fewer = omega arith;
          same = omega arith;
          told = sym (shortest_one (cents (a ∷ b ∷ [])) (a - 48) c p ∙ ap (λ d. d ∷ []) t);
        }
    two x false e f =
        let t : (48 + (a - 48)) ≡ a = omega (arith, low_a) in
        let l : 48 ≤ b = grind (arith, nat_tests) in
        let u : (48 + (b - 48)) ≡ b = omega arith in
        let p : 0 < b - 48 = grind (arith, nat_tests) in
        let q : b - 48 < 10 = grind (arith, nat_tests) in
        let c : cents (a ∷ b ∷ []) ≡ (a - 48) * 10 + (b - 48) = omega arith in
        let stays : Trailed (a ∷ b ∷ []) (a ∷ b ∷ []) =
        record {
          digits = grind (arith, nat_tests);
          fewer = omega arith;
          same = refl;
          told = sym (shortest_two (cents (a ∷ b ∷ [])) (a - 48) (b - 48) c p q ∙ (λ i. t i ∷ u i ∷ []));
        } in
        elim x as (λ x. Trailed (a ∷ b ∷ []) (cond (x && false) [] (a ∷ b ∷ []))) [ true ↦ stays | false ↦ stays ]

trailed : (ds : List ℕ) → every digit ds ≡ true → length ds ≤ 2 → Trailed ds (without_trailing ds)
trailed [] h l = record { digits = refl; fewer = omega arith; same = refl; told = refl }
trailed (a ∷ []) h l = one a (and_parts (digit a) true h).0 (eqb 48 a) refl
trailed (a ∷ b ∷ []) h l =
    let p = and_parts (digit a) (digit b && true) h in
    two a p.0 b (and_parts (digit b) true p.1).0 (eqb 48 a) (eqb 48 b) refl refl
trailed (a ∷ b ∷ c ∷ ds) h l = absurd (omega arith)

-- ---- an amount put together from its parts

place_at : (w d : List ℕ) → every digit w ≡ true → place 44 (w ++ 44 ∷ d) ≡ length w
place_at [] d h = refl
place_at (c ∷ w) d h =
    let p = and_parts (digit c) (every digit w) h in
    let q = p.0 in
    let n : eqb c 44 ≡ false = grind (arith, nat_tests) in
    (λ i. cond (n i) 0 (place_at w d p.1 i + 1)) ∙ omega arith

module _ (w d : List ℕ) (hw : every digit w ≡ true) where
  whole_at : whole (w ++ 44 ∷ d) ≡ w
  whole_at = ap (λ n. take n (w ++ 44 ∷ d)) (place_at w d hw) ∙ take_at w (44 ∷ d) (length w) refl

  decimals_at : decimals (w ++ 44 ∷ d) ≡ d
  decimals_at =
      ap (λ n. drop (n + 1) (w ++ 44 ∷ d)) (place_at w d hw)
      ∙ sym (drop-drop 1 (length w) (w ++ 44 ∷ d))
      ∙ ap (drop 1) (drop_at w (44 ∷ d) (length w) refl)

  amount_at : every digit d ≡ true → 1 ≤ length w → length d ≤ 2 → length w + length d ≤ 14 → is_amount (w ++ 44 ∷ d) ≡ true
  amount_at hd lw ld l =
      let n : length (w ++ 44 ∷ d) ≡ length w + 1 + length d = omega (arith, length-append w (44 ∷ d)) in
      let f : comma_fits (length w + 1 + length d) (length w) ≡ true = grind (arith, nat_tests) in
      (λ i. comma_fits (n i) (place_at w d hw i) && (every digit (whole_at i) && every digit (decimals_at i)))
      ∙ (λ i. f i && (hw i && hd i))

-- ---- the laws

-- the normal amount by its parts
module _ (bs : List ℕ) (h : is_amount bs ≡ true) where
  front : Led (whole bs) (without_leading (whole bs))
  front = let p = parts bs h in led (whole bs) p.front (omega (arith, p.at, p.some))

  back : Trailed (decimals bs) (without_trailing (decimals bs))
  back = let p = parts bs h in trailed (decimals bs) p.back p.few

  pub normal_is_amount : is_amount (normal bs) ≡ true
  normal_is_amount =
      let p = parts bs h in
      amount_at _ _ front.digits back.digits front.some (omega (arith, back.fewer, p.few)) (omega (arith, front.fewer, back.fewer, p.at, p.behind, p.short))

  pub normal_worth : hundredths (normal bs) ≡ hundredths bs
  normal_worth =
      (λ i. number (whole_at (without_leading (whole bs)) (without_trailing (decimals bs)) front.digits i) * 100 + cents (decimals_at (without_leading (whole bs)) (without_trailing (decimals bs)) front.digits i))
      ∙ (λ i. front.same i * 100 + back.same i)

  -- both parts of the normal amount are told by the worth of the parts
  front_told : decimal (number (whole bs)) ≡ without_leading (whole bs)
  front_told =
      ap decimal (sym front.same)
      ∙ decimal-digits_value own (without_leading (whole bs)) front.digits (omega (arith, front.some)) front.first (omega (arith, (worth bs h).whole_below, front.same))

pub same_worth : (a b : List ℕ) → is_amount a ≡ true → is_amount b ≡ true → hundredths a ≡ hundredths b → normal a ≡ normal b
same_worth a b ha hb e =
    let u = (worth a ha).decimals_below in
    let v = (worth b hb).decimals_below in
    let w : number (whole a) ≡ number (whole b) = omega arith in
    let c : cents (decimals a) ≡ cents (decimals b) = omega arith in
    let f : without_leading (whole a) ≡ without_leading (whole b) = sym (front_told a ha) ∙ ap decimal w ∙ front_told b hb in
    let g : without_trailing (decimals a) ≡ without_trailing (decimals b) = (back a ha).told ∙ ap shortest c ∙ sym (back b hb).told in
    (λ i. f i ++ 44 ∷ g i)

pub normal_laws : (bs : List ℕ) → NormalLaws bs
normal_laws bs =
    record {
      keeps = λ h.
          record {
            worth = cond-true (is_amount (normal bs)) (Some (hundredths (normal bs))) None (normal_is_amount bs h) ∙ ap Some (normal_worth bs h);
            again = same_worth (normal bs) bs (normal_is_amount bs h) h (normal_worth bs h);
          };
      tells = λ h other k.
          record {
            same_worth = same_worth bs other h k;
            same_normal = λ e. sym (normal_worth bs h) ∙ ap hundredths e ∙ normal_worth other k;
          };
    }
