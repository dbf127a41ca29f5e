-- One step through block 3, in the code's words.
use Rattle.std.proofs.Common.{◌≡◌, ℕ, suc, ◌+◌, ◌-◌, ◌<◌, ◌≤◌, Bool, true, false, cond, eqb, ltb, List, length, get_or, take, drop, Some, None, codes, Option, sym, refl, ap, ◌∙◌, arith}
use Rattle.std.proofs.lemmas.Bool.{cond-true, cond-false, lt-ltb, le-ltb, ltb-true}
use Rattle.std.specs.List.{position, position_or_len}
use Rattle.std.proofs.lemmas.List.{length-drop}
use Rattle.std.proofs.lemmas.List.Recursion.{is_position_or_len}
use Rattle.std.proofs.lemmas.Bool.Decides.{nat_tests}
use Rattle.contents.specs.Digits.{place, and_then}
use Rattle.headers.specs.declared.user.UserHeader.{UserHeader}
use Rattle.headers.specs.declared.user.Item.{Item}
use Rattle.headers.specs.declared.user.Step.{Step}
use Rattle.headers.specs.declared.user.Step.TheVariants.{More, Closed}
use Rattle.headers.specs.Parts.{starts}
use Rattle.headers.proofs.Starts.{starts_length}
use Rattle.headers.specs.User.{value_ok, item_of, put_in, is_given, nothing, value_length, closed_at, taken_at, step_at, steps_then, steps_within, user_at}

-- the first '}' (125) of a value, if it has one
is_place : (v : List ℕ) → place 125 v ≡ position_or_len (λ b. eqb b 125) v
is_place v = is_position_or_len (place 125) (λ b. eqb b 125) refl (λ b bs. grind arith) v

pub closed_value : (v : List ℕ) (n : ℕ) → Some n ≡ position (λ b. eqb b 125) v → (n ≡ place 125 v) × (n < length v)
closed_value v n e = by (ltb (position_or_len (λ b. eqb b 125) v) (length v)) refl e
  where
    by : (x : Bool) → ltb (position_or_len (λ b. eqb b 125) v) (length v) ≡ x → Some n ≡ cond x (Some (position_or_len (λ b. eqb b 125) v)) None → (n ≡ place 125 v) × (n < length v)
    by true l q = let s : n ≡ position_or_len (λ b. eqb b 125) v = cc in (s ∙ sym (is_place v), omega (arith, ltb-true (position_or_len (λ b. eqb b 125) v) (length v) l))
    by false l q = absurd (grind arith)

pub open_value : (v : List ℕ) → None ≡ position (λ b. eqb b 125) v → length v ≤ place 125 v
open_value v e = by (ltb (position_or_len (λ b. eqb b 125) v) (length v)) refl e
  where
    by : (x : Bool) → ltb (position_or_len (λ b. eqb b 125) v) (length v) ≡ x → None ≡ cond x (Some (position_or_len (λ b. eqb b 125) v)) None → length v ≤ place 125 v
    by true l q = absurd (grind arith)
    by false l q = let p = is_place v in grind (arith, nat_tests)

-- an item k begins the bytes, v is what stands behind its colon, and the value has n bytes
module _ (bs v : List ℕ) (i n : ℕ) (h : UserHeader) (k : Item) (nb : eqb (get_or bs 0 0) 125 ≡ false) (it : Some k ≡ item_of bs) (ev : v ≡ drop 5 bs) (en : n ≡ place 125 v) where
  same_n : n ≡ value_length bs
  same_n = en ∙ ap (place 125) ev

  item_step : step_at i bs h ≡ cond (ltb n (length v)) (cond (value_ok k (take n v)) (taken_at i n k h) None) None
  item_step =
      λ j. cond (nb j) (closed_at (i + 1) h) (and_then (sym it j) (λ k. cond (ltb (sym same_n j) (length (sym ev j))) (cond (value_ok k (take (sym same_n j) (sym ev j))) (taken_at i (sym same_n j) k h) None) None))

  -- no brace closes the value
  pub unclosed : length v ≤ n → None ≡ step_at i bs h
  unclosed l = sym (item_step ∙ cond-false (ltb n (length v)) _ None (le-ltb n (length v) l))

  module _ (l : n < length v) where
    open_step : step_at i bs h ≡ cond (value_ok k (take n v)) (taken_at i n k h) None
    open_step = item_step ∙ cond-true (ltb n (length v)) _ None (lt-ltb n (length v) l)

    -- the item does not take the value
    pub refused : value_ok k (take n v) ≡ false → None ≡ step_at i bs h
    refused e = sym (open_step ∙ cond-false (value_ok k (take n v)) _ None e)

    -- it does, and the value finds its place
    pub placed : (h' : UserHeader) → value_ok k (take n v) ≡ true → Some h' ≡ put_in k (record { at = i + 5; len = n }) h → Some (More h' (i + 6 + n)) ≡ step_at i bs h
    placed h' e p =
        ap (λ o. and_then o (λ h''. Some (More h'' (i + 6 + n)))) p
        ∙ sym (open_step ∙ cond-true (value_ok k (take n v)) _ None e)

-- ---- where a step leads

closed_no_more : (e : ℕ) (h h' : UserHeader) (j : ℕ) → closed_at e h ≡ Some (More h' j) → ⊥
closed_no_more e h h' j p = by (is_given h) p
  where
    by : (b : Bool) → cond b (Some (Closed e)) None ≡ Some (More h' j) → ⊥
    by true q = absurd (grind arith)
    by false q = absurd (grind arith)

taken_next : (i n : ℕ) (k : Item) (h h' : UserHeader) (j : ℕ) → taken_at i n k h ≡ Some (More h' j) → j ≡ i + 6 + n
taken_next i n k h h' j p = by (put_in k (record { at = i + 5; len = n }) h) p
  where
    by : (o : Option UserHeader) → and_then o (λ h''. Some (More h'' (i + 6 + n))) ≡ Some (More h' j) → j ≡ i + 6 + n
    by (Some x) q = cc
    by None q = absurd (grind arith)

-- behind an item, and not past the end
pub more_within : (i : ℕ) (bs : List ℕ) (h h' : UserHeader) (j : ℕ) → Some (More h' j) ≡ step_at i bs h → j ≤ i + length bs
more_within i bs h h' j p =
    by (eqb (get_or bs 0 0) 125) (item_of bs) (ltb (value_length bs) (length (drop 5 bs))) refl (sym p)
  where
    some : (k : Item) (z : Bool) → ltb (value_length bs) (length (drop 5 bs)) ≡ true → cond z (taken_at i (value_length bs) k h) None ≡ Some (More h' j) → j ≤ i + length bs
    some k true l q =
        let e = taken_next i (value_length bs) k h h' j q in
        omega (arith, ltb-true (value_length bs) (length (drop 5 bs)) l, length-drop 5 bs)
    some k false l q = absurd (grind arith)

    by : (x : Bool) (o : Option Item) (y : Bool) → ltb (value_length bs) (length (drop 5 bs)) ≡ y → cond x (closed_at (i + 1) h) (and_then o (λ k. cond y (cond (value_ok k (take (value_length bs) (drop 5 bs))) (taken_at i (value_length bs) k h) None) None)) ≡ Some (More h' j) → j ≤ i + length bs
    by true o y e q = absurd (closed_no_more (i + 1) h h' j q)
    by false None y e q = absurd (grind arith)
    by false (Some k) true e q = some k (value_ok k (take (value_length bs) (drop 5 bs))) e q
    by false (Some k) false e q = absurd (grind arith)

-- ---- the steps so far

-- so many steps are done, and the rest goes on at i with the values h
pub record Sofar (text : List ℕ) (at done i : ℕ) (h : UserHeader) : Type 0 where
  pub within : i ≤ length text
  pub few : done ≤ 5
  pub left : steps_within (5 - done) text i h ≡ user_at text at

pub start : (text : List ℕ) (at : ℕ) → starts (codes "{3:") (drop at text) ≡ true → Sofar text at 0 (at + 3) nothing
start text at s =
    record { within = omega (arith, starts_length (codes "{3:") (drop at text) s, length-drop at text); few = omega arith; left = sym (cond-true (starts (codes "{3:") (drop at text)) _ None s) }

module _ (text : List ℕ) (at done i : ℕ) (h : UserHeader) (so : Sofar text at done i h) (l : done < 5) where
  pub onward : (s : Option Step) → s ≡ step_at i (drop i text) h → steps_then (λ j h'. steps_within (5 - (done + 1)) text j h') h s ≡ user_at text at
  onward s e =
      let one : suc (5 - (done + 1)) ≡ 5 - done = omega arith in
      ap (steps_then (λ j h'. steps_within (5 - (done + 1)) text j h') h) e ∙ ap (λ m. steps_within m text i h) one ∙ so.left

  pub one_more : (h' : UserHeader) (j : ℕ) → Some (More h' j) ≡ step_at i (drop i text) h → Sofar text at (done + 1) j h'
  one_more h' j e =
      record {
        within = omega (arith, more_within i (drop i text) h h' j e, length-drop i text, so.within);
        few = omega arith;
        left = onward (Some (More h' j)) e;
      }
