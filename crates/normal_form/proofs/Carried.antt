-- Which bytes a text carries, and that the parts of a rendering are made of them.
use Rattle.std.proofs.Common.{◌≡◌, ℕ, zero, suc, ◌+◌, ◌<◌, ◌≤◌, Bool, true, false, cond, not, ◌&&◌, ◌||◌, eqb, ltb, List, [], ◌∷◌, ◌++◌, length, get_or, take, drop, Some, None, Ok, codes, Option, sym, refl, ◌∙◌, subst, arith}
use Rattle.std.proofs.lemmas.Bool.{and_parts, and_from, or_left, not-true, eqb-true, cond-true, cond-false}
use Rattle.std.proofs.lemmas.Bool.Decides.{nat_tests}
use Rattle.mt_text.specs.Classes.{every, digit, printable, letter_or_digit, carried}
use Rattle.mt_text.specs.Refusals.{refused_at}
use Rattle.mt_text.specs.Bytes.{foreign_from, checked}
use Rattle.content_lines.specs.Formats.{begins, laid}
use Rattle.content_lines.proofs.Shapes.{every_weaker, every_append}
use Rattle.fields.specs.Fields.{barred, opens}
use Rattle.fields.specs.Written.{content_ok}
use Rattle.headers.specs.declared.user.Item.{Item as UserItem}
use Rattle.headers.specs.declared.user.Item.TheVariants.{UserReference, ServiceType, Priority, Tracking}
use Rattle.headers.specs.User.{small_hex, hyphen_place, tracked, value_ok}
use Rattle.layout.specs.Render.{User, item_then, user_then, ValueFits, UserFits}
use Rattle.reader.proofs.Sounds.{unrefused}

-- ---- the first look at a text

-- no byte is foreign exactly where each is carried
foreign_carried : (n : ℕ) (bs : List ℕ) → foreign_from n bs ≡ Ok tt → every carried bs ≡ true
foreign_carried n [] e = refl
foreign_carried n (b ∷ bs) e =
    let u = unrefused (carried b) (foreign_from (n + 1) bs) 2 n tt e in
    and_from (carried b) (every carried bs) u.0 (foreign_carried (n + 1) bs u.1)

carried_foreign : (n : ℕ) (bs : List ℕ) → every carried bs ≡ true → foreign_from n bs ≡ Ok tt
carried_foreign n [] h = refl
carried_foreign n (b ∷ bs) h =
    let r = and_parts (carried b) (every carried bs) h in
    cond-true (carried b) (foreign_from (n + 1) bs) (refused_at 2 n) r.0 ∙ carried_foreign (n + 1) bs r.1

-- a text that passes has only bytes that a text carries, and the other way round
pub checked_carried : (s : List ℕ) → checked s ≡ Ok tt → every carried s ≡ true
checked_carried s e = by (eqb (length s) 0 || ltb 10000 (length s)) e
  where
    by : (b : Bool) → cond b (refused_at 1 0) (foreign_from 0 s) ≡ Ok tt → every carried s ≡ true
    by true q = absurd (grind arith)
    by false q = foreign_carried 0 s q

pub checked_from : (s : List ℕ) → 0 < length s → length s ≤ 10000 → every carried s ≡ true → checked s ≡ Ok tt
checked_from s some few h =
    let b : (eqb (length s) 0 || ltb 10000 (length s)) ≡ false = grind (arith, nat_tests) in
    cond-false (eqb (length s) 0 || ltb 10000 (length s)) (refused_at 1 0) (foreign_from 0 s) b ∙ carried_foreign 0 s h

-- ---- cuts

-- what holds of each byte holds of each byte of a part
pub every_take : (p : ℕ → Bool) (n : ℕ) (bs : List ℕ) → every p bs ≡ true → every p (take n bs) ≡ true
every_take p zero bs h = refl
every_take p (suc n) [] h = refl
every_take p (suc n) (b ∷ bs) h = let r = and_parts (p b) (every p bs) h in and_from (p b) (every p (take n bs)) r.0 (every_take p n bs r.1)

pub every_drop : (p : ℕ → Bool) (n : ℕ) (bs : List ℕ) → every p bs ≡ true → every p (drop n bs) ≡ true
every_drop p zero bs h = h
every_drop p (suc n) [] h = refl
every_drop p (suc n) (b ∷ bs) h = every_drop p n bs (and_parts (p b) (every p bs) h).1

-- ---- contents

-- what holds of no bytes, and behind a byte of x and behind a CR LF, holds of every content that is laid out
module _ (P : List ℕ → Type 0) (none : P []) (more : (b : ℕ) (bs : List ℕ) → printable b ≡ true → P bs → P (b ∷ bs)) (line : (bs : List ℕ) → begins bs ≡ false → P bs → P (13 ∷ 10 ∷ bs)) where
  pub laid_induct : (c : List ℕ) → laid c ≡ true → P c
  laid_induct [] h = none
  laid_induct (b ∷ []) h = more b [] h none
  laid_induct (b ∷ c ∷ bs) h = by (printable b) refl h (laid_induct (c ∷ bs)) (laid_induct bs)
    where
      by : (x : Bool) → printable b ≡ x → cond x (laid (c ∷ bs)) (eqb b 13 && (eqb c 10 && (not (begins bs) && laid bs))) ≡ true → (laid (c ∷ bs) ≡ true → P (c ∷ bs)) → (laid bs ≡ true → P bs) → P (b ∷ c ∷ bs)
      by true q k on skip = more b (c ∷ bs) q (on k)
      by false q k on skip =
          let cr = and_parts (eqb b 13) (eqb c 10 && (not (begins bs) && laid bs)) k in
          let lf = and_parts (eqb c 10) (not (begins bs) && laid bs) cr.1 in
          let rest = and_parts (not (begins bs)) (laid bs) lf.1 in
          let e : 13 ≡ b = sym (eqb-true b 13 cr.0) in
          let f : 10 ≡ c = sym (eqb-true c 10 lf.0) in
          subst P (λ i. e i ∷ f i ∷ bs) (line bs (not-true (begins bs) rest.0) (skip rest.1))

-- a content that is laid out can be written, and its bytes are carried
pub laid_content : (c : List ℕ) → laid c ≡ true → content_ok c ≡ true
laid_content = laid_induct (λ c. content_ok c ≡ true) refl more (λ bs n k. and_from (not (opens (get_or bs 0 0))) (content_ok bs) (grind (arith, nat_tests)) k)
  where
    more : (b : ℕ) (bs : List ℕ) → printable b ≡ true → content_ok bs ≡ true → content_ok (b ∷ bs) ≡ true
    more b [] h k = grind (arith, nat_tests)
    more b (c ∷ bs) h k =
        let plain : eqb b 13 ≡ false = grind (arith, nat_tests) in
        let free : barred b ≡ false = grind (arith, nat_tests) in
        (λ i. cond (plain i) (eqb c 10 && (not (opens (get_or bs 0 0)) && content_ok bs)) (not (free i) && k i))

pub laid_carried : (c : List ℕ) → laid c ≡ true → every carried c ≡ true
laid_carried = laid_induct (λ c. every carried c ≡ true) refl (λ b bs h k. and_from (carried b) (every carried bs) (or_left (printable b) _ h) k) (λ bs n k. k)

-- ---- block 3

-- the bytes of each value, of each item, and of the block are carried
tracked_carried : (i : ℕ) (v : List ℕ) → tracked i v ≡ true → every carried v ≡ true
tracked_carried i [] h = refl
tracked_carried i (b ∷ v) h =
    let r = and_parts (cond (hyphen_place i) (eqb b 45) (small_hex b)) (tracked (i + 1) v) h in
    and_from (carried b) (every carried v) (by (hyphen_place i) r.0) (tracked_carried (i + 1) v r.1)
  where
    by : (x : Bool) → cond x (eqb b 45) (small_hex b) ≡ true → carried b ≡ true
    by true q = grind (arith, nat_tests)
    by false q = grind (arith, nat_tests)

value_carried : (k : UserItem) (v : List ℕ) → value_ok k v ≡ true → every carried v ≡ true
value_carried UserReference v h = every_weaker printable carried (λ b p. or_left (printable b) _ p) v (and_parts _ (every printable v) h).1
value_carried ServiceType v h = every_weaker digit carried (λ b p. grind (arith, nat_tests)) v (and_parts _ (every digit v) h).1
value_carried Priority v h = every_weaker letter_or_digit carried (λ b p. grind (arith, nat_tests)) v (and_parts _ (every letter_or_digit v) h).1
value_carried Tracking v h = tracked_carried 0 v (and_parts _ (tracked 0 v) h).1

item_carried : (k : UserItem) (opening : List ℕ) (v : Option (List ℕ)) (after : List ℕ) → every carried opening ≡ true → ValueFits k v → every carried after ≡ true → every carried (item_then opening v after) ≡ true
item_carried k opening None after o h a = a
item_carried k opening (Some v) after o h a = every_append carried opening (v ++ 125 ∷ after) o (every_append carried v (125 ∷ after) (value_carried k v h) a)

pub user_carried : (u : Option User) (after : List ℕ) → UserFits u → every carried after ≡ true → every carried (user_then u after) ≡ true
user_carried None after h a = a
user_carried (Some u) after h a =
    item_carried UserReference (codes "{108:") u.reference _ refl h.reference
    (item_carried ServiceType (codes "{111:") u.service _ refl h.service
    (item_carried Priority (codes "{113:") u.priority _ refl h.priority
    (item_carried Tracking (codes "{121:") u.tracking _ refl h.tracking
    a)))
