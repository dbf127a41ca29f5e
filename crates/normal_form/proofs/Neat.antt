-- Neat fields, with well-formed tags and tidy contents, and what a text that is written of them holds.
use Rattle.std.proofs.Common.{◌≡◌, ℕ, ◌+◌, ◌*◌, ◌<◌, ◌≤◌, true, ◌&&◌, ◌||◌, eqb, List, [], ◌∷◌, ◌++◌, length, Some, None, codes, Option, refl, ⊎_elim, arith}
use Rattle.std.specs.List.{AllByRecursion}
use Rattle.std.proofs.ByRecursion.{All-weaker}
use Rattle.std.proofs.lemmas.List.{length-append}
use Rattle.std.proofs.lemmas.Bool.{and_parts, and_from, or_cases, eqb-true}
use Rattle.std.proofs.lemmas.Bool.Decides.{nat_tests}
use Rattle.mt_text.specs.Classes.{between, every, digit, printable, letter_or_digit, carried}
use Rattle.content_lines.specs.Formats.{laid, tidy}
use Rattle.content_lines.proofs.Shapes.{every_append}
use Rattle.fields.specs.Written.{Item, letter_ok, tag_ok, ItemOk, letter_then, written}
use Rattle.headers.specs.declared.user.Item.{Item as UserItem}
use Rattle.headers.specs.declared.user.Item.TheVariants.{UserReference, ServiceType, Priority, Tracking}
use Rattle.headers.specs.Basic.{is_basic}
use Rattle.headers.specs.Application.{is_input, is_output}
use Rattle.headers.specs.User.{tracked, value_ok}
use Rattle.layout.specs.Render.{User, Parts, item_then, user_then, rendered, ValueFits, UserFits, PartsOk}
use Rattle.normal_form.proofs.Carried.{laid_content, laid_carried, user_carried}

-- a field that the body of a text has room for
pub record Neat (x : Item) : Type 0 where
  pub tag : tag_ok x.tag ≡ true
  pub content : tidy x.content ≡ true

-- what a tidy content is
tidy_laid : (c : List ℕ) → tidy c ≡ true → laid c ≡ true
tidy_laid c h = (and_parts (between 1 220 (length c)) (laid c) h).1

tidy_length : (c : List ℕ) → tidy c ≡ true → length c ≤ 220
tidy_length c h = let b = (and_parts (between 1 220 (length c)) (laid c) h).0 in grind (arith, nat_tests)

-- a neat field can be written
pub neat_ok : (xs : List Item) → AllByRecursion Neat xs → AllByRecursion ItemOk xs
neat_ok = All-weaker Neat ItemOk (λ x n. record { tag = n.tag; content = laid_content x.content (tidy_laid x.content n.content) })

-- ---- the bytes of what is written are carried

-- of tags, of fields, and of the whole
letter_carried : (l : Option ℕ) (after : List ℕ) → letter_ok l ≡ true → every carried after ≡ true → every carried (letter_then l after) ≡ true
letter_carried None after h a = a
letter_carried (Some c) after h a = and_from (carried c) (every carried after) (grind (arith, nat_tests)) a

digit_carried : (b : ℕ) → digit b ≡ true → carried b ≡ true
digit_carried b h = grind (arith, nat_tests)

pub written_carried : (xs : List Item) → AllByRecursion Neat xs → every carried (written xs []) ≡ true
written_carried [] n = refl
written_carried (x ∷ xs) n =
    let t = and_parts (digit x.tag.tens) (digit x.tag.units && letter_ok x.tag.letter) n.0.tag in
    let u = and_parts (digit x.tag.units) (letter_ok x.tag.letter) t.1 in
    let content = every_append carried x.content (13 ∷ 10 ∷ written xs []) (laid_carried x.content (tidy_laid x.content n.0.content)) (written_carried xs n.1) in
    and_from (carried x.tag.tens) _ (digit_carried x.tag.tens t.0)
    (and_from (carried x.tag.units) _ (digit_carried x.tag.units u.0)
    (letter_carried x.tag.letter (58 ∷ (x.content ++ 13 ∷ 10 ∷ written xs [])) u.1 content))

pub rendered_carried : (p : Parts) → every carried p.basic ≡ true → every carried p.application ≡ true → UserFits p.user → AllByRecursion Neat p.fields → every carried (rendered p) ≡ true
rendered_carried p b a u n =
    every_append carried p.basic _ b
    (every_append carried p.application _ a
    (user_carried p.user (codes "{4:" ++ 13 ∷ 10 ∷ written p.fields []) u (written_carried p.fields n)))

-- ---- what is written is short

letter_length : (l : Option ℕ) (after : List ℕ) → length (letter_then l after) ≤ 1 + length after
letter_length None after = omega arith
letter_length (Some c) after = omega arith

-- a field takes at most 227 bytes: up to five of its tag and its colons, up to 220 of its content, and CR LF
pub written_length : (xs : List Item) → AllByRecursion Neat xs → length (written xs []) ≤ 227 * length xs + 2
written_length [] n = omega arith
written_length (x ∷ xs) n =
    let rest = written xs [] in
    omega (
      arith,
      letter_length x.tag.letter (58 ∷ (x.content ++ 13 ∷ 10 ∷ rest)),
      length-append x.content (13 ∷ 10 ∷ rest),
      tidy_length x.content n.0.content,
      written_length xs n.1,
    )

-- how many bytes the value of an item has room for
abbrev room : UserItem → ℕ
room UserReference = 16
room ServiceType = 3
room Priority = 4
room Tracking = 36

value_length : (k : UserItem) (v : List ℕ) → value_ok k v ≡ true → length v ≤ room k
value_length UserReference v h = let b = (and_parts (between 1 16 (length v)) (every printable v) h).0 in grind (arith, nat_tests)
value_length ServiceType v h = let e = eqb-true (length v) 3 (and_parts (eqb (length v) 3) (every digit v) h).0 in omega arith
value_length Priority v h = let e = eqb-true (length v) 4 (and_parts (eqb (length v) 4) (every letter_or_digit v) h).0 in omega arith
value_length Tracking v h = let e = eqb-true (length v) 36 (and_parts (eqb (length v) 36) (tracked 0 v) h).0 in omega arith

item_length : (k : UserItem) (opening : List ℕ) (v : Option (List ℕ)) (after : List ℕ) → length opening ≡ 5 → ValueFits k v → length (item_then opening v after) ≤ 6 + room k + length after
item_length k opening None after five h = omega arith
item_length k opening (Some v) after five h = omega (arith, length-append opening (v ++ 125 ∷ after), length-append v (125 ∷ after), value_length k v h)

-- block 3 takes at most 87 bytes
pub user_length : (u : Option User) (after : List ℕ) → UserFits u → length (user_then u after) ≤ 87 + length after
user_length None after h = omega arith
user_length (Some u) after h =
    let last = 125 ∷ after in
    let fourth = item_then (codes "{121:") u.tracking last in
    let third = item_then (codes "{113:") u.priority fourth in
    let second = item_then (codes "{111:") u.service third in
    let a = item_length UserReference (codes "{108:") u.reference second refl h.reference in
    let b = item_length ServiceType (codes "{111:") u.service third refl h.service in
    let c = item_length Priority (codes "{113:") u.priority fourth refl h.priority in
    let d = item_length Tracking (codes "{121:") u.tracking last refl h.tracking in
    omega arith

-- blocks 1 and 2 take 29 bytes and at most 51
application_length : (bs : List ℕ) → (is_input bs || is_output bs) ≡ true → length bs ≤ 51
application_length bs h =
    ⊎_elim
    (λ i. let e = eqb-true (length bs) 21 (and_parts (eqb (length bs) 21) _ i).0 in omega arith)
    (λ o. let e = eqb-true (length bs) 51 (and_parts (eqb (length bs) 51) _ o).0 in omega arith)
    (or_cases (is_input bs) (is_output bs) h)

basic_length : (bs : List ℕ) → is_basic bs ≡ true → length bs ≡ 29
basic_length bs h = eqb-true (length bs) 29 (and_parts (eqb (length bs) 29) _ h).0

-- with at most 43 fields, a text without block 5 has at most 29 + 51 + 87 + 5 + 43 * 227 + 2 bytes
pub record Sized (p : Parts) : Type 0 where
  pub some : 0 < length (rendered p)
  pub most : length (rendered p) ≤ 9935

pub rendered_sized : (p : Parts) → PartsOk p → AllByRecursion Neat p.fields → length p.fields ≤ 43 → Sized p
rendered_sized p ok n few =
    let four = codes "{4:" ++ 13 ∷ 10 ∷ written p.fields [] in
    let b = basic_length p.basic ok.basic in
    let a = application_length p.application ok.application in
    let u = user_length p.user four ok.user in
    let w = written_length p.fields n in
    let front = length-append p.basic (p.application ++ user_then p.user four) in
    let next = length-append p.application (user_then p.user four) in
    record { some = omega arith; most = omega arith }
