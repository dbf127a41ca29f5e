-- Block 3 as it is written is read as it was meant.
use Rattle.std.proofs.Common.{◌≡◌, ℕ, suc, ◌+◌, ◌-◌, ◌≤◌, Bool, true, false, cond, ◌||◌, eqb, List, [], ◌∷◌, ◌++◌, length, get_or, take, drop, is_some, Some, None, codes, Option, sym, refl, ap, ◌∙◌, zero-add, one-add, arith}
use Rattle.std.specs.Option.{option_map}
use Rattle.std.proofs.lemmas.List.{drop-drop, drop_at, take_at, length-append}
use Rattle.std.proofs.lemmas.Bool.{and_parts}
use Rattle.std.proofs.lemmas.Bool.Decides.{nat_tests}
use Rattle.mt_text.specs.Classes.{every, digit, printable, letter_or_digit}
use Rattle.contents.specs.Digits.{place}
use Rattle.headers.specs.declared.user.Span.{Span}
use Rattle.headers.specs.declared.user.UserHeader.{UserHeader}
use Rattle.headers.specs.declared.user.Item.{Item}
use Rattle.headers.specs.declared.user.Item.TheVariants.{UserReference, ServiceType, Priority, Tracking}
use Rattle.headers.specs.declared.user.Step.TheVariants.{More, Closed}
use Rattle.headers.specs.User.{small_hex, hyphen_place, tracked, value_ok, item_of, put_in, nothing, is_given, step_at, steps_then, steps_within}
use Rattle.headers.proofs.Steps.{placed}
use Rattle.layout.specs.Render.{User, item_then, ValueFits, UserOk, bytes_at, values_of}

-- ---- no value holds a brace

place_behind : (v after : List ℕ) (test : ℕ → Bool) → ((b : ℕ) → test b ≡ true → eqb b 125 ≡ false) → every test v ≡ true → place 125 (v ++ 125 ∷ after) ≡ length v
place_behind [] after test no_brace h = refl
place_behind (b ∷ v) after test no_brace h =
    let p = and_parts (test b) (every test v) h in
    let n = no_brace b p.0 in
    (λ i. cond (n i) 0 (place_behind v after test no_brace p.1 i + 1)) ∙ omega arith

place_tracked : (i : ℕ) (v after : List ℕ) → tracked i v ≡ true → place 125 (v ++ 125 ∷ after) ≡ length v
place_tracked i [] after h = refl
place_tracked i (b ∷ v) after h =
    let p = and_parts (cond (hyphen_place i) (eqb b 45) (small_hex b)) (tracked (i + 1) v) h in
    let n = by (hyphen_place i) p.0 in
    (λ k. cond (n k) 0 (place_tracked (i + 1) v after p.1 k + 1)) ∙ omega arith
  where
    by : (x : Bool) → cond x (eqb b 45) (small_hex b) ≡ true → eqb b 125 ≡ false
    by true e = grind (arith, nat_tests)
    by false e = grind (arith, nat_tests)

value_place : (k : Item) (v after : List ℕ) → value_ok k v ≡ true → place 125 (v ++ 125 ∷ after) ≡ length v
value_place UserReference v after h = place_behind v after printable (λ b e. grind (arith, nat_tests)) (and_parts _ (every printable v) h).1
value_place ServiceType v after h = place_behind v after digit (λ b e. grind (arith, nat_tests)) (and_parts _ (every digit v) h).1
value_place Priority v after h = place_behind v after letter_or_digit (λ b e. grind (arith, nat_tests)) (and_parts _ (every letter_or_digit v) h).1
value_place Tracking v after h = place_tracked 0 v after (and_parts _ (tracked 0 v) h).1

-- ---- one item

-- how an item opens, the place of its value, and the values with that place filled
abbrev pub word : Item → List ℕ
word UserReference = codes "{108:"
word ServiceType = codes "{111:"
word Priority = codes "{113:"
word Tracking = codes "{121:"

abbrev pub slot : Item → UserHeader → Option Span
slot UserReference h = h.user_reference
slot ServiceType h = h.service_type
slot Priority h = h.priority
slot Tracking h = h.tracking

abbrev pub putted : Item → Span → UserHeader → UserHeader
putted UserReference s h = record { user_reference = Some s; service_type = h.service_type; priority = h.priority; tracking = h.tracking }
putted ServiceType s h = record { user_reference = h.user_reference; service_type = Some s; priority = h.priority; tracking = h.tracking }
putted Priority s h = record { user_reference = h.user_reference; service_type = h.service_type; priority = Some s; tracking = h.tracking }
putted Tracking s h = record { user_reference = h.user_reference; service_type = h.service_type; priority = h.priority; tracking = Some s }

put_free : (k : Item) (s : Span) (h : UserHeader) → slot k h ≡ None → put_in k s h ≡ Some (putted k s h)
put_free UserReference s h e = λ j. cond (is_some (e j)) None (Some (putted UserReference s h))
put_free ServiceType s h e = λ j. cond (is_some (e j)) None (Some (putted ServiceType s h))
put_free Priority s h e = λ j. cond (is_some (e j)) None (Some (putted Priority s h))
put_free Tracking s h e = λ j. cond (is_some (e j)) None (Some (putted Tracking s h))

slot_putted : (k : Item) (s : Span) (h : UserHeader) → slot k (putted k s h) ≡ Some s
slot_putted UserReference s h = refl
slot_putted ServiceType s h = refl
slot_putted Priority s h = refl
slot_putted Tracking s h = refl

module _ (k : Item) (v after : List ℕ) (ok : value_ok k v ≡ true) (i : ℕ) (h : UserHeader) (free : slot k h ≡ None) where
  abbrev here : Span
  here = record { at = i + 5; len = length v }

  -- in any bytes that begin with the item
  item_in : (bs : List ℕ) → eqb (get_or bs 0 0) 125 ≡ false → Some k ≡ item_of bs → v ++ 125 ∷ after ≡ drop 5 bs → step_at i bs h ≡ Some (More (putted k here h) (i + 6 + length v))
  item_in bs nb it ev =
      let long = length-append v (125 ∷ after) in
      let val = take_at v (125 ∷ after) (length v) refl in
      sym (placed bs (v ++ 125 ∷ after) i (length v) h k nb it ev (sym (value_place k v after ok)) (omega arith) (putted k here h) (ap (value_ok k) val ∙ ok) (sym (put_free k here h free)))

item_step : (k : Item) (v after : List ℕ) (ok : value_ok k v ≡ true) (i : ℕ) (h : UserHeader) (free : slot k h ≡ None) → step_at i (word k ++ (v ++ 125 ∷ after)) h ≡ Some (More (putted k (record { at = i + 5; len = length v }) h) (i + 6 + length v))
item_step UserReference v after ok i h free = item_in UserReference v after ok i h free (codes "{108:" ++ (v ++ 125 ∷ after)) refl refl refl
item_step ServiceType v after ok i h free = item_in ServiceType v after ok i h free (codes "{111:" ++ (v ++ 125 ∷ after)) refl refl refl
item_step Priority v after ok i h free = item_in Priority v after ok i h free (codes "{113:" ++ (v ++ 125 ∷ after)) refl refl refl
item_step Tracking v after ok i h free = item_in Tracking v after ok i h free (codes "{121:" ++ (v ++ 125 ∷ after)) refl refl refl

drop_word : (k : Item) (l : List ℕ) → drop 5 (word k ++ l) ≡ l
drop_word UserReference l = refl
drop_word ServiceType l = refl
drop_word Priority l = refl
drop_word Tracking l = refl

-- ---- an item that may be given

abbrev cost : Option (List ℕ) → ℕ
cost None = 0
cost (Some v) = 1

abbrev pub next_at : Option (List ℕ) → ℕ → ℕ
next_at None i = i
next_at (Some v) i = i + 6 + length v

abbrev pub next_with : Item → Option (List ℕ) → ℕ → UserHeader → UserHeader
next_with k None i h = h
next_with k (Some v) i h = putted k (record { at = i + 5; len = length v }) h

record Stage (text : List ℕ) (k : Item) (o : Option (List ℕ)) (i : ℕ) (h : UserHeader) (after : List ℕ) : Type 0 where
  goes : (m : ℕ) → steps_within (cost o + m) text i h ≡ steps_within m text (next_at o i) (next_with k o i h)
  left : drop (next_at o i) text ≡ after
  value : option_map (bytes_at text) (slot k (next_with k o i h)) ≡ o

stage : (text : List ℕ) (k : Item) (o : Option (List ℕ)) (i : ℕ) (h : UserHeader) (after : List ℕ) → ValueFits k o → slot k h ≡ None → drop i text ≡ item_then (word k) o after → Stage text k o i h after
stage text k None i h after ok free is =
    record { goes = λ m. ap (λ n. steps_within n text i h) (zero-add m); left = is; value = ap (option_map (bytes_at text)) free }
stage text k (Some v) i h after ok free is =
    let behind_word : drop (i + 5) text ≡ v ++ 125 ∷ after = sym (drop-drop 5 i text) ∙ ap (drop 5) is ∙ drop_word k (v ++ 125 ∷ after) in
    let behind_value : drop (i + 5 + length v) text ≡ 125 ∷ after = sym (drop-drop (length v) (i + 5) text) ∙ ap (drop (length v)) behind_word ∙ drop_at v (125 ∷ after) (length v) refl in
    let place : i + 6 + length v ≡ i + 5 + length v + 1 = omega arith in
    let s : Span = record { at = i + 5; len = length v } in
    record {
      goes = λ m.
          ap (λ n. steps_within n text i h) (one-add m)
          ∙ ap (λ l. steps_then (λ j h'. steps_within m text j h') h (step_at i l h)) is
          ∙ ap (steps_then (λ j h'. steps_within m text j h') h) (item_step k v after ok i h free);
      left = ap (λ n. drop n text) place ∙ sym (drop-drop 1 (i + 5 + length v) text) ∙ ap (drop 1) behind_value;
      value = ap (option_map (bytes_at text)) (slot_putted k s h) ∙ ap Some (ap (take (length v)) behind_word ∙ take_at v (125 ∷ after) (length v) refl);
    }

-- ---- all four

pub some_mapped : {X Y : Type 0} (f : X → Y) (x : Option X) → is_some (option_map f x) ≡ is_some x
some_mapped f (Some a) = refl
some_mapped f None = refl

some_kept : {X Y : Type 0} (f : X → Y) (x : Option X) (y : Option Y) → option_map f x ≡ y → is_some x ≡ is_some y
some_kept f x y e = sym (some_mapped f x) ∙ ap is_some e

-- what one item leaves of another's place
kept : (k k' : Item) (o : Option (List ℕ)) (i : ℕ) (h : UserHeader) → ((s : Span) (g : UserHeader) → slot k' (putted k s g) ≡ slot k' g) → slot k' (next_with k o i h) ≡ slot k' h
kept k k' None i h f = refl
kept k k' (Some v) i h f = f (record { at = i + 5; len = length v }) h

cost_small : (o : Option (List ℕ)) → cost o ≤ 1
cost_small None = omega arith
cost_small (Some v) = omega arith

module _ (text : List ℕ) (u : User) (ok : UserOk u) (after : List ℕ) (i : ℕ) where
  abbrev pub i1 : ℕ
  i1 = next_at u.reference i

  abbrev pub i2 : ℕ
  i2 = next_at u.service i1

  abbrev pub i3 : ℕ
  i3 = next_at u.priority i2

  abbrev pub i4 : ℕ
  i4 = next_at u.tracking i3

  abbrev pub h1 : UserHeader
  h1 = next_with UserReference u.reference i nothing

  abbrev pub h2 : UserHeader
  h2 = next_with ServiceType u.service i1 h1

  abbrev pub h3 : UserHeader
  h3 = next_with Priority u.priority i2 h2

  abbrev pub h4 : UserHeader
  h4 = next_with Tracking u.tracking i3 h3

  module _ (is : drop i text ≡ item_then (codes "{108:") u.reference (item_then (codes "{111:") u.service (item_then (codes "{113:") u.priority (item_then (codes "{121:") u.tracking (125 ∷ after))))) where
    s1 : Stage text UserReference u.reference i nothing (item_then (codes "{111:") u.service (item_then (codes "{113:") u.priority (item_then (codes "{121:") u.tracking (125 ∷ after))))
    s1 = stage text UserReference u.reference i nothing _ ok.reference refl is

    s2 : Stage text ServiceType u.service i1 h1 (item_then (codes "{113:") u.priority (item_then (codes "{121:") u.tracking (125 ∷ after)))
    s2 = stage text ServiceType u.service i1 h1 _ ok.service (kept UserReference ServiceType u.reference i nothing (λ s g. refl)) s1.left

    s3 : Stage text Priority u.priority i2 h2 (item_then (codes "{121:") u.tracking (125 ∷ after))
    s3 =
        stage text Priority u.priority i2 h2 _ ok.priority
        (kept ServiceType Priority u.service i1 h1 (λ s g. refl) ∙ kept UserReference Priority u.reference i nothing (λ s g. refl))
        s2.left

    s4 : Stage text Tracking u.tracking i3 h3 (125 ∷ after)
    s4 =
        stage text Tracking u.tracking i3 h3 _ ok.tracking
        (kept Priority Tracking u.priority i2 h2 (λ s g. refl) ∙ kept ServiceType Tracking u.service i1 h1 (λ s g. refl) ∙ kept UserReference Tracking u.reference i nothing (λ s g. refl))
        s3.left

    -- the values that were meant stand where the header says
    reference_is : option_map (bytes_at text) (slot UserReference h4) ≡ u.reference
    reference_is =
        ap (option_map (bytes_at text)) (kept Tracking UserReference u.tracking i3 h3 (λ s g. refl) ∙ kept Priority UserReference u.priority i2 h2 (λ s g. refl) ∙ kept ServiceType UserReference u.service i1 h1 (λ s g. refl))
        ∙ s1.value

    service_is : option_map (bytes_at text) (slot ServiceType h4) ≡ u.service
    service_is = ap (option_map (bytes_at text)) (kept Tracking ServiceType u.tracking i3 h3 (λ s g. refl) ∙ kept Priority ServiceType u.priority i2 h2 (λ s g. refl)) ∙ s2.value

    priority_is : option_map (bytes_at text) (slot Priority h4) ≡ u.priority
    priority_is = ap (option_map (bytes_at text)) (kept Tracking Priority u.tracking i3 h3 (λ s g. refl)) ∙ s3.value

    pub values_are : values_of text h4 ≡ u
    values_are = λ j. record { reference = reference_is j; service = service_is j; priority = priority_is j; tracking = s4.value j }

    some_given : is_given h4 ≡ true
    some_given =
        (λ j. some_kept (bytes_at text) (slot UserReference h4) u.reference reference_is j
        || (some_kept (bytes_at text) (slot ServiceType h4) u.service service_is j
        || (some_kept (bytes_at text) (slot Priority h4) u.priority priority_is j
        || some_kept (bytes_at text) (slot Tracking h4) u.tracking s4.value j)))
        ∙ ok.some

    -- behind them stands the closing brace
    closes : (m : ℕ) → steps_within (suc m) text i4 h4 ≡ Some (record { header = h4; end = i4 + 1 })
    closes m =
        ap (λ l. steps_then (λ j h'. steps_within m text j h') h4 (step_at i4 l h4)) s4.left
        ∙ ap (λ b. steps_then (λ j h'. steps_within m text j h') h4 (cond b (Some (Closed (i4 + 1))) None)) some_given

    pub all_items : steps_within 5 text i nothing ≡ Some (record { header = h4; end = i4 + 1 })
    all_items =
        let c1 = cost_small u.reference in
        let c2 = cost_small u.service in
        let c3 = cost_small u.priority in
        let c4 = cost_small u.tracking in
        let rest = 4 - (cost u.reference + cost u.service + cost u.priority + cost u.tracking) in
        let five : 5 ≡ cost u.reference + (cost u.service + (cost u.priority + (cost u.tracking + suc rest))) = omega arith in
        ap (λ n. steps_within n text i nothing) five
        ∙ s1.goes (cost u.service + (cost u.priority + (cost u.tracking + suc rest)))
        ∙ s2.goes (cost u.priority + (cost u.tracking + suc rest))
        ∙ s3.goes (cost u.tracking + suc rest)
        ∙ s4.goes (suc rest)
        ∙ closes rest

    pub all_behind : drop (i4 + 1) text ≡ after
    all_behind = sym (drop-drop 1 i4 text) ∙ ap (drop 1) s4.left
