-- The parts that are found in a text are as they must be.
use Rattle.std.proofs.Common.{◌≡◌, ℕ, zero, suc, ◌+◌, ◌-◌, ◌≤◌, Bool, true, false, cond, ◌||◌, eqb, ltb, List, [], ◌∷◌, ◌++◌, length, get_or, take, drop, is_some, Some, None, Ok, Err, codes, Option, Result, sym, refl, ap, ◌∙◌, subst, arith}
use Rattle.std.specs.Option.{option_map}
use Rattle.std.proofs.lemmas.List.{drop-drop, length-drop}
use Rattle.std.proofs.lemmas.Bool.{or_left, or_right}
use Rattle.mt_text.specs.Refusals.{Refusal, refused_at}
use Rattle.contents.specs.Digits.{and_then}
use Rattle.headers.specs.declared.user.Span.{Span}
use Rattle.headers.specs.declared.user.UserHeader.{UserHeader}
use Rattle.headers.specs.declared.user.UserBlock.{UserBlock}
use Rattle.headers.specs.declared.user.Item.{Item}
use Rattle.headers.specs.declared.user.Item.TheVariants.{UserReference, ServiceType, Priority, Tracking}
use Rattle.headers.specs.declared.user.Step.{Step}
use Rattle.headers.specs.declared.user.Step.TheVariants.{More, Closed}
use Rattle.mt_text.specs.Bytes.{checked}
use Rattle.headers.specs.Parts.{starts}
use Rattle.headers.proofs.Starts.{starts_length}
use Rattle.headers.specs.User.{value_ok, item_of, put_in, nothing, is_given, value_length, closed_at, taken_at, step_at, steps_then, steps_within, user_at}
use Rattle.headers.specs.declared.application.Application.{Application}
use Rattle.headers.specs.declared.application.Direction.TheVariants.{Input, Output}
use Rattle.headers.specs.Basic.{is_basic}
use Rattle.headers.specs.Application.{is_input, is_output, type_of, application_of}
use Rattle.std.specs.List.{AllByRecursion}
use Rattle.fields.specs.declared.scan.Body.{Body}
use Rattle.fields.specs.Fields.{Found, body_at, sized}
use Rattle.fields.specs.Written.{ItemOk}
use Rattle.fields.proofs.Backs.{accepted as fields_accepted}
use Rattle.layout.specs.declared.walk.Layout.{Layout}
use Rattle.layout.specs.declared.walk.Opening.{Opening}
use Rattle.layout.specs.Walk.{heed, wanted, opened, application_at, opening_at, body_start, end_at, made_of, walked}
use Rattle.layout.specs.Render.{ValueFits, UserOk, UserFits, bytes_at, values_of, fields_of, parts_of, PartsOk, Accepted}
use Rattle.layout.proofs.UserTrips.{putted, some_mapped}

-- ---- the values of block 3

-- each value that is given is as its item asks
record SlotsOk (text : List ℕ) (h : UserHeader) : Type 0 where
  reference : ValueFits UserReference (option_map (bytes_at text) h.user_reference)
  service : ValueFits ServiceType (option_map (bytes_at text) h.service_type)
  priority : ValueFits Priority (option_map (bytes_at text) h.priority)
  tracking : ValueFits Tracking (option_map (bytes_at text) h.tracking)

putted_ok : (text : List ℕ) (k : Item) (s : Span) (h : UserHeader) → value_ok k (bytes_at text s) ≡ true → SlotsOk text h → SlotsOk text (putted k s h)
putted_ok text UserReference s h v ok = record { reference = v; service = ok.service; priority = ok.priority; tracking = ok.tracking }
putted_ok text ServiceType s h v ok = record { reference = ok.reference; service = v; priority = ok.priority; tracking = ok.tracking }
putted_ok text Priority s h v ok = record { reference = ok.reference; service = ok.service; priority = v; tracking = ok.tracking }
putted_ok text Tracking s h v ok = record { reference = ok.reference; service = ok.service; priority = ok.priority; tracking = v }

-- what was put in its place
unless : (x : Bool) (g h : UserHeader) → cond x None (Some g) ≡ Some h → g ≡ h
unless true g h e = absurd (grind arith)
unless false g h e = cc

put_is : (k : Item) (s : Span) (h h' : UserHeader) → put_in k s h ≡ Some h' → putted k s h ≡ h'
put_is UserReference s h h' e = unless (is_some h.user_reference) (putted UserReference s h) h' e
put_is ServiceType s h h' e = unless (is_some h.service_type) (putted ServiceType s h) h' e
put_is Priority s h h' e = unless (is_some h.priority) (putted Priority s h) h' e
put_is Tracking s h h' e = unless (is_some h.tracking) (putted Tracking s h) h' e

-- ---- one step

-- the end comes only where some value is given
closed_is : (e : ℕ) (h : UserHeader) (s : Step) → closed_at e h ≡ Some s → (is_given h ≡ true) × (Closed e ≡ s)
closed_is e h s q = by (is_given h) q
  where
    by : (x : Bool) → cond x (Some (Closed e)) None ≡ Some s → (x ≡ true) × (Closed e ≡ s)
    by true p = (refl, cc)
    by false p = absurd (grind arith)

-- a step that goes on has put a fitting value in its place
taken_is : (i n : ℕ) (k : Item) (h : UserHeader) (s : Step) → taken_at i n k h ≡ Some s → (h' : UserHeader) × (put_in k (record { at = i + 5; len = n }) h ≡ Some h') × (More h' (i + 6 + n) ≡ s)
taken_is i n k h s q = by (put_in k (record { at = i + 5; len = n }) h) refl q
  where
    by : (o : Option UserHeader) → put_in k (record { at = i + 5; len = n }) h ≡ o → and_then o (λ h''. Some (More h'' (i + 6 + n))) ≡ Some s → (h' : UserHeader) × (put_in k (record { at = i + 5; len = n }) h ≡ Some h') × (More h' (i + 6 + n) ≡ s)
    by (Some h') e p = (h', e, cc)
    by None e p = absurd (grind arith)

-- what a step tells: the end, with some value given, or more, all values fitting
abbrev Told : List ℕ → UserHeader → Step → Type 0
Told text h (Closed e) = is_given h ≡ true
Told text h (More h' j) = SlotsOk text h → SlotsOk text h'

module _ (text : List ℕ) (i : ℕ) (h : UserHeader) (s : Step) where
  abbrev bs : List ℕ
  bs = drop i text

  fitting : (k : Item) (z : Bool) → value_ok k (take (value_length bs) (drop 5 bs)) ≡ z → cond z (taken_at i (value_length bs) k h) None ≡ Some s → Told text h s
  fitting k true v q =
      let t = taken_is i (value_length bs) k h s q in
      let at : bytes_at text (record { at = i + 5; len = value_length bs }) ≡ take (value_length bs) (drop 5 bs) = ap (take (value_length bs)) (sym (drop-drop 5 i text)) in
      subst (Told text h) t.2 (λ ok. subst (SlotsOk text) (put_is k _ h t.0 t.1) (putted_ok text k _ h (ap (value_ok k) at ∙ v) ok))
  fitting k false v q = absurd (grind arith)

  step_back : step_at i bs h ≡ Some s → Told text h s
  step_back e = by (eqb (get_or bs 0 0) 125) (item_of bs) (ltb (value_length bs) (length (drop 5 bs))) e
    where
      by : (x : Bool) (o : Option Item) (y : Bool) → cond x (closed_at (i + 1) h) (and_then o (λ k. cond y (cond (value_ok k (take (value_length bs) (drop 5 bs))) (taken_at i (value_length bs) k h) None) None)) ≡ Some s → Told text h s
      by true o y q = let c = closed_is (i + 1) h s q in subst (Told text h) c.1 c.0
      by false None y q = absurd (grind arith)
      by false (Some k) true q = fitting k (value_ok k (take (value_length bs) (drop 5 bs))) refl q
      by false (Some k) false q = absurd (grind arith)

-- ---- the steps to the end

record HeaderOk (text : List ℕ) (b : UserBlock) : Type 0 where
  slots : SlotsOk text b.header
  some : is_given b.header ≡ true

one_back : (n : ℕ) (text : List ℕ) (i : ℕ) (h : UserHeader) (b : UserBlock) → ((j : ℕ) (h' : UserHeader) → SlotsOk text h' → steps_within n text j h' ≡ Some b → HeaderOk text b) → SlotsOk text h → (o : Option Step) → step_at i (drop i text) h ≡ o → steps_then (λ j h'. steps_within n text j h') h o ≡ Some b → HeaderOk text b
one_back n text i h b ih ok (Some (More h' j)) p q = ih j h' (step_back text i h (More h' j) p ok) q
one_back n text i h b ih ok (Some (Closed c)) p q =
    let same : record { header = h; end = c } ≡ b = cc in
    subst (HeaderOk text) same (record { slots = ok; some = step_back text i h (Closed c) p })
one_back n text i h b ih ok None p q = absurd (grind arith)

steps_back : (n : ℕ) (text : List ℕ) (i : ℕ) (h : UserHeader) (b : UserBlock) → SlotsOk text h → steps_within n text i h ≡ Some b → HeaderOk text b
steps_back zero text i h b ok e = absurd (grind arith)
steps_back (suc n) text i h b ok e = one_back n text i h b (λ j h'. steps_back n text j h' b) ok (step_at i (drop i text) h) refl e

user_back : (text : List ℕ) (i : ℕ) (b : UserBlock) → user_at text i ≡ Some b → UserOk (values_of text b.header)
user_back text i b e = by (starts (codes "{3:") (drop i text)) e
  where
    by : (x : Bool) → cond x (steps_within 5 text (i + 3) nothing) None ≡ Some b → UserOk (values_of text b.header)
    by true q =
        let k = steps_back 5 text (i + 3) nothing b (record { reference = tt; service = tt; priority = tt; tracking = tt }) q in
        let h = b.header in
        record {
          reference = k.slots.reference;
          service = k.slots.service;
          priority = k.slots.priority;
          tracking = k.slots.tracking;
          some =
              (λ j. some_mapped (bytes_at text) h.user_reference j
              || (some_mapped (bytes_at text) h.service_type j
              || (some_mapped (bytes_at text) h.priority j
              || some_mapped (bytes_at text) h.tracking j)))
              ∙ k.some;
        }
    by false q = absurd (grind arith)

-- ---- the walk, part by part

heed_back : {X Y : Type 0} (r : Result X Refusal) (f : X → Result Y Refusal) (y : Y) → heed r f ≡ Ok y → (x : X) × (r ≡ Ok x) × (f x ≡ Ok y)
heed_back (Ok x) f y e = (x, refl, e)
heed_back (Err z) f y e = absurd (grind arith)

wanted_back : {X : Type 0} (o : Option X) (at : ℕ) (x : X) → wanted o at ≡ Ok x → o ≡ Some x
wanted_back (Some z) at x e = let s : z ≡ x = cc in ap Some s
wanted_back None at x e = absurd (grind arith)

-- blocks 1 and 2
record HeadersOk (text : List ℕ) (a : Application) : Type 0 where
  basic : is_basic (take 29 text) ≡ true
  application : (is_input (take a.width (drop 29 text)) || is_output (take a.width (drop 29 text))) ≡ true

application_back : (bs : List ℕ) (a : Application) → application_of bs ≡ Some a → (is_input (take a.width bs) || is_output (take a.width bs)) ≡ true
application_back bs a e = by (is_input (take 21 bs)) (is_output (take 51 bs)) refl refl e
  where
    by : (x y : Bool) → is_input (take 21 bs) ≡ x → is_output (take 51 bs) ≡ y → cond x (Some (record { direction = Input; message_type = type_of (take 21 bs); width = 21 })) (cond y (Some (record { direction = Output; message_type = type_of (take 51 bs); width = 51 })) None) ≡ Some a → (is_input (take a.width bs) || is_output (take a.width bs)) ≡ true
    by true y p q r =
        let w : 21 ≡ a.width = cc in
        or_left (is_input (take a.width bs)) _ (ap (λ n. is_input (take n bs)) (sym w) ∙ p)
    by false true p q r =
        let w : 51 ≡ a.width = cc in
        or_right (is_input (take a.width bs)) _ (ap (λ n. is_output (take n bs)) (sym w) ∙ q)
    by false false p q r = absurd (grind arith)

headers_back : (text : List ℕ) (a : Application) → application_at text ≡ Ok a → HeadersOk text a
headers_back text a e = by (is_basic (take 29 text)) refl e
  where
    by : (x : Bool) → is_basic (take 29 text) ≡ x → cond x (wanted (application_of (drop 29 text)) 29) (refused_at 3 0) ≡ Ok a → HeadersOk text a
    by true p q = record { basic = p; application = application_back (drop 29 text) a (wanted_back (application_of (drop 29 text)) 29 a q) }
    by false p q = absurd (grind arith)

-- block 3
opening_back : (text : List ℕ) (i : ℕ) (o : Opening) → opening_at text i ≡ Ok o → UserFits (option_map (values_of text) o.user)
opening_back text i o e = by (starts (codes "{3:") (drop i text)) e
  where
    by : (x : Bool) → cond x (heed (wanted (user_at text i) i) opened) (Ok (record { user = None; at = i })) ≡ Ok o → UserFits (option_map (values_of text) o.user)
    by true q =
        let h = heed_back (wanted (user_at text i) i) opened o q in
        let b = h.0 in
        let r = h.2 in
        let u : Some b.header ≡ o.user = cc in
        subst (λ (v : Option UserHeader). UserFits (option_map (values_of text) v)) u (user_back text i b (wanted_back (user_at text i) i b h.1))
    by false q =
        let u : None ≡ o.user = cc in
        subst (λ (v : Option UserHeader). UserFits (option_map (values_of text) v)) u tt

-- block 4
fields_back : (text : List ℕ) (s : ℕ) (b : Body) → s ≤ length text → sized (body_at text s) ≡ Ok b → AllByRecursion ItemOk (fields_of text (body_at text s))
fields_back text s b l e = by (body_at text s) refl e
  where
    by : (r : Result Found Refusal) → body_at text s ≡ r → sized r ≡ Ok b → AllByRecursion ItemOk (fields_of text r)
    by (Ok f) p q = (fields_accepted text s f l p).ok
    by (Err x) p q = absurd (grind arith)

-- the first line begins in the text, or at its end
start_within : (text : List ℕ) (i s : ℕ) → body_start text i ≡ Ok s → s ≤ length text
start_within text i s e = by (starts (codes "{4:" ++ 13 ∷ 10 ∷ []) (drop i text)) refl e
  where
    by : (x : Bool) → starts (codes "{4:" ++ 13 ∷ 10 ∷ []) (drop i text) ≡ x → cond x (Ok (i + 5)) (refused_at 3 i) ≡ Ok s → s ≤ length text
    by true p q =
        let at : i + 5 ≡ s = cc in
        omega (arith, starts_length (codes "{4:" ++ 13 ∷ 10 ∷ []) (drop i text) p, length-drop i text)
    by false p q = absurd (grind arith)

-- all parts together
made_back : (text : List ℕ) (a : Application) (o : Opening) (s : ℕ) (b : Body) → application_at text ≡ Ok a → opening_at text (29 + a.width) ≡ Ok o → body_start text o.at ≡ Ok s → sized (body_at text s) ≡ Ok b → PartsOk (parts_of text (made_of a o s b))
made_back text a o s b ea eo es eb =
    let h = headers_back text a ea in
    let w : a.width ≡ (29 + a.width) - 29 = omega arith in
    record {
      basic = h.basic;
      application = ap (λ n. is_input (take n (drop 29 text)) || is_output (take n (drop 29 text))) (sym w) ∙ h.application;
      user = opening_back text (29 + a.width) o eo;
      fields = fields_back text s b (start_within text o.at s es) eb;
    }

pub accepted : Accepted
accepted text l e =
    let h0 = heed_back (checked text) (λ _. walked text) l e in
    let h1 = heed_back (application_at text) _ l h0.2 in
    let a = h1.0 in
    let h2 = heed_back (opening_at text (29 + a.width)) _ l h1.2 in
    let o = h2.0 in
    let h3 = heed_back (body_start text o.at) _ l h2.2 in
    let s = h3.0 in
    let h4 = heed_back (sized (body_at text s)) _ l h3.2 in
    let b = h4.0 in
    let h5 = heed_back (end_at text (b.hyphen + 2)) (λ _. Ok (made_of a o s b)) l h4.2 in
    let q = h5.2 in
    let same : made_of a o s b ≡ l = cc in
    subst (λ (m : Layout). PartsOk (parts_of text m)) same (made_back text a o s b h1.1 h2.1 h3.1 h4.1)
