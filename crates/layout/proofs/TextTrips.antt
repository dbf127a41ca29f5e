-- A text as it is written from well-formed parts is laid out into these parts.
use Rattle.std.proofs.Common.{◌≡◌, ℕ, ◌+◌, ◌-◌, ◌≤◌, true, false, cond, eqb, ltb, List, [], ◌∷◌, ◌++◌, map, length, take, drop, Some, None, Ok, codes, Option, sym, refl, ap, ◌∙◌, subst, ⊎_elim, arith}
use Rattle.std.specs.Option.{option_map}
use Rattle.std.specs.List.{AllByRecursion}
use Rattle.std.proofs.lemmas.List.{take_at, drop_at, drop-drop, take-append-drop, length-take-le, length-drop}
use Rattle.std.proofs.lemmas.Bool.{and_parts, and_left, and_right, eqb-true, or_cases}
use Rattle.mt_text.specs.Refusals.{refused_at}
use Rattle.headers.specs.declared.application.Application.{Application}
use Rattle.headers.specs.declared.application.Direction.TheVariants.{Input, Output}
use Rattle.headers.specs.Parts.{starts}
use Rattle.headers.specs.Basic.{is_basic}
use Rattle.headers.specs.Application.{is_input, is_output, type_of, application_of}
use Rattle.headers.specs.User.{nothing, steps_within, user_at}
use Rattle.headers.specs.Trailer.{is_trailer}
use Rattle.headers.proofs.Starts.{starts_decides}
use Rattle.fields.specs.declared.scan.Body.{Body}
use Rattle.fields.specs.Fields.{Found, body_at, sized}
use Rattle.fields.specs.Written.{Item, ItemOk, written, shown, Finds}
use Rattle.fields.proofs.Trips.{round_trip as fields_trip}
use Rattle.layout.specs.declared.walk.Opening.{Opening}
use Rattle.layout.specs.Walk.{heed, wanted, opened, application_at, opening_at, body_start, end_at, made_of, walked}
use Rattle.layout.specs.Render.{User, Parts, user_then, rendered, UserFits, WellFormed, values_of, fields_of, LaysOut, RoundTrip}
use Rattle.layout.proofs.UserTrips.{h4, i4, values_are, all_items, all_behind}

-- ---- block 2 and what follows it

record Second (A after : List ℕ) (a : Application) : Type 0 where
  found : application_of (A ++ after) ≡ Some a
  wide : a.width ≡ length A

module _ (A after : List ℕ) where
  -- of an input text
  input : is_input A ≡ true → (a : Application) × Second A after a
  input h =
      let long : length A ≡ 21 = eqb-true (length A) 21 (and_parts (eqb (length A) 21) _ h).0 in
      let front : take 21 (A ++ after) ≡ A = take_at A after 21 long in (
        record { direction = Input; message_type = type_of A; width = 21 },
        record {
          found =
              (λ j. cond (is_input (front j)) (Some (record { direction = Input; message_type = type_of (front j); width = 21 })) (cond (is_output (take 51 (A ++ after))) (Some (record { direction = Output; message_type = type_of (take 51 (A ++ after)); width = 51 })) None))
              ∙ (λ j. cond (h j) (Some (record { direction = Input; message_type = type_of A; width = 21 })) (cond (is_output (take 51 (A ++ after))) (Some (record { direction = Output; message_type = type_of (take 51 (A ++ after)); width = 51 })) None));
          wide = sym long;
        },
      )

  -- of an output text, which does not begin as one of an input text does
  output : is_output A ≡ true → (a : Application) × Second A after a
  output h =
      let p = and_parts (eqb (length A) 51) _ h in
      let long : length A ≡ 51 = eqb-true (length A) 51 p.0 in
      let front : take 51 (A ++ after) ≡ A = take_at A after 51 long in
      let begins : A ≡ codes "{2:O" ++ drop 4 A = (starts_decides (codes "{2:O") A).0 (and_parts (starts (codes "{2:O") A) _ p.1).0 in
      let other : starts (codes "{2:I") (take 21 (A ++ after)) ≡ false = ap (λ l. starts (codes "{2:I") (take 21 (l ++ after))) begins in
      let none : is_input (take 21 (A ++ after)) ≡ false = and_right (eqb (length (take 21 (A ++ after))) 21) _ (and_left (starts (codes "{2:I") (take 21 (A ++ after))) _ other) in (
        record { direction = Output; message_type = type_of A; width = 51 },
        record {
          found =
              (λ j. cond (none j) (Some (record { direction = Input; message_type = type_of (take 21 (A ++ after)); width = 21 })) (cond (is_output (front j)) (Some (record { direction = Output; message_type = type_of (front j); width = 51 })) None))
              ∙ (λ j. cond (h j) (Some (record { direction = Output; message_type = type_of A; width = 51 })) None);
          wide = sym long;
        },
      )

-- ---- block 3, and where block 4 begins

abbrev four : List Item → List ℕ
four xs = codes "{4:" ++ 13 ∷ 10 ∷ written xs []

record Third (text : List ℕ) (i : ℕ) (u : Option User) (after : List ℕ) (o : Opening) : Type 0 where
  found : opening_at text i ≡ Ok o
  left : drop o.at text ≡ after
  values : option_map (values_of text) o.user ≡ u

third : (text : List ℕ) (i : ℕ) (u : Option User) (xs : List Item) → UserFits u → drop i text ≡ user_then u (four xs) → (o : Opening) × Third text i u (four xs) o
third text i None xs ok is = (
  record { user = None; at = i },
  record {
    found = ap (λ l. cond (starts (codes "{3:") l) (heed (wanted (user_at text i) i) opened) (Ok (record { user = None; at = i }))) is;
    left = is;
    values = refl;
  },
)
third text i (Some u) xs ok is =
    let items = sym (drop-drop 3 i text) ∙ ap (drop 3) is in
    let h = h4 text u ok (four xs) (i + 3) in
    let e = i4 text u ok (four xs) (i + 3) + 1 in
    let block : user_at text i ≡ Some (record { header = h; end = e }) = ap (λ l. cond (starts (codes "{3:") l) (steps_within 5 text (i + 3) nothing) None) is ∙ all_items text u ok (four xs) (i + 3) items in (
      record { user = Some h; at = e },
      record {
        found =
            ap (λ l. cond (starts (codes "{3:") l) (heed (wanted (user_at text i) i) opened) (Ok (record { user = None; at = i }))) is
            ∙ ap (λ b. heed (wanted b i) opened) block;
        left = all_behind text u ok (four xs) (i + 3) items;
        values = ap Some (values_are text u ok (four xs) (i + 3) items);
      },
    )

-- ---- block 4, which ends the text

record Fourth (text : List ℕ) (s : ℕ) (xs : List Item) (b : Found) : Type 0 where
  found : body_at text s ≡ Ok b
  same : map (shown text) b.fields ≡ xs
  ends : b.hyphen + 2 ≡ length text

fourth : (text : List ℕ) (s : ℕ) (xs : List Item) → AllByRecursion ItemOk xs → s ≤ length text → drop s text ≡ written xs [] → (b : Found) × Fourth text s xs b
fourth text s xs ok l is =
    let whole : take s text ++ written xs [] ≡ text = ap (λ t. take s text ++ t) (sym is) ∙ take-append-drop s text in
    let at : length (take s text) ≡ s = length-take-le s text l in
    let t = fields_trip (take s text) xs [] ok in
    let f : Finds text s xs [] t.0 = subst (λ (q : List ℕ). Finds q s xs [] t.0) whole (subst (λ (n : ℕ). Finds (take s text ++ written xs []) n xs [] t.0) at t.1) in
    (t.0, record { found = f.found; same = f.same; ends = omega (arith, f.ends) })

-- ---- the whole text

-- `{4:` CR LF is five bytes
opens_four : (text : List ℕ) (i : ℕ) (xs : List Item) → drop i text ≡ four xs → (body_start text i ≡ Ok (i + 5)) × (drop (i + 5) text ≡ written xs []) × (i + 5 ≤ length text)
opens_four text i xs is = (
  ap (λ l. cond (starts (codes "{4:" ++ 13 ∷ 10 ∷ []) l) (Ok (i + 5)) (refused_at 3 i)) is,
  sym (drop-drop 5 i text) ∙ ap (drop 5) is,
  omega (arith, ap length is, length-drop i text),
)

-- nothing follows block 4
ends_here : (text : List ℕ) (i : ℕ) → i ≡ length text → end_at text i ≡ Ok tt
ends_here text i e =
    let none : length (drop i text) ≡ 0 = omega (arith, length-drop i text) in
    ap (λ n. cond (eqb n 0) (Ok tt) (cond (is_trailer (take 22 (drop i text))) (cond (ltb 22 n) (refused_at 3 (i + 22)) (Ok tt)) (refused_at 3 i))) none

module _ (p : Parts) (ok : WellFormed p) where
  abbrev text : List ℕ
  text = rendered p

  abbrev behind : List ℕ
  behind = user_then p.user (four p.fields)

  long : length p.basic ≡ 29
  long = eqb-true (length p.basic) 29 (and_parts (eqb (length p.basic) 29) _ ok.parts.basic).0

  front : take 29 text ≡ p.basic
  front = take_at p.basic (p.application ++ behind) 29 long

  behind_front : drop 29 text ≡ p.application ++ behind
  behind_front = drop_at p.basic (p.application ++ behind) 29 long

  second : (a : Application) × Second p.application behind a
  second = ⊎_elim (input p.application behind) (output p.application behind) (or_cases (is_input p.application) (is_output p.application) ok.parts.application)

  abbrev a : Application
  a = second.0

  headers_laid : application_at text ≡ Ok a
  headers_laid =
      (λ j. cond (is_basic (front j)) (wanted (application_of (behind_front j)) 29) (refused_at 3 0))
      ∙ (λ j. cond (ok.parts.basic j) (wanted (second.1.found j) 29) (refused_at 3 0))

  behind_headers : drop (29 + a.width) text ≡ behind
  behind_headers =
      sym (drop-drop a.width 29 text) ∙ ap (drop a.width) behind_front
      ∙ drop_at p.application behind a.width (sym second.1.wide)

  opening : (o : Opening) × Third text (29 + a.width) p.user (four p.fields) o
  opening = third text (29 + a.width) p.user p.fields ok.parts.user behind_headers

  abbrev o : Opening
  o = opening.0

  start : (body_start text o.at ≡ Ok (o.at + 5)) × (drop (o.at + 5) text ≡ written p.fields []) × (o.at + 5 ≤ length text)
  start = opens_four text o.at p.fields opening.1.left

  body : (b : Found) × Fourth text (o.at + 5) p.fields b
  body = fourth text (o.at + 5) p.fields ok.parts.fields start.2 start.1

  abbrev b : Body
  b = record { fields = length body.0.fields; hyphen = body.0.hyphen }

  walk : walked text ≡ Ok (made_of a o (o.at + 5) b)
  walk =
      ap (λ r. heed r (λ a. heed (opening_at text (29 + a.width)) (λ o. heed (body_start text o.at) (λ s. heed (sized (body_at text s)) (λ b. heed (end_at text (b.hyphen + 2)) (λ _. Ok (made_of a o s b))))))) headers_laid
      ∙ ap (λ r. heed r (λ o. heed (body_start text o.at) (λ s. heed (sized (body_at text s)) (λ b. heed (end_at text (b.hyphen + 2)) (λ _. Ok (made_of a o s b)))))) opening.1.found
      ∙ ap (λ r. heed r (λ s. heed (sized (body_at text s)) (λ b. heed (end_at text (b.hyphen + 2)) (λ _. Ok (made_of a o s b))))) start.0
      ∙ ap (λ r. heed (sized r) (λ b. heed (end_at text (b.hyphen + 2)) (λ _. Ok (made_of a o (o.at + 5) b)))) body.1.found
      ∙ ap (λ r. heed r (λ _. Ok (made_of a o (o.at + 5) b))) (ends_here text (b.hyphen + 2) body.1.ends)

  -- block 2 as it is found
  application_is : take ((29 + a.width) - 29) (drop 29 text) ≡ p.application
  application_is =
      let w : (29 + a.width) - 29 ≡ a.width = omega arith in
      (λ j. take (w j) (behind_front j)) ∙ take_at p.application behind a.width (sym second.1.wide)

  fields_are : fields_of text (body_at text (o.at + 5)) ≡ p.fields
  fields_are = ap (fields_of text) body.1.found ∙ body.1.same

  lays_out : LaysOut p (made_of a o (o.at + 5) b)
  lays_out =
      record {
        laid = ap (λ r. heed r (λ _. walked text)) ok.bytes ∙ walk;
        parts = λ j. record { basic = front j; application = application_is j; user = opening.1.values j; fields = fields_are j };
      }

pub round_trip : RoundTrip
round_trip p ok = (made_of (a p ok) (o p ok) ((o p ok).at + 5) (b p ok), lays_out p ok)
