-- The normal parts of a sound text are well-formed, and the normal text is short.
use Rattle.std.proofs.Common.{◌≡◌, ℕ, ◌-◌, ◌≤◌, true, ◌||◌, eqb, List, [], ◌∷◌, map, length, drop, is_some, Some, None, Ok, Err, Option, Result, sym, refl, ap, ◌∙◌, subst, arith}
use Rattle.std.specs.Option.{option_map}
use Rattle.std.specs.List.{AllByRecursion}
use Rattle.std.proofs.lemmas.List.{length-map}
use Rattle.std.proofs.lemmas.Bool.{and_parts, and_from}
use Rattle.std.proofs.lemmas.Bool.Decides.{nat_tests}
use Rattle.mt_text.specs.Classes.{every, letter_or_digit, carried}
use Rattle.mt_text.specs.Refusals.{Refusal}
use Rattle.mt_text.specs.Bytes.{checked}
use Rattle.headers.specs.declared.user.Item.TheVariants.{Priority}
use Rattle.fields.specs.Fields.{Found, body_at}
use Rattle.fields.specs.Written.{ItemOk, shown}
use Rattle.layout.specs.declared.walk.Layout.{Layout}
use Rattle.layout.specs.Walk.{laid_out, walked}
use Rattle.layout.specs.Render.{User, ValueFits, UserFits, fields_of, parts_of, PartsOk, WellFormed, capital_of, in_capitals}
use Rattle.layout.proofs.Backs.{accepted}
use Rattle.reader.specs.Meaning.{Meaning, KeepsLaws}
use Rattle.reader.specs.Rows.{Taken}
use Rattle.reader.specs.Texts.{fields_found, fields_in, Sound, sound}
use Rattle.normal_form.specs.Normal.{normal_item, normal_parts, normal_text}
use Rattle.reader.proofs.Sounds.{heeded, Passed, passed_all, Fits, taken_fields, taken_accepted}
use Rattle.normal_form.proofs.Carried.{checked_carried, checked_from, every_take, every_drop}
use Rattle.normal_form.proofs.Neat.{Neat, neat_ok, rendered_carried, Sized, rendered_sized}

-- ---- item 113 in capitals

-- it stays four letters or digits, and block 3 stays as it must be
capitals_kept : (v : List ℕ) → every letter_or_digit v ≡ true → every letter_or_digit (map capital_of v) ≡ true
capitals_kept [] h = refl
capitals_kept (b ∷ v) h =
    let r = and_parts (letter_or_digit b) (every letter_or_digit v) h in
    let k = r.0 in
    and_from (letter_or_digit (capital_of b)) (every letter_or_digit (map capital_of v)) (grind (arith, nat_tests)) (capitals_kept v r.1)

capitals_fit : (v : Option (List ℕ)) → ValueFits Priority v → ValueFits Priority (option_map (map capital_of) v)
capitals_fit None h = tt
capitals_fit (Some v) h =
    let r = and_parts (eqb (length v) 4) (every letter_or_digit v) h in
    and_from (eqb (length (map capital_of v)) 4) (every letter_or_digit (map capital_of v)) (ap (λ n. eqb n 4) (length-map v capital_of) ∙ r.0) (capitals_kept v r.1)

given_kept : (f : List ℕ → List ℕ) (v : Option (List ℕ)) → is_some v ≡ is_some (option_map f v)
given_kept f (Some v) = refl
given_kept f None = refl

user_kept : (u : Option User) → UserFits u → UserFits (option_map in_capitals u)
user_kept None h = tt
user_kept (Some u) h =
    record {
      reference = h.reference;
      service = h.service;
      priority = capitals_fit u.priority h.priority;
      tracking = h.tracking;
      some = subst (λ b. (is_some u.reference || (is_some u.service || (b || is_some u.tracking))) ≡ true) (given_kept (map capital_of) u.priority) h.some;
    }

-- ---- the fields

-- those that a layout found are those of the text's parts
pub fields_shown : (text : List ℕ) (r : Result Found Refusal) → fields_of text r ≡ map (shown text) (fields_found r)
fields_shown text (Ok b) = refl
fields_shown text (Err x) = refl

-- with normal contents they are neat
neat_items : {F : Type 0} (m : Meaning F) → KeepsLaws m → (text : List ℕ) (ts : List (Taken F)) → AllByRecursion ItemOk (map (shown text) (map (λ t. t.field) ts)) → AllByRecursion (Fits m text) ts → AllByRecursion Neat (map (normal_item m text) ts)
neat_items m laws text [] ok fits = tt
neat_items m laws text (t ∷ ts) ok fits =
    let f = laws.formats t.format in
    let content = f.fits _ (f.accepted (shown text t.field).content fits.0) in
    (record { tag = ok.0.tag; content = content }, neat_items m laws text ts ok.1 fits.1)

-- ---- the whole

-- each byte of a text that is laid out is carried
text_carried : (s : List ℕ) (l : Layout) → laid_out s ≡ Ok l → every carried s ≡ true
text_carried s l e = checked_carried s (heeded (checked s) (λ _. walked s) l e).1

module _ {F : Type 0} (m : Meaning F) (laws : KeepsLaws m) (s : List ℕ) (x : Sound F) (e : sound m s ≡ Ok x) where
  -- what is known of the text itself
  went : Passed m s x
  went = passed_all m s x e

  fields_are : map (λ t. t.field) x.taken ≡ fields_in s x.layout
  fields_are = taken_fields m s x.layout.hyphen 0 went.rows (fields_in s x.layout) x.taken went.walked

  found : PartsOk (parts_of s x.layout)
  found = accepted s x.layout went.laid

  -- its normal fields, parts and text
  pub normal_neat : AllByRecursion Neat (map (normal_item m s) x.taken)
  normal_neat =
      let same = fields_shown s (body_at s x.layout.body) ∙ ap (map (shown s)) (sym fields_are) in
      neat_items m laws s x.taken (subst (AllByRecursion ItemOk) same found.fields) (taken_accepted m s x.layout.hyphen 0 went.rows (fields_in s x.layout) x.taken went.walked)

  pub normal_parts_ok : PartsOk (normal_parts m s x)
  normal_parts_ok = record { basic = found.basic; application = found.application; user = user_kept _ found.user; fields = neat_ok _ normal_neat }

  pub normal_few : length (normal_parts m s x).fields ≤ 43
  normal_few = omega (arith, length-map x.taken (normal_item m s), length-map x.taken (λ t. t.field), ap length fields_are, went.few)

  normal_sized : Sized (normal_parts m s x)
  normal_sized = rendered_sized (normal_parts m s x) normal_parts_ok normal_neat normal_few

  pub normal_short : length (normal_text m s x) ≤ 9935
  normal_short = normal_sized.most

  pub normal_well_formed : WellFormed (normal_parts m s x)
  normal_well_formed =
      let bytes = text_carried s x.layout went.laid in
      let basic = every_take carried 29 s bytes in
      let application = every_take carried (x.layout.headers_end - 29) (drop 29 s) (every_drop carried 29 s bytes) in
      let all = rendered_carried (normal_parts m s x) basic application normal_parts_ok.user normal_neat in
      record { parts = normal_parts_ok; bytes = checked_from (normal_text m s x) normal_sized.some (omega (arith, normal_short)) all }
