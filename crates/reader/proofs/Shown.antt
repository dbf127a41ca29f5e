-- Field i of a sound text, from the fields that were laid out.
use Rattle.std.proofs.Common.{◌≡◌, ℕ, zero, suc, List, [], ◌∷◌, map, Some, None, Ok, Err, Option, Result, sym, refl, ap, ◌∙◌, subst, arith}
use Rattle.std.specs.List.{slice_get, AllByRecursion}
use Rattle.std.specs.Option.{option_map}
use Rattle.mt_text.specs.Refusals.{Refusal}
use Rattle.fields.specs.declared.scan.Field.{Field}
use Rattle.layout.specs.declared.walk.Layout.{Layout}
use Rattle.layout.specs.Walk.{heed}
use Rattle.reader.specs.declared.interface.Row.{Row}
use Rattle.reader.specs.Meaning.{Meaning, KeepsLaws}
use Rattle.reader.specs.Rows.{Taken, format_for}
use Rattle.reader.specs.Texts.{fields_in, values_in, Sound, sound, Answer, reading_of}
use Rattle.reader.specs.Views.{viewed, view}
use Rattle.reader.proofs.Sounds.{heeded, Passed, passed_all, taken_fields}
use Rattle.reader.proofs.Formats.{ByTag, formats_by_tag}

-- a text whose reading is answered is sound, with that layout
pub record Read {F : Type 0} (m : Meaning F) (text : List ℕ) (l : Layout) : Type 0 where
  pub taken : List (Taken F)
  pub is_sound : sound m text ≡ Ok (record { layout = l; taken = taken })

pub read_sound : {F : Type 0} (m : Meaning F) (text : List ℕ) (a : Answer) → Ok a ≡ reading_of m text → Read m text a.layout
read_sound m text a e =
    let s = heeded (sound m text) (λ s. Ok (record { layout = s.layout; values = values_in m text s.taken })) a (sym e) in
    let f = s.2 in
    let same : record { layout = s.0.layout; values = values_in m text s.0.taken } ≡ a = cc in
    subst (Read m text) (ap (λ a. a.layout) same) (record { taken = s.0.taken; is_sound = s.1 })

pub read_unsound : {F : Type 0} (m : Meaning F) (text : List ℕ) (x : Refusal) → Err x ≡ reading_of m text → sound m text ≡ Err x
read_unsound {F = F} m text x e = by (sound m text) e
  where
    by : (r : Result (Sound F) Refusal) → ◌≡◌ {A = Result Answer Refusal} (Err x) (heed {X = Sound F} r (λ s. Ok (record { layout = s.layout; values = values_in m text s.taken }))) → r ≡ Err x
    by (Ok s) p = absurd (grind arith)
    by (Err y) p = cc

module _ {F : Type 0} (m : Meaning F) (text : List ℕ) (l : Layout) (r : Read m text l) where
  abbrev whole : Sound F
  whole = record { layout = l; taken = r.taken }

  pub read_passed : Passed m text whole
  read_passed = passed_all m text whole r.is_sound

  viewed_at : (i : ℕ) (o : Option (Taken F)) → slice_get r.taken i ≡ o → Ok (option_map (viewed m text) o) ≡ view m text i
  viewed_at i o e = ap (λ o. Ok (option_map (viewed m text) o)) (sym e) ∙ ap (λ q. heed q (λ s. Ok (option_map (viewed m text) (slice_get s.taken i)))) (sym r.is_sound)

  -- the field at a place, with the format of its row
  at_place : (rows : List (Row F)) (ts : List (Taken F)) (i : ℕ) (f : Field) → AllByRecursion (ByTag rows) ts → Some f ≡ slice_get (map (λ t. t.field) ts) i → (t : Taken F) × (slice_get ts i ≡ Some t) × (t.field ≡ f) × (format_for f.tag rows ≡ Some t.format)
  at_place rows [] i f h e = absurd (grind arith)
  at_place rows (t ∷ ts) zero f h e =
      let same : t.field ≡ f = cc in
      (t, refl, same, ap (λ f. format_for f.tag rows) (sym same) ∙ h.0)
  at_place rows (t ∷ ts) (suc i) f h e = at_place rows ts i f h.1 e

  no_place : (ts : List (Taken F)) (i : ℕ) → None ≡ slice_get (map (λ t. t.field) ts) i → slice_get ts i ≡ None
  no_place [] i e = refl
  no_place (t ∷ ts) zero e = absurd (grind arith)
  no_place (t ∷ ts) (suc i) e = no_place ts i e

  fields_are : map (λ t. t.field) r.taken ≡ fields_in text l
  fields_are = let p = read_passed in taken_fields m text l.hyphen 0 p.rows (fields_in text l) r.taken p.walked

  pub view_none : (i : ℕ) → None ≡ slice_get (fields_in text l) i → Ok None ≡ view m text i
  view_none i e = viewed_at i None (no_place r.taken i (e ∙ ap (λ fs. slice_get fs i) (sym fields_are)))

  -- the module has the type, and its rows are those by which the text was read
  pub has_rows : None ≡ m.rows l.message_type → ⊥
  has_rows e = let q = e ∙ read_passed.has_type in absurd (grind arith)

  module _ (laws : KeepsLaws m) (rows : List (Row F)) (rows_are : Some rows ≡ m.rows l.message_type) (i : ℕ) (f : Field) (e : Some f ≡ slice_get (fields_in text l) i) where
    placed : (t : Taken F) × (slice_get r.taken i ≡ Some t) × (t.field ≡ f) × (format_for f.tag rows ≡ Some t.format)
    placed =
        let p = read_passed in
        let q = rows_are ∙ p.has_type in
        let same : p.rows ≡ rows = cc in
        at_place rows r.taken i f
        (subst (λ rs. AllByRecursion (ByTag rs) r.taken) same (formats_by_tag m text l.hyphen p.rows (laws.rows l.message_type p.rows p.has_type) 0 0 p.rows refl (fields_in text l) r.taken p.walked))
        (e ∙ ap (λ fs. slice_get fs i) (sym fields_are))

    pub has_format : None ≡ format_for f.tag rows → ⊥
    has_format n = let q = n ∙ placed.3 in absurd (grind arith)

    pub view_some : (k : F) → Some k ≡ format_for f.tag rows → Ok (Some (viewed m text (record { format = k; field = f }))) ≡ view m text i
    view_some k n =
        let p = placed in
        let q = n ∙ p.3 in
        let same : k ≡ p.0.format = cc in
        let t : record { format = k; field = f } ≡ p.0 = λ j. record { format = same j; field = sym p.2 j } in
        ap (λ t. Ok (Some (viewed m text t))) t ∙ viewed_at i (Some p.0) p.1
