-- Which formats take the fields of a text follows from the rows and the tags alone.
use Rattle.std.proofs.Common.{◌≡◌, ℕ, Bool, true, false, cond, List, [], ◌∷◌, map, Some, None, Ok, Err, Option, Result, refl, ap, ◌∙◌, arith}
use Rattle.std.specs.Option.{option_map}
use Rattle.std.specs.List.{AllByRecursion}
use Rattle.mt_text.specs.Refusals.{Refusal, refused_at}
use Rattle.fields.specs.declared.tags.Tag.{Tag}
use Rattle.fields.specs.declared.scan.Field.{Field}
use Rattle.fields.specs.Written.{shown}
use Rattle.reader.specs.declared.interface.Row.{Row}
use Rattle.reader.specs.Meaning.{Meaning}
use Rattle.reader.specs.Rows.{Place, no_row, short, here, seek, filled, Taken, with_taken, take_in, assigned}
use Rattle.reader.specs.Texts.{Sound, sound, fields_in}
use Rattle.reader.proofs.Sounds.{passed_all, taken_fields, taken_accepted}

-- the formats that take fields of these tags, in order, from the current row on
abbrev from_place : {F : Type 0} → Place F → (ℕ → List (Row F) → Option (List F)) → Option (List F)
from_place no_row rest = None
from_place short rest = None
from_place (here r rs n) rest = option_map (λ fs. r.format ∷ fs) (rest n (r ∷ rs))

abbrev pub chosen : {F : Type 0} → ℕ → List (Row F) → List Tag → Option (List F)
chosen n rs [] = cond (filled n rs) (Some []) None
chosen n rs (t ∷ ts) = from_place (seek t n rs) (λ k qs. chosen k qs ts)

-- of the fields that were taken, their formats, the fields and their tags
abbrev pub formats_of : {F : Type 0} → List (Taken F) → List F
formats_of ts = map (λ t. t.format) ts

abbrev pub fields_of : {F : Type 0} → List (Taken F) → List Field
fields_of ts = map (λ t. t.field) ts

abbrev pub tags_of : {F : Type 0} → List (Taken F) → List Tag
tags_of ts = map (λ f. f.tag) (fields_of ts)

-- each field is accepted by the format that took it
abbrev pub AllAccepted : {F : Type 0} → Meaning F → List ℕ → List (Taken F) → Type 0
AllAccepted m text ts = AllByRecursion (λ t. (m.format t.format).accepts (shown text t.field).content ≡ true) ts

-- so it is in a sound text
pub all_accepted : {F : Type 0} (m : Meaning F) (s : List ℕ) (x : Sound F) → sound m s ≡ Ok x → AllAccepted m s x.taken
all_accepted m s x e = let p = passed_all m s x e in taken_accepted m s x.layout.hyphen 0 p.rows (fields_in s x.layout) x.taken p.walked

-- one step back in the walk: its field was taken, and then the rest
taken_back : {F : Type 0} (ok : Bool) (t : Taken F) (r : Result (List (Taken F)) Refusal) (at : ℕ) (ts : List (Taken F)) → cond ok (with_taken t r) (refused_at 9 at) ≡ Ok ts → (us : List (Taken F)) × (r ≡ Ok us) × (t ∷ us ≡ ts)
taken_back true t (Ok us) at ts e = (us, refl, cc)
taken_back true t (Err x) at ts e = absurd (grind arith)
taken_back false t r at ts e = absurd (grind arith)

-- and in the choice of formats
chosen_back : {F : Type 0} (p q : F) (o : Option (List F)) (ps : List F) → option_map (λ fs. q ∷ fs) o ≡ Some (p ∷ ps) → (q ≡ p) × (o ≡ Some ps)
chosen_back p q (Some qs) ps e = let same : qs ≡ ps = cc in (cc, ap Some same)
chosen_back p q None ps e = absurd (grind arith)

module _ {F : Type 0} (m : Meaning F) (text : List ℕ) (h : ℕ) where
  -- a walk that succeeded took each field by the format that its tag chooses
  chosen_by : (n : ℕ) (rs : List (Row F)) (fs : List Field) (ts : List (Taken F)) → assigned m text h n rs fs ≡ Ok ts → chosen n rs (map (λ f. f.tag) fs) ≡ Some (formats_of ts)
  chosen_by n rs [] ts e = by (filled n rs) e
    where
      by : (b : Bool) → cond b (Ok []) (refused_at 8 h) ≡ Ok ts → cond b (Some []) None ≡ Some (formats_of ts)
      by true q = let same : [] ≡ ts = cc in ap (λ us. Some (formats_of us)) same
      by false q = absurd (grind arith)
  chosen_by n rs (f ∷ fs) ts e = by (λ k qs us. chosen_by k qs fs us) (seek f.tag n rs) e
    where
      by : ((k : ℕ) (qs : List (Row F)) (us : List (Taken F)) → assigned m text h k qs fs ≡ Ok us → chosen k qs (map (λ f. f.tag) fs) ≡ Some (formats_of us)) → (p : Place F) → take_in m text f p (λ k qs. assigned m text h k qs fs) ≡ Ok ts → from_place p (λ k qs. chosen k qs (map (λ f. f.tag) fs)) ≡ Some (formats_of ts)
      by ih no_row q = absurd (grind arith)
      by ih short q = absurd (grind arith)
      by ih (here r qs k) q =
          let b = taken_back ((m.format r.format).accepts (shown text f).content) (record { format = r.format; field = f }) (assigned m text h k (r ∷ qs) fs) f.content_at ts q in
          ap (option_map (λ ps. r.format ∷ ps)) (ih k (r ∷ qs) b.0 b.1) ∙ ap (λ us. Some (formats_of us)) b.2

  pub walk_chosen : (n : ℕ) (rs : List (Row F)) (fs : List Field) (ts : List (Taken F)) → assigned m text h n rs fs ≡ Ok ts → chosen n rs (tags_of ts) ≡ Some (formats_of ts)
  walk_chosen n rs fs ts e = ap (λ gs. chosen n rs (map (λ f. f.tag) gs)) (taken_fields m text h n rs fs ts e) ∙ chosen_by n rs fs ts e

  -- fields that are accepted by the formats that their tags choose are so taken
  pub walk_again : (n : ℕ) (rs : List (Row F)) (ts : List (Taken F)) → chosen n rs (tags_of ts) ≡ Some (formats_of ts) → AllAccepted m text ts → assigned m text h n rs (fields_of ts) ≡ Ok ts
  walk_again n rs [] e ok = by (filled n rs) e
    where
      by : (b : Bool) → cond b (Some []) None ≡ Some (formats_of {F = F} []) → ◌≡◌ {A = Result (List (Taken F)) Refusal} (cond b (Ok []) (refused_at 8 h)) (Ok [])
      by true q = refl
      by false q = absurd (grind arith)
  walk_again n rs (t ∷ ts) e ok = by (λ k qs q. walk_again k qs ts q ok.1) (seek t.field.tag n rs) e
    where
      by : ((k : ℕ) (qs : List (Row F)) → chosen k qs (tags_of ts) ≡ Some (formats_of ts) → assigned m text h k qs (fields_of ts) ≡ Ok ts) → (p : Place F) → from_place p (λ k qs. chosen k qs (tags_of ts)) ≡ Some (t.format ∷ formats_of ts) → take_in m text t.field p (λ k qs. assigned m text h k qs (fields_of ts)) ≡ Ok (t ∷ ts)
      by ih no_row q = absurd (grind arith)
      by ih short q = absurd (grind arith)
      by ih (here r qs k) q =
          let b = chosen_back t.format r.format (chosen k (r ∷ qs) (tags_of ts)) (formats_of ts) q in
          let rest = ih k (r ∷ qs) b.1 in
          (λ i. cond ((m.format (b.0 i)).accepts (shown text t.field).content) (with_taken (record { format = b.0 i; field = t.field }) (rest i)) (refused_at 9 t.field.content_at))
          ∙ ap (λ c. cond c (Ok (t ∷ ts)) (refused_at 9 t.field.content_at)) ok.0
