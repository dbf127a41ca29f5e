-- When two sound texts say the same.
use Rattle.std.specs.Prelude.{◌≡◌, ℕ, List, [], ◌∷◌, map, Some, None, Option}
use Rattle.std.specs.Option.{option_map}
use Rattle.fields.specs.Written.{shown}
use Rattle.layout.specs.Render.{User, parts_of, capital_of}
use Rattle.reader.specs.Meaning.{Meaning}
use Rattle.reader.specs.Rows.{Taken}
use Rattle.reader.specs.Texts.{Sound}

-- two values without regard to the case of their letters
abbrev pub SameButCase : Option (List ℕ) → Option (List ℕ) → Type 0
SameButCase v w = option_map (map capital_of) v ≡ option_map (map capital_of) w

-- block 3, tag by tag: 108, 111, 113 and 121
pub record SameUser (u v : User) : Type 0 where
  pub reference : u.reference ≡ v.reference
  pub service : u.service ≡ v.service
  pub priority : SameButCase u.priority v.priority
  pub tracking : u.tracking ≡ v.tracking

-- both have a block 3 or neither has
abbrev pub SameUsers : Option User → Option User → Type 0
SameUsers None None = Unit {0}
SameUsers None (Some v) = ⊥
SameUsers (Some u) None = ⊥
SameUsers (Some u) (Some v) = SameUser u v

-- what the content of a field says, by the format of its row
abbrev pub content_of : {F : Type 0} → List ℕ → Taken F → List ℕ
content_of text t = (shown text t.field).content

pub record SameField {F : Type 0} (m : Meaning F) (s t : List ℕ) (x y : Taken F) : Type 0 where
  pub tag : x.field.tag ≡ y.field.tag
  pub saying : (m.format x.format).says (content_of s x) ≡ (m.format y.format).says (content_of t y)

-- field by field, in order
abbrev pub SameFields : {F : Type 0} → Meaning F → List ℕ → List ℕ → List (Taken F) → List (Taken F) → Type 0
SameFields m s t [] [] = Unit {0}
SameFields m s t [] (y ∷ ys) = ⊥
SameFields m s t (x ∷ xs) [] = ⊥
SameFields m s t (x ∷ xs) (y ∷ ys) = SameField m s t x y × SameFields m s t xs ys

-- blocks 1 and 2 equal, block 3 equal by tag but for the case of 113, tags equal in order, and contents
-- that say the same; block 5 plays no part
pub record SaysSame {F : Type 0} (m : Meaning F) (s t : List ℕ) (x y : Sound F) : Type 0 where
  pub basic : (parts_of s x.layout).basic ≡ (parts_of t y.layout).basic
  pub application : (parts_of s x.layout).application ≡ (parts_of t y.layout).application
  pub user : SameUsers (parts_of s x.layout).user (parts_of t y.layout).user
  pub fields : SameFields m s t x.taken y.taken
