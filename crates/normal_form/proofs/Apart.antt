-- Two sound texts have equal normal texts exactly when they say the same.
use Rattle.std.proofs.Common.{◌≡◌, ℕ, true, List, [], ◌∷◌, map, Ok, sym, refl, ap, ◌∙◌, arith}
use Rattle.layout.specs.Walk.{laid_out}
use Rattle.layout.specs.Render.{Parts, rendered, WellFormed, parts_of}
use Rattle.layout.proofs.TextTrips.{round_trip}
use Rattle.reader.specs.Meaning.{Meaning, KeepsLaws}
use Rattle.reader.specs.Rows.{Taken}
use Rattle.reader.specs.Texts.{Sound, sound}
use Rattle.normal_form.specs.Normal.{normal_item, normal_parts}
use Rattle.normal_form.specs.Same.{content_of, SameField, SameFields, SaysSame}
use Rattle.normal_form.specs.Laws.{ToldApart}
use Rattle.reader.proofs.Sounds.{passed_all}
use Rattle.normal_form.proofs.WellFormed.{normal_well_formed}
use Rattle.normal_form.proofs.Headed.{same_type}
use Rattle.normal_form.proofs.Walks.{chosen, formats_of, tags_of, AllAccepted, all_accepted, walk_chosen}
use Rattle.normal_form.proofs.Users.{same_capitals, capitals_same}

-- ---- field by field

module _ {F : Type 0} (m : Meaning F) (laws : KeepsLaws m) (s t : List ℕ) where
  -- two fields that one format accepts
  module _ (x y : Taken F) (one : x.format ≡ y.format) (a : (m.format x.format).accepts (content_of s x) ≡ true) (b : (m.format y.format).accepts (content_of t y) ≡ true) where
    -- they have one normal content exactly where they say the same
    same_item : SameField m s t x y → normal_item m s x ≡ normal_item m t y
    same_item h =
        let c = content_of s x in
        let ok = ap (λ f. (m.format f).accepts c) (sym one) ∙ a in
        let saying = ap (λ f. (m.format f).says c) (sym one) ∙ h.saying in
        let normal = ap (λ f. (m.format f).normal c) one ∙ (laws.formats y.format).one_normal c (content_of t y) ok b saying in
        λ i. record { tag = h.tag i; content = normal i }

    item_same : normal_item m s x ≡ normal_item m t y → SameField m s t x y
    item_same e =
        record {
          tag = ap (λ k. k.tag) e;
          saying = sym ((laws.formats x.format).same (content_of s x) a) ∙ (λ i. (m.format (one i)).says (e i).content) ∙ (laws.formats y.format).same (content_of t y) b;
        }

  -- so for all fields in order
  same_items : (xs ys : List (Taken F)) → formats_of xs ≡ formats_of ys → AllAccepted m s xs → AllAccepted m t ys → SameFields m s t xs ys → map (normal_item m s) xs ≡ map (normal_item m t) ys
  same_items [] [] p a b h = refl
  same_items [] (y ∷ ys) p a b h = absurd h
  same_items (x ∷ xs) [] p a b h = absurd h
  same_items (x ∷ xs) (y ∷ ys) p a b h = λ i. same_item x y (cc) a.0 b.0 h.0 i ∷ same_items xs ys (cc) a.1 b.1 h.1 i

  items_same : (xs ys : List (Taken F)) → formats_of xs ≡ formats_of ys → AllAccepted m s xs → AllAccepted m t ys → map (normal_item m s) xs ≡ map (normal_item m t) ys → SameFields m s t xs ys
  items_same [] [] p a b e = tt
  items_same [] (y ∷ ys) p a b e = absurd (grind arith)
  items_same (x ∷ xs) [] p a b e = absurd (grind arith)
  items_same (x ∷ xs) (y ∷ ys) p a b e = (item_same x y (cc) a.0 b.0 (cc), items_same xs ys (cc) a.1 b.1 (cc))

  -- fields that say the same have the same tags
  same_tags : (xs ys : List (Taken F)) → SameFields m s t xs ys → tags_of xs ≡ tags_of ys
  same_tags [] [] h = refl
  same_tags [] (y ∷ ys) h = absurd h
  same_tags (x ∷ xs) [] h = absurd h
  same_tags (x ∷ xs) (y ∷ ys) h = λ i. h.0.tag i ∷ same_tags xs ys h.1 i

-- the normal fields have the tags of their fields
item_tags : {F : Type 0} (m : Meaning F) (s : List ℕ) (xs : List (Taken F)) → map (λ k. k.tag) (map (normal_item m s) xs) ≡ tags_of xs
item_tags m s [] = refl
item_tags m s (x ∷ xs) = ap (λ ts. x.field.tag ∷ ts) (item_tags m s xs)

-- ---- the parts

-- well-formed parts that are written as one text are equal
one_rendering : (p q : Parts) → WellFormed p → WellFormed q → rendered p ≡ rendered q → p ≡ q
one_rendering p q a b e =
    let k = round_trip p a in
    let l = round_trip q b in
    let found = sym k.1.laid ∙ ap laid_out e ∙ l.1.laid in
    let one : k.0 ≡ l.0 = cc in
    sym k.1.parts ∙ (λ i. parts_of (e i) (one i)) ∙ l.1.parts

module _ {F : Type 0} (m : Meaning F) (laws : KeepsLaws m) (s t : List ℕ) (x y : Sound F) (p : sound m s ≡ Ok x) (q : sound m t ≡ Ok y) where
  -- under one block 2, fields of the same tags are taken by the same formats
  one_format : (parts_of s x.layout).application ≡ (parts_of t y.layout).application → tags_of x.taken ≡ tags_of y.taken → formats_of x.taken ≡ formats_of y.taken
  one_format head tags =
      let a = passed_all m s x p in
      let b = passed_all m t y q in
      let types = ap m.rows (same_type s t x.layout y.layout a.laid b.laid head) in
      let rows : a.rows ≡ b.rows = cc (types, a.has_type, b.has_type) in
      let u = walk_chosen m s x.layout.hyphen 0 a.rows _ x.taken a.walked in
      let v = walk_chosen m t y.layout.hyphen 0 b.rows _ y.taken b.walked in
      let w = sym u ∙ (λ i. chosen 0 (rows i) (tags i)) ∙ v in
      cc

  -- two sound texts have equal normal parts exactly when they say the same
  same_parts : SaysSame m s t x y → normal_parts m s x ≡ normal_parts m t y
  same_parts h =
      let users = same_capitals (parts_of s x.layout).user (parts_of t y.layout).user h.user in
      let items = same_items m laws s t x.taken y.taken (one_format h.application (same_tags m laws s t x.taken y.taken h.fields)) (all_accepted m s x p) (all_accepted m t y q) h.fields in
      λ i. record { basic = h.basic i; application = h.application i; user = users i; fields = items i }

  pub parts_same : normal_parts m s x ≡ normal_parts m t y → SaysSame m s t x y
  parts_same e =
      let tags = sym (item_tags m s x.taken) ∙ ap (λ k. map (λ f. f.tag) k.fields) e ∙ item_tags m t y.taken in
      record {
        basic = ap (λ k. k.basic) e;
        application = ap (λ k. k.application) e;
        user = capitals_same (parts_of s x.layout).user (parts_of t y.layout).user (ap (λ k. k.user) e);
        fields = items_same m laws s t x.taken y.taken (one_format (ap (λ k. k.application) e) tags) (all_accepted m s x p) (all_accepted m t y q) (ap (λ k. k.fields) e);
      }

  -- and so equal normal texts
  pub told_apart : ToldApart m s t x y
  told_apart =
      record {
        same_normal = λ h. ap rendered (same_parts h);
        same_saying = λ e. parts_same (one_rendering (normal_parts m s x) (normal_parts m t y) (normal_well_formed m laws s x p) (normal_well_formed m laws t y q) e);
      }
