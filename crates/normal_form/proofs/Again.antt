-- The normal text of a sound text is sound, says the same, and is its own normal text.
use Rattle.std.proofs.Common.{◌≡◌, ℕ, ◌≤◌, Bool, true, false, cond, not, ◌&&◌, eqb, List, [], ◌∷◌, map, length, Some, Ok, Err, Result, sym, refl, ap, ◌∙◌, subst, arith}
use Rattle.std.specs.Option.{option_map}
use Rattle.std.proofs.lemmas.List.{length-map}
use Rattle.mt_text.specs.Refusals.{Refusal, refused_at}
use Rattle.fields.specs.declared.scan.Field.{Field}
use Rattle.fields.specs.Fields.{Found, body_at}
use Rattle.fields.specs.Written.{shown}
use Rattle.layout.specs.declared.walk.Layout.{Layout}
use Rattle.layout.specs.Walk.{heed, laid_out}
use Rattle.layout.specs.Render.{fields_of as items_of, rendered, parts_of, in_capitals}
use Rattle.layout.proofs.TextTrips.{round_trip}
use Rattle.reader.specs.Values.{Told, joined}
use Rattle.reader.specs.Meaning.{Meaning, KeepsLaws}
use Rattle.reader.specs.Rows.{Taken, assigned}
use Rattle.reader.specs.Texts.{Sound, sound, fields_found, fields_in, values_in, closing_at, balanced, settled as balances}
use Rattle.normal_form.specs.Normal.{normal_item, normal_parts, normal_text}
use Rattle.normal_form.specs.Same.{content_of}
use Rattle.normal_form.specs.Laws.{Settled}
use Rattle.reader.proofs.Sounds.{passed_all, sound_from, taken_fields}
use Rattle.normal_form.proofs.WellFormed.{normal_well_formed, normal_short}
use Rattle.normal_form.proofs.Headed.{same_type}
use Rattle.normal_form.proofs.Walks.{chosen, formats_of, fields_of, tags_of, AllAccepted, all_accepted, walk_chosen, walk_again}
use Rattle.normal_form.proofs.Users.{in_capitals_twice}
use Rattle.normal_form.proofs.Apart.{parts_same}

-- ---- the fields of the normal text

module _ {F : Type 0} (m : Meaning F) (laws : KeepsLaws m) (s t : List ℕ) where
  -- the fields gs of t with the formats of the fields of s: of the same tags, accepted, of the same values
  -- and of the same normal contents
  record Renewed (xs ys : List (Taken F)) (gs : List Field) : Type 0 where
    fields : fields_of ys ≡ gs
    formats : formats_of xs ≡ formats_of ys
    tags : tags_of xs ≡ tags_of ys
    accepted : AllAccepted m t ys
    values : values_in m s xs ≡ values_in m t ys
    normals : map (normal_item m s) xs ≡ map (normal_item m t) ys

  -- where t shows the normal fields of s
  renewed : (xs : List (Taken F)) (gs : List Field) → AllAccepted m s xs → map (normal_item m s) xs ≡ map (shown t) gs → (ys : List (Taken F)) × Renewed xs ys gs
  renewed [] [] ok e = ([], record { fields = refl; formats = refl; tags = refl; accepted = tt; values = refl; normals = refl })
  renewed [] (g ∷ gs) ok e = absurd (grind arith)
  renewed (x ∷ xs) [] ok e = absurd (grind arith)
  renewed (x ∷ xs) (g ∷ gs) ok e =
      let one : normal_item m s x ≡ shown t g = cc in
      let rest = renewed xs gs ok.1 (cc) in
      let r = rest.1 in
      let law = laws.formats x.format in
      let c = content_of s x in
      let n = (m.format x.format).normal c in
      let tag : x.field.tag ≡ g.tag = ap (λ k. k.tag) one in
      let content : n ≡ (shown t g).content = ap (λ k. k.content) one in
      let ok' = law.accepted c ok.0 in
      let same = sym (law.same c ok.0) in
      let value = law.one_value c n ok.0 ok' same ∙ ap (m.format x.format).value content in
      let normal = law.one_normal c n ok.0 ok' same ∙ ap (m.format x.format).normal content in (
        record { format = x.format; field = g } ∷ rest.0,
        record {
          fields = ap (λ fs. g ∷ fs) r.fields;
          formats = ap (λ fs. x.format ∷ fs) r.formats;
          tags = λ i. tag i ∷ r.tags i;
          accepted = (ap (m.format x.format).accepts (sym content) ∙ ok', r.accepted);
          values = λ i. joined (value i) (r.values i);
          normals = λ i. record { tag = tag i; content = normal i } ∷ r.normals i;
        },
      )

-- ---- the whole text

-- the fields that are found, as they are meant
items_found : (text : List ℕ) (r : Result Found Refusal) → items_of text r ≡ map (shown text) (fields_found r)
items_found text (Ok b) = refl
items_found text (Err x) = refl

-- whether a statement is balanced does not depend on where its closing stands
balanced_anywhere : (type : ℕ) (v : Told) (i j : ℕ) → balances type v i ≡ Ok tt → balances type v j ≡ Ok tt
balanced_anywhere type v i j e = by (eqb type 950 && not (balanced v.opening v.lines v.closing)) e
  where
    by : (b : Bool) → ◌≡◌ {A = Result (Unit {0}) Refusal} (cond b (refused_at 10 i) (Ok tt)) (Ok tt) → ◌≡◌ {A = Result (Unit {0}) Refusal} (cond b (refused_at 10 j) (Ok tt)) (Ok tt)
    by true q = absurd (grind arith)
    by false q = refl

module _ {F : Type 0} (m : Meaning F) (laws : KeepsLaws m) (s : List ℕ) (x : Sound F) (e : sound m s ≡ Ok x) where
  -- a text with these normal parts is sound, and they are its own normal parts
  record Anew (t : List ℕ) : Type 0 where
    again : Sound F
    is_sound : sound m t ≡ Ok again
    own : normal_parts m s x ≡ normal_parts m t again

  anew : (t : List ℕ) (l : Layout) → laid_out t ≡ Ok l → parts_of t l ≡ normal_parts m s x → Anew t
  anew t l laid parts =
      let p = passed_all m s x e in
      let head : (parts_of s x.layout).application ≡ (parts_of t l).application = sym (ap (λ k. k.application) parts) in
      let type = same_type s t x.layout l p.laid laid head in
      let items = sym (ap (λ k. k.fields) parts) ∙ items_found t (body_at t l.body) in
      let r = renewed m laws s t x.taken (fields_in t l) (all_accepted m s x e) items in
      let ys = r.0 in
      let n = r.1 in
      let from = taken_fields m s x.layout.hyphen 0 p.rows (fields_in s x.layout) x.taken p.walked in
      let as_many : length x.taken ≡ length (fields_in t l) = sym (length-map x.taken (normal_item m s)) ∙ ap length items ∙ length-map (fields_in t l) (shown t) in
      let as_before : length x.taken ≡ length (fields_in s x.layout) = sym (length-map x.taken (λ k. k.field)) ∙ ap length from in
      let choice = walk_chosen m s x.layout.hyphen 0 p.rows (fields_in s x.layout) x.taken p.walked in
      let walk = walk_again m t l.hyphen 0 p.rows ys ((λ i. chosen 0 p.rows (sym n.tags i)) ∙ choice ∙ ap Some n.formats) n.accepted in
      let users = sym (in_capitals_twice (parts_of s x.layout).user) ∙ ap (λ k. option_map in_capitals k.user) (sym parts) in
      let again : Sound F = record { layout = l; taken = ys } in
      record {
        again = again;
        is_sound =
            sound_from m t again (record {
              rows = p.rows;
              laid = laid;
              has_type = ap m.rows (sym type) ∙ p.has_type;
              few = subst (λ (k : ℕ). k ≤ 43) (sym as_before ∙ as_many) p.few;
              walked = ap (assigned m t l.hyphen 0 p.rows) (sym n.fields) ∙ walk;
              balance = balanced_anywhere l.message_type (values_in m t ys) (closing_at m s x.taken) (closing_at m t ys) ((λ i. balances (sym type i) (sym n.values i) (closing_at m s x.taken)) ∙ p.balance);
            });
        own = λ i. record { basic = sym (ap (λ k. k.basic) parts) i; application = head i; user = users i; fields = n.normals i };
      }

  -- the normal text is written from these parts
  pub settled : Settled m s x
  settled =
      let w = round_trip (normal_parts m s x) (normal_well_formed m laws s x e) in
      let t = normal_text m s x in
      let a = anew t w.0 w.1.laid w.1.parts in
      record {
        again = a.again;
        is_sound = a.is_sound;
        says_same = parts_same m laws s t x a.again e a.is_sound a.own;
        own_normal = ap (λ r. heed r (λ z. Ok (normal_text m t z))) a.is_sound ∙ ap (λ k. Ok (rendered k)) (sym a.own);
        short = normal_short m laws s x e;
      }
