-- What the body_at accepts is written as a body is.
use Rattle.std.proofs.Common.{◌≡◌, ℕ, zero, suc, ◌+◌, ◌-◌, ◌≤◌, Bool, true, false, cond, ◌&&◌, eqb, ◌⊎◌, List, [], ◌∷◌, ◌++◌, length, get_or, take, drop, Some, None, Ok, Err, Option, Result, sym, refl, ap, ◌∙◌, subst, inl, inr, ⊎_elim, arith}
use Rattle.std.proofs.lemmas.List.{length-drop, drop-drop}
use Rattle.std.proofs.lemmas.Bool.{cases_Bool, eqb-true}
use Rattle.std.proofs.lemmas.Bool.Decides.{nat_tests}
use Rattle.mt_text.specs.Classes.{digit, capital}
use Rattle.mt_text.specs.Refusals.{Refusal, refused_at}
use Rattle.fields.specs.declared.tags.Tag.{Tag}
use Rattle.fields.specs.declared.scan.Field.{Field}
use Rattle.fields.specs.declared.scan.Next.{Next}
use Rattle.fields.specs.declared.scan.Next.TheVariants.{More, End}
use Rattle.fields.specs.Tags.{tag_at, width}
use Rattle.fields.specs.Fields.{Found, barred, opens, content_end, field_to, with_end, tagged, next_at, behind, with_field, step_then, body_within}
use Rattle.fields.specs.Written.{Item, tag_ok, content_ok, ItemOk, letter_then, field_then, shown, Reads, Accepted}
use Rattle.fields.proofs.Trips.{at_after, is_shown}
use Rattle.fields.proofs.Steps.{stepped}
use Rattle.fields.proofs.Bodies.{more_within, more_tagged}

-- ---- a content

record Content (i : ℕ) (bs : List ℕ) (e : ℕ) (cs rest : List ℕ) : Type 0 where
  split : bs ≡ cs ++ 13 ∷ 10 ∷ rest
  size : e ≡ i + length cs
  ok : content_ok cs ≡ true
  next : opens (get_or rest 0 0) ≡ true

abbrev SomeContent : ℕ → List ℕ → ℕ → Type 0
SomeContent i bs e = (cs : List ℕ) × (rest : List ℕ) × Content i bs e cs rest

head_split : (bs cs rest : List ℕ) → bs ≡ cs ++ 13 ∷ 10 ∷ rest → opens (get_or bs 0 0) ≡ false → opens (get_or cs 0 0) ≡ false
head_split bs [] rest e h = refl
head_split bs (c ∷ cs) rest e h = ap (λ l. opens (get_or l 0 0)) (sym e) ∙ h

plain_ok : (b : ℕ) (cs : List ℕ) → eqb b 13 ≡ false → barred b ≡ false → content_ok cs ≡ true → content_ok (b ∷ cs) ≡ true
plain_ok b [] x y h = grind (arith, nat_tests)
plain_ok b (c ∷ cs) x y h = grind (arith, nat_tests)

module _ (line i b c : ℕ) (bs : List ℕ) (e : ℕ) (h : content_end line i (b ∷ c ∷ bs) ≡ Ok e) where
  ends_here : eqb b 13 ≡ true → eqb c 10 ≡ true → opens (get_or bs 0 0) ≡ true → SomeContent i (b ∷ c ∷ bs) e
  ends_here x y z =
      let t = stepped line i (b ∷ c ∷ bs) (omega arith) in
      let p = eqb-true b 13 x in
      let q = eqb-true c 10 y in
      let same : i ≡ e = grind (arith, nat_tests) in
      ([], bs, record { split = λ k. p k ∷ q k ∷ bs; size = omega arith; ok = refl; next = z })

  goes_on : eqb b 13 ≡ true → eqb c 10 ≡ true → opens (get_or bs 0 0) ≡ false → (content_end (i + 2) (i + 2) bs ≡ Ok e → SomeContent (i + 2) bs e) → SomeContent i (b ∷ c ∷ bs) e
  goes_on x y z ih =
      let t = stepped line i (b ∷ c ∷ bs) (omega arith) in
      let left : content_end (i + 2) (i + 2) bs ≡ Ok e = grind (arith, nat_tests) in
      let r = ih left in
      let cs = r.0 in
      let d = r.2 in
      let o = head_split bs cs r.1 d.split z in
      let ok' = d.ok in
      (b ∷ c ∷ cs, r.1, record { split = ap (λ l. b ∷ c ∷ l) d.split; size = omega (arith, d.size); ok = grind (arith, nat_tests); next = d.next })

  steps : eqb b 13 ≡ false → barred b ≡ false → (content_end line (i + 1) (c ∷ bs) ≡ Ok e → SomeContent (i + 1) (c ∷ bs) e) → SomeContent i (b ∷ c ∷ bs) e
  steps x y ih =
      let t = stepped line i (b ∷ c ∷ bs) (omega arith) in
      let left : content_end line (i + 1) (c ∷ bs) ≡ Ok e = grind (arith, nat_tests) in
      let r = ih left in
      let d = r.2 in
      (b ∷ r.0, r.1, record { split = ap (λ l. b ∷ l) d.split; size = omega (arith, d.size); ok = plain_ok b r.0 x y d.ok; next = d.next })

  by_byte : (content_end (i + 2) (i + 2) bs ≡ Ok e → SomeContent (i + 2) bs e) → (content_end line (i + 1) (c ∷ bs) ≡ Ok e → SomeContent (i + 1) (c ∷ bs) e) → (eqb b 13 ≡ true) ⊎ (eqb b 13 ≡ false) → (eqb c 10 ≡ true) ⊎ (eqb c 10 ≡ false) → (opens (get_or bs 0 0) ≡ true) ⊎ (opens (get_or bs 0 0) ≡ false) → (barred b ≡ true) ⊎ (barred b ≡ false) → SomeContent i (b ∷ c ∷ bs) e
  by_byte skip on (inl x) (inl y) (inl z) w = ends_here x y z
  by_byte skip on (inl x) (inl y) (inr z) w = goes_on x y z skip
  by_byte skip on (inl x) (inr y) z w = let t = stepped line i (b ∷ c ∷ bs) (omega arith) in absurd (grind (arith, nat_tests))
  by_byte skip on (inr x) y z (inl w) = let t = stepped line i (b ∷ c ∷ bs) (omega arith) in absurd (grind (arith, nat_tests))
  by_byte skip on (inr x) y z (inr w) = steps x w on

content_back : (line i : ℕ) (bs : List ℕ) (e : ℕ) → content_end line i bs ≡ Ok e → SomeContent i bs e
content_back line i [] e h = absurd (grind arith)
content_back line i (b ∷ []) e h = absurd (grind arith)
content_back line i (b ∷ c ∷ bs) e h =
    by_byte line i b c bs e h (content_back (i + 2) (i + 2) bs e) (content_back line (i + 1) (c ∷ bs) e) (cases_Bool (eqb b 13)) (cases_Bool (eqb c 10)) (cases_Bool (opens (get_or bs 0 0))) (cases_Bool (barred b))

-- ---- a tag

-- what was tested where a tag was found
parts : (x y z w v u : Bool) (one two t : Tag) → cond (x && (y && z)) (cond w (Some one) (cond (v && u) (Some two) None)) None ≡ Some t → (x ≡ true) × (y ≡ true) × (z ≡ true) × (((w ≡ true) × (one ≡ t)) ⊎ ((v ≡ true) × (u ≡ true) × (two ≡ t)))
parts false y z w v u one two t e = absurd (grind arith)
parts true false z w v u one two t e = absurd (grind arith)
parts true true false w v u one two t e = absurd (grind arith)
parts true true true true v u one two t e = (refl, refl, refl, inl (refl, cc))
parts true true true false false u one two t e = absurd (grind arith)
parts true true true false true false one two t e = absurd (grind arith)
parts true true true false true true one two t e = (refl, refl, refl, inr (refl, refl, cc))

abbrev TagBack : List ℕ → Tag → Type 0
TagBack bs t = (bs ≡ 58 ∷ t.tens ∷ t.units ∷ letter_then t.letter (58 ∷ drop (width t) bs)) × (tag_ok t ≡ true)

tag_back : (bs : List ℕ) (t : Tag) → tag_at bs ≡ Some t → TagBack bs t
tag_back [] t h = absurd (grind arith)
tag_back (a ∷ []) t h = absurd (grind (arith, nat_tests))
tag_back (a ∷ b ∷ []) t h = absurd (grind (arith, nat_tests))
tag_back (a ∷ b ∷ c ∷ []) t h = absurd (grind (arith, nat_tests))
tag_back (a ∷ b ∷ c ∷ d ∷ rest) t h =
    let q = parts (eqb a 58) (digit b) (digit c) (eqb d 58) (capital d) (eqb (get_or rest 0 0) 58) (record { tens = b; units = c; letter = None }) (record { tens = b; units = c; letter = Some d }) t h in
    let x = eqb-true a 58 q.0 in
    let y = q.1 in
    let z = q.2 in
    ⊎_elim
    (λ k. let w = eqb-true d 58 k.0 in subst (TagBack (a ∷ b ∷ c ∷ d ∷ rest)) k.1 ((λ j. x j ∷ b ∷ c ∷ w j ∷ rest), grind (arith, nat_tests)))
    (λ k. let v = k.0 in subst (TagBack (a ∷ b ∷ c ∷ d ∷ rest)) k.2 ((λ j. x j ∷ b ∷ c ∷ d ∷ last rest k.1 j), grind (arith, nat_tests)))
    q.3
  where
    last : (rest : List ℕ) → eqb (get_or rest 0 0) 58 ≡ true → rest ≡ 58 ∷ drop 1 rest
    last [] h = absurd (grind arith)
    last (e ∷ rest) h = ap (λ v. v ∷ rest) (eqb-true e 58 h)

-- ---- a field, and the end

-- f is x as it is written at the front of bs
record Written (i : ℕ) (bs : List ℕ) (f : Field) (x : Item) (rest : List ℕ) : Type 0 where
  split : bs ≡ field_then x rest
  ok : ItemOk x
  same : record { tag = x.tag; at = i; content_at = i + width x.tag; len = (i + width x.tag + length x.content) - (i + width x.tag) } ≡ f

abbrev SomeField : ℕ → List ℕ → Field → Type 0
SomeField i bs f = (x : Item) × (rest : List ℕ) × Written i bs f x rest

with_content : (i : ℕ) (bs : List ℕ) (t : Tag) (f : Field) (r : Result ℕ Refusal) → tag_at bs ≡ Some t → content_end i (i + width t) (drop (width t) bs) ≡ r → with_end (field_to i t) r ≡ Ok (More f) → SomeField i bs f
with_content i bs t f (Err x) o q h = absurd (grind arith)
with_content i bs t f (Ok e) o q h =
    let c = content_back i (i + width t) (drop (width t) bs) e q in
    let g = tag_back bs t o in
    let same : record { tag = t; at = i; content_at = i + width t; len = e - (i + width t) } ≡ f = cc in (
      record { tag = t; content = c.0 },
      c.1,
      record {
        split = g.0 ∙ ap (λ l. 58 ∷ t.tens ∷ t.units ∷ letter_then t.letter (58 ∷ l)) c.2.split;
        ok = record { tag = g.1; content = c.2.ok };
        same = ap (λ k. record { tag = t; at = i; content_at = i + width t; len = k - (i + width t) }) (sym c.2.size) ∙ same;
      },
    )

with_tag : (i : ℕ) (bs : List ℕ) (f : Field) (o : Option Tag) → tag_at bs ≡ o → tagged i bs o ≡ Ok (More f) → SomeField i bs f
with_tag i bs f None o h = absurd (grind arith)
with_tag i bs f (Some t) o h = with_content i bs t f (content_end i (i + width t) (drop (width t) bs)) o refl h

field_back : (i : ℕ) (bs : List ℕ) (f : Field) → next_at i bs ≡ Ok (More f) → SomeField i bs f
field_back i bs f h = with_tag i bs f (tag_at bs) refl (more_tagged i bs f h)

not_end : (i k : ℕ) (bs : List ℕ) (o : Option Tag) → tagged i bs o ≡ Ok (End k) → ⊥
not_end i k bs None h = absurd (grind arith)
not_end i k bs (Some t) h = go (content_end i (i + width t) (drop (width t) bs)) h
  where
    go : (r : Result ℕ Refusal) → with_end (field_to i t) r ≡ Ok (End k) → ⊥
    go (Ok e) h = absurd (grind arith)
    go (Err x) h = absurd (grind arith)

end_back : (i k : ℕ) (bs : List ℕ) → next_at i bs ≡ Ok (End k) → (bs ≡ 45 ∷ 125 ∷ drop 2 bs) × (i ≡ k)
end_back i k bs h =
    let q = go (eqb (get_or bs 0 0) 45) (eqb (get_or bs 1 0) 125) (tagged i bs (tag_at bs)) (not_end i k bs (tag_at bs)) h in
    (front bs q.0 q.1, q.2)
  where
    go : (x y : Bool) (r : Result Next Refusal) → (r ≡ Ok (End k) → ⊥) → cond x (cond y (Ok (End i)) (refused_at 5 i)) r ≡ Ok (End k) → (x ≡ true) × (y ≡ true) × (i ≡ k)
    go true true r n e = (refl, refl, cc)
    go true false r n e = absurd (grind arith)
    go false y r n e = absurd (n e)

    front : (bs : List ℕ) → eqb (get_or bs 0 0) 45 ≡ true → eqb (get_or bs 1 0) 125 ≡ true → bs ≡ 45 ∷ 125 ∷ drop 2 bs
    front [] x y = absurd (grind arith)
    front (a ∷ []) x y = absurd (grind arith)
    front (a ∷ b ∷ bs) x y = let p = eqb-true a 45 x in let q = eqb-true b 125 y in λ j. p j ∷ q j ∷ bs

-- ---- a body

module _ (text : List ℕ) (i : ℕ) (h : i ≤ length text) where
  at_end : (k : ℕ) (b : Found) → next_at i (drop i text) ≡ Ok (End k) → ◌≡◌ {A = Result Found Refusal} (Ok (record { fields = []; hyphen = k })) (Ok b) → Reads text i b
  at_end k b is e =
      let q = end_back i k (drop i text) is in
      let same : record { fields = []; hyphen = k } ≡ b = cc in
      let long = ap length q.0 in
      let l = length-drop i text in
      subst (Reads text i) same (record {
        same = q.0 ∙ ap (λ l. 45 ∷ 125 ∷ l) (drop-drop 2 i text ∙ ap (λ k. drop (k + 2) text) q.1);
        ok = tt;
        within = omega (arith, q.1);
      })

  at_field : (f : Field) (b : Found) → next_at i (drop i text) ≡ Ok (More f) → Reads text (behind f) b → Reads text i (record { fields = f ∷ b.fields; hyphen = b.hyphen })
  at_field f b is r =
      let w = field_back i (drop i text) f is in
      let x = w.0 in
      let rest = w.1 in
      let wr = w.2 in
      let start = i + width x.tag in
      let size = length x.content in
      let next : behind f ≡ start + size + 2 = sym (ap behind wr.same) ∙ omega arith in
      let after : drop (behind f) text ≡ rest = ap (λ k. drop k text) next ∙ at_after x rest wr.ok text i wr.split in
      let long : (start + size) - start ≡ size = omega arith in
      let content : take ((start + size) - start) (drop start text) ≡ x.content = ap (λ k. take k (drop start text)) long ∙ is_shown x rest wr.ok text i wr.split in
      let seen : shown text f ≡ x = sym (ap (shown text) wr.same) ∙ (λ k. record { tag = x.tag; content = content k }) in
      record {
        same = wr.split ∙ ap (λ y. field_then y rest) (sym seen) ∙ ap (field_then (shown text f)) (sym after ∙ r.same);
        ok = (subst ItemOk (sym seen) wr.ok, r.ok);
        within = r.within;
      }

  at_more : (f : Field) (b : Found) (r : Result Found Refusal) → next_at i (drop i text) ≡ Ok (More f) → ((c : Found) → r ≡ Ok c → Reads text (behind f) c) → with_field f r ≡ Ok b → Reads text i b
  at_more f b (Ok c) is ih e = let same : record { fields = f ∷ c.fields; hyphen = c.hyphen } ≡ b = cc in subst (Reads text i) same (at_field f c is (ih c refl))
  at_more f b (Err x) is ih e = absurd (grind arith)

  at_next : (n : ℕ) (b : Found) (r : Result Next Refusal) → ((k : ℕ) (c : Found) → k ≤ length text → body_within n text k ≡ Ok c → Reads text k c) → next_at i (drop i text) ≡ r → step_then (λ j. body_within n text j) r ≡ Ok b → Reads text i b
  at_next n b (Ok (More f)) ih is e =
      let w = more_within i (drop i text) f is in
      let l = length-drop i text in
      at_more f b (body_within n text (behind f)) is (λ c. ih (behind f) c (omega arith)) e
  at_next n b (Ok (End k)) ih is e = at_end k b is e
  at_next n b (Err x) ih is e = absurd (grind arith)

back : (n : ℕ) (text : List ℕ) (i : ℕ) (b : Found) → i ≤ length text → body_within n text i ≡ Ok b → Reads text i b
back zero text i b h e = absurd (grind arith)
back (suc n) text i b h e = at_next text i h n b (next_at i (drop i text)) (λ k c. back n text k c) refl e

pub accepted : Accepted
accepted text i b h e = back (suc (length text)) text i b h e
