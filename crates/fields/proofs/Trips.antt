-- What is written is scanned as it was meant.
use Rattle.std.proofs.Common.{◌≡◌, ℕ, zero, suc, ◌+◌, ◌-◌, ◌<◌, true, false, ◌&&◌, List, [], ◌∷◌, ◌++◌, map, length, get_or, take, drop, Some, None, Ok, Option, sym, refl, ap, ◌∙◌, add-zero, arith}
use Rattle.std.proofs.lemmas.List.{length-drop, length-append, drop-drop, drop_at, take_at}
use Rattle.std.proofs.lemmas.Bool.Decides.{nat_tests}
use Rattle.std.specs.List.{AllByRecursion}
use Rattle.mt_text.specs.Classes.{digit}
use Rattle.fields.specs.declared.scan.Field.{Field}
use Rattle.fields.specs.Tags.{tag_at, letter_width, width}
use Rattle.fields.specs.Fields.{Found, opens, content_end, field_to, with_end, tagged, next_at, behind, with_field, step_then, body_within}
use Rattle.fields.specs.Written.{Item, letter_ok, content_ok, ItemOk, letter_then, field_then, written, shown, RoundTrip}

-- ---- a content

head_append : (bs cs : List ℕ) → opens (get_or cs 0 0) ≡ false → opens (get_or bs 0 0) ≡ false → opens (get_or (bs ++ cs) 0 0) ≡ false
head_append [] cs h k = h
head_append (b ∷ bs) cs h k = k

pub content_trip : (line i : ℕ) (bs after : List ℕ) → opens (get_or after 0 0) ≡ true → content_ok bs ≡ true → content_end line i (bs ++ 13 ∷ 10 ∷ after) ≡ Ok (i + length bs)
content_trip line i [] after o ok =
    let z = add-zero i in
    grind (arith, nat_tests)
content_trip line i (b ∷ []) after o ok =
    let e : i + 1 + 0 ≡ i + suc 0 = omega arith in
    let on = content_trip line (i + 1) [] after o refl in
    grind (arith, nat_tests)
content_trip line i (b ∷ c ∷ bs) after o ok =
    let hd = head_append bs (13 ∷ 10 ∷ after) refl in
    let skip = content_trip (i + 2) (i + 2) bs after o in
    let on = content_trip line (i + 1) (c ∷ bs) after o in
    grind (arith, nat_tests)

-- ---- a tag

pub tag_trip : (a b : ℕ) (l : Option ℕ) (after : List ℕ) → (digit a && (digit b && letter_ok l)) ≡ true → tag_at (58 ∷ a ∷ b ∷ letter_then l (58 ∷ after)) ≡ Some (record { tens = a; units = b; letter = l })
tag_trip a b None after ok = grind (arith, nat_tests)
tag_trip a b (Some c) after ok = grind (arith, nat_tests)

-- behind a tag and its colons
pub drop_tag : (a b : ℕ) (l : Option ℕ) (after : List ℕ) → drop (letter_width l) (58 ∷ a ∷ b ∷ letter_then l (58 ∷ after)) ≡ after
drop_tag a b None after = refl
drop_tag a b (Some c) after = refl

-- ---- a field

module _ (x : Item) (after : List ℕ) (ok : ItemOk x) where
  pub field_trip : (i : ℕ) → opens (get_or after 0 0) ≡ true → next_at i (field_then x after) ≡ Ok (field_to i x.tag (i + width x.tag + length x.content))
  field_trip i o =
      let bs = x.content ++ 13 ∷ 10 ∷ after in
      let w = width x.tag in
      ap (tagged i (field_then x after)) (tag_trip x.tag.tens x.tag.units x.tag.letter bs ok.tag)
      ∙ ap (λ l. with_end (field_to i x.tag) (content_end i (i + w) l)) (drop_tag x.tag.tens x.tag.units x.tag.letter bs)
      ∙ ap (with_end (field_to i x.tag)) (content_trip i (i + w) x.content after o ok.content)

  -- what the text has behind the tag, and behind the field
  module _ (text : List ℕ) (i : ℕ) (here : drop i text ≡ field_then x after) where
    at_content : drop (i + width x.tag) text ≡ x.content ++ 13 ∷ 10 ∷ after
    at_content =
        sym (drop-drop (width x.tag) i text) ∙ ap (drop (width x.tag)) here
        ∙ drop_tag x.tag.tens x.tag.units x.tag.letter (x.content ++ 13 ∷ 10 ∷ after)

    pub at_after : drop (i + width x.tag + length x.content + 2) text ≡ after
    at_after =
        sym (drop-drop 2 (i + width x.tag + length x.content) text)
        ∙ ap (drop 2) (sym (drop-drop (length x.content) (i + width x.tag) text) ∙ ap (drop (length x.content)) at_content ∙ drop_at x.content (13 ∷ 10 ∷ after) (length x.content) refl)

    pub is_shown : take (length x.content) (drop (i + width x.tag) text) ≡ x.content
    is_shown = ap (take (length x.content)) at_content ∙ take_at x.content (13 ∷ 10 ∷ after) (length x.content) refl

-- ---- a body

opening : (xs : List Item) (after : List ℕ) → opens (get_or (written xs after) 0 0) ≡ true
opening [] after = refl
opening (x ∷ xs) after = refl

-- what a body_at with this fuel finds at i
record Located (n : ℕ) (text : List ℕ) (i : ℕ) (xs : List Item) (after : List ℕ) (b : Found) : Type 0 where
  found : body_within n text i ≡ Ok b
  same : map (shown text) b.fields ≡ xs
  ends : b.hyphen + 2 + length after ≡ length text
  rest : drop (b.hyphen + 2) text ≡ after

body_trip : (n : ℕ) (text : List ℕ) (i : ℕ) (xs : List Item) (after : List ℕ) → AllByRecursion ItemOk xs → drop i text ≡ written xs after → length xs < n → (b : Found) × Located n text i xs after b
body_trip zero text i xs after ok here lt = absurd (omega arith)
body_trip (suc n) text i [] after ok here lt = (
  record { fields = []; hyphen = i },
  record { found = ap (λ l. step_then (λ j. body_within n text j) (next_at i l)) here; same = refl; ends = omega (arith, ap length here, length-drop i text); rest = sym (drop-drop 2 i text) ∙ ap (drop 2) here },
)
body_trip (suc n) text i (x ∷ xs) after ok here lt =
    let left = written xs after in
    let start = i + width x.tag in
    let size = length x.content in
    let f : Field = record { tag = x.tag; at = i; content_at = start; len = (start + size) - start } in
    let more = body_trip n text (start + size + 2) xs after ok.1 (at_after x left ok.0 text i here) (omega arith) in
    let b = more.0 in
    let r = more.1 in
    let next : behind f ≡ start + size + 2 = omega arith in
    let long : (start + size) - start ≡ size = omega arith in
    let content : take ((start + size) - start) (drop start text) ≡ x.content = ap (λ k. take k (drop start text)) long ∙ is_shown x left ok.0 text i here in (
      record { fields = f ∷ b.fields; hyphen = b.hyphen },
      record {
        found =
            ap (λ l. step_then (λ j. body_within n text j) (next_at i l)) here
            ∙ ap (step_then (λ j. body_within n text j)) (field_trip x left ok.0 i (opening xs after))
            ∙ ap (λ j. with_field f (body_within n text j)) next
            ∙ ap (with_field f) r.found;
        same = λ k. record { tag = x.tag; content = content k } ∷ r.same k;
        ends = r.ends;
        rest = r.rest;
      },
    )

-- a body has more bytes than fields
longer : (xs : List Item) (after : List ℕ) → length xs < length (written xs after)
longer [] after = omega arith
longer (x ∷ xs) after = step x.tag.letter (longer xs after)
  where
    step : (l : Option ℕ) → length xs < length (written xs after) → suc (length xs) < length (58 ∷ x.tag.tens ∷ x.tag.units ∷ letter_then l (58 ∷ (x.content ++ 13 ∷ 10 ∷ written xs after)))
    step None h = omega (arith, length-append x.content (13 ∷ 10 ∷ written xs after))
    step (Some c) h = omega (arith, length-append x.content (13 ∷ 10 ∷ written xs after))

pub round_trip : RoundTrip
round_trip before xs after ok =
    let text = before ++ written xs after in
    let r = body_trip (suc (length text)) text (length before) xs after ok (drop_at before (written xs after) (length before) refl) (omega (arith, length-append before (written xs after), longer xs after)) in
    (r.0, record { found = r.1.found; same = r.1.same; ends = r.1.ends; rest = r.1.rest })
