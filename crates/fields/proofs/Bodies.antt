-- The body_at of a whole body, one field on.
use Rattle.std.proofs.Common.{◌≡◌, ℕ, suc, ◌+◌, ◌-◌, ◌<◌, ◌≤◌, Bool, true, false, cond, eqb, List, length, get_or, drop, Some, None, Ok, Err, Option, Result, sym, refl, ap, ◌∙◌, arith}
use Rattle.std.proofs.lemmas.List.{length-drop}
use Rattle.mt_text.specs.Refusals.{Refusal, refused_at}
use Rattle.fields.specs.declared.tags.Tag.{Tag}
use Rattle.fields.specs.declared.scan.Field.{Field}
use Rattle.fields.specs.declared.scan.Body.{Body}
use Rattle.fields.specs.declared.scan.Next.{Next}
use Rattle.fields.specs.declared.scan.Next.TheVariants.{More, End}
use Rattle.fields.specs.Tags.{tag_at, width}
use Rattle.fields.specs.Fields.{Found, content_end, field_to, with_end, tagged, next_at, behind, with_field, step_then, body_within, body_at, sized}
use Rattle.fields.proofs.Steps.{end_within, tag_within}

ended : (i : ℕ) (bs : List ℕ) (t : Tag) (f : Field) (r : Result ℕ Refusal) → width t ≤ length bs → content_end i (i + width t) (drop (width t) bs) ≡ r → with_end (field_to i t) r ≡ Ok (More f) → (i < behind f) × (behind f ≤ i + length bs)
ended i bs t f (Err x) w q h = absurd (grind arith)
ended i bs t f (Ok e) w q h =
    let in' = end_within i (i + width t) (drop (width t) bs) e q in
    let long = length-drop (width t) bs in
    let same : record { tag = t; at = i; content_at = i + width t; len = e - (i + width t) } ≡ f = cc in
    let b : behind f ≡ (i + width t) + (e - (i + width t)) + 2 = sym (ap behind same) in
    omega arith

with_tag : (i : ℕ) (bs : List ℕ) (f : Field) (o : Option Tag) → tag_at bs ≡ o → tagged i bs o ≡ Ok (More f) → (i < behind f) × (behind f ≤ i + length bs)
with_tag i bs f None q h = absurd (grind arith)
with_tag i bs f (Some t) q h = ended i bs t f (content_end i (i + width t) (drop (width t) bs)) (tag_within bs t q) refl h

-- a field begins with its tag
pub more_tagged : (i : ℕ) (bs : List ℕ) (f : Field) → next_at i bs ≡ Ok (More f) → tagged i bs (tag_at bs) ≡ Ok (More f)
more_tagged i bs f h = go (eqb (get_or bs 0 0) 45) (eqb (get_or bs 1 0) 125) (tagged i bs (tag_at bs)) h
  where
    go : (x y : Bool) (r : Result Next Refusal) → cond x (cond y (Ok (End i)) (refused_at 5 i)) r ≡ Ok (More f) → r ≡ Ok (More f)
    go true true r e = absurd (grind arith)
    go true false r e = absurd (grind arith)
    go false y r e = e

-- a field takes some bytes, all in the text
pub more_within : (i : ℕ) (bs : List ℕ) (f : Field) → next_at i bs ≡ Ok (More f) → (i < behind f) × (behind f ≤ i + length bs)
more_within i bs f h = with_tag i bs f (tag_at bs) refl (more_tagged i bs f h)

-- the extent of what is left, behind k fields
abbrev pub past : ℕ → Result Found Refusal → Result Body Refusal
past k (Ok b) = Ok (record { fields = k + length b.fields; hyphen = b.hyphen })
past k (Err x) = Err x

past_none : (r : Result Found Refusal) → past 0 r ≡ sized r
past_none (Ok b) = let z : 0 + length b.fields ≡ length b.fields = omega arith in λ i. Ok (record { fields = z i; hyphen = b.hyphen })
past_none (Err x) = refl

past_field : (k : ℕ) (f : Field) (r : Result Found Refusal) → past (k + 1) r ≡ past k (with_field f r)
past_field k f (Ok b) = let z : k + 1 + length b.fields ≡ k + suc (length b.fields) = omega arith in λ i. Ok (record { fields = z i; hyphen = b.hyphen })
past_field k f (Err x) = refl

-- a field takes some bytes of the text, and so begins before its end
pub field_within : (text : List ℕ) (i : ℕ) (f : Field) → Ok (More f) ≡ next_at i (drop i text) → (i < behind f) × (behind f ≤ length text)
field_within text i f is =
    let w = more_within i (drop i text) f (sym is) in
    omega (arith, length-drop i text)

-- k fields are behind, and the scan goes on at i
pub record Sofar (text : List ℕ) (at k i : ℕ) : Type 0 where
  pub few : k ≤ i
  pub fewer : k ≤ length text
  pub left : past k (body_within (suc (length text) - k) text i) ≡ sized (body_at text at)

pub start : (text : List ℕ) (at : ℕ) → Sofar text at 0 at
start text at =
    let all : suc (length text) - 0 ≡ suc (length text) = omega arith in
    record { few = omega arith; fewer = omega arith; left = ap (λ m. past 0 (body_within m text at)) all ∙ past_none (body_at text at) }

module _ (text : List ℕ) (at k i : ℕ) (so : Sofar text at k i) where
  most : (n : Result Next Refusal) → n ≡ next_at i (drop i text) → past k (step_then (λ j. body_within (length text - k) text j) n) ≡ sized (body_at text at)
  most n is =
      let one : suc (length text - k) ≡ suc (length text) - k = omega (arith, so.fewer) in
      ap (λ r. past k (step_then (λ j. body_within (length text - k) text j) r)) is ∙ ap (λ m. past k (body_within m text i)) one ∙ so.left

  pub one_more : (f : Field) → Ok (More f) ≡ next_at i (drop i text) → Sofar text at (k + 1) (behind f)
  one_more f is =
      let in' = field_within text i f is in
      let one : suc (length text) - (k + 1) ≡ length text - k = omega arith in
      record {
        few = omega (arith, in', so.few);
        fewer = omega (arith, in', so.few);
        left = ap (λ m. past (k + 1) (body_within m text (behind f))) one ∙ past_field k f (body_within (length text - k) text (behind f)) ∙ most (Ok (More f)) is;
      }

  pub at_last : (e : ℕ) → Ok (End e) ≡ next_at i (drop i text) → Ok (record { fields = k; hyphen = e }) ≡ sized (body_at text at)
  at_last e is = let z : k ≡ k + 0 = omega arith in (λ i. Ok (record { fields = z i; hyphen = e })) ∙ most (Ok (End e)) is

  pub at_fault : (x : Refusal) → Err x ≡ next_at i (drop i text) → Err x ≡ sized (body_at text at)
  at_fault x is = most (Err x) is
