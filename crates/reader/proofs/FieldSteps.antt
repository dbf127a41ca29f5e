-- The fields of a text that is laid out, one field further.
use Rattle.std.proofs.Common.{◌≡◌, ℕ, zero, suc, ◌+◌, ◌-◌, ◌^◌, ◌<◌, ◌≤◌, min, true, false, leb, List, [], ◌∷◌, length, drop, is_ok, Some, None, Ok, Err, Result, sym, refl, ap, ◌∙◌, subst, arith}
use Rattle.std.specs.List.{slice_get}
use Rattle.std.proofs.lemmas.Option.{slice_get-get_or}
use Rattle.std.proofs.lemmas.Bool.{cond-false}
use Rattle.std.proofs.lemmas.Bool.Decides.{nat_tests}
use Rattle.mt_text.specs.Refusals.{Refusal, refused_at}
use Rattle.mt_text.specs.Bytes.{checked}
use Rattle.fields.specs.declared.scan.Field.{Field}
use Rattle.fields.specs.declared.scan.Body.{Body}
use Rattle.fields.specs.declared.scan.Next.{Next}
use Rattle.fields.specs.declared.scan.Next.TheVariants.{More, End}
use Rattle.fields.specs.Fields.{Found, next_at, behind, with_field, step_then, body_within, body_at, sized}
use Rattle.fields.proofs.Bodies.{field_within}
use Rattle.layout.specs.declared.walk.Layout.{Layout}
use Rattle.layout.specs.Walk.{heed, application_at, opening_at, body_start, end_at, made_of, walked, laid_out}
use Rattle.reader.specs.Texts.{fields_found, fields_in, few_enough, spot}
use Rattle.reader.proofs.Sounds.{heeded}

-- a field takes some bytes, so those behind it are found as well by as many steps as the text has bytes
found_longer : (k : ℕ) (text : List ℕ) (i : ℕ) (b : Found) → body_within k text i ≡ Ok b → body_within (suc k) text i ≡ Ok b
found_longer zero text i b h = absurd (grind arith)
found_longer (suc k) text i b h = by (λ f d q. found_longer k text (behind f) d q) (next_at i (drop i text)) h
  where
    Shorter : Type 0
    Shorter = (f : Field) (d : Found) → body_within k text (behind f) ≡ Ok d → body_within (suc k) text (behind f) ≡ Ok d

    on : Shorter → (f : Field) (r : Result Found Refusal) → body_within k text (behind f) ≡ r → with_field f r ≡ Ok b → with_field f (body_within (suc k) text (behind f)) ≡ Ok b
    on ih f (Ok d) q e = ap (with_field f) (ih f d q) ∙ e
    on ih f (Err x) q e = absurd (grind arith)

    by : Shorter → (n : Result Next Refusal) → step_then (λ j. body_within k text j) n ≡ Ok b → step_then (λ j. body_within (suc k) text j) n ≡ Ok b
    by ih (Ok (More f)) e = on ih f (body_within k text (behind f)) refl e
    by ih (Ok (End h)) e = e
    by ih (Err x) e = e

-- the fields from an offset on, where all is as it must be
abbrev pub fields_from : List ℕ → ℕ → List Field
fields_from text i = fields_found (body_at text i)

-- one field more was found
pub record OneMore (text : List ℕ) (i : ℕ) (f : Field) : Type 0 where
  pub whole : is_ok (body_at text (behind f)) ≡ true
  pub is : fields_from text i ≡ f ∷ fields_from text (behind f)

module _ (text : List ℕ) (i : ℕ) (whole : is_ok (body_at text i) ≡ true) where
  pub one_more : (f : Field) → Ok (More f) ≡ next_at i (drop i text) → OneMore text i f
  one_more f is = by (body_within (length text) text (behind f)) refl (ap (λ r. is_ok (step_then (λ j. body_within (length text) text j) r)) is ∙ whole)
    where
      at_next : fields_from text i ≡ fields_found (with_field f (body_within (length text) text (behind f)))
      at_next = ap (λ r. fields_found (step_then (λ j. body_within (length text) text j) r)) (sym is)

      by : (r : Result Found Refusal) → body_within (length text) text (behind f) ≡ r → is_ok (with_field f r) ≡ true → OneMore text i f
      by (Err x) q h = absurd (grind arith)
      by (Ok b) q h =
          let longer = found_longer (length text) text (behind f) b q in
          record { whole = ap is_ok longer; is = at_next ∙ ap (λ r. fields_found (with_field f r)) q ∙ ap (λ r. f ∷ fields_found r) (sym longer) }

-- the line behind a field begins in the text, where it is said to begin
pub behind_is : (text : List ℕ) (from : ℕ) (f : Field) (r : ℕ) → length text < 2 ^ 64 → Ok (More f) ≡ next_at from (drop from text) → r ≡ min (behind f) (2 ^ 64 - 1) → r ≡ behind f
behind_is text from f r fits e b = omega (arith, field_within text from f e)

-- at the first line all fields are left, as many as were counted
pub record AllLeft (text : List ℕ) (l : Layout) : Type 0 where
  pub whole : is_ok (body_at text l.body) ≡ true
  pub counted : l.fields ≡ length (fields_in text l)

sized_left : (text : List ℕ) (s : ℕ) (b : Body) → sized (body_at text s) ≡ Ok b → (is_ok (body_at text s) ≡ true) × (b.fields ≡ length (fields_found (body_at text s)))
sized_left text s b h = by (body_at text s) h
  where
    by : (r : Result Found Refusal) → sized r ≡ Ok b → (is_ok r ≡ true) × (b.fields ≡ length (fields_found r))
    by (Err x) p = absurd (grind arith)
    by (Ok f) p = let same : record { fields = length f.fields; hyphen = f.hyphen } ≡ b = cc in (refl, sym (ap (λ d. d.fields) same))

pub all_left : (text : List ℕ) (l : Layout) → laid_out text ≡ Ok l → AllLeft text l
all_left text l h =
    let p = heeded (checked text) (λ _. walked text) l h in
    let a = heeded (application_at text) (λ a. heed (opening_at text (29 + a.width)) (λ o. heed (body_start text o.at) (λ s. heed (sized (body_at text s)) (λ b. heed (end_at text (b.hyphen + 2)) (λ _. Ok (made_of a o s b)))))) l p.2 in
    let o = heeded (opening_at text (29 + a.0.width)) (λ o. heed (body_start text o.at) (λ s. heed (sized (body_at text s)) (λ b. heed (end_at text (b.hyphen + 2)) (λ _. Ok (made_of a.0 o s b))))) l a.2 in
    let s = heeded (body_start text o.0.at) (λ s. heed (sized (body_at text s)) (λ b. heed (end_at text (b.hyphen + 2)) (λ _. Ok (made_of a.0 o.0 s b)))) l o.2 in
    let b = heeded (sized (body_at text s.0)) (λ b. heed (end_at text (b.hyphen + 2)) (λ _. Ok (made_of a.0 o.0 s.0 b))) l s.2 in
    let e = heeded (end_at text (b.0.hyphen + 2)) (λ _. Ok (made_of a.0 o.0 s.0 b.0)) l b.2 in
    let f = e.2 in
    let same : made_of a.0 o.0 s.0 b.0 ≡ l = cc in
    let z = sized_left text s.0 b.0 b.1 in
    subst (AllLeft text) same (record { whole = z.0; counted = z.1 })

-- ---- how many fields there are

module _ (text : List ℕ) (l : Layout) (h : laid_out text ≡ Ok l) where
  pub few_is : l.fields ≤ 43 → Ok tt ≡ few_enough (fields_in text l)
  few_is few = let n = (all_left text l h).counted in grind (arith, nat_tests)

  pub many_is : 43 < l.fields → (f : Field) → Some f ≡ slice_get (fields_in text l) 43 → refused_at 6 f.at ≡ few_enough (fields_in text l)
  many_is many f e =
      let n = (all_left text l h).counted in
      let over : leb (length (fields_in text l)) 43 ≡ false = grind (arith, nat_tests) in
      ap (λ o. refused_at 6 (spot o)) e ∙ sym (cond-false (leb (length (fields_in text l)) 43) (Ok tt) _ over)

  -- the 44th field is there
  pub never_none : 43 < l.fields → None ≡ slice_get (fields_in text l) 43 → ⊥
  never_none many e = by (fields_in text l) (all_left text l h).counted e
    where
      by : (fs : List Field) → l.fields ≡ length fs → None ≡ slice_get fs 43 → ⊥
      by [] n p = absurd (omega arith)
      by (f ∷ fs) n p = let q = slice_get-get_or (f ∷ fs) 43 f (omega arith) in absurd (grind arith)
