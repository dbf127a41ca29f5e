-- The row that takes a field is the only one of its type that has the field's tag.
use Rattle.std.proofs.Common.{◌≡◌, ℕ, zero, suc, ◌+◌, Bool, true, false, cond, not, ◌&&◌, eqb, ltb, leb, List, [], ◌∷◌, drop, Some, None, Ok, Option, sym, refl, ap, ◌∙◌, subst, arith}
use Rattle.std.specs.List.{AllByRecursion}
use Rattle.std.proofs.lemmas.List.{drop-drop}
use Rattle.std.proofs.lemmas.Bool.{and_parts, eqb-true, cond-true}
use Rattle.fields.specs.declared.tags.Tag.{Tag}
use Rattle.fields.specs.declared.scan.Field.{Field}
use Rattle.fields.specs.Written.{tag_ok}
use Rattle.reader.specs.declared.interface.Row.{Row}
use Rattle.reader.specs.Meaning.{Meaning, same_letter, same_tag, lacks, rows_ok}
use Rattle.reader.specs.Rows.{Place, no_row, short, here, passing, seek, Taken, assigned, format_for}
use Rattle.reader.proofs.Sounds.{took, took_none}

-- tags that have the same characters are equal
letter_is : (a b : Option ℕ) → same_letter a b ≡ true → a ≡ b
letter_is None None e = refl
letter_is None (Some d) e = absurd (grind arith)
letter_is (Some c) None e = absurd (grind arith)
letter_is (Some c) (Some d) e = ap Some (eqb-true c d e)

tag_is : (a b : Tag) → same_tag a b ≡ true → a ≡ b
tag_is a b e =
    let p = and_parts (eqb a.tens b.tens) (eqb a.units b.units && same_letter a.letter b.letter) e in
    let q = and_parts (eqb a.units b.units) (same_letter a.letter b.letter) p.1 in
    λ i. record { tens = eqb-true a.tens b.tens p.0 i; units = eqb-true a.units b.units q.0 i; letter = letter_is a.letter b.letter q.1 i }

module _ {F : Type 0} where
  -- none of the rows has a tag that they lack
  lacks_at : (t : Tag) (rs : List (Row F)) (j : ℕ) (r : Row F) (qs : List (Row F)) → lacks t rs ≡ true → drop j rs ≡ r ∷ qs → same_tag t r.tag ≡ true → ⊥
  lacks_at t [] zero r qs h e k = absurd (grind arith)
  lacks_at t [] (suc j) r qs h e k = absurd (grind arith)
  lacks_at t (p ∷ ps) zero r qs h e k =
      let same : p ≡ r = cc in
      let n = (and_parts (not (same_tag t p.tag)) (lacks t ps) h).0 in
      let s : same_tag t p.tag ≡ true = ap (λ r. same_tag t r.tag) same ∙ k in
      absurd (grind arith)
  lacks_at t (p ∷ ps) (suc j) r qs h e k = lacks_at t ps j r qs (and_parts (not (same_tag t p.tag)) (lacks t ps) h).1 e k

  pub format_at : (t : Tag) (rs : List (Row F)) (j : ℕ) (r : Row F) (qs : List (Row F)) → rows_ok rs ≡ true → drop j rs ≡ r ∷ qs → same_tag t r.tag ≡ true → format_for t rs ≡ Some r.format
  format_at t [] zero r qs h e k = absurd (grind arith)
  format_at t [] (suc j) r qs h e k = absurd (grind arith)
  format_at t (p ∷ ps) zero r qs h e k =
      let same : p ≡ r = cc in
      ap (λ p. cond (same_tag t p.tag) (Some p.format) (format_for t ps)) same ∙ cond-true (same_tag t r.tag) _ _ k
  format_at t (p ∷ ps) (suc j) r qs h e k =
      let a = and_parts (tag_ok p.tag) (lacks p.tag ps && rows_ok ps) h in
      let b = and_parts (lacks p.tag ps) (rows_ok ps) a.1 in
      by (same_tag t p.tag) refl b.0 (format_at t ps j r qs b.1 e k)
    where
      by : (s : Bool) → same_tag t p.tag ≡ s → lacks p.tag ps ≡ true → format_for t ps ≡ Some r.format → cond s (Some p.format) (format_for t ps) ≡ Some r.format
      by false q l f = f
      by true q l f = absurd (lacks_at p.tag ps j r qs l e (ap (λ u. same_tag u r.tag) (sym (tag_is t p.tag q)) ∙ k))

  -- a row that is found has the tag, and stands among the rows
  pub record FoundRow (t : Tag) (rs : List (Row F)) (r : Row F) (qs : List (Row F)) : Type 0 where
    pub place : ℕ
    pub there : drop place rs ≡ r ∷ qs
    pub tagged : same_tag t r.tag ≡ true

  pub found_row : (t : Tag) (n : ℕ) (rs : List (Row F)) (r : Row F) (qs : List (Row F)) (k : ℕ) → seek t n rs ≡ here r qs k → FoundRow t rs r qs
  found_row t n [] r qs k e = absurd (grind arith)
  found_row t n (p ∷ ps) r qs k e = by (same_tag t p.tag && ltb n p.most) refl e (λ q. found_row t 0 ps r qs k q)
    where
      passed : (b : Bool) (s : Place F) → passing b s ≡ here r qs k → s ≡ here r qs k
      passed b no_row q = absurd (grind arith)
      passed b short q = absurd (grind arith)
      passed true (here x xs c) q = q
      passed false (here x xs c) q = absurd (grind arith)

      by : (b : Bool) → (same_tag t p.tag && ltb n p.most) ≡ b → cond b (here p ps (n + 1)) (passing (leb p.least n) (seek t 0 ps)) ≡ here r qs k → (seek t 0 ps ≡ here r qs k → FoundRow t ps r qs) → FoundRow t (p ∷ ps) r qs
      by true q h on =
          let same : p ≡ r = cc in
          let rest : ps ≡ qs = cc in
          record { place = 0; there = (λ i. same i ∷ rest i); tagged = ap (λ r. same_tag t r.tag) (sym same) ∙ (and_parts (same_tag t p.tag) (ltb n p.most) q).0 }
      by false q h on = let f = on (passed (leb p.least n) (seek t 0 ps) h) in record { place = suc f.place; there = f.there; tagged = f.tagged }

-- the first row that has the field's tag is the one that took the field
abbrev pub ByTag : {F : Type 0} → List (Row F) → Taken F → Type 0
ByTag rows t = format_for t.field.tag rows ≡ Some t.format

pub formats_by_tag : {F : Type 0} (m : Meaning F) (text : List ℕ) (h : ℕ) (rows : List (Row F)) → rows_ok rows ≡ true → (n j : ℕ) (rs : List (Row F)) → drop j rows ≡ rs → (fs : List Field) (ts : List (Taken F)) → assigned m text h n rs fs ≡ Ok ts → AllByRecursion (ByTag rows) ts
formats_by_tag m text h rows ok n j rs d [] ts e = subst (AllByRecursion (ByTag rows)) (took_none m text h n rs ts e).1 tt
formats_by_tag m text h rows ok n j rs d (f ∷ fs) ts e =
    let t = took m text h n rs f fs ts e in
    let r = found_row f.tag n rs t.row t.behind t.count t.place in
    let there : drop (j + r.place) rows ≡ t.row ∷ t.behind = sym (drop-drop r.place j rows) ∙ ap (drop r.place) d ∙ r.there in
    subst (AllByRecursion (ByTag rows)) t.is
    (format_at f.tag rows (j + r.place) t.row t.behind ok there r.tagged, formats_by_tag m text h rows ok t.count (j + r.place) (t.row ∷ t.behind) there fs t.rest t.goes_on)
