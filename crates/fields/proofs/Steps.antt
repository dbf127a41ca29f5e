-- Where a content ends, one step on and one line on.
use Rattle.std.proofs.Common.{one-add, ltb, suc, ◌&&◌, None, sym, ap, ◌∙◌, ◌≡◌, ℕ, ◌+◌, ◌<◌, ◌≤◌, Bool, true, false, cond, eqb, ◌==◌, ◌||◌, not, add-zero, List, [], ◌∷◌, length, get_or, drop, Some, Ok, Result, refl, arith}
use Rattle.std.specs.List.{position, position_or_len}
use Rattle.std.proofs.lemmas.List.{get_or_past, drop-drop, drop_all}
use Rattle.std.proofs.lemmas.Bool.Decides.{nat_tests}
use Rattle.mt_text.specs.Refusals.{Refusal, refused_at}
use Rattle.fields.specs.declared.tags.Tag.{Tag}
use Rattle.fields.specs.Tags.{tag_at, width}
use Rattle.fields.specs.Fields.{barred, opens, content_end}

-- one step of `content_end`, read by offsets into what is left; 0 stands past the end
pub stepped : (line i : ℕ) (bs : List ℕ) → 0 < length bs → content_end line i bs ≡ cond (eqb (get_or bs 0 0) 13) (cond (eqb (get_or bs 1 0) 10) (cond (opens (get_or bs 2 0)) (Ok i) (content_end (i + 2) (i + 2) (drop 2 bs))) (refused_at 5 line)) (cond (barred (get_or bs 0 0)) (refused_at 5 line) (content_end line (i + 1) (drop 1 bs)))
stepped line i [] h = absurd (omega arith)
stepped line i (b ∷ []) h = last (eqb b 13) (barred b)
  where
    last : (x y : Bool) → ◌≡◌ {A = Result ℕ Refusal} (refused_at 5 line) (cond x (refused_at 5 line) (cond y (refused_at 5 line) (refused_at 5 line)))
    last true y = refl
    last false true = refl
    last false false = refl
stepped line i (b ∷ c ∷ bs) h = refl

-- a CR, or what no line holds
abbrev pub ends_line : ℕ → Bool
ends_line b = b == 13 || barred b

-- what stands at e, where a line's plain bytes end, decides
abbrev pub decided : ℕ → ℕ → List ℕ → Result ℕ Refusal
decided line e bs = cond (get_or bs 0 0 == 13 && get_or bs 1 0 == 10) (cond (opens (get_or bs 2 0)) (Ok e) (content_end (e + 2) (e + 2) (drop 2 bs))) (refused_at 5 line)

plain_run : (line i : ℕ) (bs : List ℕ) → content_end line i bs ≡ decided line (i + position_or_len ends_line bs) (drop (position_or_len ends_line bs) bs)
plain_run line i [] = refl
plain_run line i (b ∷ bs) = by (ends_line b) refl (plain_run line (i + 1) bs)
  where
    by : (x : Bool) → ends_line b ≡ x → content_end line (i + 1) bs ≡ decided line (i + 1 + position_or_len ends_line bs) (drop (position_or_len ends_line bs) bs) → content_end line i (b ∷ bs) ≡ decided line (i + cond (not x) (1 + position_or_len ends_line bs) 0) (drop (cond (not x) (1 + position_or_len ends_line bs) 0) (b ∷ bs))
    by true t ih = let s = stepped line i (b ∷ bs) (omega arith) in let z = add-zero i in grind (arith, nat_tests)
    by false t ih =
        let s = stepped line i (b ∷ bs) (omega arith) in
        let m = position_or_len ends_line bs in
        let one : i + 1 + m ≡ i + suc m = omega arith in
        let on : content_end line i (b ∷ bs) ≡ content_end line (i + 1) bs = grind (arith, nat_tests) in
        on ∙ ih ∙ ap (λ k. decided line k (drop m bs)) one ∙ ap (λ k. decided line (i + k) (drop k (b ∷ bs))) (sym (one-add m))

-- the same over the whole text, by what `position` answered
module _ (text : List ℕ) (line i : ℕ) where
  abbrev m : ℕ
  m = position_or_len ends_line (drop i text)

  pub at_end : (n : ℕ) (bs : List ℕ) → bs ≡ drop (i + n) text → Some n ≡ position ends_line (drop i text) → content_end line i (drop i text) ≡ decided line (i + n) bs
  at_end n bs r e =
      let same : m ≡ n = by (ltb m (length (drop i text))) e in
      plain_run line i (drop i text) ∙ ap (λ k. decided line (i + k) (drop k (drop i text))) same ∙ ap (decided line (i + n)) (drop-drop n i text ∙ sym r)
    where
      by : (x : Bool) → Some n ≡ cond x (Some m) None → m ≡ n
      by true q = cc
      by false q = absurd (grind arith)

  pub at_none : None ≡ position ends_line (drop i text) → content_end line i (drop i text) ≡ refused_at 5 line
  at_none e = plain_run line i (drop i text) ∙ ap (decided line (i + m)) (drop_all m (drop i text) (grind (arith, nat_tests)))

-- a content ends between where it begins and a CR LF before the text's end
pub end_within : (line i : ℕ) (bs : List ℕ) (e : ℕ) → content_end line i bs ≡ Ok e → (i ≤ e) × (e + 2 ≤ i + length bs)
end_within line i [] e h = absurd (grind arith)
end_within line i (b ∷ []) e h = absurd (grind arith)
end_within line i (b ∷ c ∷ bs) e h =
    let skip = end_within (i + 2) (i + 2) bs e in
    let on = end_within line (i + 1) (c ∷ bs) e in
    grind (arith, nat_tests)

-- the bytes of a tag stand in the text
pub tag_within : (bs : List ℕ) (t : Tag) → tag_at bs ≡ Some t → width t ≤ length bs
tag_within bs t h =
    let past3 = get_or_past bs 3 0 in
    let past4 = get_or_past bs 4 0 in
    grind (arith, nat_tests)
