-- References that say the same are equal, which the law of a key asks for.
use Rattle.std.specs.Prelude.{◌≡◌, ℕ, zero, suc, ◌%◌, ◌<◌, true, List, ◌∷◌, ◌++◌, take, drop, ◌==◌, ◌≢◌, slice_index}
use Rattle.std.proofs.Common.{sym, ap, ◌∙◌, inl, inr, arith}
use Rattle.std.proofs.lemmas.Nat.{mod_below}
use Rattle.std.proofs.lemmas.Bool.{cases_Bool, and_parts, eqb-true, cond-true, cond-false}
use Rattle.books.specs.declared.reference.Reference.{Reference}
use Rattle.books.specs.References.{word_of, bytes_of, kept, spelled, is_kept, says_of}

kept_back : (r : Reference) → is_kept r ≡ true → r ≡ kept (spelled r)
unfolding is_kept kept
kept_back r h =
    let p = and_parts (r.first == word_of (take 8 (spelled r))) _ h in
    let q = and_parts (r.second == word_of (drop 8 (spelled r))) _ p.1 in
    let a = eqb-true _ _ p.0 in
    let b = eqb-true _ _ q.0 in
    let c = eqb-true _ _ q.1 in
    (λ i. record { first = a i; second = b i; len = c i })

-- what bytes say begins with a byte
never_stray : (n f s : ℕ) (rest : List ℕ) → take n (bytes_of 8 f ++ bytes_of 8 s) ≢ 256 ∷ rest
never_stray zero f s rest e = let z : ◌≡◌ {A = ℕ} 0 1 = cc in omega arith
never_stray (suc n) f s rest e =
    let z : f % 256 ≡ 256 = ap (λ l. slice_index l 0) e in
    let b : f % 256 < 256 = mod_below f 256 (omega arith) in
    omega arith

pub tells_apart : (a b : Reference) → says_of a ≡ says_of b → a ≡ b
unfolding says_of spelled
tells_apart a b e =
    elim (cases_Bool (is_kept a)) [
      | inl p ↦ elim (cases_Bool (is_kept b)) [
        | inl q ↦ kept_back a p ∙ ap kept (sym (cond-true _ _ _ p) ∙ e ∙ cond-true _ _ _ q) ∙ sym (kept_back b q)
        | inr q ↦ absurd (never_stray a.len a.first a.second _ (sym (cond-true _ _ _ p) ∙ e ∙ cond-false _ _ _ q))
      ]
      | inr p ↦ elim (cases_Bool (is_kept b)) [
        | inl q ↦ absurd (never_stray b.len b.first b.second _ (sym (cond-true _ _ _ q) ∙ sym e ∙ cond-false _ _ _ p))
        | inr q ↦
            let f = sym (cond-false _ _ _ p) ∙ e ∙ cond-false _ _ _ q in
            (λ i. record { first = ap (λ l. slice_index l 1) f i; second = ap (λ l. slice_index l 2) f i; len = ap (λ l. slice_index l 3) f i })
      ]
    ]
