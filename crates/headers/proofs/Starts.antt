-- Bytes that begin with a word.
use Rattle.std.proofs.Common.{◌≡◌, ℕ, ◌≤◌, true, eqb, List, [], ◌∷◌, ◌++◌, length, drop, Decides, refl, ap, ◌∙◌, arith}
use Rattle.std.proofs.lemmas.List.{length-append}
use Rattle.std.proofs.lemmas.Bool.{and_parts, and_from, eqb-true, eq-eqb}
use Rattle.headers.specs.Parts.{starts}

starts_cut : (p s : List ℕ) → starts p s ≡ true → s ≡ p ++ drop (length p) s
starts_cut [] s h = refl
starts_cut (c ∷ p) [] h = absurd (grind arith)
starts_cut (c ∷ p) (b ∷ s) h =
    let q = and_parts (eqb b c) (starts p s) h in
    let e = eqb-true b c q.0 in
    let f = starts_cut p s q.1 in
    (λ i. e i ∷ f i)

pub starts_made : (p rest : List ℕ) → starts p (p ++ rest) ≡ true
starts_made [] rest = refl
starts_made (c ∷ p) rest = and_from (eqb c c) (starts p (p ++ rest)) (eq-eqb c c refl) (starts_made p rest)

pub starts_decides : (p s : List ℕ) → Decides (starts p s) (s ≡ p ++ drop (length p) s)
starts_decides p s = (starts_cut p s, λ e. ap (starts p) e ∙ starts_made p (drop (length p) s))

-- they are at least as long as the word
pub starts_length : (p s : List ℕ) → starts p s ≡ true → length p ≤ length s
starts_length p s h = omega (arith, ap length (starts_cut p s h), length-append p (drop (length p) s))
