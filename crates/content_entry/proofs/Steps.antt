-- Where the first two slashes stand, and how long a run is, in std's words.
use Rattle.std.proofs.Common.{◌≡◌, ℕ, zero, suc, ◌+◌, ◌<◌, ◌≤◌, false, cond, ◌&&◌, ◌||◌, eqb, List, [], ◌∷◌, length, get_or, Some, None, Option, IfSome, refl, ap, ◌∙◌, arith}
use Rattle.std.specs.List.{prefix_len}
use Rattle.std.proofs.lemmas.Bool.Decides.{nat_tests}
use Rattle.mt_text.specs.Classes.{digit}
use Rattle.content_lines.proofs.Places.{at_byte}
use Rattle.content_entry.specs.Behind.{slashes}
use Rattle.content_entry.specs.Entries.{run}

abbrev pub Apart : List ℕ → ℕ → Type 0
Apart bs k = get_or bs k 0 ≡ 47 → get_or bs (suc k) 0 ≡ 47 → ⊥

-- two slashes do not stand at the head
apart_head : (b : ℕ) (bs : List ℕ) → Apart (b ∷ bs) 0 → slashes (b ∷ bs) ≡ slashes bs + 1
apart_head b bs h = let n : (eqb b 47 && eqb (get_or bs 0 0) 47) ≡ false = grind (arith, nat_tests) in ap (λ t. cond t 0 (slashes bs + 1)) n

pub slashes_at : (bs : List ℕ) (i : ℕ) → get_or bs i 0 ≡ 47 → get_or bs (suc i) 0 ≡ 47 → ((k : ℕ) → k < i → Apart bs k) → slashes bs ≡ i
slashes_at [] i e f h = absurd (grind arith)
slashes_at (b ∷ bs) zero e f h = grind (arith, nat_tests)
slashes_at (b ∷ bs) (suc i) e f h =
    let r = slashes_at bs i e f (λ k l. h (suc k) (omega arith)) in
    apart_head b bs (h 0 (omega arith)) ∙ omega arith

pub slashes_none : (bs : List ℕ) → ((k : ℕ) → Apart bs k) → slashes bs ≡ length bs
slashes_none [] h = refl
slashes_none (b ∷ bs) h = let r = slashes_none bs (λ k. h (suc k)) in apart_head b bs (h 0) ∙ omega arith

-- what the search for the first pair answers
pub first_pair : (bs : List ℕ) (o : Option ℕ) → ((i : ℕ) → o ≡ Some i → (i + 2 ≤ length bs) × (get_or bs i 0 ≡ 47) × (get_or bs (suc i) 0 ≡ 47)) → ((i k : ℕ) → o ≡ Some i → k < i → Apart bs k) → ((k : ℕ) → o ≡ None → k + 1 < length bs → Apart bs k) → (o ≡ cond (eqb (slashes bs) (length bs)) None (Some (slashes bs))) × IfSome o (λ at. at + 2 ≤ length bs)
first_pair bs (Some i) hit before none =
    let h = hit i refl in
    let s = slashes_at bs i h.1 h.2 (λ k l. before i k refl l) in
    let room = h.0 in
    (grind (arith, nat_tests), h.0)
first_pair bs None hit before none =
    let s = slashes_none bs (λ k e f. none k refl (omega (arith, at_byte bs (suc k) 47 f (omega arith))) e f) in
    (grind (arith, nat_tests), tt)

pub slashes_within : (bs : List ℕ) → slashes bs ≤ length bs
slashes_within [] = omega arith
slashes_within (b ∷ bs) = let h = slashes_within bs in grind (arith, nat_tests)

pub run_within : (bs : List ℕ) → run bs ≤ length bs
run_within [] = omega arith
run_within (b ∷ bs) = let h = run_within bs in grind (arith, nat_tests)

pub run_is : (bs : List ℕ) → prefix_len (λ b. digit b || eqb b 44) bs ≡ run bs
run_is [] = refl
run_is (b ∷ bs) =
    let h = run_is bs in
    let n : 1 + prefix_len (λ b. digit b || eqb b 44) bs ≡ run bs + 1 = omega arith in
    ap (λ n. cond (digit b || eqb b 44) n 0) n
