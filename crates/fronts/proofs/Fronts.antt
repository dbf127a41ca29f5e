-- What the front of a list tells of the whole.
use Rattle.std.proofs.Common.{◌≡◌, ℕ, ◌≤◌, List, length, take, sym, ap, ◌∙◌, ⊎_elim, arith}
use Rattle.std.proofs.lemmas.List.{take_all, length-take-le}
use Rattle.std.proofs.lemmas.Bool.{cases_lt}

-- where n bytes and more are answered alike, the first n tell the answer for all
pub front_tells : {X : Type 0} (answer : List ℕ → X) (n : ℕ) (long : X) → ((bs : List ℕ) → n ≤ length bs → answer bs ≡ long) → (bs : List ℕ) → answer (take n bs) ≡ answer bs
front_tells answer n long alike bs =
    ⊎_elim
    (λ h. alike (take n bs) (omega (arith, length-take-le n bs (omega arith))) ∙ sym (alike bs (omega arith)))
    (λ h. ap answer (take_all n bs h))
    (cases_lt n (length bs))
