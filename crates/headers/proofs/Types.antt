-- The three digits of a type.
use Rattle.std.proofs.Common.{◌≡◌, ℕ, ◌≤◌, Bool, true, ◌&&◌, eqb, List, length, arith}
use Rattle.std.proofs.lemmas.Bool.{and_parts, eqb-true}
use Rattle.mt_text.specs.Classes.{digit, every}
use Rattle.headers.specs.Parts.{cut, starts}

-- what the type of a block 2 asks
pub record Typed (bs : List ℕ) : Type 0 where
  pub long : 7 ≤ length bs
  pub digits : every digit (cut 4 7 bs) ≡ true

module _ (bs : List ℕ) (n : ℕ) (word : List ℕ) (rest : Bool) where
  pub typed : (eqb (length bs) n && (starts word bs && (every digit (cut 4 7 bs) && rest))) ≡ true → 7 ≤ n → Typed bs
  typed h l =
      let p = and_parts (eqb (length bs) n) _ h in
      let q = and_parts (starts word bs) _ p.1 in
      let r = and_parts (every digit (cut 4 7 bs)) rest q.1 in
      let e = eqb-true (length bs) n p.0 in
      record { long = omega arith; digits = r.0 }
