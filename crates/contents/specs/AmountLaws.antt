-- What normal amounts are good for, said of every amount.
use Rattle.std.specs.Prelude.{◌≡◌, ℕ, true, List, Some}
use Rattle.contents.specs.Amounts.{is_amount, hundredths, amount_of, normal}

-- the normal amount is an amount, it has the same worth, and it is its own normal amount
pub record NormalKeeps (bs : List ℕ) : Type 0 where
  pub worth : amount_of (normal bs) ≡ Some (hundredths bs)
  pub again : normal (normal bs) ≡ normal bs

-- two amounts have the same worth exactly when their normal amounts are equal
pub record NormalTells (bs other : List ℕ) : Type 0 where
  pub same_worth : hundredths bs ≡ hundredths other → normal bs ≡ normal other
  pub same_normal : normal bs ≡ normal other → hundredths bs ≡ hundredths other

-- both, for an amount and every other one
pub record NormalLaws (bs : List ℕ) : Type 0 where
  pub keeps : is_amount bs ≡ true → NormalKeeps bs
  pub tells : is_amount bs ≡ true → (other : List ℕ) → is_amount other ≡ true → NormalTells bs other
