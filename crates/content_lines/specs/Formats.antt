-- What a field format is, and the laws that every format keeps.
use Rattle.std.specs.Prelude.{◌≡◌, ℕ, Bool, true, cond, not, ◌&&◌, List, [], ◌∷◌, length, ℤ, codes, Result, ◌==◌, slice_index}
use Rattle.mt_text.specs.Classes.{between, among, printable}
use Rattle.mt_text.specs.Refusals.{Refusal, refused_at}
use Rattle.mt_text.specs.Lent.{fitted, overwritten}

-- what a content says: two contents say the same when their sayings are equal
pub data Saying : Type 0 where
  -- its bytes
  plain : List ℕ → Saying
  -- date and currency as they stand, and the hundredths
  money : List ℕ → ℕ → Saying
  -- date and currency as they stand, and the hundredths with their sign
  balance : List ℕ → ℤ → Saying
  -- a statement number
  number : ℕ → Saying
  -- the account line with its line end, or no bytes, and the bank code in eleven places
  party : List ℕ → List ℕ → Saying
  -- what stands before the amount, its hundredths, and what stands behind it
  entry : List ℕ → ℕ → List ℕ → Saying

-- a format: which contents it accepts, what each says, its normal content, and the value that it tells
pub record Format (V : Type 0) : Type 0 where
  pub accepts : List ℕ → Bool
  pub says : List ℕ → Saying
  pub normal : List ℕ → List ℕ
  pub value : List ℕ → V

-- a format whose contents say their bytes and are normal as they stand
abbrev pub as_it_stands : {V : Type 0} → (List ℕ → Bool) → (List ℕ → V) → Format V
as_it_stands accepts value = record { accepts = accepts; says = plain; normal = λ c. c; value = value }

-- a line that begins with : or -, which would begin a field or end the block
abbrev pub begins : List ℕ → Bool
begins line = among (codes ":-") (slice_index line 0)

-- bytes of x and CR LF pairs (13, 10), behind none of which : or - stands
abbrev pub laid : List ℕ → Bool
laid [] = true
laid (b ∷ []) = printable b
laid (b ∷ c ∷ bs) = cond (printable b) (laid (c ∷ bs)) (b == 13 && (c == 10 && (not (begins bs) && laid bs)))

-- what the body of a text has room for: 1 to 220 bytes, so laid out
abbrev pub tidy : List ℕ → Bool
tidy c = between 1 220 (length c) && laid c

-- the normal content is accepted and says the same; accepted contents that say the same have one normal
-- content and tell one value; an accepted content is tidy
pub record Lawful {V : Type 0} (f : Format V) : Type 0 where
  pub accepted : (c : List ℕ) → f.accepts c ≡ true → f.accepts (f.normal c) ≡ true
  pub same : (c : List ℕ) → f.accepts c ≡ true → f.says (f.normal c) ≡ f.says c
  pub one_normal : (c d : List ℕ) → f.accepts c ≡ true → f.accepts d ≡ true → f.says c ≡ f.says d → f.normal c ≡ f.normal d
  pub one_value : (c d : List ℕ) → f.accepts c ≡ true → f.accepts d ≡ true → f.says c ≡ f.says d → f.value c ≡ f.value d
  pub fits : (c : List ℕ) → f.accepts c ≡ true → tidy c ≡ true

-- writing the normal content at the front of a buffer: the answer, and what the buffer then holds
abbrev pub answer : {V : Type 0} → Format V → List ℕ → List ℕ → Result ℕ Refusal
answer f c buffer = cond (f.accepts c) (fitted (f.normal c) buffer) (refused_at 9 0)

abbrev pub written : {V : Type 0} → Format V → List ℕ → List ℕ → List ℕ
written f c buffer = cond (f.accepts c) (overwritten (f.normal c) buffer) buffer
