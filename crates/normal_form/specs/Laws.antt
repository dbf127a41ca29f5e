-- The law of normal forms, said of every module that keeps the laws and all texts that are sound by it.
use Rattle.std.specs.Prelude.{◌≡◌, ℕ, ◌≤◌, List, length, Ok}
use Rattle.reader.specs.Meaning.{Meaning}
use Rattle.reader.specs.Texts.{Sound, sound}
use Rattle.normal_form.specs.Normal.{normal_text, normal_of}
use Rattle.normal_form.specs.Same.{SaysSame}

-- two sound texts have equal normal texts exactly when they say the same
pub record ToldApart {F : Type 0} (m : Meaning F) (s t : List ℕ) (x y : Sound F) : Type 0 where
  pub same_normal : SaysSame m s t x y → normal_text m s x ≡ normal_text m t y
  pub same_saying : normal_text m s x ≡ normal_text m t y → SaysSame m s t x y

-- the normal text is sound, says the same as the text, and is its own normal text; it has at most 9,935 bytes
pub record Settled {F : Type 0} (m : Meaning F) (s : List ℕ) (x : Sound F) : Type 0 where
  pub again : Sound F
  pub is_sound : sound m (normal_text m s x) ≡ Ok again
  pub says_same : SaysSame m s (normal_text m s x) x again
  pub own_normal : normal_of m (normal_text m s x) ≡ Ok (normal_text m s x)
  pub short : length (normal_text m s x) ≤ 9935

pub record NormalForms {F : Type 0} (m : Meaning F) : Type 0 where
  pub apart : (s t : List ℕ) (x y : Sound F) → sound m s ≡ Ok x → sound m t ≡ Ok y → ToldApart m s t x y
  pub settled : (s : List ℕ) (x : Sound F) → sound m s ≡ Ok x → Settled m s x
