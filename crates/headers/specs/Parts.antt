-- Parts of a block, by their offsets in it.
use Rattle.std.specs.Prelude.{ℕ, ◌-◌, Bool, true, false, ◌&&◌, List, [], ◌∷◌, take, drop, ◌==◌}

-- the bytes from offset i up to offset j, which is not included
abbrev pub cut : ℕ → ℕ → List ℕ → List ℕ
cut i j bs = take (j - i) (drop i bs)

-- whether the bytes begin with these
abbrev pub starts : List ℕ → List ℕ → Bool
starts [] bs = true
starts (p ∷ ps) [] = false
starts (p ∷ ps) (b ∷ bs) = b == p && starts ps bs
