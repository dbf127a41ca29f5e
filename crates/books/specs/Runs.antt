-- Equal shares: each account's own run of cells.
use Rattle.std.specs.Prelude.{◌≡◌, ℕ, ◌*◌, ◌/◌, ◌≤◌, min, true, false, cond, List, [], length, take, drop, nat_lt, slice_index}
use Rattle.std.proofs.Common.{arith}
use Rattle.std.proofs.lemmas.Bool.{cond-false, le-ltb}
use Rattle.std.proofs.lemmas.List.{length-take}

-- how many cells each of the eight accounts has, of n: at most 64
abbrev pub share_of : ℕ → ℕ
share_of n = min (n / 8) 64

abbrev pub room_of : ℕ → ℕ → ℕ
room_of n a = cond (nat_lt a 8) (share_of n) 0

-- how many entries account a has
abbrev pub size_of : ℕ → List ℕ → ℕ → ℕ
size_of n lens a = min (slice_index lens a) (share_of n)

-- the entries of account a: those at the front of its run
abbrev pub run : {X : Type 0} → List X → List ℕ → ℕ → List X
run cells lens a = cond (nat_lt a 8) (take (size_of (length cells) lens a) (drop (a * share_of (length cells)) cells)) []

-- no run of entries passes the room
pub run_fits : {X : Type 0} (cells : List X) (lens : List ℕ) (a : ℕ) → length (run cells lens a) ≤ room_of (length cells) a
run_fits cells lens a =
    elim (nat_lt a 8) as (λ t. length (cond t (take (size_of (length cells) lens a) (drop (a * share_of (length cells)) cells)) []) ≤ cond t (share_of (length cells)) 0) [
      | true ↦ simp length-take (omega arith)
      | false ↦ omega arith
    ]

-- past account 7 there is no room
pub room_ends : (n a : ℕ) → 8 ≤ a → room_of n a ≡ 0
room_ends n a h = cond-false _ _ _ (le-ltb a 8 h)
