-- Block 3, the user header: {3: items }, the items 108, 111, 113 and 121 in any order, each at most once, at least one.
-- `bs` is what is left of the text from offset `i` on.
use Rattle.std.specs.Prelude.{ℕ, zero, suc, ◌+◌, Bool, true, cond, ◌&&◌, ◌||◌, List, [], ◌∷◌, length, take, drop, is_some, Some, None, codes, Option, ◌==◌, nat_lt, slice_index}
use Rattle.mt_text.specs.Classes.{between, among, every, digit, printable, letter_or_digit}
use Rattle.contents.specs.Digits.{place, and_then}
use Rattle.headers.specs.declared.user.Span.{Span}
use Rattle.headers.specs.declared.user.UserHeader.{UserHeader}
use Rattle.headers.specs.declared.user.UserBlock.{UserBlock}
use Rattle.headers.specs.declared.user.Item.{Item}
use Rattle.headers.specs.declared.user.Item.TheVariants.{UserReference, ServiceType, Priority, Tracking}
use Rattle.headers.specs.declared.user.Step.{Step}
use Rattle.headers.specs.declared.user.Step.TheVariants.{More, Closed}
use Rattle.headers.specs.Parts.{starts}

-- a digit or a to f
abbrev pub small_hex : ℕ → Bool
small_hex b = digit b || between 97 102 b

-- places 9, 14, 19 and 24, counted from 1, have hyphens
abbrev pub hyphen_place : ℕ → Bool
hyphen_place i = among (8 ∷ 13 ∷ 18 ∷ 23 ∷ []) i

-- hyphens (45) at those places, a digit or a to f at all others; the bytes begin at place i
abbrev pub tracked : ℕ → List ℕ → Bool
tracked i [] = true
tracked i (b ∷ bs) = cond (hyphen_place i) (b == 45) (small_hex b) && tracked (i + 1) bs

-- the value of each item: 108 16x, 111 3!n, 113 four letters or digits, 121 36 characters
abbrev pub value_ok : Item → List ℕ → Bool
value_ok UserReference v = between 1 16 (length v) && every printable v
value_ok ServiceType v = length v == 3 && every digit v
value_ok Priority v = length v == 4 && every letter_or_digit v
value_ok Tracking v = length v == 36 && tracked 0 v

-- which item begins here
abbrev pub item_of : List ℕ → Option Item
item_of bs =
    cond (starts (codes "{108:") bs) (Some UserReference)
    (cond (starts (codes "{111:") bs) (Some ServiceType)
    (cond (starts (codes "{113:") bs) (Some Priority)
    (cond (starts (codes "{121:") bs) (Some Tracking)
    None)))

-- a value in its place, which must be free
abbrev pub put_in : Item → Span → UserHeader → Option UserHeader
put_in UserReference v h = cond (is_some h.user_reference) None (Some (record { user_reference = Some v; service_type = h.service_type; priority = h.priority; tracking = h.tracking }))
put_in ServiceType v h = cond (is_some h.service_type) None (Some (record { user_reference = h.user_reference; service_type = Some v; priority = h.priority; tracking = h.tracking }))
put_in Priority v h = cond (is_some h.priority) None (Some (record { user_reference = h.user_reference; service_type = h.service_type; priority = Some v; tracking = h.tracking }))
put_in Tracking v h = cond (is_some h.tracking) None (Some (record { user_reference = h.user_reference; service_type = h.service_type; priority = h.priority; tracking = Some v }))

abbrev pub nothing : UserHeader
nothing = record { user_reference = None; service_type = None; priority = None; tracking = None }

-- whether any value is given
abbrev pub is_given : UserHeader → Bool
is_given h = is_some h.user_reference || (is_some h.service_type || (is_some h.priority || is_some h.tracking))

-- how long the value of an item is: up to the next '}' (125)
abbrev pub value_length : List ℕ → ℕ
value_length bs = place 125 (drop 5 bs)

-- the closing brace, which some value must stand before
abbrev pub closed_at : ℕ → UserHeader → Option Step
closed_at e h = cond (is_given h) (Some (Closed e)) None

-- a value of n bytes in its place, and on behind its brace
abbrev pub taken_at : ℕ → ℕ → Item → UserHeader → Option Step
taken_at i n k h = and_then (put_in k (record { at = i + 5; len = n }) h) (λ h'. Some (More h' (i + 6 + n)))

-- one step, with the values so far: the closing brace, or one item whose value fits and whose place is free
abbrev pub step_at : ℕ → List ℕ → UserHeader → Option Step
step_at i bs h =
    cond (slice_index bs 0 == 125) (closed_at (i + 1) h)
    (and_then (item_of bs) (λ k.
    cond (nat_lt (value_length bs) (length (drop 5 bs)))
    (cond (value_ok k (take (value_length bs) (drop 5 bs))) (taken_at i (value_length bs) k h) None)
    None))

-- the steps from offset i on, fewer than `most`
abbrev pub steps_then : (ℕ → UserHeader → Option UserBlock) → UserHeader → Option Step → Option UserBlock
steps_then rest h (Some (More h' j)) = rest j h'
steps_then rest h (Some (Closed e)) = Some (record { header = h; end = e })
steps_then rest h None = None

abbrev pub steps_within : ℕ → List ℕ → ℕ → UserHeader → Option UserBlock
steps_within zero text i h = None
steps_within (suc most) text i h = steps_then (λ j h'. steps_within most text j h') h (step_at i (drop i text) h)

-- block 3 at offset i: at most four items and a closing brace
abbrev pub user_at : List ℕ → ℕ → Option UserBlock
user_at text i = cond (starts (codes "{3:") (drop i text)) (steps_within 5 text (i + 3) nothing) None
