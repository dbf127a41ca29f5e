-- The walk over the rows of a type: which row takes each field.
use Rattle.std.specs.Prelude.{ℕ, ◌+◌, Bool, true, cond, ◌&&◌, List, [], ◌∷◌, Some, None, Ok, Err, Option, Result, nat_le, nat_lt}
use Rattle.std.specs.Borrow.{Bor}
use Rattle.std.specs.Option.{option_map}
use Rattle.mt_text.specs.Refusals.{Refusal, refused_at}
use Rattle.content_lines.specs.Formats.{Format}
use Rattle.fields.specs.declared.tags.Tag.{Tag}
use Rattle.fields.specs.declared.scan.Field.{Field}
use Rattle.fields.specs.Written.{shown}
use Rattle.reader.specs.declared.interface.Row.{Row}
use Rattle.reader.specs.Meaning.{Meaning, same_tag}

-- rows as they are listed
abbrev pub listed : {F : Type 0} → Option (Bor (List (Row F))) → Option (List (Row F))
listed o = option_map (λ x. x.now) o

-- what an accepted content tells
abbrev pub value_of : {V : Type 0} → Format V → List ℕ → Option V
value_of f c = cond (f.accepts c) (Some (f.value c)) None

-- where a tag finds its row
pub data Place (F : Type 0) : Type 0 where
  -- no free row at or after the current one has the tag
  no_row : Place F
  -- one has it, but a row before that one falls short of its least count
  short : Place F
  -- this row, with the rows behind it and how many fields it now has
  here : Row F → List (Row F) → ℕ → Place F

-- a row is passed over
abbrev pub passing : {F : Type 0} → Bool → Place F → Place F
passing enough no_row = no_row
passing enough short = short
passing enough (here r rs n) = cond enough (here r rs n) short

-- from the current row on, which has n fields so far
abbrev pub seek : {F : Type 0} → Tag → ℕ → List (Row F) → Place F
seek t n [] = no_row
seek t n (r ∷ rs) = cond (same_tag t r.tag && nat_lt n r.most) (here r rs (n + 1)) (passing (nat_le r.least n) (seek t 0 rs))

-- at the end no row falls short, from the current one on
abbrev pub filled : {F : Type 0} → ℕ → List (Row F) → Bool
filled n [] = true
filled n (r ∷ rs) = nat_le r.least n && filled 0 rs

-- a field, and the format of the row that took it
pub record Taken (F : Type 0) : Type 0 where
  pub format : F
  pub field : Field

abbrev pub with_taken : {F : Type 0} → Taken F → Result (List (Taken F)) Refusal → Result (List (Taken F)) Refusal
with_taken t (Ok ts) = Ok (t ∷ ts)
with_taken t (Err x) = Err x

-- one field: 7 and 8 stand at the field, 9 at its content; then the rest, from the row that took it
abbrev pub take_in : {F : Type 0} → Meaning F → List ℕ → Field → Place F → (ℕ → List (Row F) → Result (List (Taken F)) Refusal) → Result (List (Taken F)) Refusal
take_in m text f no_row rest = refused_at 7 f.at
take_in m text f short rest = refused_at 8 f.at
take_in m text f (here r rs n) rest =
    cond ((m.format r.format).accepts (shown text f).content) (with_taken (record { format = r.format; field = f }) (rest n (r ∷ rs))) (refused_at 9 f.content_at)

-- field by field, from the current row on; at the end 8 stands at the closing hyphen
abbrev pub assigned : {F : Type 0} → Meaning F → List ℕ → ℕ → ℕ → List (Row F) → List Field → Result (List (Taken F)) Refusal
assigned m text hyphen n rs [] = cond (filled n rs) (Ok []) (refused_at 8 hyphen)
assigned m text hyphen n rs (f ∷ fs) = take_in m text f (seek f.tag n rs) (λ k qs. assigned m text hyphen k qs fs)

-- the format of the first row that has the tag
abbrev pub format_for : {F : Type 0} → Tag → List (Row F) → Option F
format_for t [] = None
format_for t (r ∷ rs) = cond (same_tag t r.tag) (Some r.format) (format_for t rs)
