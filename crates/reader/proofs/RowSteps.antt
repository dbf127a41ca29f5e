-- The rows from a place on, one row further.
use Rattle.std.proofs.Common.{◌≡◌, Bool, true, false, cond, eqb, List, [], ◌∷◌, Some, refl, arith}
use Rattle.std.specs.List.{list_all, find}
use Rattle.std.specs.Option.{option_map}
use Rattle.std.proofs.lemmas.Bool.Decides.{nat_tests}
use Rattle.fields.specs.declared.tags.Tag.{Tag}
use Rattle.reader.specs.declared.interface.Row.{Row}
use Rattle.reader.specs.Meaning.{same_tag}
use Rattle.reader.specs.Rows.{filled, format_for}

-- of the rows behind the current one, which have no field yet, none falls short
pub filled_behind : {F : Type 0} (rs : List (Row F)) → filled 0 rs ≡ list_all (λ r. eqb r.least 0) rs
filled_behind [] = refl
filled_behind (r ∷ rs) = let ih = filled_behind rs in grind (arith, nat_tests)

-- the format of the first row with the tag
pub format_is : {F : Type 0} (t : Tag) (rs : List (Row F)) → format_for t rs ≡ option_map (λ r. r.format) (find (λ r. same_tag t r.tag) rs)
format_is t [] = refl
format_is t (r ∷ rs) = by (same_tag t r.tag) (format_is t rs)
  where
    by : (b : Bool) → format_for t rs ≡ option_map (λ q. q.format) (find (λ q. same_tag t q.tag) rs) → cond b (Some r.format) (format_for t rs) ≡ option_map (λ q. q.format) (cond b (Some r) (find (λ q. same_tag t q.tag) rs))
    by true e = refl
    by false e = e
