-- What the calls inside the reader answer, in the words of the walk.
use Rattle.std.specs.Prelude.{ℕ, cond, List, ◌∷◌, unwrap_or, Ok, Err, Result}
use Rattle.mt_text.specs.declared.fault.Fault.{Fault}
use Rattle.mt_text.specs.Refusals.{Refusal, refusal_of, refused_at}
use Rattle.fields.specs.declared.scan.Field.{Field}
use Rattle.fields.specs.Written.{shown}
use Rattle.reader.specs.declared.interface.Row.{Row}
use Rattle.reader.specs.declared.rows.Walk.{Walk}
use Rattle.reader.specs.declared.values.Values.{Values}
use Rattle.reader.specs.declared.gathered.Gathered.{Gathered}
use Rattle.reader.specs.Values.{Told, told_by}
use Rattle.reader.specs.Meaning.{Meaning}
use Rattle.reader.specs.Rows.{Place, no_row, short, here}
use Rattle.reader.specs.Texts.{Sum}

-- the row that takes a field: its format, the rows from it on, and how many fields it now has
pub record Moved (F : Type 0) : Type 0 where
  pub format : F
  pub rows : List (Row F)
  pub count : ℕ

abbrev pub sought : {F : Type 0} → Field → Place F → Result (Moved F) Refusal
sought f no_row = refused_at 7 f.at
sought f short = refused_at 8 f.at
sought f (here r rs n) = Ok (record { format = r.format; rows = r ∷ rs; count = n })

abbrev pub moved : {F : Type 0} → Result (F × Walk F) Fault → Result (Moved F) Refusal
moved (Ok p) = Ok (record { format = p.0; rows = p.1.rows.now; count = p.1.count })
moved (Err f) = Err (refusal_of f)

-- a field that was taken: the rows from its row on, how many fields that row now has, and what is told
pub record Forward (F : Type 0) : Type 0 where
  pub rows : List (Row F)
  pub count : ℕ
  pub told : Told

abbrev pub forward : {F : Type 0} → Meaning F → List ℕ → Field → Place F → Result (Forward F) Refusal
forward m text f no_row = refused_at 7 f.at
forward m text f short = refused_at 8 f.at
forward m text f (here r rs n) =
    cond ((m.format r.format).accepts (shown text f).content) (Ok (record { rows = r ∷ rs; count = n; told = (m.format r.format).value (shown text f).content })) (refused_at 9 f.content_at)

abbrev pub stepped : {F : Type 0} → Result (Walk F × Values) Fault → Result (Forward F) Refusal
stepped (Ok p) = Ok (record { rows = p.0.rows.now; count = p.0.count; told = told_by p.1 })
stepped (Err f) = Err (refusal_of f)

-- where no closing is told, its place plays no part
abbrev pub gathered : Result Gathered Fault → Result Sum Refusal
gathered (Ok g) = Ok (record { values = told_by g.values; closing_at = unwrap_or g.closing_at 0 })
gathered (Err f) = Err (refusal_of f)
