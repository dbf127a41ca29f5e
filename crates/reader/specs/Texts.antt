-- Reading a whole text by a module: the causes in their order, and what the text tells.
use Rattle.std.specs.Prelude.{ℕ, Bool, true, false, cond, not, ◌&&◌, List, [], ◌∷◌, length, ℤ, pos, negsuc, ◌+ℤ◌, is_some, Some, None, Ok, Err, Option, Result, ◌==◌, nat_le}
use Rattle.std.specs.List.{slice_get}
use Rattle.std.specs.Str.{bytes_eq}
use Rattle.mt_text.specs.declared.fault.Fault.{Fault}
use Rattle.mt_text.specs.Refusals.{Refusal, refusal_of, refused_at}
use Rattle.content_money.specs.declared.balances.Balance.{Balance}
use Rattle.fields.specs.declared.scan.Field.{Field}
use Rattle.fields.specs.Fields.{Found, body_at}
use Rattle.fields.specs.Written.{shown}
use Rattle.layout.specs.declared.walk.Layout.{Layout}
use Rattle.layout.specs.Walk.{heed, laid_out}
use Rattle.reader.specs.declared.interface.Row.{Row}
use Rattle.reader.specs.declared.texts.Reading.{Reading}
use Rattle.reader.specs.Values.{Told, untold, told_by, joined}
use Rattle.reader.specs.Meaning.{Meaning}
use Rattle.reader.specs.Rows.{Taken, assigned}

-- ---- the fields of a text that is laid out

abbrev pub fields_found : Result Found Refusal → List Field
fields_found (Ok b) = b.fields
fields_found (Err x) = []

abbrev pub fields_in : List ℕ → Layout → List Field
fields_in text l = fields_found (body_at text l.body)

-- ---- what they tell

abbrev pub told_in : {F : Type 0} → Meaning F → List ℕ → Taken F → Told
told_in m text t = (m.format t.format).value (shown text t.field).content

-- the fields together, from the first on
abbrev pub values_in : {F : Type 0} → Meaning F → List ℕ → List (Taken F) → Told
values_in m text [] = untold
values_in m text (t ∷ ts) = joined (told_in m text t) (values_in m text ts)

-- where the first field stands that tells a closing
abbrev pub closing_at : {F : Type 0} → Meaning F → List ℕ → List (Taken F) → ℕ
closing_at m text [] = 0
closing_at m text (t ∷ ts) = cond (is_some (told_in m text t).closing) t.field.at (closing_at m text ts)

-- ---- causes 4, 6 and 10

-- 4: the module lacks the type
abbrev pub typed : {F : Type 0} → Option (List (Row F)) → Result (List (Row F)) Refusal
typed (Some rs) = Ok rs
typed None = refused_at 4 33

-- 6: over 43 fields, at the 44th
abbrev pub spot : Option Field → ℕ
spot (Some f) = f.at
spot None = 0

abbrev pub few_enough : List Field → Result (Unit {0}) Refusal
few_enough fs = cond (nat_le (length fs) 43) (Ok tt) (refused_at 6 (spot (slice_get fs 43)))

abbrev pub same_amount : ℤ → ℤ → Bool
same_amount (pos a) (pos b) = a == b
same_amount (pos a) (negsuc b) = false
same_amount (negsuc a) (pos b) = false
same_amount (negsuc a) (negsuc b) = a == b

-- the opening and every signed line make up the closing, in one currency; nothing to compare where one is not told
abbrev pub balanced : Option Balance → ℤ → Option Balance → Bool
balanced None lines c = true
balanced (Some o) lines None = true
balanced (Some o) lines (Some c) = same_amount (o.hundredths +ℤ lines) c.hundredths && bytes_eq o.currency c.currency

-- 10: a statement, 950, that is not balanced, at the closing's field
abbrev pub settled : ℕ → Told → ℕ → Result (Unit {0}) Refusal
settled type v at = cond (type == 950 && not (balanced v.opening v.lines v.closing)) (refused_at 10 at) (Ok tt)

-- what the fields of a text tell together, and where the first of them that tells a closing stands
pub record Sum : Type 0 where
  pub values : Told
  pub closing_at : ℕ

abbrev pub sum_of : {F : Type 0} → Meaning F → List ℕ → List (Taken F) → Sum
sum_of m text ts = record { values = values_in m text ts; closing_at = closing_at m text ts }

-- ---- the whole

-- a sound text: its layout, and its fields with the formats of their rows
pub record Sound (F : Type 0) : Type 0 where
  pub layout : Layout
  pub taken : List (Taken F)

-- the causes 1 to 10 in their order; the text is sound where none is found
abbrev pub sound : {F : Type 0} → Meaning F → List ℕ → Result (Sound F) Refusal
sound m text =
    heed (laid_out text) (λ l.
    heed (typed (m.rows l.message_type)) (λ rs.
    heed (few_enough (fields_in text l)) (λ _.
    heed (assigned m text l.hyphen 0 rs (fields_in text l)) (λ ts.
    heed (settled l.message_type (values_in m text ts) (closing_at m text ts)) (λ _.
    Ok (record { layout = l; taken = ts }))))))

-- what reading a sound text answers: its layout, and its values
pub record Answer : Type 0 where
  pub layout : Layout
  pub values : Told

abbrev pub reading_of : {F : Type 0} → Meaning F → List ℕ → Result Answer Refusal
reading_of m text = heed (sound m text) (λ s. Ok (record { layout = s.layout; values = values_in m text s.taken }))

-- the call's answer, its values by their bytes
abbrev pub answered : Result Reading Fault → Result Answer Refusal
answered (Ok r) = Ok (record { layout = r.layout; values = told_by r.values })
answered (Err f) = Err (refusal_of f)
