-- Reading a text, once it is laid out, has a type of the module and few enough fields.
use Rattle.std.proofs.Common.{◌≡◌, ℕ, List, Some, Ok, Err, Result, sym, refl, ap, ◌∙◌}
use Rattle.mt_text.specs.Refusals.{Refusal}
use Rattle.layout.specs.declared.walk.Layout.{Layout}
use Rattle.layout.specs.Walk.{heed, laid_out}
use Rattle.reader.specs.declared.interface.Row.{Row}
use Rattle.reader.specs.Values.{Told}
use Rattle.reader.specs.Meaning.{Meaning}
use Rattle.reader.specs.Rows.{Taken, assigned}
use Rattle.reader.specs.Texts.{fields_in, values_in, closing_at, typed, few_enough, settled, Sum, sum_of, Sound, sound, Answer, reading_of}

-- what the fields tell together decides
abbrev pub judged : Layout → Result Sum Refusal → Result Answer Refusal
judged l r = heed r (λ s. heed (settled l.message_type s.values s.closing_at) (λ _. Ok (record { layout = l; values = s.values })))

module _ {F : Type 0} (m : Meaning F) (text : List ℕ) (l : Layout) (rows : List (Row F)) (laid : laid_out text ≡ Ok l) (has_type : m.rows l.message_type ≡ Some rows) (few : few_enough (fields_in text l) ≡ Ok tt) where
  -- what is answered of a sound text
  abbrev answer : Sound F → Result Answer Refusal
  answer s = Ok (record { layout = s.layout; values = values_in m text s.taken })

  -- the rest of the walk, as a text is judged
  abbrev rest : Result (List (Taken F)) Refusal → Result (Sound F) Refusal
  rest r = heed r (λ ts. heed (settled l.message_type (values_in m text ts) (closing_at m text ts)) (λ _. Ok (record { layout = l; taken = ts })))

  pub sound_on : sound m text ≡ rest (assigned m text l.hyphen 0 rows (fields_in text l))
  sound_on =
      (λ i.
      heed (laid i) (λ k.
      heed (typed (m.rows k.message_type)) (λ rs.
      heed (few_enough (fields_in text k)) (λ _.
      heed (assigned m text k.hyphen 0 rs (fields_in text k)) (λ ts.
      heed (settled k.message_type (values_in m text ts) (closing_at m text ts)) (λ _.
      Ok (record { layout = k; taken = ts })))))))
      ∙ (λ i.
      heed (typed (has_type i)) (λ rs.
      heed (few i) (λ _.
      heed (assigned m text l.hyphen 0 rs (fields_in text l)) (λ ts.
      heed (settled l.message_type (values_in m text ts) (closing_at m text ts)) (λ _.
      Ok (record { layout = l; taken = ts }))))))

  pub reading_on : reading_of m text ≡ judged l (heed (assigned m text l.hyphen 0 rows (fields_in text l)) (λ ts. Ok (sum_of m text ts)))
  reading_on = ap (λ r. heed r answer) sound_on ∙ by (assigned m text l.hyphen 0 rows (fields_in text l))
    where
      at_end : (ts : List (Taken F)) (r : Result (Unit {0}) Refusal) → heed {X = Sound F} (heed r (λ _. Ok (record { layout = l; taken = ts }))) answer ≡ heed r (λ _. Ok (record { layout = l; values = values_in m text ts }))
      at_end ts (Ok u) = refl
      at_end ts (Err x) = refl

      by : (r : Result (List (Taken F)) Refusal) → heed (rest r) answer ≡ judged l (heed r (λ ts. Ok (sum_of m text ts)))
      by (Ok ts) = at_end ts (settled l.message_type (values_in m text ts) (closing_at m text ts))
      by (Err x) = refl

  -- the answer, from what was gathered
  pub judged_by : (r : Result Sum Refusal) → r ≡ heed (assigned m text l.hyphen 0 rows (fields_in text l)) (λ ts. Ok (sum_of m text ts)) → judged l r ≡ reading_of m text
  judged_by r e = ap (judged l) e ∙ sym reading_on

  pub judged_sum : (v : Told) (at : ℕ) → ◌≡◌ {A = Result Sum Refusal} (Ok (record { values = v; closing_at = at })) (heed (assigned m text l.hyphen 0 rows (fields_in text l)) (λ ts. Ok (sum_of m text ts))) → (r : Result (Unit {0}) Refusal) → r ≡ settled l.message_type v at → heed r (λ _. Ok (record { layout = l; values = v })) ≡ reading_of m text
  judged_sum v at e r is = ap (λ r. heed r (λ _. Ok (record { layout = l; values = v }))) is ∙ judged_by (Ok (record { values = v; closing_at = at })) e
