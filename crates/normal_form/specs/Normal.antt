-- The normal text of a sound text: block 3 in rising order with 113 in capitals, normal contents, no block 5.
use Rattle.std.specs.Prelude.{ℕ, List, map, Ok, Err, Result}
use Rattle.mt_text.specs.Refusals.{Refusal}
use Rattle.mt_text.specs.Lent.{fitted, overwritten}
use Rattle.fields.specs.Written.{Item, shown}
use Rattle.layout.specs.Walk.{heed}
use Rattle.layout.specs.Render.{Parts, rendered, parts_of, in_normal_order}
use Rattle.reader.specs.Meaning.{Meaning}
use Rattle.reader.specs.Rows.{Taken}
use Rattle.reader.specs.Texts.{Sound, sound}

-- a field with its normal content
abbrev pub normal_item : {F : Type 0} → Meaning F → List ℕ → Taken F → Item
normal_item m text t = record { tag = t.field.tag; content = (m.format t.format).normal (shown text t.field).content }

abbrev pub with_fields : List Item → Parts → Parts
with_fields xs p = record { basic = p.basic; application = p.application; user = p.user; fields = xs }

abbrev pub normal_parts : {F : Type 0} → Meaning F → List ℕ → Sound F → Parts
normal_parts m text s = with_fields (map (normal_item m text) s.taken) (in_normal_order (parts_of text s.layout))

abbrev pub normal_text : {F : Type 0} → Meaning F → List ℕ → Sound F → List ℕ
normal_text m text s = rendered (normal_parts m text s)

-- the normal text of a sound text, or the fault
abbrev pub normal_of : {F : Type 0} → Meaning F → List ℕ → Result (List ℕ) Refusal
normal_of m text = heed (sound m text) (λ s. Ok (normal_text m text s))

-- writing it at the front of a buffer: the answer, and what the buffer then holds
abbrev pub normal_answer : {F : Type 0} → Meaning F → List ℕ → List ℕ → Result ℕ Refusal
normal_answer m text buffer = heed (normal_of m text) (λ n. fitted n buffer)

abbrev pub or_untouched : List ℕ → Result (List ℕ) Refusal → List ℕ
or_untouched buffer (Ok n) = overwritten n buffer
or_untouched buffer (Err x) = buffer

abbrev pub normal_written : {F : Type 0} → Meaning F → List ℕ → List ℕ → List ℕ
normal_written m text buffer = or_untouched buffer (normal_of m text)
