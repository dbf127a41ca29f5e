-- Field i of a sound text: its tag, its place, and its content as a part of the text.
use Rattle.std.specs.Prelude.{ℕ, ◌+◌, ◌-◌, ◌^◌, min, List, Some, None, Ok, Err, Option, Result}
use Rattle.std.specs.List.{slice_get}
use Rattle.std.specs.Option.{option_map}
use Rattle.mt_text.specs.declared.fault.Fault.{Fault}
use Rattle.mt_text.specs.Refusals.{Refusal, refusal_of}
use Rattle.content_party.specs.Parties.{Parts, code, account_and_code}
use Rattle.fields.specs.declared.tags.Tag.{Tag}
use Rattle.fields.specs.Written.{shown}
use Rattle.layout.specs.Walk.{heed}
use Rattle.reader.specs.declared.views.Kind.{Kind}
use Rattle.reader.specs.declared.views.Kind.TheVariants.{Plain, BankCode, AccountAndCode}
use Rattle.reader.specs.declared.views.FieldView.{FieldView}
use Rattle.reader.specs.Meaning.{Meaning}
use Rattle.reader.specs.Rows.{Taken}
use Rattle.reader.specs.Texts.{sound}

-- what kind of field it is, each part of a party with its offset in the text
pub data Sort : Type 0 where
  plain : Sort
  bank_code : List ℕ → ℕ → Sort
  account_code : List ℕ → ℕ → List ℕ → ℕ → Sort

pub record View : Type 0 where
  pub tag : Tag
  pub at : ℕ
  pub content : List ℕ
  pub content_at : ℕ
  pub sort : Sort

-- a place in a content, as an offset in the text; the largest offset, where there is none so large
abbrev pub offset : ℕ → ℕ → ℕ
offset from at = min (from + at) (2 ^ 64 - 1)

-- a party's parts, whose places count from the content's first byte, by their offsets in the text
abbrev pub sort_of : ℕ → Option Parts → Sort
sort_of from None = plain
sort_of from (Some (code c at)) = bank_code c (offset from at)
sort_of from (Some (account_and_code a a_at c c_at)) = account_code a (offset from a_at) c (offset from c_at)

abbrev pub viewed : {F : Type 0} → Meaning F → List ℕ → Taken F → View
viewed m text t =
    record {
      tag = t.field.tag;
      at = t.field.at;
      content = (shown text t.field).content;
      content_at = t.field.content_at;
      sort = sort_of t.field.content_at (m.party t.format (shown text t.field).content);
    }

-- counted from 0; none past the last, and the fault of a text that is not sound
abbrev pub view : {F : Type 0} → Meaning F → List ℕ → ℕ → Result (Option View) Refusal
view m text i = heed (sound m text) (λ s. Ok (option_map (viewed m text) (slice_get s.taken i)))

-- the call's answer, its parts by their bytes
abbrev pub sort_told : Kind → Sort
sort_told Plain = plain
sort_told (BankCode c) = bank_code c.bytes.now c.at
sort_told (AccountAndCode a c) = account_code a.bytes.now a.at c.bytes.now c.at

abbrev pub view_told : FieldView → View
view_told v = record { tag = v.tag; at = v.at; content = v.content.now; content_at = v.content_at; sort = sort_told v.kind }

abbrev pub views_told : Result (Option FieldView) Fault → Result (Option View) Refusal
views_told (Ok o) = Ok (option_map view_told o)
views_told (Err f) = Err (refusal_of f)
