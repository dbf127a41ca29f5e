-- What a module means, and the laws that every module keeps.
use Rattle.std.specs.Prelude.{◌≡◌, ℕ, ◌^◌, ◌<◌, Bool, true, false, not, ◌&&◌, List, [], ◌∷◌, ℤ, pos, neg_ℤ, ◌<ℤ◌, Some, None, Option, ◌==◌}
use Rattle.mt_text.specs.Classes.{between}
use Rattle.contents.specs.Dates.{is_real}
use Rattle.content_lines.specs.Formats.{Format, Lawful}
use Rattle.content_lines.specs.Lines.{is_line}
use Rattle.content_money.specs.declared.money.Money.{Money}
use Rattle.content_money.specs.declared.balances.Balance.{Balance}
use Rattle.content_money.specs.Money.{is_currency}
use Rattle.content_party.specs.Parties.{Parts}
use Rattle.fields.specs.declared.tags.Tag.{Tag}
use Rattle.fields.specs.Written.{tag_ok}
use Rattle.reader.specs.declared.interface.Row.{Row}
use Rattle.reader.specs.Values.{Told}

-- for each type of message its rows in order, if the module has the type; for each format code what
-- contents it accepts, what they say and tell and their normal content; and the parts of a party
pub record Meaning (F : Type 0) : Type 0 where
  pub rows : ℕ → Option (List (Row F))
  pub format : F → Format Told
  pub party : F → List ℕ → Option Parts

-- ---- rows

abbrev pub same_letter : Option ℕ → Option ℕ → Bool
same_letter None None = true
same_letter None (Some d) = false
same_letter (Some c) None = false
same_letter (Some c) (Some d) = c == d

abbrev pub same_tag : Tag → Tag → Bool
same_tag a b = a.tens == b.tens && (a.units == b.units && same_letter a.letter b.letter)

-- none of the rows has the tag
abbrev pub lacks : {F : Type 0} → Tag → List (Row F) → Bool
lacks t [] = true
lacks t (r ∷ rs) = not (same_tag t r.tag) && lacks t rs

-- different tags, each two digits and perhaps a capital
abbrev pub rows_ok : {F : Type 0} → List (Row F) → Bool
rows_ok [] = true
rows_ok (r ∷ rs) = tag_ok r.tag && (lacks r.tag rs && rows_ok rs)

-- ---- values

-- what is told, if anything is, is so
abbrev pub IfTold : {X : Type 0} → (X → Type 0) → Option X → Type 0
IfTold P (Some x) = P x
IfTold P None = Unit {0}

-- strictly between -10^16 and 10^16 hundredths
pub record Bounded (h : ℤ) : Type 0 where
  pub above : neg_ℤ (pos (10 ^ 16)) <ℤ h
  pub below : h <ℤ pos (10 ^ 16)

-- a real day, a currency of three capitals, an amount above zero and below 10^16 hundredths
pub record MoneyOk (m : Money) : Type 0 where
  pub day : is_real m.date ≡ true
  pub currency : is_currency m.currency ≡ true
  pub above_zero : 0 < m.hundredths
  pub below : m.hundredths < 10 ^ 16

pub record BalanceOk (b : Balance) : Type 0 where
  pub day : is_real b.date ≡ true
  pub currency : is_currency b.currency ≡ true
  pub bounded : Bounded b.hundredths

-- references are 16x, accounts 35x, statement numbers 1 to 99,999; an answer code is one of its enum
pub record ToldOk (v : Told) : Type 0 where
  pub reference : IfTold (λ bs. is_line 16 bs ≡ true) v.reference
  pub related : IfTold (λ bs. is_line 16 bs ≡ true) v.related
  pub account : IfTold (λ bs. is_line 35 bs ≡ true) v.account
  pub money : IfTold MoneyOk v.money
  pub number : IfTold (λ n. between 1 99999 n ≡ true) v.number
  pub opening : IfTold BalanceOk v.opening
  pub lines : Bounded v.lines
  pub closing : IfTold BalanceOk v.closing

-- ---- the laws

-- rows of one type have different well-formed tags; each format keeps the laws of formats (a normal
-- content is accepted and says the same; accepted contents that say the same have one normal content
-- and one value; an accepted content is tidy); and what accepted contents tell lies within its bounds
pub record KeepsLaws {F : Type 0} (m : Meaning F) : Type 0 where
  pub rows : (type : ℕ) (rs : List (Row F)) → m.rows type ≡ Some rs → rows_ok rs ≡ true
  pub formats : (f : F) → Lawful (m.format f)
  pub values : (f : F) (c : List ℕ) → (m.format f).accepts c ≡ true → ToldOk ((m.format f).value c)
