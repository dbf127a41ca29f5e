-- Worked examples, each computed from the definitions.
use Rattle.std.specs.Prelude.{◌≡◌, Some, None, codes}
use Rattle.contents.specs.Examples.{WorkedExamples}
use Rattle.content_money.specs.Numbers.{statement_number_of, number_format}

-- those of amounts, and those of statement numbers
pub record WorkedContents : Type 0 where
  pub amounts : WorkedExamples
  pub padded : statement_number_of (codes "00007") ≡ Some 7
  pub padded_normal : number_format.normal (codes "00007") ≡ codes "7/1"
  pub other_page : statement_number_of (codes "7/2") ≡ None
