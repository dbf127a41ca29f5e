-- Worked examples, each computed from the definitions.
use Rattle.std.specs.Prelude.{◌≡◌, Some, None, codes}
use Rattle.contents.specs.Amounts.{amount_of, normal_of}

pub record WorkedExamples : Type 0 where
  pub padded : amount_of (codes "01000,00") ≡ Some 100000
  pub padded_normal : normal_of (codes "01000,00") ≡ Some (codes "1000,")
  pub no_digit_before : amount_of (codes ",5") ≡ None
  pub no_comma : amount_of (codes "1000") ≡ None
  pub three_decimals : amount_of (codes "1,234") ≡ None
  pub fifteen_characters : amount_of (codes "99999999999999,") ≡ Some 9999999999999900
  pub sixteen_characters : amount_of (codes "999999999999999,") ≡ None
