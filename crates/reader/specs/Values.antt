-- What contents tell a visit, and what a text's fields tell together.
use Rattle.std.specs.Prelude.{ℕ, List, ℤ, pos, ◌+ℤ◌, None, Option}
use Rattle.std.specs.Option.{option_map, option_or}
use Rattle.content_money.specs.declared.money.Money.{Money}
use Rattle.content_money.specs.declared.balances.Balance.{Balance}
use Rattle.content_answer.specs.declared.answers.AnswerCode.{AnswerCode}
use Rattle.reader.specs.declared.values.Values.{Values}

-- each sort of value, if one is told, and the signed lines summed up, 0 where there is none
pub record Told : Type 0 where
  pub reference : Option (List ℕ)
  pub related : Option (List ℕ)
  pub account : Option (List ℕ)
  pub money : Option Money
  pub number : Option ℕ
  pub opening : Option Balance
  pub lines : ℤ
  pub closing : Option Balance
  pub answer : Option AnswerCode

-- nothing is told
abbrev pub untold : Told
untold = record { reference = None; related = None; account = None; money = None; number = None; opening = None; lines = pos 0; closing = None; answer = None }

-- the values by their bytes
abbrev pub told_by : Values → Told
told_by v =
    record {
      reference = option_map (λ x. x.now) v.reference;
      related = option_map (λ x. x.now) v.related;
      account = option_map (λ x. x.now) v.account;
      money = v.money;
      number = v.number;
      opening = v.opening;
      lines = v.lines;
      closing = v.closing;
      answer = v.answer;
    }

-- two fields, one behind the other: of each sort the first that is told counts, but every signed line
abbrev pub joined : Told → Told → Told
joined a b =
    record {
      reference = option_or a.reference b.reference;
      related = option_or a.related b.related;
      account = option_or a.account b.account;
      money = option_or a.money b.money;
      number = option_or a.number b.number;
      opening = option_or a.opening b.opening;
      lines = a.lines +ℤ b.lines;
      closing = option_or a.closing b.closing;
      answer = option_or a.answer b.answer;
    }
