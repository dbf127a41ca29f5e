use Rattle.std.proofs.Common.{◌≡◌, ◌∷◌, true, length, drop, is_ok, Ok, sym, ap, ◌∙◌, subst, arith}
use Rattle.mt_text.specs.Refusals.{told}
use Rattle.fields.specs.declared.scan.Next.TheVariants.{More}
use Rattle.fields.specs.Fields.{next_at, behind, body_at}
use Rattle.reader.proofs.FieldSteps.{OneMore, one_more, behind_is, fields_from}
use Rattle.reader.proofs.iter.FieldsIterator.next.Goals as goal
use Rattle.reader.proofs.iter.FieldsIterator.next.Goals.{After-behind-self}

is_next : (c : After-behind-self) → Ok (More c.in-Ok-More.field) ≡ next_at c.args.self.now.from (drop c.args.self.now.from c.args.self.now.text.now)
is_next c = sym (ap told (c.in-Ok-More.is ∙ ap Ok c.in-Ok-More.field-0-is)) ∙ c.next_field.ensures

next : (c : After-behind-self) → OneMore c.args.self.now.text.now c.args.self.now.from c.in-Ok-More.field
next c = one_more c.args.self.now.text.now c.args.self.now.from c.args.self.now.whole c.in-Ok-More.field (is_next c)

onward : (c : After-behind-self) → c.behind-self.result ≡ behind c.in-Ok-More.field
onward c = behind_is c.args.self.now.text.now c.args.self.now.from c.in-Ok-More.field c.behind-self.result (omega arith) (is_next c) c.behind-self.ensures

pub invariant_of-self : goal.invariant_of-self
invariant_of-self c = record { whole = subst (λ j. is_ok (body_at c.args.self.now.text.now j) ≡ true) (sym (onward c)) (next c).whole }

rest : (c : After-behind-self) → fields_from c.args.self.now.text.now c.args.self.now.from ≡ c.in-Ok-More.field ∷ fields_from c.args.self.now.text.now c.behind-self.result
rest c = (next c).is ∙ ap (λ j. c.in-Ok-More.field ∷ fields_from c.args.self.now.text.now j) (sym (onward c))

pub returns-clause-steps : goal.returns-clause-steps
returns-clause-steps c = rest (goal.at.returns-clause-steps c).After-behind-self

pub returns-clause-goes : goal.returns-clause-goes
returns-clause-goes c = let fewer = ap length (rest (goal.at.returns-clause-goes c).After-behind-self) in record { on = λ _. (tt, tt, omega arith); keeps = tt; rests = λ _. tt }
