use Rattle.reader.proofs.FieldSteps.{few_is, many_is, never_none}
use Rattle.reader.proofs.laid.LaidOut.check_count.Goals as goal

pub returns-then-self-le-MAX_FIELDS : goal.returns-then-self-le-MAX_FIELDS
returns-then-self-le-MAX_FIELDS c = few_is c.args.self.text.now c.args.self.layout c.args.self.laid c.if-self-le-MAX_FIELDS.true

pub returns-in-Some : goal.returns-in-Some
returns-in-Some c = many_is c.args.self.text.now c.args.self.layout c.args.self.laid c.if-self-le-MAX_FIELDS.false c.in-Some.field c.in-Some.ensures

pub returns-in-None : goal.returns-in-None
returns-in-None c = absurd (never_none c.args.self.text.now c.args.self.layout c.args.self.laid c.if-self-le-MAX_FIELDS.false c.in-None.ensures)
