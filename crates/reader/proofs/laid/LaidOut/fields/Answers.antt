use Rattle.reader.proofs.FieldSteps.{all_left}
use Rattle.reader.proofs.laid.LaidOut.fields.Goals as goal

pub invariant_of-result : goal.invariant_of-result
invariant_of-result c = record { whole = (all_left c.args.self.text.now c.args.self.layout c.args.self.laid).whole }
