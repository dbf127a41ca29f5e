use Rattle.std.proofs.Common.{◌+◌, drop, sym}
use Rattle.fields.proofs.Steps.{end_within}
use Rattle.fields.proofs.scan.next_field.Goals as goal

pub overflow_sub-result : goal.overflow_sub-result
overflow_sub-result c = (end_within c.args.at (c.args.at + c.width.result) (drop (c.args.at + c.width.result) c.args.text.now) c.in_ok-end.end (sym c.in_ok-end.ensures)).0
