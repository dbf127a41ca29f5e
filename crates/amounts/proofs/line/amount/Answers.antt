use Rattle.std.proofs.Common.{None, ap, ◌∙◌}
use Rattle.contents.specs.Amounts.{amount_of}
use Rattle.fronts.proofs.Fronts.{front_tells}
use Rattle.amounts.proofs.Fronts.{too_long}
use Rattle.amounts.proofs.line.amount.Goals as goal

pub returns : goal.returns
returns c line e = c.read_amount.ensures ∙ ap amount_of (c.as_slice.ensures.value ∙ e) ∙ front_tells amount_of 16 None too_long line
