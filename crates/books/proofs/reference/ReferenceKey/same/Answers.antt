use Rattle.std.proofs.Common.{◌∙◌}
use Rattle.books.proofs.Packing.{same_is}
use Rattle.books.proofs.reference.ReferenceKey.same.Goals as goal

pub returns : goal.returns
returns c = c.eq.ensures ∙ same_is c.args.self.now c.args.other.now
