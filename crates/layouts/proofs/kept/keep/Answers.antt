use Rattle.layouts.proofs.kept.keep.Goals as goal

pub returns : goal.returns
returns c = c.push.ensures
