use Rattle.std.proofs.Common.{ap, ◌∙◌}
use Rattle.mt_text.specs.Refusals.{refused_at}
use Rattle.layout.specs.Walk.{laid_out}
use Rattle.fronts.proofs.Fronts.{front_tells}
use Rattle.layouts.proofs.Fronts.{too_long}
use Rattle.layouts.proofs.kept.whole_layout.Goals as goal

pub returns : goal.returns
returns c text e = c.lay_out.ensures.answer ∙ ap laid_out (c.as_slice.ensures.value ∙ e) ∙ front_tells laid_out 10001 (refused_at 1 0) too_long text
