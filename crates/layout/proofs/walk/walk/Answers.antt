use Rattle.std.proofs.Common.{arith}
use Rattle.layout.proofs.Bounds.{application_width, hyphen_within}
use Rattle.layout.proofs.walk.walk.Goals as goal

pub overflow_add-headers_end : goal.overflow_add-headers_end
overflow_add-headers_end c = omega (arith, application_width c.args.text.now c.in_ok-application.application c.in_ok-application.ensures)

pub overflow_add-lines : goal.overflow_add-lines
overflow_add-lines c = omega (arith, hyphen_within c.args.text.now c.in_ok-body.body c.in_ok-lines.lines c.in_ok-lines.ensures.answer)
