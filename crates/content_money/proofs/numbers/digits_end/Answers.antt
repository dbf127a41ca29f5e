use Rattle.std.proofs.Common.{arith}
use Rattle.content_lines.proofs.Places.{place_within}
use Rattle.content_money.proofs.numbers.digits_end.Goals as goal

pub returns : goal.returns
returns c = record { is = c.place_of.ensures; within = omega (arith, c.place_of.ensures, place_within 47 c.args.content.now) }
