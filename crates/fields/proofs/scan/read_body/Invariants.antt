use Rattle.std.proofs.Common.{◌-◌, length}
use Rattle.fields.proofs.Bodies.{Sofar}
use Rattle.fields.proofs.scan.read_body.Given as goal

abbrev pub invariant-loop-field : goal.invariant-loop-field
invariant-loop-field l = Sofar l.text l.at l.fields l.from

abbrev pub decreases-loop-field : goal.decreases-loop-field
decreases-loop-field l = length l.text - l.from
