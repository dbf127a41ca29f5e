use Rattle.std.proofs.Common.{◌≡◌, ◌-◌, length, drop}
use Rattle.fields.specs.Fields.{content_end}
use Rattle.fields.proofs.scan.content_end.Given as goal

-- what is left gives the answer
abbrev pub invariant-loop-plain : goal.invariant-loop-plain
invariant-loop-plain l = content_end l.line l.from (drop l.from l.text) ≡ content_end l.initial.line l.initial.from (drop l.initial.from l.text)

abbrev pub decreases-loop-plain : goal.decreases-loop-plain
decreases-loop-plain l = length l.text - l.from
