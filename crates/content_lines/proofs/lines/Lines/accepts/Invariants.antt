use Rattle.std.proofs.Common.{◌≡◌, ◌-◌}
use Rattle.content_lines.specs.Lines.{lines}
use Rattle.content_lines.proofs.lines.Lines.accepts.Given as goal

-- the lines that are left decide
abbrev pub invariant-loop : goal.invariant-loop
invariant-loop l = lines (l.end - l.counter) l.self.width l.rest ≡ lines l.self.count l.self.width l.content
