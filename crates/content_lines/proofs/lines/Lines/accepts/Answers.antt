use Rattle.std.proofs.Common.{◌≡◌, ◌+◌, ◌-◌, ap, ◌∙◌, arith}
use Rattle.std.proofs.lemmas.Bool.Decides.{nat_tests}
use Rattle.content_lines.specs.Lines.{is_line, lines}
use Rattle.content_lines.proofs.Places.{lines_more, next_some, next_none}
use Rattle.content_lines.proofs.lines.Lines.accepts.Goals as goal

pub returns-then-not-is_line : goal.returns-then-not-is_line
returns-then-not-is_line c =
    let e = lines_more (c.args.self.count - c.loop.counter) c.args.self.width c.loop.rest.now (omega arith) in
    let a = c.if-not-is_line.ensures ∙ ap (is_line c.args.self.width) c.first_line.ensures in
    grind (arith, nat_tests)

pub returns-then-first_end-rest : goal.returns-then-first_end-rest
returns-then-first_end-rest c =
    let e = lines_more (c.args.self.count - c.loop.counter) c.args.self.width c.loop.rest.now (omega arith) in
    let a = c.if-not-is_line.ensures ∙ ap (is_line c.args.self.width) c.first_line.ensures in
    let f = c.first_end.ensures.is in
    grind (arith, nat_tests)

pub returns-in_default : goal.returns-in_default
returns-in_default c =
    let e = lines_more (c.args.self.count - c.loop.counter) c.args.self.width c.loop.rest.now (omega arith) in
    let f = c.first_end.ensures.is in
    let g = next_none c.loop.rest.now c.in_default.ensures in
    grind (arith, nat_tests)

pub loop-preserved : goal.loop-preserved
loop-preserved c =
    let e = lines_more (c.args.self.count - c.loop.counter) c.args.self.width c.loop.rest.now (omega arith) in
    let a = c.if-not-is_line.ensures ∙ ap (is_line c.args.self.width) c.first_line.ensures in
    let f = c.first_end.ensures.is in
    let g = next_some c.loop.rest.now _ c.in-Some.ensures in
    let n = ap (lines (c.args.self.count - c.loop.counter - 1) c.args.self.width) g.1 in
    let k : c.args.self.count - (c.loop.counter + 1) ≡ c.args.self.count - c.loop.counter - 1 = omega arith in
    let k' = ap (λ k. lines k c.args.self.width c.in-Some.next.now) k in
    let g0 = g.0 in
    grind (arith, nat_tests)
