use Rattle.std.proofs.Common.{◌≡◌, ◌+◌, Some, None, true, codes, drop, sym, ap, ◌∙◌, subst, rules}
use Rattle.headers.specs.Parts.{starts}
use Rattle.headers.specs.User.{nothing, step_at}
use Rattle.headers.specs.declared.user.Step.TheVariants.{Closed}
use Rattle.headers.proofs.Steps.{Sofar, start, one_more, onward}
use Rattle.headers.proofs.user.read_user_header.Goals as goal
use Rattle.headers.proofs.user.read_user_header.Goals.{After-step_at}

pub loop-init : goal.loop-init
loop-init c =
    let opens : starts (codes "{3:") (drop c.args.at c.args.text.now) ≡ true = search rules in
    let none : nothing ≡ c.default-header.result = search rules in
    subst (Sofar c.args.text.now c.args.at 0 (c.args.at + 3)) none (start c.args.text.now c.args.at opens)

-- a step over the rest of the text
stepped : (c : After-step_at) → c.step_at.result ≡ step_at c.loop.from (drop c.loop.from c.args.text.now) c.loop.header
stepped c = c.step_at.ensures ∙ ap (λ b. step_at c.loop.from b c.loop.header) c.rest-in-loop.ensures

pub returns-in_err-more : goal.returns-in_err-more
returns-in_err-more c =
    let l = c.loop in
    c.from_residual.ensures
    ∙ onward c.args.text.now c.args.at l.counter l.from l.header l.invariant c.loop-test.true None (sym c.in_err-more.was ∙ stepped (goal.at.returns-in_err-more c).After-step_at)

pub returns-in-Closed : goal.returns-in-Closed
returns-in-Closed c =
    let l = c.loop in
    onward c.args.text.now c.args.at l.counter l.from l.header l.invariant c.loop-test.true (Some (Closed c.in-Closed.end)) (ap Some (sym c.in-Closed.is) ∙ sym c.in_ok-more.was ∙ stepped (goal.at.returns-in-Closed c).After-step_at)

pub loop-preserved : goal.loop-preserved
loop-preserved c =
    let l = c.loop in
    one_more c.args.text.now c.args.at l.counter l.from l.header l.invariant c.loop-test.true c.in-More.more c.in-More.next (ap Some (sym c.in-More.is) ∙ sym c.in_ok-more.was ∙ stepped (goal.at.loop-preserved c).After-step_at)
