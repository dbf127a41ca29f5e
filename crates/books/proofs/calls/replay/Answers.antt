use Rattle.std.proofs.Common.{◌≡◌, sym, refl, subst, arith}
use Rattle.std.proofs.lemmas.Grind.{common_steps}
use Rattle.books.specs.Calls.{left_by, AllApart}
use Rattle.books.proofs.Apart.{left_by_apart}
use Rattle.books.proofs.calls.replay.Goals as goal

pub returns-clause-apart : goal.returns-clause-apart
returns-clause-apart g c h =
    let says = g.K.Key.says in
    let rooms = g.B.Book.rooms c.args.book.now in
    let start = g.B.Book.lists c.args.book.now in
    let all : g.B.Book.lists c.loop-call.book ≡ left_by says rooms c.args.calls.now start = grind (arith, common_steps) in
    subst (AllApart says) (sym all) (left_by_apart says rooms c.args.calls.now start h)

pub returns-clause-fresh : goal.returns-clause-fresh
returns-clause-fresh g c e = returns-clause-apart g c (subst (AllApart g.K.Key.says) (sym e) (λ a. refl))
