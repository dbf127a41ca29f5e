use Rattle.std.proofs.Common.{◌≡◌, drop}
use Rattle.books.specs.Calls.{left_by}
use Rattle.books.proofs.calls.replay.Given as goal

-- the calls that are left give what all give
abbrev pub invariant-loop-call : goal.invariant-loop-call
invariant-loop-call g l =
    (left_by g.K.Key.says (g.B.Book.rooms l.initial.book) (drop l.call-index l.calls) (g.B.Book.lists l.book) ≡ left_by g.K.Key.says (g.B.Book.rooms l.initial.book) l.calls (g.B.Book.lists l.initial.book))
    × (g.B.Book.rooms l.book ≡ g.B.Book.rooms l.initial.book)
