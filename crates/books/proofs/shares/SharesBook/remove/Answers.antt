use Rattle.std.proofs.Common.{◌≡◌, length, ap, ◌∙◌, rules}
use Rattle.std.specs.List.{position}
use Rattle.books.proofs.Places.{keyed}
use Rattle.books.proofs.Changes.{remove_has, remove_lacks}
use Rattle.books.proofs.shares.SharesBook.remove.Goals as goal

pub returns-in_default-seek : goal.returns-in_default-seek
returns-in_default-seek g c =
    let s = c.args.self.now in
    let says = g.K.Key.says in
    let eight : length s.lens ≡ 8 = search rules in
    let none = c.in_default-seek.ensures ∙ ap (position (keyed says c.args.key.now)) c.row.ensures in
    let out = remove_lacks says s.cells.now s.lens c.args.account c.in-Some.run'.len c.args.key.now c.in-Some.ensures.len eight (search rules) none in
    record { answer = out.0; lists = out.1; rooms = search rules }

pub returns : goal.returns
returns g c =
    let s = c.args.self.now in
    let says = g.K.Key.says in
    let len = c.in-Some.run'.len in
    let eight : length s.lens ≡ 8 = search rules in
    let there = c.in-Some-seek.ensures ∙ ap (position (keyed says c.args.key.now)) c.row.ensures in
    let out = remove_has says s.cells.now s.lens c.args.account len c.args.key.now c.in-Some.ensures.len eight (search rules) c.in-Some-seek.place c.in-Some.run'.from c.copy_within.ensures.after c.in-Some.ensures.from there in
    record { answer = out.0; lists = out.1; rooms = search rules }
