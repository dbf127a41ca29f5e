use Rattle.std.proofs.Common.{◌≡◌, ◌<◌, ◌≤◌, length, ap, ◌∙◌, arith, rules}
use Rattle.std.specs.List.{position}
use Rattle.books.specs.Runs.{share_of}
use Rattle.books.proofs.Places.{keyed}
use Rattle.books.proofs.Changes.{put_has, put_new, put_full}
use Rattle.books.proofs.shares.SharesBook.put.Goals as goal

pub returns-in-Some-seek : goal.returns-in-Some-seek
returns-in-Some-seek g c =
    let s = c.args.self.now in
    let says = g.K.Key.says in
    let run = c.in-Some.run' in
    let eight : length s.lens ≡ 8 = search rules in
    let there = c.in-Some-seek.ensures ∙ ap (position (keyed says c.args.key)) c.row.ensures in
    let put = put_has says s.cells.now s.lens c.args.account run.len c.args.key c.in-Some.ensures.len eight (search rules) c.args.record c.in-Some-seek.place (omega (arith, c.in-Some.ensures.from)) there in
    record { answer = put.0; lists = put.1; rooms = search rules }

pub returns-in-None : goal.returns-in-None
returns-in-None g c =
    let s = c.args.self.now in
    let says = g.K.Key.says in
    let run = c.in-Some.run' in
    let eight : length s.lens ≡ 8 = search rules in
    let none = c.in-None.ensures ∙ ap (position (keyed says c.args.key)) c.row.ensures in
    let room : run.len < share_of (length s.cells.now) = omega (arith, c.in-Some.ensures.share) in
    let put = put_new says s.cells.now s.lens c.args.account run.len c.args.key c.in-Some.ensures.len eight (search rules) c.args.record (omega (arith, c.in-Some.ensures.from)) none room in
    record { answer = put.0; lists = put.1; rooms = search rules }

pub returns-in-None-2 : goal.returns-in-None-2
returns-in-None-2 g c =
    let s = c.args.self.now in
    let says = g.K.Key.says in
    let run = c.in-Some.run' in
    let eight : length s.lens ≡ 8 = search rules in
    let none = c.in-None.ensures ∙ ap (position (keyed says c.args.key)) c.row.ensures in
    let full : share_of (length s.cells.now) ≤ run.len = omega (arith, c.in-Some.ensures.share) in
    let put = put_full says s.cells.now s.lens c.args.account run.len c.args.key c.in-Some.ensures.len eight (search rules) c.args.record none full in
    record { answer = put.0; lists = put.1; rooms = search rules }
