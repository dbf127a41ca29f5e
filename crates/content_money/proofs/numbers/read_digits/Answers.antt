use Rattle.std.proofs.Common.{◌≡◌, ◌^◌, ◌<◌, ◌≤◌, ◌&&◌, leb, length, Some, sym, arith}
use Rattle.std.proofs.lemmas.Bool.{and_parts}
use Rattle.mt_text.specs.Classes.{digit, every}
use Rattle.contents.specs.Digits.{number}
use Rattle.contents.proofs.AmountParts.{digits_below}
use Rattle.content_lines.proofs.Chosen.{passed}
use Rattle.content_money.proofs.numbers.read_digits.Goals as goal

pub overflow_cast-number : goal.overflow_cast-number
overflow_cast-number c =
    let ds = c.args.digits.now in
    let p = passed (every digit ds && leb (length ds) 19) (Some (number ds)) c.in_ok-number.number (sym c.in_ok-number.ensures) in
    let q = and_parts (every digit ds) (leb (length ds) 19) p.0 in
    let l : length ds ≤ 5 = omega arith in
    let b : number ds < 10 ^ 5 = digits_below ds 5 q.0 l in
    let e = p.1 in
    let n : number ds ≡ c.in_ok-number.number = cc in
    omega arith
