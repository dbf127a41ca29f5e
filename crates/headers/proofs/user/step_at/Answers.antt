use Rattle.std.proofs.Common.{◌≡◌, ◌∙◌, sym, ap, refl, arith, eqb, false, get_or, length}
use Rattle.std.proofs.lemmas.List.{length-drop}
use Rattle.std.proofs.lemmas.Bool.{ne_eqb}
use Rattle.contents.specs.Digits.{place}
use Rattle.headers.proofs.Steps.{closed_value, open_value, unclosed, refused, placed}
use Rattle.headers.proofs.user.step_at.Goals as goal
use Rattle.headers.proofs.user.step_at.Goals.{Else-byte_at-eq125}

no_brace : (c : Else-byte_at-eq125) → eqb (get_or c.args.bytes.now 0 0) 125 ≡ false
no_brace c = ne_eqb _ 125 (λ e. c.if-byte_at-eq125.false (c.byte_at.ensures ∙ e))

pub returns-in_err-len : goal.returns-in_err-len
returns-in_err-len c =
    let v = c.rest-value.result.now in
    c.from_residual-in_err-len.ensures
    ∙ unclosed c.args.bytes.now v c.args.at (place 125 v) c.args.header c.in_ok-item.item (no_brace (goal.at.returns-in_err-len c).Else-byte_at-eq125) c.in_ok-item.ensures c.rest-value.ensures refl (open_value v c.in_err-len.ensures)

pub returns-then-not-takes : goal.returns-then-not-takes
returns-then-not-takes c =
    let v = c.rest-value.result.now in
    let p = closed_value v c.in_ok-len.len c.in_ok-len.ensures in
    refused c.args.bytes.now v c.args.at c.in_ok-len.len c.args.header c.in_ok-item.item (no_brace (goal.at.returns-then-not-takes c).Else-byte_at-eq125) c.in_ok-item.ensures c.rest-value.ensures p.0 p.1 (sym c.if-not-takes.ensures)

pub overflow_add-result : goal.overflow_add-result
overflow_add-result c =
    let p = closed_value c.rest-value.result.now c.in_ok-len.len c.in_ok-len.ensures in
    omega (arith, ap length c.rest-value.ensures, length-drop 5 c.args.bytes.now)

pub returns : goal.returns
returns c =
    let v = c.rest-value.result.now in
    let p = closed_value v c.in_ok-len.len c.in_ok-len.ensures in
    placed c.args.bytes.now v c.args.at c.in_ok-len.len c.args.header c.in_ok-item.item (no_brace (goal.at.returns c).Else-byte_at-eq125) c.in_ok-item.ensures c.rest-value.ensures p.0 p.1 c.in_ok-header.header (sym c.if-not-takes.ensures) c.in_ok-header.ensures
