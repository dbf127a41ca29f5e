use Rattle.std.proofs.Common.{Ok, Err, unwrap_or, sym, ap, ◌∙◌}
use Rattle.std.proofs.lemmas.Result.{err_from_is_err_and}
use Rattle.mt_text.specs.Refusals.{refusal_of}
use Rattle.reader.specs.Values.{told_by}
use Rattle.reader.specs.Texts.{reading_of}
use Rattle.reader.proofs.Readings.{judged_by, judged_sum}
use Rattle.reader.proofs.texts.read_text.Goals as goal

pub returns-in_err-gathered : goal.returns-in_err-gathered
returns-in_err-gathered g c =
    let p = err_from_is_err_and c.from_residual-in_err-gathered.result c.from_residual-in_err-gathered.ensures.1 in
    let m = g.M.Module.meaning in
    let l = c.in_ok-laid.laid in
    rw (p.1, p.2)
    (judged_by m l.text.now l.layout c.in-Some.rows.now l.laid (sym c.in-Some.ensures) (sym c.in_ok-check_count.ensures) (Err (refusal_of c.in_err-gathered.field-0.0)) c.in_err-gathered.ensures ∙ ap (λ t. reading_of m t.now) c.in_ok-laid.ensures.text)

pub returns-in_err-check_balance : goal.returns-in_err-check_balance
returns-in_err-check_balance g c =
    let p = err_from_is_err_and c.from_residual-in_err-check_balance.result c.from_residual-in_err-check_balance.ensures.1 in
    let m = g.M.Module.meaning in
    let l = c.in_ok-laid.laid in
    let v = c.in_ok-gathered.gathered in
    rw (p.1, p.2)
    (judged_sum m l.text.now l.layout c.in-Some.rows.now l.laid (sym c.in-Some.ensures) (sym c.in_ok-check_count.ensures) (told_by v.values) (unwrap_or v.closing_at 0) c.in_ok-gathered.ensures (Err (refusal_of c.in_err-check_balance.field-0.0)) c.in_err-check_balance.ensures ∙ ap (λ t. reading_of m t.now) c.in_ok-laid.ensures.text)

pub returns : goal.returns
returns g c =
    let m = g.M.Module.meaning in
    let l = c.in_ok-laid.laid in
    let v = c.in_ok-gathered.gathered in
    judged_sum m l.text.now l.layout c.in-Some.rows.now l.laid (sym c.in-Some.ensures) (sym c.in_ok-check_count.ensures) (told_by v.values) (unwrap_or v.closing_at 0) c.in_ok-gathered.ensures (Ok tt) c.in_ok-check_balance.ensures
    ∙ ap (λ t. reading_of m t.now) c.in_ok-laid.ensures.text
