use Rattle.std.proofs.Common.{Some, Ok, sym, ap, ◌∙◌}
use Rattle.std.proofs.lemmas.Result.{err_from_is_err_and}
use Rattle.std.specs.List.{slice_get}
use Rattle.std.specs.Option.{option_map}
use Rattle.mt_text.specs.Refusals.{refusal_of}
use Rattle.layout.specs.Walk.{heed}
use Rattle.reader.specs.Values.{told_by}
use Rattle.reader.specs.Views.{viewed, sort_of}
use Rattle.reader.proofs.Shown.{read_sound, read_unsound, read_passed, view_none, has_rows, has_format, view_some}
use Rattle.reader.proofs.views.view_field.Goals as goal

pub returns-in_err-reading : goal.returns-in_err-reading
returns-in_err-reading g c =
    let p = err_from_is_err_and c.from_residual.result c.from_residual.ensures.1 in
    let m = g.M.Module.meaning in
    rw (p.1, p.2) (ap (λ q. heed q (λ s. Ok (option_map (viewed m c.args.text.now) (slice_get s.taken c.args.index)))) (sym (read_unsound m c.args.text.now (refusal_of c.in_err-reading.field-0.0) c.in_err-reading.ensures)))

pub invariant_of-laid : goal.invariant_of-laid
invariant_of-laid g c =
    let l = c.in_ok-reading.reading.layout in
    let r = read_sound g.M.Module.meaning c.args.text.now (record { layout = l; values = told_by c.in_ok-reading.reading.values }) c.in_ok-reading.ensures in
    record { laid = (read_passed g.M.Module.meaning c.args.text.now l r).laid }

pub returns-in_default : goal.returns-in_default
returns-in_default g c =
    let l = c.in_ok-reading.reading.layout in
    let r = read_sound g.M.Module.meaning c.args.text.now (record { layout = l; values = told_by c.in_ok-reading.reading.values }) c.in_ok-reading.ensures in
    view_none g.M.Module.meaning c.args.text.now l r c.args.index c.in_default.ensures

pub returns-in_default-rows : goal.returns-in_default-rows
returns-in_default-rows g c =
    let l = c.in_ok-reading.reading.layout in
    let r = read_sound g.M.Module.meaning c.args.text.now (record { layout = l; values = told_by c.in_ok-reading.reading.values }) c.in_ok-reading.ensures in
    absurd (has_rows g.M.Module.meaning c.args.text.now l r c.in_default-rows.ensures)

pub returns-in_default-format_for : goal.returns-in_default-format_for
returns-in_default-format_for g c =
    let l = c.in_ok-reading.reading.layout in
    let r = read_sound g.M.Module.meaning c.args.text.now (record { layout = l; values = told_by c.in_ok-reading.reading.values }) c.in_ok-reading.ensures in
    absurd (has_format g.M.Module.meaning c.args.text.now l r g.met.M.Module.lawful c.in-Some-rows.rows.now c.in-Some-rows.ensures c.args.index c.in-Some.field c.in-Some.ensures c.in_default-format_for.ensures)

pub returns : goal.returns
returns g c =
    let m = g.M.Module.meaning in
    let l = c.in_ok-reading.reading.layout in
    let f = c.in-Some.field in
    let r = read_sound m c.args.text.now (record { layout = l; values = told_by c.in_ok-reading.reading.values }) c.in_ok-reading.ensures in
    let content = c.content-content.ensures in
    let parts = c.kind_of-kind.ensures ∙ ap (sort_of f.content_at) (c.party.ensures ∙ ap (m.party c.in-Some-format_for.format) content) in
    (λ i. Ok (Some (record { tag = f.tag; at = f.at; content = content i; content_at = f.content_at; sort = parts i })))
    ∙ view_some m c.args.text.now l r g.met.M.Module.lawful c.in-Some-rows.rows.now c.in-Some-rows.ensures c.args.index f c.in-Some.ensures c.in-Some-format_for.format c.in-Some-format_for.ensures
