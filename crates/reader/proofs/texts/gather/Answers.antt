use Rattle.std.proofs.Common.{◌≡◌, ◌+◌, [], ◌∷◌, true, ◌+ℤ◌, is_some, sym, ◌∙◌, arith, rules}
use Rattle.std.specs.Option.{option_or}
use Rattle.std.proofs.lemmas.Result.{err_from_is_err_and}
use Rattle.mt_text.specs.Refusals.{refusal_of}
use Rattle.reader.specs.Values.{told_by}
use Rattle.reader.specs.Texts.{fields_in}
use Rattle.reader.proofs.FieldSteps.{fields_from}
use Rattle.reader.proofs.Gathering.{place_of, with_fields, with_values, midway_start, midway_more, midway_refused, midway_end, small_more, adds_up, sum_all, few_more, few_fits}
use Rattle.reader.proofs.texts.gather.Goals as goal

pub loop-field-init : goal.loop-field-init
loop-field-init g c =
    let l = c.args.laid in
    with_fields (fields_from c.into_iter-field-iterator.result.text.now c.into_iter-field-iterator.result.from) (search rules) (midway_start g.M.Module.meaning l.text.now l.layout.hyphen c.args.rows.now (fields_in l.text.now l.layout) c.requires)

pub returns-in_err-next : goal.returns-in_err-next
returns-in_err-next g c =
    let p = err_from_is_err_and c.from_residual.result c.from_residual.ensures.1 in
    let l = c.loop-field in
    let mid = with_fields (c.in-Some.field ∷ fields_from c.next.new.self.text.now c.next.new.self.from) c.in-Some.ensures.steps l.invariant in
    rw (p.1, p.2) (midway_refused _ _ _ _ _ _ _ _ _ _ mid (refusal_of c.in_err-next.field-0.0) c.in_err-next.ensures)

pub then-values-requires : goal.then-values-requires
then-values-requires g c =
    let l = c.loop-field in
    let mid = with_fields (c.in-Some.field ∷ fields_from c.next.new.self.text.now c.next.new.self.from) c.in-Some.ensures.steps l.invariant in
    let w = c.in_ok-next.next in
    let t = c.in_ok-next.told in
    let ok = small_more _ _ _ _ _ _ _ _ _ _ mid g.met.M.Module.lawful (record { rows = w.rows.now; count = w.count; told = told_by t }) c.in_ok-next.ensures in
    few_fits (mid.done + 1) (l.values.lines +ℤ t.lines) (omega (arith, mid.few)) (few_more mid.done l.values.lines t.lines mid.lines ok.lines)

pub loop-field-preserved : goal.loop-field-preserved
loop-field-preserved g c =
    let l = c.loop-field in
    let mid = with_fields (c.in-Some.field ∷ fields_from c.next.new.self.text.now c.next.new.self.from) c.in-Some.ensures.steps l.invariant in
    let w = c.in_ok-next.next in
    let t = c.in_ok-next.told in
    let more = midway_more _ _ _ _ _ _ _ _ _ _ mid g.met.M.Module.lawful (record { rows = w.rows.now; count = w.count; told = told_by t }) c.in_ok-next.ensures in
    let place : option_or l.closing_at (place_of (is_some t.closing) c.in-Some.field.at) ≡ c.or-closing_at.result = search rules in
    with_values (told_by c.then-values.result) c.or-closing_at.result (sym c.then-values.ensures) place more

pub invariant_of-result : goal.invariant_of-result
invariant_of-result g c =
    let mid = with_fields [] c.in-None.ensures.steps.0 c.loop-field.invariant in
    record { adds = adds_up _ _ _ _ _ _ _ _ mid; closes = mid.closes }

pub returns-then-is_filled : goal.returns-then-is_filled
returns-then-is_filled g c =
    let mid = with_fields [] c.in-None.ensures.steps.0 c.loop-field.invariant in
    sum_all _ _ _ _ _ _ _ _ mid ∙ midway_end _ _ _ _ _ _ _ _ mid true c.if-is_filled.ensures
