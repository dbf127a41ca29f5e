use Rattle.std.proofs.Common.{◌≡◌, ◌+◌, ◌<◌, ◌≤◌, length, drop, Ok, sym, ap, ◌∙◌, subst, arith}
use Rattle.std.proofs.lemmas.Result.{err_from_is_err_and}
use Rattle.mt_text.specs.Refusals.{refusal_of}
use Rattle.fields.specs.declared.scan.Next.TheVariants.{More}
use Rattle.fields.specs.Fields.{next_at, behind}
use Rattle.fields.proofs.Bodies.{Sofar, start, one_more, at_last, at_fault, field_within}
use Rattle.fields.proofs.Trips.{round_trip}
use Rattle.fields.proofs.Backs.{accepted}
use Rattle.fields.proofs.scan.read_body.Goals as goal
use Rattle.fields.proofs.scan.read_body.Goals.{In-More, After-behind-from}

pub loop-field-init : goal.loop-field-init
loop-field-init c = start c.args.text.now c.args.at

pub returns-in_err-field : goal.returns-in_err-field
returns-in_err-field c =
    let p = err_from_is_err_and c.from_residual.result c.from_residual.ensures.1 in
    record {
      answer = rw (p.1, p.2) (at_fault c.args.text.now c.args.at c.loop-field.fields c.loop-field.from c.loop-field.invariant (refusal_of c.in_err-field.field-0.0) c.in_err-field.ensures);
      round_trip = round_trip;
      accepted = accepted;
    }

-- what `next_field` said of a field
found : (c : In-More) → Ok (More c.in-More.field) ≡ next_at c.loop-field.from (drop c.loop-field.from c.args.text.now)
found c = ap Ok (sym c.in-More.is) ∙ c.in_ok-field.ensures

inside : (c : In-More) → (c.loop-field.from < behind c.in-More.field) × (behind c.in-More.field ≤ length c.args.text.now)
inside c = field_within c.args.text.now c.loop-field.from c.in-More.field (found c)

-- the line behind it
next : (c : After-behind-from) → c.behind-from.result ≡ behind c.in-More.field
next c = omega (arith, inside (goal.at.After-behind-from c).In-More, c.behind-from.ensures)

pub loop-field-smaller : goal.loop-field-smaller
loop-field-smaller c = omega (arith, inside (goal.at.loop-field-smaller c).In-More, next c)

pub loop-field-preserved : goal.loop-field-preserved
loop-field-preserved c =
    subst (Sofar c.args.text.now c.args.at (c.loop-field.fields + 1)) (sym (next c))
    (one_more c.args.text.now c.args.at c.loop-field.fields c.loop-field.from c.loop-field.invariant c.in-More.field (found (goal.at.loop-field-preserved c).In-More))

pub returns-in-End : goal.returns-in-End
returns-in-End c =
    record {
      answer = at_last c.args.text.now c.args.at c.loop-field.fields c.loop-field.from c.loop-field.invariant c.in-End.hyphen (ap Ok (sym c.in-End.is) ∙ c.in_ok-field.ensures);
      round_trip = round_trip;
      accepted = accepted;
    }
