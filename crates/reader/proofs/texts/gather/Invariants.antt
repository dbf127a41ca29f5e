use Rattle.reader.specs.Values.{told_by}
use Rattle.reader.specs.Texts.{fields_in}
use Rattle.reader.proofs.FieldSteps.{fields_from}
use Rattle.reader.proofs.Gathering.{Midway, all_told}
use Rattle.reader.proofs.texts.gather.Given as goal

-- the values so far and the fields that the iterator has left make up the whole
abbrev pub invariant-loop-field : goal.invariant-loop-field
invariant-loop-field g l =
    let m = g.M.Module.meaning in
    let text = l.fn.laid.text.now in
    Midway m text l.fn.laid.layout.hyphen (all_told m text l.fn.laid.layout.hyphen l.fn.rows (fields_in text l.fn.laid.layout)) (fields_from l.field-iterator.text.now l.field-iterator.from) l.walk.rows.now l.walk.count (told_by l.values) l.closing_at
