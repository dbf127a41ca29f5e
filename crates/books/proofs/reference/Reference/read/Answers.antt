use Rattle.std.proofs.Common.{◌≡◌, take, drop, sym, ap, ◌∙◌}
use Rattle.books.specs.References.{word_of}
use Rattle.books.proofs.Packing.{cut_at_eight, kept_in_parts, read_of}
use Rattle.books.proofs.reference.Reference.read.Goals as goal

pub returns : goal.returns
returns c =
    let bs = c.args.bytes.now in
    let cut = cut_at_eight bs c.min.result c.min.ensures in
    let first : c.packed.result ≡ word_of (take 8 bs) = c.packed.ensures.word ∙ ap word_of (c.split_at.ensures.front ∙ cut.0) in
    let second : c.packed-2.result ≡ word_of (drop 8 bs) = c.packed-2.ensures.word ∙ ap word_of (c.split_at.ensures.back ∙ cut.1) in
    let m = read_of bs _ (sym c.if-not-is_reference.ensures) (kept_in_parts bs c.packed.result c.packed-2.result first second) in
    record { value = m.value; says = m.says; gives = m.gives }
