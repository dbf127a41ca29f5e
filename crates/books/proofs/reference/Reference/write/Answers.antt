use Rattle.std.proofs.Common.{◌≡◌, min, take, ap, ◌∙◌, arith}
use Rattle.mt_text.specs.Lent.{fitted, overwritten}
use Rattle.books.specs.References.{spelled}
use Rattle.books.proofs.Packing.{spelled_cut}
use Rattle.books.proofs.reference.Reference.write.Goals as goal

pub returns : goal.returns
returns c =
    let cut : c.min.result ≡ min c.args.self.len 16 = omega (arith, c.min.ensures, c.from-len.ensures) in
    let all : take c.min.result c.sixteen-bytes.result ≡ spelled c.args.self = ap (take c.min.result) c.sixteen-bytes.ensures ∙ spelled_cut c.args.self c.min.result cut in
    record {
      answer = c.put_front.ensures.answer ∙ ap (λ bs. fitted bs c.args.buffer.now) all;
      buffer = c.put_front.ensures.buffer ∙ ap (λ bs. overwritten bs c.args.buffer.now) all;
    }
