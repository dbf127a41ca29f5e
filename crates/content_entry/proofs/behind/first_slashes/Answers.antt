use Rattle.std.proofs.Common.{rules}
use Rattle.content_entry.proofs.Steps.{first_pair}
use Rattle.content_entry.proofs.behind.first_slashes.Goals as goal

pub returns : goal.returns
returns c =
    let p = first_pair c.args.line.now c.position.result (λ i e. search rules) (λ i k e l f g. search rules) (λ k e l f g. search rules) in
    record { is = p.0; room = p.1 }
