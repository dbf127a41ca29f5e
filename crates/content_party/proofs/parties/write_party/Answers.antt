use Rattle.std.proofs.Common.{◌≡◌, [], ◌++◌, Some, ap, ◌∙◌, rules}
use Rattle.std.proofs.lemmas.List.{append-nil}
use Rattle.content_lines.proofs.Writing.{wrote_answer, wrote_buffer}
use Rattle.content_party.specs.Parties.{parts_of, party_of, code_part, filling, party_format}
use Rattle.content_party.proofs.PartyLaws.{party_lawful, code_handed}
use Rattle.content_party.proofs.parties.write_party.Goals as goal

pub returns-in_err-party-clause-laws : goal.returns-in_err-party-clause-laws
returns-in_err-party-clause-laws c = party_lawful c.args.places

pub returns : goal.returns
returns c =
    let bs = c.args.content.now in
    let some : parts_of (Some c.in_ok-party.party) ≡ party_of c.args.places bs = search rules in
    let h = code_handed c.args.places bs c.in_ok-party.party some in
    let m = c.missing_places.ensures ∙ ap filling h.1 in
    let parts : bs ++ (_ ++ []) ≡ bs ++ filling (code_part bs) = ap (λ l. bs ++ l) (append-nil _ ∙ m) in
    record {
      answer = wrote_answer (party_format c.args.places) bs c.args.buffer.now h.0 _ parts _ c.put_parts.ensures.answer;
      buffer = wrote_buffer (party_format c.args.places) bs c.args.buffer.now h.0 _ parts _ c.put_parts.ensures.buffer;
      laws = party_lawful c.args.places;
    }
