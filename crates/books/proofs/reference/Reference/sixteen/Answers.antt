use Rattle.std.proofs.Common.{◌≡◌, ◌++◌, replicate, sym, ◌∙◌}
use borrow.Rule.Slice.PartMut.{put_mid}
use Rattle.books.specs.References.{bytes_of}
use Rattle.books.proofs.Packing.{bytes_by_quotients}
use Rattle.books.proofs.reference.Reference.sixteen.Goals as goal

pub returns : goal.returns
returns c =
    let first : c.copy_from_slice.new.self ≡ bytes_of 8 c.args.self.first = c.copy_from_slice.ensures.after ∙ c.to_le_bytes.ensures ∙ sym (bytes_by_quotients c.args.self.first) in
    let second : c.copy_from_slice-2.new.self ≡ bytes_of 8 c.args.self.second = c.copy_from_slice-2.ensures.after ∙ c.to_le_bytes-2.ensures ∙ sym (bytes_by_quotients c.args.self.second) in
    (λ i. put_mid 8 8 (first i ++ replicate 8 0) (second i))
