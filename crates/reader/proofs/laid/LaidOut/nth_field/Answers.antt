use Rattle.std.proofs.Common.{◌≡◌, Some, None, Option, refl, ◌∙◌}
use Rattle.std.specs.Option.{option_map}
use Rattle.std.proofs.lemmas.Iterator.Consumers.{nth_from_yields_List, YieldsList-from_first}
use Rattle.fields.specs.declared.scan.Field.{Field}
use Rattle.fields.specs.Fields.{body_at}
use Rattle.reader.specs.Texts.{fields_found, fields_in}
use Rattle.reader.proofs.laid.LaidOut.nth_field.Goals as goal

as_it_is : (o : Option Field) → o ≡ option_map (λ x. x) o
as_it_is (Some f) = refl
as_it_is None = refl

pub returns : goal.returns
returns c =
    let fields : fields_found (body_at c.fields.result.text.now c.fields.result.from) ≡ fields_in c.args.self.text.now c.args.self.layout = (λ i. fields_found (body_at (c.fields.ensures.text i).now (c.fields.ensures.from i))) in
    as_it_is c.nth.result
    ∙ nth_from_yields_List c.nth.result c.nth.new.self c.args.index c.nth.ensures.ran (YieldsList-from_first (λ x. x) (λ s. fields_found (body_at s.text.now s.from)) (fields_in c.args.self.text.now c.args.self.layout) fields)
