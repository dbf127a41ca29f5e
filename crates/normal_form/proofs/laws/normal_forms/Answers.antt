use Rattle.normal_form.proofs.Law.{normal_forms}
use Rattle.normal_form.proofs.laws.normal_forms.Goals as goal

pub returns : goal.returns
returns g c = normal_forms g.M.Module.meaning g.met.M.Module.lawful
