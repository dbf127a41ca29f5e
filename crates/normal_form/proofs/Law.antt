-- The law of normal forms.
use Rattle.reader.specs.Meaning.{Meaning, KeepsLaws}
use Rattle.normal_form.specs.Laws.{NormalForms}
use Rattle.normal_form.proofs.Apart.{told_apart}
use Rattle.normal_form.proofs.Again.{settled}

pub normal_forms : {F : Type 0} (m : Meaning F) → KeepsLaws m → NormalForms m
normal_forms m laws = record { apart = told_apart m laws; settled = settled m laws }
