-- What a writing call answers and leaves in the buffer, once it is known whether the content is accepted.
use Rattle.std.proofs.Common.{◌≡◌, ℕ, true, List, is_some, Some, Option, Result, sym, ap, ◌∙◌}
use Rattle.std.proofs.lemmas.Bool.{cond-true}
use Rattle.mt_text.specs.Refusals.{Refusal}
use Rattle.mt_text.specs.Lent.{fitted, overwritten}
use Rattle.content_lines.specs.Formats.{Format, answer, written}

module _ {V : Type 0} (f : Format V) (c buffer : List ℕ) where
  pub wrote_answer : f.accepts c ≡ true → (bs : List ℕ) → bs ≡ f.normal c → (r : Result ℕ Refusal) → r ≡ fitted bs buffer → r ≡ answer f c buffer
  wrote_answer h bs e r k = k ∙ ap (λ l. fitted l buffer) e ∙ sym (cond-true (f.accepts c) _ _ h)

  pub wrote_buffer : f.accepts c ≡ true → (bs : List ℕ) → bs ≡ f.normal c → (x : List ℕ) → x ≡ overwritten bs buffer → x ≡ written f c buffer
  wrote_buffer h bs e x k = k ∙ ap (λ l. overwritten l buffer) e ∙ sym (cond-true (f.accepts c) _ _ h)

-- accepted where something is told
pub is_told : {X : Type 0} (o : Option X) (x : X) → Some x ≡ o → is_some o ≡ true
is_told o x e = sym (ap is_some e)
