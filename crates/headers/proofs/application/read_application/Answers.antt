use Rattle.std.proofs.Common.{ℕ, Bool, cond, take, Some, None, codes, Option, sym, ap, ◌∙◌, arith}
use Rattle.headers.specs.declared.application.Application.{Application}
use Rattle.headers.specs.declared.application.Direction.TheVariants.{Input, Output}
use Rattle.headers.specs.Application.{is_input, is_output, type_of}
use Rattle.headers.proofs.Types.{typed}
use Rattle.headers.proofs.application.read_application.Goals as goal

pub type_of-requires-then-is_output_header : goal.type_of-requires-then-is_output_header
type_of-requires-then-is_output_header c =
    let t = typed c.part-output.result.now 51 (codes "{2:O") _ (sym c.if-is_output_header.ensures) (omega arith) in
    record { long = t.long; digits = t.digits }

-- by the tests of the two blocks and the types that they tell
abbrev answer : Bool → ℕ → Bool → ℕ → Option Application
answer x s y t = cond x (Some (record { direction = Input; message_type = s; width = 21 })) (cond y (Some (record { direction = Output; message_type = t; width = 51 })) None)

pub returns-then-is_output_header : goal.returns-then-is_output_header
returns-then-is_output_header c =
    let x = c.if-is_input_header.ensures ∙ ap is_input c.part-input.ensures in
    let y = c.if-is_output_header.ensures ∙ ap is_output c.part-output.ensures in
    let t = c.type_of-then-is_output_header.ensures ∙ ap type_of c.part-output.ensures in
    λ k. answer (x k) (type_of (take 21 c.args.bytes.now)) (y k) (t k)

pub returns : goal.returns
returns c =
    let x = c.if-is_input_header.ensures ∙ ap is_input c.part-input.ensures in
    let y = c.if-is_output_header.ensures ∙ ap is_output c.part-output.ensures in
    λ k. answer (x k) (type_of (take 21 c.args.bytes.now)) (y k) (type_of (take 51 c.args.bytes.now))
