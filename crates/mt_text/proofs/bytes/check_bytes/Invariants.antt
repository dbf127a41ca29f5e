use Rattle.std.proofs.Common.{◌≡◌, drop}
use Rattle.mt_text.specs.Bytes.{foreign_from}
use Rattle.mt_text.proofs.bytes.check_bytes.Given as goal

-- what is left decides
abbrev pub invariant-loop-i : goal.invariant-loop-i
invariant-loop-i l = foreign_from l.i (drop l.i l.text) ≡ foreign_from 0 l.text
