use Rattle.std.proofs.Common.{◌≡◌, ◌^◌, ◌<◌, ◌≤◌, length, drop}
use Rattle.contents.proofs.Steps.{reads}
use Rattle.contents.proofs.digits.read_number.Given as goal

-- what is left decides, and the number so far has as many digits as were read
abbrev pub invariant-loop-b : goal.invariant-loop-b
invariant-loop-b l = (length l.digits ≤ 19) × (l.number < 10 ^ l.b-index) × (reads l.number (drop l.b-index l.digits) ≡ reads 0 l.digits)
