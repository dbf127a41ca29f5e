use Rattle.std.proofs.Common.{◌≡◌, ◌-◌, ◌^◌, ◌<◌, length, drop}
use Rattle.books.specs.References.{word_of}
use Rattle.books.proofs.reference.packed.Given as goal

-- the bytes from i on are in the word
abbrev pub invariant-loop-i : goal.invariant-loop-i
invariant-loop-i l = (l.word ≡ word_of (drop l.i l.bytes)) × (l.word < 256 ^ (length l.bytes - l.i))
