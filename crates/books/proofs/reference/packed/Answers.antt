use Rattle.std.proofs.Common.{◌-◌, ◌<◌, length, arith}
use Rattle.books.proofs.Packing.{none_packed, packed_more, below_word}
use Rattle.books.proofs.reference.packed.Goals as goal

pub loop-i-init : goal.loop-i-init
loop-i-init c = none_packed c.args.bytes.now

pub overflow_mul-word : goal.overflow_mul-word
overflow_mul-word c = omega (arith, below_word c.loop-i.word (length c.args.bytes.now - c.loop-i.i) 0 c.loop-i.invariant.1 (omega arith) (omega arith))

pub overflow_add-word : goal.overflow_add-word
overflow_add-word c =
    let b : c.from.result < 256 = omega (arith, c.type_inv.bytes (c.loop-i.i - 1)) in
    omega (arith, below_word c.loop-i.word (length c.args.bytes.now - c.loop-i.i) c.from.result c.loop-i.invariant.1 (omega arith) b)

pub loop-i-preserved : goal.loop-i-preserved
loop-i-preserved c =
    let b : c.from.result < 256 = omega (arith, c.type_inv.bytes (c.loop-i.i - 1)) in
    packed_more c.args.bytes.now c.loop-i.i c.loop-i.word c.from.result (omega arith) (omega arith) c.from.ensures b c.loop-i.invariant.0 c.loop-i.invariant.1
