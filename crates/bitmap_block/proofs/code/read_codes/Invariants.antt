use Rattle.bitmap_block.proofs.Reading.{HasRead}
use Rattle.bitmap_block.proofs.code.read_codes.Given as goal

abbrev pub invariant-loop-i : goal.invariant-loop-i
invariant-loop-i l = HasRead l.bytes l.codes l.i
