use Rattle.std.proofs.Common.{arith}
use Rattle.data_places.proofs.Counting.{heads_first, heads_second, heads_third}
use Rattle.data_places.proofs.place.head_count.Goals as goal

pub returns-then-from-le-EXTENTS_OF_L2 : goal.returns-then-from-le-EXTENTS_OF_L2
returns-then-from-le-EXTENTS_OF_L2 c = omega (arith, heads_first c.args.extents (omega arith) (omega arith))

pub returns-then-from : goal.returns-then-from
returns-then-from c = omega (arith, heads_second c.args.extents (omega arith) (omega arith))

pub returns : goal.returns
returns c = omega (arith, heads_third c.args.extents (omega arith))
