use Rattle.segment_read.proofs.Saying.{NoneBefore}
use Rattle.segment_read.proofs.extents.index_in.Given as goal

abbrev pub invariant-loop-index : goal.invariant-loop-index
invariant-loop-index l = NoneBefore l.shape l.header.extents l.index l.dba
