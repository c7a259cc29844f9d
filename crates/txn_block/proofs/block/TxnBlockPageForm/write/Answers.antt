use Rattle.std.proofs.Common.{refl}
use Rattle.txn_block.specs.Types.{spelling}
use Rattle.txn_block.proofs.block.TxnBlockPageForm.write.Goals as goal

pub returns : goal.returns
unfolding spelling
returns c = rw (c.write_table.ensures, c.head_bytes-head.ensures, c.numbers-numbers.ensures, c.deref.ensures.value, ← c.self.view_is) refl
