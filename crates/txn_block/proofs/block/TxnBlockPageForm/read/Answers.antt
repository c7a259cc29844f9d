use Rattle.std.proofs.Common.{arith}
use Rattle.txn_block.proofs.PageForms.{has_entries, table_read}
use Rattle.txn_block.proofs.block.TxnBlockPageForm.read.Goals as goal

pub invariant_of-result : goal.invariant_of-result
invariant_of-result c = has_entries c.args.bytes.now c.split_at.result.1.now c.number_u32-2.result c.block_from.result c.in_ok-entries.entries.items (λ i. omega (arith, c.fits-bytes i))
    c.split_at.ensures.back c.number_u32-2.ensures c.block_from.ensures c.in_ok-entries.ensures

pub returns : goal.returns
returns c = table_read c.args.bytes.now c.split_at.result.1.now c.number_u32.result c.number_u64.result c.number_u64-2.result c.number_u64-3.result c.number_u64-4.result c.number_u32-2.result c.block_from.result c.in_ok-entries.entries.items
    c.split_at.ensures.back c.number_u32.ensures c.number_u64.ensures c.number_u64-2.ensures c.number_u64-3.ensures c.number_u64-4.ensures c.number_u32-2.ensures c.block_from.ensures c.in_ok-entries.ensures
