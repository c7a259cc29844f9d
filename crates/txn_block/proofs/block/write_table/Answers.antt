use Rattle.std.proofs.Common.{arith, flat_map}
use Rattle.txn_block.specs.Types.{entry_bytes}
use Rattle.txn_block.proofs.PageForms.{entries_fit_page, table_written}
use Rattle.txn_block.proofs.block.write_table.Goals as goal

pub add_all-requires : goal.add_all-requires
add_all-requires c = entries_fit_page c.add-entries_at.result c.args.entries.now (omega (arith, c.add-entries_at.ensures.place, c.add-front.ensures.place, c.begin-start.ensures.place, c.told-head, c.told-numbers)) c.requires

pub returns : goal.returns
returns c = table_written c.begin-start.new.page c.add-front.new.page c.add-entries_at.new.page c.add_all.new.page c.args.head.now c.args.numbers.now (flat_map entry_bytes c.args.entries.now)
    c.begin-start.result c.add-front.result c.add-entries_at.result c.add_all.result c.begin-start.ensures c.add-front.ensures.bytes c.add-entries_at.ensures.bytes c.add_all.ensures.bytes
