use Rattle.row_block.proofs.Cleaned.{over_more}
use Rattle.seg_words.specs.Types.{clean_entry}
use Rattle.row_block.proofs.clean.clean_entries.Goals as goal

pub loop-entry-preserved : goal.loop-entry-preserved
loop-entry-preserved c = over_more (clean_entry c.args.done.now) c.args.entries.now c.loop-entry.entry-items c.loop-entry.entry-index c.entry-item.result c.clean_entry.new.entry c.loop-entry-test.true c.loop-entry.invariant c.entry-item.is c.clean_entry.ensures
