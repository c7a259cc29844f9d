use Rattle.version_read.specs.Walking.{txn_or_none}
use Rattle.scan_table.proofs.Showing.{reader_of, no_slot, shown_told}
use Rattle.scan_table.proofs.reader.slot_shown.Goals as goal

pub returns-in-None : goal.returns-in-None
returns-in-None c = λ sh R o b h p. no_slot R b c.args.slot c.args.reader.now.at (txn_or_none c.args.reader.now.own) (λ l. (c.in-None.ensures.there R b p).1 l)

pub returns-in-Some : goal.returns-in-Some
returns-in-Some c = λ sh R o b h p. shown_told R c.args.reader.now b c.args.slot c.in-Some.version c.shown_by.result (c.in-Some.ensures.slot c.args.reader.now.shape R b (reader_of sh R c.args.reader.now o b h) h.txns p) c.shown_by.ensures
