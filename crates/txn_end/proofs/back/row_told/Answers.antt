use Rattle.std.proofs.Common.{Ok, Err}
use Rattle.store_core.proofs.Lookups.{looked_on, looked_ok, looked_err}
use Rattle.txn_end.proofs.Gathering.{first_found, has_found, number_there, row_is}
use Rattle.txn_end.proofs.Taking.{told_later}
use Rattle.txn_end.proofs.back.row_told.Goals as goal

pub returns-in-Err-clause-sound : goal.returns-in-Err-clause-sound
returns-in-Err-clause-sound g c = λ R t st h told f n. (let k = first_found c.args.store.now.shape R t st c.args.first.now h.list.within h.lawful told f in c.in-Err.ensures.sound R st.row h n k.there k.row)

pub returns-in-None-clause-looked : goal.returns-in-None-clause-looked
returns-in-None-clause-looked g c = looked_on g.D.Disk.meaning c.args.store.now c.ask.new.store c.refuse.new.self c.in-Ok.row (Err c.refuse.result) c.in-Ok.ensures.looked (looked_err g.D.Disk.meaning c.ask.new.store c.refuse.new.self c.refuse.result c.refuse.ensures.looked)

pub returns-in-None-clause-sound : goal.returns-in-None-clause-sound
returns-in-None-clause-sound g c = λ R t st h told f n. number_there c.args.store.now.shape c.shape-shape.result R t st c.args.first.now c.shape-shape.ensures h.list.within h.lawful told f c.in-None.ensures

pub returns-in-Ok-table_of-clause-looked : goal.returns-in-Ok-table_of-clause-looked
returns-in-Ok-table_of-clause-looked g c = looked_ok g.D.Disk.meaning c.args.store.now c.table_of.new.store c.in-Ok-table_of.obj _ (looked_on g.D.Disk.meaning c.args.store.now c.ask.new.store c.table_of.new.store c.in-Ok.row (Ok c.in-Ok-table_of.obj) c.in-Ok.ensures.looked c.in-Ok-table_of.ensures.looked)

pub returns-in-Ok-table_of-clause-says : goal.returns-in-Ok-table_of-clause-says
returns-in-Ok-table_of-clause-says g c = λ R t st h told f. (
  row_is c.args.store.now.shape R t st c.args.first.now c.in-Ok.row h.list.within h.lawful told f (c.in-Ok.ensures.says R h),
  c.in-Ok-table_of.ensures.says R st.obj (c.in-Ok.ensures.looked.stays_true R h) told.table (has_found c.args.store.now.shape c.shape-shape.result R t st c.args.first.now c.in-Some.extent c.shape-shape.ensures h.list.within h.lawful told f c.in-Some.ensures),
)

pub returns-in-Err-table_of-clause-looked : goal.returns-in-Err-table_of-clause-looked
returns-in-Err-table_of-clause-looked g c = looked_on g.D.Disk.meaning c.args.store.now c.ask.new.store c.table_of.new.store c.in-Ok.row (Err c.in-Err-table_of.fault) c.in-Ok.ensures.looked (looked_err g.D.Disk.meaning c.ask.new.store c.table_of.new.store c.in-Err-table_of.fault c.in-Err-table_of.ensures.looked)

pub returns-in-Err-table_of-clause-sound : goal.returns-in-Err-table_of-clause-sound
returns-in-Err-table_of-clause-sound g c = λ R t st h told f n. c.in-Err-table_of.ensures.sound R st.obj (c.in-Ok.ensures.looked.stays_true R h) told.table (has_found c.args.store.now.shape c.shape-shape.result R t st c.args.first.now c.in-Some.extent c.shape-shape.ensures h.list.within h.lawful told f c.in-Some.ensures)
