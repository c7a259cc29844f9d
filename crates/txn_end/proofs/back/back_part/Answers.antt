use Rattle.std.proofs.Common.{Ok, Err}
use Rattle.version_laws.specs.Types.{as_kept}
use Rattle.end_laws.specs.Types.{held_of, PartTold, BackTold}
use Rattle.store_core.proofs.Lookups.{looked_on, looked_ok, looked_err}
use Rattle.txn_end.proofs.Taking.{told_later, part_found, undo_found, part_is, entry_found, rows_found, back_part_is}
use Rattle.txn_end.proofs.back.back_part.Goals as goal

pub returns-in-Err-clause-sound : goal.returns-in-Err-clause-sound
returns-in-Err-clause-sound g c = λ R st p t told u e n. c.in-Err.ensures.sound R (as_kept (held_of st p)) t n (undo_found c.args.store.now.shape R c.args.txn st c.args.at t.list.within told u) (part_found c.args.store.now.shape R c.args.txn st c.args.i p c.args.at t.list.within t.lawful told u e)

pub returns-in-Ok-ask-clause-looked : goal.returns-in-Ok-ask-clause-looked
returns-in-Ok-ask-clause-looked g c = looked_ok g.D.Disk.meaning c.args.store.now c.ask-2.new.store c.in-Ok-ask.entry _ (looked_on g.D.Disk.meaning c.args.store.now c.ask.new.store c.ask-2.new.store c.in-Ok.part (Ok c.in-Ok-ask.entry) c.in-Ok.ensures.looked c.in-Ok-ask.ensures.looked)

pub returns-in-Ok-ask-clause-says : goal.returns-in-Ok-ask-clause-says
returns-in-Ok-ask-clause-says g c = λ R st p t told u e.
    let still = c.in-Ok.ensures.looked.stays_true R t in
    let later = told_later g.D.Disk.meaning c.args.store.now c.ask.new.store R c.args.txn st c.in-Ok.ensures.looked.loan told in
    let is = part_is c.args.store.now.shape R c.args.txn st c.args.i p c.args.at c.in-Ok.part t.list.within t.lawful told u e (c.in-Ok.ensures.says R t) in
    back_part_is c.ask.new.store.shape R c.args.txn st c.args.i p c.in-Ok.part c.in-Ok-ask.entry still.list.within still.lawful later e is (c.in-Ok-ask.ensures.says R still)

pub returns-in-Err-ask-clause-looked : goal.returns-in-Err-ask-clause-looked
returns-in-Err-ask-clause-looked g c = looked_on g.D.Disk.meaning c.args.store.now c.ask.new.store c.ask-2.new.store c.in-Ok.part (Err c.in-Err-ask.fault) c.in-Ok.ensures.looked (looked_err g.D.Disk.meaning c.ask.new.store c.ask-2.new.store c.in-Err-ask.fault c.in-Err-ask.ensures.looked)

pub returns-in-Err-ask-clause-sound : goal.returns-in-Err-ask-clause-sound
returns-in-Err-ask-clause-sound g c = λ R st p t told u e n.
    let still = c.in-Ok.ensures.looked.stays_true R t in
    let later = told_later g.D.Disk.meaning c.args.store.now c.ask.new.store R c.args.txn st c.in-Ok.ensures.looked.loan told in
    let is = part_is c.args.store.now.shape R c.args.txn st c.args.i p c.args.at c.in-Ok.part t.list.within t.lawful told u e (c.in-Ok.ensures.says R t) in
    c.in-Err-ask.ensures.sound R (later.part c.args.i p e).place still (c.in-Ok.ensures.looked.cause.kept n) (rows_found c.ask.new.store.shape R c.args.txn st c.args.i p c.in-Ok.part still.list.within still.lawful later e is) (entry_found c.ask.new.store.shape R c.args.txn st c.args.i p c.in-Ok.part still.list.within still.lawful later e is)
