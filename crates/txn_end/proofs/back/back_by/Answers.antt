use Rattle.std.proofs.Common.{Ok, Err}
use Rattle.store_core.proofs.Lookups.{looked_on, looked_ok, looked_err}
use Rattle.txn_end.proofs.Taking.{told_later}
use Rattle.txn_end.proofs.Backing.{says_record, before_used, back_is}
use Rattle.txn_end.proofs.back.back_by.Goals as goal

pub returns-in-Err-address_of-clause-looked : goal.returns-in-Err-address_of-clause-looked
returns-in-Err-address_of-clause-looked g c = looked_on g.D.Disk.meaning c.args.store.now c.row_told.new.store c.address_of.new.store c.in-Ok.told (Err c.in-Err-address_of.fault) c.in-Ok.ensures.looked (looked_err g.D.Disk.meaning c.row_told.new.store c.address_of.new.store c.in-Err-address_of.fault c.in-Err-address_of.ensures.looked)

pub returns-in-Err-address_of-clause-sound : goal.returns-in-Err-address_of-clause-sound
returns-in-Err-address_of-clause-sound g c = λ R st t told u f n.
    let still = c.in-Ok.ensures.looked.stays_true R t in
    let later = told_later g.D.Disk.meaning c.args.store.now c.row_told.new.store R c.args.txn st c.in-Ok.ensures.looked.loan told in
    c.in-Err-address_of.ensures.sound R still (before_used c.row_told.new.store.shape R c.args.txn st c.args.first.now later f)

pub returns-in-Err-back_parts-clause-looked : goal.returns-in-Err-back_parts-clause-looked
returns-in-Err-back_parts-clause-looked g c = looked_on g.D.Disk.meaning c.args.store.now c.address_of.new.store c.back_parts.new.store c.in-Ok-address_of.last (Err c.in-Err-back_parts.fault) (looked_on g.D.Disk.meaning c.args.store.now c.row_told.new.store c.address_of.new.store c.in-Ok.told (Ok c.in-Ok-address_of.last) c.in-Ok.ensures.looked c.in-Ok-address_of.ensures.looked) (looked_err g.D.Disk.meaning c.address_of.new.store c.back_parts.new.store c.in-Err-back_parts.fault c.in-Err-back_parts.ensures.looked)

pub returns-in-Err-back_parts-clause-sound : goal.returns-in-Err-back_parts-clause-sound
returns-in-Err-back_parts-clause-sound g c = λ R st t told u f n.
    let still = c.in-Ok.ensures.looked.stays_true R t in
    let later = told_later g.D.Disk.meaning c.args.store.now c.row_told.new.store R c.args.txn st c.in-Ok.ensures.looked.loan told in
    let again = c.in-Ok-address_of.ensures.looked.stays_true R still in
    let last = told_later g.D.Disk.meaning c.row_told.new.store c.address_of.new.store R c.args.txn st c.in-Ok-address_of.ensures.looked.loan later in
    c.in-Err-back_parts.ensures.sound R st again last u (says_record st c.args.first.now f).count

pub returns-clause-looked : goal.returns-clause-looked
returns-clause-looked g c = looked_ok g.D.Disk.meaning c.args.store.now c.back_parts.new.store c.in-Ok-back_parts.parts _ (looked_on g.D.Disk.meaning c.args.store.now c.address_of.new.store c.back_parts.new.store c.in-Ok-address_of.last (Ok c.in-Ok-back_parts.parts) (looked_on g.D.Disk.meaning c.args.store.now c.row_told.new.store c.address_of.new.store c.in-Ok.told (Ok c.in-Ok-address_of.last) c.in-Ok.ensures.looked c.in-Ok-address_of.ensures.looked) c.in-Ok-back_parts.ensures.looked)

pub returns-clause-says : goal.returns-clause-says
returns-clause-says g c = λ R st t told u f e.
    let still = c.in-Ok.ensures.looked.stays_true R t in
    let later = told_later g.D.Disk.meaning c.args.store.now c.row_told.new.store R c.args.txn st c.in-Ok.ensures.looked.loan told in
    let again = c.in-Ok-address_of.ensures.looked.stays_true R still in
    let last = told_later g.D.Disk.meaning c.row_told.new.store c.address_of.new.store R c.args.txn st c.in-Ok-address_of.ensures.looked.loan later in
    let k = c.in-Ok.ensures.says R c.args.txn st t told f in
    back_is c.args.store.now.shape R c.args.txn st c.args.at c.args.first.now c.args.entry c.in-Ok.told.obj c.in-Ok.told.row c.in-Ok-back_parts.parts c.in-Ok-address_of.last told f u e k.1 k.0 (c.in-Ok-address_of.ensures.says R still (before_used c.row_told.new.store.shape R c.args.txn st c.args.first.now later f)) (c.in-Ok-back_parts.ensures.says R st again last u (says_record st c.args.first.now f).count)
