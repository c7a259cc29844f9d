use Rattle.std.proofs.Common.{Ok, Err, subst, arith, ◌<◌}
use Rattle.seg_words.proofs.Lemmas.{nat_tests}
use Rattle.seg_words.specs.Types.{UndoAddr}
use Rattle.store_core.proofs.Lookups.{looked_on, looked_err}
use Rattle.txn_end.proofs.Taking.{told_later, undo_found}
use Rattle.txn_end.proofs.Backing.{first_is, first_given, says_record}
use Rattle.txn_end.proofs.back.back_record.Goals as goal
use Rattle.txn_end.proofs.back.back_record.Goals.{then-first-eq0-via-then-first-eq0, then-first-eq0-via-else-first-eq0+then-first-gt3, then-first-eq0-via-else-first-eq0+else-first-gt3+then-at-ge-MOST_UNDO_PARTS}

pub returns-in-Err-clause-sound : goal.returns-in-Err-clause-sound
returns-in-Err-clause-sound g c = λ R st t told u n. (let k = first_given c.args.store.now.shape R c.args.txn st c.args.at t.list.within t.lawful told u in c.in-Err.ensures.sound R k.0 t n (undo_found c.args.store.now.shape R c.args.txn st c.args.at t.list.within told u) k.1)

pub returns-then-first-eq0-clause-looked : goal.returns-then-first-eq0-clause-looked
returns-then-first-eq0-clause-looked g c = looked_on g.D.Disk.meaning c.args.store.now c.ask.new.store c.refuse.new.self c.in-Ok.first (Err c.refuse.result) c.in-Ok.ensures.looked (looked_err g.D.Disk.meaning c.ask.new.store c.refuse.new.self c.refuse.result c.refuse.ensures.looked)

pub returns-then-first-eq0-clause-sound : goal.returns-then-first-eq0-clause-sound
returns-then-first-eq0-clause-sound g c = λ R st t told u n.
    let k = says_record st c.in-Ok.first (first_is c.args.store.now.shape R c.args.txn st c.args.at c.in-Ok.first t.list.within t.lawful told u (c.in-Ok.ensures.says R t)) in
    let count = k.count in
    let least = told.least in
    let most = told.most in
    let place = subst (λ (y : UndoAddr). y.nth < 63) u told.place in
    elim c.then-first-eq0.branch [
      | then-first-eq0-via-then-first-eq0 w ↦ absurd (let a = w.if-first-eq0.true in grind (arith, nat_tests))
      | then-first-eq0-via-else-first-eq0+then-first-gt3 w ↦ absurd (let a = w.if-first-gt3.true in grind (arith, nat_tests))
      | then-first-eq0-via-else-first-eq0+else-first-gt3+then-at-ge-MOST_UNDO_PARTS w ↦ absurd (let a = w.if-at-ge-MOST_UNDO_PARTS.true in grind (arith, nat_tests))
    ]

pub returns-clause-looked : goal.returns-clause-looked
returns-clause-looked g c = looked_on g.D.Disk.meaning c.args.store.now c.ask.new.store c.back_by.new.store c.in-Ok.first c.back_by.result c.in-Ok.ensures.looked c.back_by.ensures.looked

pub returns-clause-says : goal.returns-clause-says
returns-clause-says g c = λ R st t told u e.
    let still = c.in-Ok.ensures.looked.stays_true R t in
    let later = told_later g.D.Disk.meaning c.args.store.now c.ask.new.store R c.args.txn st c.in-Ok.ensures.looked.loan told in
    let first = first_is c.args.store.now.shape R c.args.txn st c.args.at c.in-Ok.first t.list.within t.lawful told u (c.in-Ok.ensures.says R t) in
    c.back_by.ensures.says R st still later u first e

pub returns-clause-sound : goal.returns-clause-sound
returns-clause-sound g c = λ R st t told u n.
    let still = c.in-Ok.ensures.looked.stays_true R t in
    let later = told_later g.D.Disk.meaning c.args.store.now c.ask.new.store R c.args.txn st c.in-Ok.ensures.looked.loan told in
    let first = first_is c.args.store.now.shape R c.args.txn st c.args.at c.in-Ok.first t.list.within t.lawful told u (c.in-Ok.ensures.says R t) in
    c.back_by.ensures.sound R st still later u first (c.in-Ok.ensures.looked.cause.kept n)
