use Rattle.std.proofs.Common.{sym, subst}
use Rattle.session_core.specs.declared.turned.Acted.{Acted}
use Rattle.session_core.proofs.Calls.{called_ok, called_err, acted_as}
use Rattle.session_core.specs.Acked.{AcksTurned}
use Rattle.session_core.proofs.Ends.{may_commit, committed, uncommitted, flushed}
use Rattle.session_core.proofs.ending.commit_txn.Goals as goal

pub returns-in-Ok-clause-acted : goal.returns-in-Ok-clause-acted
returns-in-Ok-clause-acted g c = λ x at st.
    let may = may_commit g.D.Disk.meaning x c.args.txn c.args.store.now at st in
    acted_as g.D.Disk.meaning x _ c.args.store.now c.commit.new.store c.over.result _ c.over.ensures
    (committed g.D.Disk.meaning x c.args.txn c.in-Ok.number c.args.store.now c.commit.new.store at st c.in-Ok.ensures.loan (c.in-Ok.ensures.added x.ended at.stands at.unspent may) (c.in-Ok.ensures.number x.ended at.stands may)
    (c.in-Ok.ensures.stable x.ended at.stands.list) (λ since needed s. c.in-Ok.ensures.survives since needed x.ended at.stands at.unspent may s))

pub returns-in-Ok-clause-acked : goal.returns-in-Ok-clause-acked
returns-in-Ok-clause-acked g c = λ x at st.
    let may = may_commit g.D.Disk.meaning x c.args.txn c.args.store.now at st in
    subst (λ (a : Acted). AcksTurned c.commit.new.store a.turned) (sym c.over.ensures) (flushed g.D.Disk.meaning _ x.ended c.commit.new.store (c.in-Ok.ensures.added x.ended at.stands at.unspent may) (c.in-Ok.ensures.all_stable x.ended at.stands))

pub returns-in-Ok-clause-called : goal.returns-in-Ok-clause-called
returns-in-Ok-clause-called g c = called_ok g.D.Disk.meaning c.args.store.now c.commit.new.store c.in-Ok.number _ c.requires.unspent c.in-Ok.ensures.loan c.in-Ok.ensures.cause

pub returns-in-Err-clause-acted : goal.returns-in-Err-clause-acted
returns-in-Err-clause-acted g c = λ x at st.
    let may = may_commit g.D.Disk.meaning x c.args.txn c.args.store.now at st in
    uncommitted g.D.Disk.meaning x c.args.txn c.in-Err.fault c.args.store.now c.commit.new.store at st c.in-Err.ensures.loan (c.in-Err.ensures.added x.ended at.stands at.unspent may) (c.in-Err.ensures.sound x.ended at.stands at.unspent may)
    (c.in-Err.ensures.stable x.ended at.stands.list) (λ since needed s. c.in-Err.ensures.survives since needed x.ended at.stands at.unspent may s)

pub returns-in-Err-clause-called : goal.returns-in-Err-clause-called
returns-in-Err-clause-called g c = called_err g.D.Disk.meaning c.args.store.now c.commit.new.store c.in-Err.fault c.requires.unspent c.in-Err.ensures.loan c.in-Err.ensures.cause
