use Rattle.std.proofs.Common.{sym, subst}
use Rattle.session_core.specs.declared.turned.Acted.{Acted}
use Rattle.session_core.specs.Acked.{AcksTurned}
use Rattle.std.specs.Prelude.{Some, None}
use Rattle.session_core.proofs.Calls.{called_same, acted_as, at_own}
use Rattle.session_core.proofs.Ends.{nothing_committed}
use Rattle.session_core.proofs.ending.commit_own.Goals as goal

pub returns-in-Some-clause-acted : goal.returns-in-Some-clause-acted
returns-in-Some-clause-acted g c = λ x at st. c.commit_txn.ensures.acted x (at_own g.D.Disk.meaning x c.args.own (Some c.in-Some.txn) c.args.store.now c.in-Some.is at) st

pub returns-in-Some-clause-acked : goal.returns-in-Some-clause-acked
returns-in-Some-clause-acked g c = λ x at st. c.commit_txn.ensures.acked x (at_own g.D.Disk.meaning x c.args.own (Some c.in-Some.txn) c.args.store.now c.in-Some.is at) st

pub returns-in-None-clause-acked : goal.returns-in-None-clause-acked
returns-in-None-clause-acked g c = λ x at st. subst (λ (a : Acted). AcksTurned c.args.store.now a.turned) (sym c.over.ensures) tt

pub returns-in-None-clause-acted : goal.returns-in-None-clause-acted
returns-in-None-clause-acted g c = λ x at st.
    acted_as g.D.Disk.meaning x _ c.args.store.now c.args.store.now c.over.result _ c.over.ensures (nothing_committed g.D.Disk.meaning x c.args.store.now (at_own g.D.Disk.meaning x c.args.own None c.args.store.now c.in-None.is at) st)

pub returns-in-None-clause-called : goal.returns-in-None-clause-called
returns-in-None-clause-called g c = called_same g.D.Disk.meaning c.args.store.now _ c.requires.unspent
