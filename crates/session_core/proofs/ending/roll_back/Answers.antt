use Rattle.std.specs.Prelude.{Some, None}
use Rattle.session_core.proofs.Calls.{called_same, acted_as, at_own}
use Rattle.session_core.proofs.Ends.{nothing_rolled, rolls_back, rolls_own, back_begins}
use Rattle.session_core.proofs.Blocks.{noted_as, noted_same}
use Rattle.session_core.proofs.ending.roll_back.Goals as goal

pub returns-in-Some-clause-acted : goal.returns-in-Some-clause-acted
returns-in-Some-clause-acted g c = λ x st k at h.
    let now = at_own g.D.Disk.meaning x c.args.own (Some c.in-Some.txn) c.args.store.now c.in-Some.is at in
    c.take_back.ensures.acted x st (rolls_back st c.in-Some.txn (rolls_own st c.args.own (Some c.in-Some.txn) c.in-Some.is k)) now (back_begins g.D.Disk.meaning x c.in-Some.txn c.args.store.now now h)

pub returns-in-None-clause-acted : goal.returns-in-None-clause-acted
returns-in-None-clause-acted g c = λ x st k at h.
    acted_as g.D.Disk.meaning x st c.args.store.now c.args.store.now c.over.result _ c.over.ensures
    (nothing_rolled g.D.Disk.meaning x st c.args.store.now (rolls_own st c.args.own None c.in-None.is k) (at_own g.D.Disk.meaning x c.args.own None c.args.store.now c.in-None.is at) h)

pub returns-in-None-clause-called : goal.returns-in-None-clause-called
returns-in-None-clause-called g c = called_same g.D.Disk.meaning c.args.store.now _ c.requires.unspent

pub returns-in-Some-clause-noted : goal.returns-in-Some-clause-noted
returns-in-Some-clause-noted g c = λ x at n. c.take_back.ensures.noted x (at_own g.D.Disk.meaning x c.args.own (Some c.in-Some.txn) c.args.store.now c.in-Some.is at) n

pub returns-in-None-clause-noted : goal.returns-in-None-clause-noted
returns-in-None-clause-noted g c = λ x at n. noted_as g.D.Disk.meaning x.ended c.args.store.now c.args.changed.now _ n (noted_same g.D.Disk.meaning x.ended c.args.store.now at.stands)
