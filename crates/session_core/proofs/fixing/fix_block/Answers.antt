use Rattle.session_core.proofs.Calls.{acted_as, called_ok}
use Rattle.session_core.proofs.Fixings.{fixed_acted, fix_refused, fix_called}
use Rattle.session_core.proofs.MakingTables.{is_table}
use Rattle.session_core.proofs.fixing.fix_block.Goals as goal

pub returns-in-Ok-clause-acted : goal.returns-in-Ok-clause-acted
returns-in-Ok-clause-acted g c = λ x name at h there few.
    let M = g.D.Disk.meaning in
    let a = c.args.store.now in
    let b = c.fix_status.new.store in
    let i = is_table M x c.args.own a name c.args.obj at there in
    acted_as M x _ a b c.over.result _ c.over.ensures
    (fixed_acted M x name c.args.obj c.args.block c.args.value c.args.own c.in-Ok.class a b at h there few c.in-Ok.ensures.tried.loan (c.in-Ok.ensures.tried.stable x.ended at.stands.list) (c.in-Ok.ensures.fixes x.ended at.stands i))

pub returns-in-Ok-clause-called : goal.returns-in-Ok-clause-called
returns-in-Ok-clause-called g c = called_ok {A = Unit {0}} g.D.Disk.meaning c.args.store.now c.fix_status.new.store tt _ c.requires.unspent c.in-Ok.ensures.tried.loan c.in-Ok.ensures.tried.cause

pub returns-in-Err-clause-acted : goal.returns-in-Err-clause-acted
returns-in-Err-clause-acted g c = λ x name at h there few.
    let M = g.D.Disk.meaning in
    let a = c.args.store.now in
    let i = is_table M x c.args.own a name c.args.obj at there in
    fix_refused M x name c.args.obj c.args.block c.args.value c.args.own c.in-Err.fault a c.fix_status.new.store c.not_fixed.result c.not_fixed.ensures at h there few c.in-Err.ensures.tried.loan (c.in-Err.ensures.tried.stable x.ended at.stands.list) (c.in-Err.ensures.fixes x.ended at.stands i)

pub returns-in-Err-clause-called : goal.returns-in-Err-clause-called
returns-in-Err-clause-called g c = fix_called g.D.Disk.meaning c.args.own c.args.store.now c.fix_status.new.store c.in-Err.fault c.not_fixed.result c.not_fixed.ensures c.requires.unspent c.in-Err.ensures.tried
