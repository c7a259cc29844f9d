use Rattle.shrink_move.specs.declared.shrink.Shrink.{Shrink}
use Rattle.session_core.proofs.Calls.{called_ok}
use Rattle.session_core.proofs.MakingTables.{is_table}
use Rattle.session_core.proofs.ShrinkBegins.{begun_acted, unbegun_acted, unshrunk_called}
use Rattle.session_core.proofs.shrinking.try_shrink.Goals as goal

pub returns-in-Ok-clause-acted : goal.returns-in-Ok-clause-acted
returns-in-Ok-clause-acted g c = λ x name compact scans at st busy there.
    let M = g.D.Disk.meaning in
    let a = c.args.store.now in
    let b = c.start.new.store in
    let looked = c.in-Ok.ensures.looked in
    begun_acted M x name compact c.args.own c.args.busy c.args.obj c.in-Ok.shrink c.is_some.result c.is_log_full-full.result c.test_movement-tested.result c.begun_if.result a b c.begun_if.ensures c.test_movement-tested.ensures c.is_some.ensures at st busy there
    (c.in-Ok.ensures.starts x.ended at.stands (is_table M x c.args.own a name c.args.obj at there)) (c.is_log_full-full.ensures x.ended (looked.list x.ended at.stands.list)) looked scans

pub returns-in-Ok-clause-called : goal.returns-in-Ok-clause-called
returns-in-Ok-clause-called g c = called_ok {A = Unit {0}} g.D.Disk.meaning c.args.store.now c.start.new.store tt _ c.requires.unspent c.in-Ok.ensures.looked.loan c.in-Ok.ensures.looked.cause

pub returns-in-Err-clause-acted : goal.returns-in-Err-clause-acted
returns-in-Err-clause-acted g c = λ x name compact scans at st busy there.
    let M = g.D.Disk.meaning in
    let a = c.args.store.now in
    let t = is_table M x c.args.own a name c.args.obj at there in
    unbegun_acted M x name compact c.args.own c.args.obj c.in-Err.fault c.not_shrunk.result a c.start.new.store c.not_shrunk.ensures at st there (c.in-Err.ensures.starts x.ended at.stands t) (c.in-Err.ensures.sound x.ended at.stands t at.unspent) c.in-Err.ensures.looked scans

pub returns-in-Err-clause-called : goal.returns-in-Err-clause-called
returns-in-Err-clause-called g c = unshrunk_called Shrink g.D.Disk.meaning c.args.own c.in-Err.fault c.not_shrunk.result c.args.store.now c.start.new.store c.not_shrunk.ensures c.requires.unspent c.in-Err.ensures.looked.loan c.in-Err.ensures.looked.cause
