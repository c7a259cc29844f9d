use Rattle.std.proofs.Common.{sym, ◌∙◌}
use Rattle.scan_table.specs.Places.{place}
use Rattle.session_core.proofs.Calls.{acted_as, acted_told, called_look, called_looked, called_unlooked, looked_stays, stayed_at}
use Rattle.session_core.proofs.MakingTables.{first_turns, names_begun}
use Rattle.session_core.proofs.Places.{acted_at, after_at, looked_at, closed}
use Rattle.session_core.proofs.ScanEvents.{no_scan_table}
use Rattle.session_core.proofs.scanning.start_scan.Goals as goal

pub returns-in-Some-clause-acted : goal.returns-in-Some-clause-acted
returns-in-Some-clause-acted g c = λ x at st.
    let M = g.D.Disk.meaning in
    let a = c.args.store.now in
    let b = c.find_named.new.store in
    let stays = looked_stays M x c.args.own a b c.in-Ok.named at c.in-Ok.ensures.looked in
    let names = names_begun x c.args.name.now c.in-Ok.named st (c.in-Ok.ensures.says x.ended at.stands) in
    after_at M x _ (place c.args.who c.open_scan.new.scans) a b c.open_scan.new.store c.open_scan.result stays
    (c.open_scan.ensures.acted x (stayed_at M x c.args.own a b at stays) st (sym names.obj ∙ c.in-Some.is))

pub returns-in-None-clause-acted : goal.returns-in-None-clause-acted
returns-in-None-clause-acted g c = λ x at st.
    let M = g.D.Disk.meaning in
    let a = c.args.store.now in
    let b = c.find_named.new.store in
    let names = names_begun x c.args.name.now c.in-Ok.named st (c.in-Ok.ensures.says x.ended at.stands) in
    let p = place c.args.who c.args.scans.now in
    acted_at M x _ p a b _ (closed a.shape p c.requires.closed)
    (acted_as M x _ a b c.refused.result _ c.refused.ensures
    (acted_told M x _ c.args.own a b c.in-Ok.named _ at c.in-Ok.ensures.looked (first_turns a.shape x _ _ c.args.own st (no_scan_table a.shape x c.args.name.now (sym names.obj ∙ c.in-None.is)) at.own_is)))

pub returns-in-Err-clause-acted : goal.returns-in-Err-clause-acted
returns-in-Err-clause-acted g c = λ x at st.
    let p = place c.args.who c.args.scans.now in
    looked_at g.D.Disk.meaning x _ c.args.own p c.args.store.now c.find_named.new.store c.in-Err.fault at c.in-Err.ensures.looked (closed c.args.store.now.shape p c.requires.closed) (c.in-Err.ensures.sound x.ended at.stands at.unspent)

pub returns-in-Some-clause-called : goal.returns-in-Some-clause-called
returns-in-Some-clause-called g c = called_looked g.D.Disk.meaning c.args.store.now c.find_named.new.store c.open_scan.new.store c.in-Ok.named _ c.requires.unspent c.in-Ok.ensures.looked c.open_scan.ensures.called

pub returns-in-None-clause-called : goal.returns-in-None-clause-called
returns-in-None-clause-called g c = called_look g.D.Disk.meaning c.args.store.now c.find_named.new.store c.in-Ok.named _ c.requires.unspent c.in-Ok.ensures.looked

pub returns-in-Err-clause-called : goal.returns-in-Err-clause-called
returns-in-Err-clause-called g c = called_unlooked g.D.Disk.meaning c.args.store.now c.find_named.new.store c.in-Err.fault c.requires.unspent c.in-Err.ensures.looked
