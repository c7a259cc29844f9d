use Rattle.std.proofs.Common.{sym, ◌∙◌}
use Rattle.session_core.proofs.Calls.{acted_as, acted_told, acted_after, acted_looked, called_look, called_looked, called_unlooked, looked_stays, stayed_at}
use Rattle.session_core.proofs.MakingTables.{first_turns, names_begun}
use Rattle.session_core.proofs.Usages.{no_usage_table}
use Rattle.session_core.proofs.counting.tell_usage.Goals as goal

pub returns-in-Some-clause-acted : goal.returns-in-Some-clause-acted
returns-in-Some-clause-acted g c = λ x at st.
    let M = g.D.Disk.meaning in
    let a = c.args.store.now in
    let b = c.find_named.new.store in
    let stays = looked_stays M x c.args.own a b c.in-Ok.named at c.in-Ok.ensures.looked in
    let names = names_begun x c.args.name.now c.in-Ok.named st (c.in-Ok.ensures.says x.ended at.stands) in
    acted_after M x _ a b c.count_table.new.store c.count_table.result stays (c.count_table.ensures.acted x (stayed_at M x c.args.own a b at stays) st (sym names.obj ∙ c.in-Some.is))

pub returns-in-None-clause-acted : goal.returns-in-None-clause-acted
returns-in-None-clause-acted g c = λ x at st.
    let M = g.D.Disk.meaning in
    let a = c.args.store.now in
    let b = c.find_named.new.store in
    let names = names_begun x c.args.name.now c.in-Ok.named st (c.in-Ok.ensures.says x.ended at.stands) in
    acted_as M x _ a b c.refused.result _ c.refused.ensures
    (acted_told M x _ c.args.own a b c.in-Ok.named _ at c.in-Ok.ensures.looked (first_turns a.shape x _ _ c.args.own st (no_usage_table a.shape x c.args.name.now (sym names.obj ∙ c.in-None.is)) at.own_is))

pub returns-in-Err-clause-acted : goal.returns-in-Err-clause-acted
returns-in-Err-clause-acted g c = λ x at st. acted_looked g.D.Disk.meaning x _ c.args.own c.args.store.now c.find_named.new.store c.in-Err.fault at c.in-Err.ensures.looked (c.in-Err.ensures.sound x.ended at.stands at.unspent)

pub returns-in-Some-clause-called : goal.returns-in-Some-clause-called
returns-in-Some-clause-called g c = called_looked g.D.Disk.meaning c.args.store.now c.find_named.new.store c.count_table.new.store c.in-Ok.named _ c.requires.unspent c.in-Ok.ensures.looked c.count_table.ensures.called

pub returns-in-None-clause-called : goal.returns-in-None-clause-called
returns-in-None-clause-called g c = called_look g.D.Disk.meaning c.args.store.now c.find_named.new.store c.in-Ok.named _ c.requires.unspent c.in-Ok.ensures.looked

pub returns-in-Err-clause-called : goal.returns-in-Err-clause-called
returns-in-Err-clause-called g c = called_unlooked g.D.Disk.meaning c.args.store.now c.find_named.new.store c.in-Err.fault c.requires.unspent c.in-Err.ensures.looked
