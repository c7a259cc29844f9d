use Rattle.std.proofs.Common.{Ok, Err}
use Rattle.store_core.proofs.Lookups.{looked_on, looked_err}
use Rattle.shrink_move.specs.declared.outline.Outline.{Outline}
use Rattle.shrink_move.proofs.Knowing.{knows_later}
use Rattle.shrink_move.proofs.Nexts.{has_come}
use Rattle.shrink_move.proofs.next.next_at.Goals as goal

pub returns-clause-looked : goal.returns-clause-looked
returns-clause-looked g c = looked_on g.D.Disk.meaning c.args.store.now c.slot_outline.new.store c.next_of_row.new.store c.in-Ok.own c.next_of_row.result c.in-Ok.ensures.looked (looked_on g.D.Disk.meaning c.slot_outline.new.store c.row_outline.new.store c.next_of_row.new.store c.in-Ok-row_outline.row c.next_of_row.result c.in-Ok-row_outline.ensures.looked c.next_of_row.ensures.looked)

pub returns-clause-says : goal.returns-clause-says
returns-clause-says g c = λ R o cursor skips k f.
    let M = g.D.Disk.meaning in
    let first = knows_later M c.args.store.now c.slot_outline.new.store R o c.args.ground.now (Ok c.in-Ok.own) c.in-Ok.ensures.looked k in
    let own = c.in-Ok.ensures.says R k.holds f.full in
    let row = c.in-Ok-row_outline.ensures.says R c.args.come.now.at.dba c.args.come.now.at.slot first.holds own c.body_of-body.ensures in
    c.next_of_row.ensures.says R o cursor skips (knows_later M c.slot_outline.new.store c.row_outline.new.store R o c.args.ground.now (Ok c.in-Ok-row_outline.row) c.in-Ok-row_outline.ensures.looked first)
    (has_come c.args.ground.now.shape R o skips cursor c.args.come.now c.in-Ok.own c.in-Ok-row_outline.row c.body_of-body.result f own c.body_of-body.ensures row)

pub returns-clause-sound : goal.returns-clause-sound
returns-clause-sound g c = λ R o cursor skips k f u.
    let M = g.D.Disk.meaning in
    let first = knows_later M c.args.store.now c.slot_outline.new.store R o c.args.ground.now (Ok c.in-Ok.own) c.in-Ok.ensures.looked k in
    let own = c.in-Ok.ensures.says R k.holds f.full in
    let row = c.in-Ok-row_outline.ensures.says R c.args.come.now.at.dba c.args.come.now.at.slot first.holds own c.body_of-body.ensures in
    c.next_of_row.ensures.sound R o cursor skips (knows_later M c.slot_outline.new.store c.row_outline.new.store R o c.args.ground.now (Ok c.in-Ok-row_outline.row) c.in-Ok-row_outline.ensures.looked first)
    (has_come c.args.ground.now.shape R o skips cursor c.args.come.now c.in-Ok.own c.in-Ok-row_outline.row c.body_of-body.result f own c.body_of-body.ensures row)

pub returns-in-Err-clause-looked : goal.returns-in-Err-clause-looked
returns-in-Err-clause-looked g c = looked_err {A = Outline} g.D.Disk.meaning c.args.store.now c.slot_outline.new.store c.in-Err.fault c.in-Err.ensures.looked

pub returns-in-Err-clause-sound : goal.returns-in-Err-clause-sound
returns-in-Err-clause-sound g c = λ R o cursor skips k f u. c.in-Err.ensures.sound R k.holds f.full u

pub returns-in-Err-row_outline-clause-looked : goal.returns-in-Err-row_outline-clause-looked
returns-in-Err-row_outline-clause-looked g c = looked_on g.D.Disk.meaning c.args.store.now c.slot_outline.new.store c.row_outline.new.store c.in-Ok.own (Err c.in-Err-row_outline.fault) c.in-Ok.ensures.looked (looked_err {A = Outline} g.D.Disk.meaning c.slot_outline.new.store c.row_outline.new.store c.in-Err-row_outline.fault c.in-Err-row_outline.ensures.looked)

pub returns-in-Err-row_outline-clause-sound : goal.returns-in-Err-row_outline-clause-sound
returns-in-Err-row_outline-clause-sound g c = λ R o cursor skips k f u. c.in-Err-row_outline.ensures.sound R c.args.come.now.at.dba c.args.come.now.at.slot (c.in-Ok.ensures.looked.stays_true R k.holds) (c.in-Ok.ensures.says R k.holds f.full) c.body_of-body.ensures

pub row_outline-requires : goal.row_outline-requires
row_outline-requires g c = record { unspent = c.in-Ok.ensures.looked.cause.kept c.in-Ok.ensures.looked.cause.goes_on }

pub next_of_row-requires-clause-unspent : goal.next_of_row-requires-clause-unspent
next_of_row-requires-clause-unspent g c = c.in-Ok-row_outline.ensures.looked.cause.kept c.in-Ok-row_outline.ensures.looked.cause.goes_on
