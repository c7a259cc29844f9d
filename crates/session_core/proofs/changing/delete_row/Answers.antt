use Rattle.session_core.proofs.Changes.{may_act}
use Rattle.session_core.proofs.Deletes.{was_found, delete_acted, delete_called}
use Rattle.std.proofs.Common.{ap, ◌∙◌}
use Rattle.session_core.specs.Changed.{in_table}
use Rattle.session_core.proofs.Blocks.{change_notes, delete_blocks}
use Rattle.session_core.proofs.changing.delete_row.Goals as goal

pub returns-clause-acted : goal.returns-clause-acted
returns-clause-acted g c = λ x name target at by k e.
    let M = g.D.Disk.meaning in
    let a = c.args.store.now in
    delete_acted M x name target c.args.work.now c.args.who c.args.own a c.delete-made.new.store c.args.place.now c.delete-made.result c.told_delete.result c.told_delete.ensures at by k e c.delete-made.ensures.loan
    (c.delete-made.ensures.answers x.ended c.args.work.now.row at.stands (may_act M x c.args.who c.args.own a at by) (was_found M x _ c.args.work.now c.args.own a c.args.place.now at k e))

pub returns-clause-called : goal.returns-clause-called
returns-clause-called g c = delete_called g.D.Disk.meaning c.args.work.now c.args.own c.args.store.now c.delete-made.new.store c.delete-made.result c.told_delete.result c.told_delete.ensures c.requires.unspent c.delete-made.ensures.loan c.delete-made.ensures.cause

pub returns-clause-noted : goal.returns-clause-noted
returns-clause-noted g c = λ x name target at by k e kept n.
    let M = g.D.Disk.meaning in
    let a = c.args.store.now in
    change_notes M x.ended c.args.who c.args.own _ a c.delete-made.new.store c.delete-made.result c.in_table.result c.args.changed.now c.note_made.new.changed c.note_made.ensures n
    (c.delete-made.ensures.answers x.ended c.args.work.now.row at.stands (may_act M x c.args.who c.args.own a at by) (was_found M x _ c.args.work.now c.args.own a c.args.place.now at k e))
    (delete_blocks M x name target c.args.work.now c.args.own a c.args.place.now c.in_table.result (c.in_table.ensures ∙ ap (in_table c.args.work.now.obj) c.home_blocks.ensures) at k e kept)
