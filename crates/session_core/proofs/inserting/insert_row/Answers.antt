use Rattle.session_core.proofs.Changes.{may_act}
use Rattle.session_core.proofs.NewRows.{may_insert, insert_acted, insert_called}
use Rattle.std.proofs.Common.{ap, ◌∙◌}
use Rattle.session_core.specs.Changed.{in_table}
use Rattle.session_core.proofs.Blocks.{change_notes, insert_blocks}
use Rattle.session_core.proofs.inserting.insert_row.Goals as goal

pub returns-clause-acted : goal.returns-clause-acted
returns-clause-acted g c = λ x name label hint at by size w f.
    let M = g.D.Disk.meaning in
    let a = c.args.store.now in
    insert_acted M x name label c.args.bytes.now c.args.who c.args.own.now c.args.obj.now c.args.at hint a c.insert-made.new.store c.insert-made.result c.told_insert.result c.told_insert.ensures at by size w f c.insert-made.ensures.loan
    (c.insert-made.ensures.answers x.ended at.stands (may_act M x c.args.who c.args.own.now a at by) (may_insert M x name label c.args.bytes.now c.args.own.now c.args.obj.now c.args.at hint a at size w f))

pub returns-clause-called : goal.returns-clause-called
returns-clause-called g c = insert_called g.D.Disk.meaning c.args.obj.now c.args.own.now c.args.store.now c.insert-made.new.store c.insert-made.result c.told_insert.result c.told_insert.ensures c.requires.unspent c.insert-made.ensures.loan c.insert-made.ensures.cause

pub returns-clause-noted : goal.returns-clause-noted
returns-clause-noted g c = λ x name label hint at by size w f e.
    let M = g.D.Disk.meaning in
    let a = c.args.store.now in
    change_notes M x.ended c.args.who c.args.own.now _ a c.insert-made.new.store c.insert-made.result c.in_table.result c.args.changed.now c.note_made.new.changed c.note_made.ensures e
    (c.insert-made.ensures.answers x.ended at.stands (may_act M x c.args.who c.args.own.now a at by) (may_insert M x name label c.args.bytes.now c.args.own.now c.args.obj.now c.args.at hint a at size w f))
    (insert_blocks a.shape x.ended c.args.obj.now c.args.at c.args.bytes.now c.in_table.result (c.in_table.ensures ∙ ap (in_table c.args.obj.now) c.one.ensures))
