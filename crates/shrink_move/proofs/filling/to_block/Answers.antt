use Rattle.std.proofs.Common.{Ok, length}
use Rattle.redo_model.specs.Model.{image}
use Rattle.change_laws.specs.Types.{free_place, holder_of}
use Rattle.row_change.specs.Standing.{told_stand}
use Rattle.store_core.proofs.Lookups.{looked_on, looked_err}
use Rattle.shrink_laws.specs.Stops.{row_image}
use Rattle.shrink_move.specs.declared.draft.Moving.{Moving}
use Rattle.shrink_move.specs.declared.outline.Outline.{Outline}
use Rattle.shrink_move.specs.Drafting.{IsMoving}
use Rattle.shrink_move.specs.MoveLaws.{block_fills}
use Rattle.shrink_move.specs.Moves.{to_block_fills}
use Rattle.shrink_move.proofs.Homes.{block_moving, stand_home, target_home}
use Rattle.shrink_move.proofs.Knowing.{allowed_here, knows_later}
use Rattle.shrink_move.proofs.Nexts.{answer_on}
use Rattle.shrink_move.proofs.filling.to_block.Goals as goal

pub returns-clause-looked : goal.returns-clause-looked
returns-clause-looked g c = looked_on g.D.Disk.meaning c.args.store.now c.slot_outline.new.store c.from_stand.new.store c.in-Ok.own c.from_stand.result c.in-Ok.ensures.looked c.from_stand.ensures.looked

pub returns-clause-says : goal.returns-clause-says
returns-clause-says g c = λ R o cursor place skips k w.
    let M = g.D.Disk.meaning in
    let sh = c.args.ground.now.shape in
    let d = c.args.at.now.dba in
    let i = c.args.at.now.slot in
    let x = told_stand c.row_stand-stand.result in
    let h = allowed_here M c.args.store.now R o c.args.ground.now k in
    let own = c.in-Ok.ensures.says R k.holds w.finds.full in
    let later = knows_later M c.args.store.now c.slot_outline.new.store R o c.args.ground.now (Ok c.in-Ok.own) c.in-Ok.ensures.looked k in
    answer_on c.from_stand.result (λ (m : Moving). IsMoving R m c.in-Ok.own.row (to_block_fills c.in-Ok.own.row x (free_place R c.args.target) (image R (holder_of x).dba (holder_of x).slot).bytes)) (λ (m : Moving). IsMoving R m (image R d i).row (block_fills R d i c.args.target))
    (λ m y. block_moving R d i c.args.target c.in-Ok.own x m own c.row_stand-stand.ensures y)
    (c.from_stand.ensures.says R o later (stand_home sh R d i c.in-Ok.own x h w.finds.full own c.row_stand-stand.ensures) (target_home sh R o place (length (row_image R d i).bytes) c.args.target h k.table w.first))

pub returns-clause-sound : goal.returns-clause-sound
returns-clause-sound g c = λ R o cursor place skips k w.
    let M = g.D.Disk.meaning in
    let sh = c.args.ground.now.shape in
    let d = c.args.at.now.dba in
    let i = c.args.at.now.slot in
    let h = allowed_here M c.args.store.now R o c.args.ground.now k in
    let own = c.in-Ok.ensures.says R k.holds w.finds.full in
    let later = knows_later M c.args.store.now c.slot_outline.new.store R o c.args.ground.now (Ok c.in-Ok.own) c.in-Ok.ensures.looked k in
    c.from_stand.ensures.sound R o later (stand_home sh R d i c.in-Ok.own (told_stand c.row_stand-stand.result) h w.finds.full own c.row_stand-stand.ensures) (target_home sh R o place (length (row_image R d i).bytes) c.args.target h k.table w.first) (c.in-Ok.ensures.looked.cause.kept c.requires.unspent)

pub returns-in-Err-clause-looked : goal.returns-in-Err-clause-looked
returns-in-Err-clause-looked g c = looked_err {A = Outline} g.D.Disk.meaning c.args.store.now c.slot_outline.new.store c.in-Err.fault c.in-Err.ensures.looked

pub returns-in-Err-clause-sound : goal.returns-in-Err-clause-sound
returns-in-Err-clause-sound g c = λ R o cursor place skips k w. c.in-Err.ensures.sound R k.holds w.finds.full c.requires.unspent
