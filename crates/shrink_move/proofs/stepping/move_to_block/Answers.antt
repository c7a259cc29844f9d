use Rattle.std.proofs.Common.{Ok}
use Rattle.redo_model.specs.Model.{image}
use Rattle.store_core.proofs.Additions.{tried_on, tried_none}
use Rattle.shrink_move.specs.MoveLaws.{block_fills}
use Rattle.shrink_move.specs.Starts.{store_part}
use Rattle.shrink_move.proofs.Carried.{look_failed, moved_on}
use Rattle.shrink_move.proofs.Knowing.{knows_later, lawful_here}
use Rattle.shrink_move.proofs.MoveLaw.{rows_move_to_blocks}
use Rattle.shrink_move.proofs.stepping.move_to_block.Goals as goal

pub returns-in-Ok-clause-moves : goal.returns-in-Ok-clause-moves
returns-in-Ok-clause-moves g c = λ R cursor place skips k m w.
    let M = g.D.Disk.meaning in
    let a = c.args.store.now in
    let b = c.to_block.new.store in
    let sh = c.args.ground.now.shape in
    let o = c.args.obj in
    let d = c.args.at.now.dba in
    let i = c.args.at.now.slot in
    let n = (image R d i).row in
    let gs = block_fills R d i c.args.target in
    moved_on M sh R o n gs a b c.carry_out.new.store c.in-Ok.moving c.carry_out.result k.holds c.in-Ok.ensures.looked
    (c.carry_out.ensures.moves R o n gs (knows_later M a b R o c.args.ground.now (Ok c.in-Ok.moving) c.in-Ok.ensures.looked k) (c.in-Ok.ensures.says R o cursor place skips k w) (rows_move_to_blocks sh R o skips cursor place d i c.args.target (lawful_here M a R o c.args.ground.now k) k.table m w))

pub returns-in-Ok-clause-tried : goal.returns-in-Ok-clause-tried
returns-in-Ok-clause-tried g c = tried_on g.D.Disk.meaning c.args.store.now c.to_block.new.store c.carry_out.new.store c.in-Ok.moving (store_part c.carry_out.result) c.in-Ok.ensures.looked c.carry_out.ensures.tried

pub returns-in-Err-clause-moves : goal.returns-in-Err-clause-moves
returns-in-Err-clause-moves g c = λ R cursor place skips k m w. look_failed g.D.Disk.meaning R c.args.store.now c.to_block.new.store c.in-Err.fault k.holds c.in-Err.ensures.looked (λ u. c.in-Err.ensures.sound R c.args.obj cursor place skips k w)

pub returns-in-Err-clause-tried : goal.returns-in-Err-clause-tried
returns-in-Err-clause-tried g c = tried_none g.D.Disk.meaning c.args.store.now c.to_block.new.store c.in-Err.fault c.in-Err.ensures.looked

pub carry_out-requires : goal.carry_out-requires
carry_out-requires g c = record { unspent = c.in-Ok.ensures.looked.cause.kept c.in-Ok.ensures.looked.cause.goes_on }
