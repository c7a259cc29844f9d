use Rattle.std.proofs.Common.{Ok}
use Rattle.redo_model.specs.Model.{at_place, image}
use Rattle.store_core.proofs.Lookups.{looked_on, looked_err}
use Rattle.shrink_move.specs.declared.draft.Moving.{Moving}
use Rattle.shrink_move.specs.declared.outline.Outline.{Outline}
use Rattle.shrink_move.specs.Drafting.{IsMoving}
use Rattle.shrink_move.specs.MoveLaws.{body_fills}
use Rattle.shrink_move.specs.Moves.{to_body_fills}
use Rattle.shrink_move.proofs.Homes.{body_home, body_moving, head_home}
use Rattle.shrink_move.proofs.Knowing.{allowed_here, knows_later}
use Rattle.shrink_move.proofs.Nexts.{answer_on}
use Rattle.shrink_move.proofs.filling.to_body.Goals as goal

pub returns-clause-looked : goal.returns-clause-looked
returns-clause-looked g c = looked_on g.D.Disk.meaning c.args.store.now c.slot_outline.new.store c.from_head.new.store c.in-Ok.own c.from_head.result c.in-Ok.ensures.looked c.from_head.ensures.looked

pub returns-clause-says : goal.returns-clause-says
returns-clause-says g c = λ R o cursor place skips k w.
    let M = g.D.Disk.meaning in
    let sh = c.args.ground.now.shape in
    let d = c.args.at.now.dba in
    let i = c.args.at.now.slot in
    let b = c.args.body.now in
    let h = allowed_here M c.args.store.now R o c.args.ground.now k in
    let own = c.in-Ok.ensures.says R k.holds w.finds.full in
    let later = knows_later M c.args.store.now c.slot_outline.new.store R o c.args.ground.now (Ok c.in-Ok.own) c.in-Ok.ensures.looked k in
    answer_on c.from_head.result (λ (m : Moving). IsMoving R m c.in-Ok.own.row (to_body_fills c.in-Ok.own.row (at_place d i) b (image R b.dba b.slot).bytes)) (λ (m : Moving). IsMoving R m (image R d i).row (body_fills R d i b))
    (λ m y. body_moving R d i b c.in-Ok.own m own w.head w.link y)
    (c.from_head.ensures.says R o later (head_home sh R o skips cursor place d i b h w) (body_home sh R o skips cursor place d i b h w))

pub returns-clause-sound : goal.returns-clause-sound
returns-clause-sound g c = λ R o cursor place skips k w.
    let M = g.D.Disk.meaning in
    let sh = c.args.ground.now.shape in
    let d = c.args.at.now.dba in
    let i = c.args.at.now.slot in
    let b = c.args.body.now in
    let h = allowed_here M c.args.store.now R o c.args.ground.now k in
    let later = knows_later M c.args.store.now c.slot_outline.new.store R o c.args.ground.now (Ok c.in-Ok.own) c.in-Ok.ensures.looked k in
    c.from_head.ensures.sound R o later (head_home sh R o skips cursor place d i b h w) (body_home sh R o skips cursor place d i b h w) (c.in-Ok.ensures.looked.cause.kept c.requires.unspent)

pub returns-in-Err-clause-looked : goal.returns-in-Err-clause-looked
returns-in-Err-clause-looked g c = looked_err {A = Outline} g.D.Disk.meaning c.args.store.now c.slot_outline.new.store c.in-Err.fault c.in-Err.ensures.looked

pub returns-in-Err-clause-sound : goal.returns-in-Err-clause-sound
returns-in-Err-clause-sound g c = λ R o cursor place skips k w. c.in-Err.ensures.sound R k.holds w.finds.full c.requires.unspent
