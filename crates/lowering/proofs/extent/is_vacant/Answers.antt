use Rattle.std.proofs.Common.{◌≡◌, Ok, refl, arith}
use Rattle.redo_model.specs.Model.{is_vacant}
use Rattle.sort_laws.proofs.SortsLaw.{at_exists}
use Rattle.store_core.proofs.Lookups.{looked_on, looked_err}
use Rattle.lowering.specs.Walks.{DoPass, is_free}
use Rattle.lowering.proofs.Knowing.{answer_on, knows_later}
use Rattle.lowering.proofs.Places.{near, some_blocks}
use Rattle.lowering.proofs.Freeing.{all_data, begins, vacant_extent}
use Rattle.lowering.proofs.extent.is_vacant.Goals as goal

pub returns-in-Err-clause-looked : goal.returns-in-Err-clause-looked
returns-in-Err-clause-looked g c = looked_err g.D.Disk.meaning c.args.store.now c.block_of.new.store c.in-Err.fault c.in-Err.ensures.looked

pub returns-in-Err-clause-sound : goal.returns-in-Err-clause-sound
returns-in-Err-clause-sound g c = λ R o k l u. c.in-Err.ensures.sound R o k l (some_blocks c.args.ground.now.shape 0 c.requires (omega arith)) u

pub returns-clause-looked : goal.returns-clause-looked
returns-clause-looked g c = looked_on g.D.Disk.meaning c.args.store.now c.block_of.new.store c.are_free.new.store c.in-Ok.first c.are_free.result c.in-Ok.ensures.looked c.are_free.ensures.looked

pub returns-clause-says : goal.returns-clause-says
returns-clause-says g c = λ R o e k at.
    let sh = c.args.ground.now.shape in
    let b = begins sh R o c.args.index c.in-Ok.first e (c.in-Ok.ensures.says R o k) at in
    let q = knows_later g.D.Disk.meaning c.args.store.now c.block_of.new.store R o c.args.ground.now (Ok c.in-Ok.first) c.in-Ok.ensures.looked k in
    answer_on c.are_free.result (DoPass (is_free sh R) c.in-Ok.first c.head_blocks-head.result sh.extent) (λ y. y ≡ is_vacant sh R c.args.index e.number)
    (λ y p. vacant_extent sh R c.args.index e.number c.in-Ok.first c.head_blocks-head.result sh.extent y b.block c.head_blocks-head.ensures.value refl p)
    (c.are_free.ensures.says R o c.args.index e q b (all_data sh c.args.index c.head_blocks-head.result sh.extent c.head_blocks-head.ensures.value refl))

pub returns-clause-sound : goal.returns-clause-sound
returns-clause-sound g c = λ R o k l u.
    let sh = c.args.ground.now.shape in
    let x = at_exists _ c.args.index l in
    let b = begins sh R o c.args.index c.in-Ok.first x.0 (c.in-Ok.ensures.says R o k) x.1 in
    let q = knows_later g.D.Disk.meaning c.args.store.now c.block_of.new.store R o c.args.ground.now (Ok c.in-Ok.first) c.in-Ok.ensures.looked k in
    c.are_free.ensures.sound R o c.args.index x.0 q b (all_data sh c.args.index c.head_blocks-head.result sh.extent c.head_blocks-head.ensures.value refl)

pub are_free-requires-clause-first : goal.are_free-requires-clause-first
are_free-requires-clause-first g c = c.in-Ok.ensures.most

pub are_free-requires-clause-few : goal.are_free-requires-clause-few
are_free-requires-clause-few g c = near c.args.ground.now.shape c.args.ground.now.shape.extent c.requires (omega arith)

pub are_free-requires-clause-unspent : goal.are_free-requires-clause-unspent
are_free-requires-clause-unspent g c = c.in-Ok.ensures.looked.cause.kept c.in-Ok.ensures.looked.cause.goes_on
