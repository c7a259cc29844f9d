use Rattle.std.proofs.Common.{◌≡◌}
use Rattle.redo_model.specs.Model.{image}
use Rattle.store_core.proofs.Lookups.{looked_same}
use Rattle.shrink_laws.specs.Stops.{row_image}
use Rattle.shrink_move.specs.Asked.{outline_of}
use Rattle.shrink_move.proofs.Nexts.{answer_on, row_none, row_of_body, row_there}
use Rattle.shrink_move.proofs.outline.row_outline.Goals as goal

pub returns-in-None-clause-looked : goal.returns-in-None-clause-looked
returns-in-None-clause-looked g c = looked_same g.D.Disk.meaning c.args.store.now _ c.requires.unspent

pub returns-in-None-clause-says : goal.returns-in-None-clause-says
returns-in-None-clause-says g c = λ R b k t e h. row_none R b k c.args.own.now c.args.body.now c.in-None.is e h

pub returns-in-Some-clause-says : goal.returns-in-Some-clause-says
returns-in-Some-clause-says g c = λ R b k t e h. answer_on c.slot_outline.result (λ x. x ≡ outline_of (image R c.in-Some.at.dba c.in-Some.at.slot)) (λ x. x ≡ outline_of (row_image R b k))
    (λ x r. row_of_body R b k c.args.own.now c.args.body.now c.in-Some.at x c.in-Some.is e h r)
    (c.slot_outline.ensures.says R t (row_there c.args.store.now.shape R b k c.args.own.now c.args.body.now c.in-Some.at t.lawful.allowed c.in-Some.is e h))

pub returns-in-Some-clause-sound : goal.returns-in-Some-clause-sound
returns-in-Some-clause-sound g c = λ R b k t e h. c.slot_outline.ensures.sound R t (row_there c.args.store.now.shape R b k c.args.own.now c.args.body.now c.in-Some.at t.lawful.allowed c.in-Some.is e h) c.requires.unspent
