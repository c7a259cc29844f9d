use Rattle.std.proofs.Common.{◌≡◌, suc, Some}
use Rattle.redo_model.specs.Model.{lowering_count}
use Rattle.page_set.specs.Folded.{page_of}
use Rattle.lowering.specs.Asked.{lowering_in}
use Rattle.lowering.proofs.Knowing.{answer_on}
use Rattle.lowering.proofs.Told.{lowering_read, lowering_told, space_there}
use Rattle.lowering.proofs.draft.lowering_of.Goals as goal

pub returns-clause-says : goal.returns-clause-says
returns-clause-says g c = λ R o k. answer_on c.ask.result (λ n. lowering_in (page_of c.args.store.now.shape R 3) ≡ Some n) (λ n. n ≡ suc (lowering_count R))
    (λ n e. lowering_told g.D.Disk.meaning c.args.store.now R o n c.args.ground.now k e) (c.ask.ensures.says R k.holds)

pub returns-clause-sound : goal.returns-clause-sound
returns-clause-sound g c = λ R o k u. c.ask.ensures.sound R (suc (lowering_count R)) k.holds u (space_there g.D.Disk.meaning c.args.store.now R o c.args.ground.now k) (lowering_read g.D.Disk.meaning c.args.store.now R o c.args.ground.now k)
