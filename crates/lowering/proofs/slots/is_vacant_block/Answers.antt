use Rattle.std.proofs.Common.{◌≡◌, Some}
use Rattle.redo_model.specs.Model.{is_vacant_block}
use Rattle.page_set.specs.Folded.{page_of}
use Rattle.lowering.specs.Asked.{vacant_in}
use Rattle.lowering.proofs.Knowing.{answer_on}
use Rattle.lowering.proofs.Vacancy.{vacant_has, vacant_read, vacant_told}
use Rattle.lowering.proofs.slots.is_vacant_block.Goals as goal

pub returns-clause-says : goal.returns-clause-says
returns-clause-says g c = λ R o k x. answer_on c.ask.result (λ y. vacant_in c.args.ground.now.table (page_of c.args.store.now.shape R c.args.dba) ≡ Some y) (λ y. y ≡ is_vacant_block R c.args.dba)
    (λ y e. vacant_told g.D.Disk.meaning c.args.store.now R o c.args.dba c.args.ground.now y k x e) (c.ask.ensures.says R k.holds)

pub returns-clause-sound : goal.returns-clause-sound
returns-clause-sound g c = λ R o k x u. c.ask.ensures.sound R (is_vacant_block R c.args.dba) k.holds u (vacant_has g.D.Disk.meaning c.args.store.now R o c.args.dba c.args.ground.now k x) (vacant_read g.D.Disk.meaning c.args.store.now R o c.args.dba c.args.ground.now k x)
