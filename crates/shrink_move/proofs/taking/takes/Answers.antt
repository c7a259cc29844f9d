use Rattle.std.proofs.Common.{◌≡◌, Some}
use Rattle.seg_words.specs.Types.{Shrink}
use Rattle.redo_model.specs.Model.{pctfree_of, takes_row}
use Rattle.page_set.specs.Folded.{page_of}
use Rattle.shrink_move.specs.Asked.{takes_in}
use Rattle.shrink_move.proofs.Takers.{takes_told, takes_read, takes_has}
use Rattle.shrink_move.proofs.Nexts.{answer_on}
use Rattle.shrink_move.proofs.taking.takes.Goals as goal

pub returns-clause-says : goal.returns-clause-says
returns-clause-says g c = λ R o k x. answer_on c.ask.result (λ y. takes_in c.args.ground.now.table c.args.ground.now.segment.pctfree c.args.len (page_of c.args.store.now.shape R c.args.dba) ≡ Some y) (λ y. y ≡ takes_row R (pctfree_of R o) c.args.dba c.args.len Shrink)
    (λ y e. takes_told g.D.Disk.meaning c.args.store.now R o c.args.dba c.args.len c.args.ground.now y k x e) (c.ask.ensures.says R k.holds)

pub returns-clause-sound : goal.returns-clause-sound
returns-clause-sound g c = λ R o k x u. c.ask.ensures.sound R (takes_row R (pctfree_of R o) c.args.dba c.args.len Shrink) k.holds u (takes_has g.D.Disk.meaning c.args.store.now R o c.args.dba c.args.ground.now k x) (takes_read g.D.Disk.meaning c.args.store.now R o c.args.dba c.args.len c.args.ground.now k x)
