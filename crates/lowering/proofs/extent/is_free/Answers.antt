use Rattle.std.proofs.Common.{◌≡◌}
use Rattle.redo_model.specs.Model.{is_vacant_block}
use Rattle.store_core.proofs.Lookups.{looked_same}
use Rattle.lowering.specs.Walks.{is_free}
use Rattle.lowering.proofs.Knowing.{answer_on}
use Rattle.lowering.proofs.Freeing.{free_unformatted, free_vacant, row_here}
use Rattle.lowering.proofs.extent.is_free.Goals as goal

pub returns-then-code-eq0-clause-looked : goal.returns-then-code-eq0-clause-looked
returns-then-code-eq0-clause-looked g c = looked_same g.D.Disk.meaning c.args.store.now _ c.requires.unspent

pub returns-then-code-eq0-clause-says : goal.returns-then-code-eq0-clause-says
returns-then-code-eq0-clause-says g c = λ R o k m e. free_unformatted g.D.Disk.meaning c.args.store.now R o c.args.dba c.args.code c.args.ground.now k e c.if-code-eq0.true

pub returns-clause-says : goal.returns-clause-says
returns-clause-says g c = λ R o k m e. answer_on c.is_vacant_block.result (λ y. y ≡ is_vacant_block R c.args.dba) (λ y. y ≡ is_free c.args.ground.now.shape R c.args.dba)
    (λ y h. free_vacant g.D.Disk.meaning c.args.store.now R o c.args.dba c.args.code c.args.ground.now y k e c.if-code-eq0.false h)
    (c.is_vacant_block.ensures.says R o k (row_here g.D.Disk.meaning c.args.store.now R o c.args.dba c.args.code c.args.ground.now k m e c.if-code-eq0.false))

pub returns-clause-sound : goal.returns-clause-sound
returns-clause-sound g c = λ R o k m e. c.is_vacant_block.ensures.sound R o k (row_here g.D.Disk.meaning c.args.store.now R o c.args.dba c.args.code c.args.ground.now k m e c.if-code-eq0.false) c.requires.unspent
