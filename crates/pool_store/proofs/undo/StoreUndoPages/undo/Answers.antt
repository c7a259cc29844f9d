use Rattle.std.proofs.Common.{sym, subst}
use Rattle.seg_words.specs.Types.{Shape}
use Rattle.version_laws.specs.Types.{IsInUse}
use Rattle.pool_store.proofs.UndoLent.{undo_told, undo_there}
use Rattle.pool_store.proofs.undo.StoreUndoPages.undo.Goals as goal

pub returns-clause-page : goal.returns-clause-page
returns-clause-page g c = λ sh R w. undo_told (λ u. u.now) c.args.self.now.shape R c.args.block c.frame.result.now c.undo_in.result w.list.lawful (c.frame.ensures R w.list) c.undo_in.ensures

pub returns-clause-there : goal.returns-clause-there
returns-clause-there g c = λ sh R w u. undo_there (λ u. u.now) c.args.self.now.shape R c.args.block c.frame.result.now c.undo_in.result w.list.list.within w.list.lawful (subst (λ (z : Shape). IsInUse z R c.args.block) (sym w.shape_is) u) (c.frame.ensures R w.list) c.undo_in.ensures
