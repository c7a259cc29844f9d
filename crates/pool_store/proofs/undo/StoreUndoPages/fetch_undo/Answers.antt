use Rattle.std.proofs.Common.{sym, subst}
use Rattle.seg_words.specs.Types.{Shape}
use Rattle.version_laws.specs.Types.{IsInUse}
use Rattle.pool_store.proofs.UndoLent.{one_look, one_fault, undo_has}
use Rattle.pool_store.proofs.undo.StoreUndoPages.fetch_undo.Goals as goal

pub returns-clause-looked : goal.returns-clause-looked
returns-clause-looked g c = one_look g.D.Disk.meaning c.args.self.now c.fetch.new.self c.fetch.result c.fetch.ensures.looked

pub returns-clause-failed : goal.returns-clause-failed
returns-clause-failed g c = one_fault g.D.Disk.meaning c.args.self.now c.fetch.new.self c.fetch.result c.fetch.ensures.looked

pub returns-clause-sound : goal.returns-clause-sound
returns-clause-sound g c = λ sh R w u. c.fetch.ensures.sound R w.list w.unspent (undo_has c.args.self.now.shape R c.args.block w.list.list.within (subst (λ (z : Shape). IsInUse z R c.args.block) (sym w.shape_is) u))
