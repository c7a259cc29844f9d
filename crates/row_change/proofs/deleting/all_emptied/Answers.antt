use Rattle.std.proofs.Common.{◌∷◌, [], sym, subst}
use Rattle.std.specs.Prelude.{IfOk}
use Rattle.change_laws.specs.Types.{delete_fills}
use Rattle.store_core.proofs.Lookups.{looked_ok, looked_err}
use Rattle.row_change.specs.Drafting.{FillsAre, fill_list}
use Rattle.row_change.specs.Standing.{AreAtHome, told_stand}
use Rattle.row_change.specs.declared.stand.Stand.{Stand}
use Rattle.row_change.proofs.deleting.all_emptied.Goals as goal

pub returns-in-Ok-clause-looked : goal.returns-in-Ok-clause-looked
returns-in-Ok-clause-looked g c = looked_ok g.D.Disk.meaning c.args.store.now c.emptied.new.store c.in-Ok.fill _ c.in-Ok.ensures.looked

pub returns-in-Ok-clause-says : goal.returns-in-Ok-clause-says
returns-in-Ok-clause-says g c = λ R o who own t a x.
    let b = subst (λ (z : Stand). AreAtHome c.args.store.now.shape R o (told_stand z)) c.in-Whole.is x in
    subst (λ (z : Stand). FillsAre R own (c.in-Ok.fill ∷ []) (delete_fills (told_stand z))) (sym c.in-Whole.is) (c.in-Ok.ensures.says R o who own t a b, tt)

pub returns-in-Err-clause-looked : goal.returns-in-Err-clause-looked
returns-in-Err-clause-looked g c = looked_err g.D.Disk.meaning c.args.store.now c.emptied.new.store c.in-Err.fault c.in-Err.ensures.looked

pub returns-in-Err-clause-sound : goal.returns-in-Err-clause-sound
returns-in-Err-clause-sound g c = λ R o who own t a x n. c.in-Err.ensures.sound R o who own t a (subst (λ (z : Stand). AreAtHome c.args.store.now.shape R o (told_stand z)) c.in-Whole.is x) n

pub returns-in-Apart-clause-says : goal.returns-in-Apart-clause-says
returns-in-Apart-clause-says g c = λ R o who own t a x.
    let b = subst (λ (z : Stand). AreAtHome c.args.store.now.shape R o (told_stand z)) c.in-Apart.is x in
    subst (λ (z : Stand). IfOk c.both_emptied.result (λ fs. FillsAre R own (fill_list fs) (delete_fills (told_stand z)))) (sym c.in-Apart.is) (c.both_emptied.ensures.says R o who own t a b.0 b.1)

pub returns-in-Apart-clause-sound : goal.returns-in-Apart-clause-sound
returns-in-Apart-clause-sound g c = λ R o who own t a x n. (let b = subst (λ (z : Stand). AreAtHome c.args.store.now.shape R o (told_stand z)) c.in-Apart.is x in c.both_emptied.ensures.sound R o who own t a b.0 b.1 n)
