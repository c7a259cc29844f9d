use Rattle.std.proofs.Common.{sym, subst}
use Rattle.std.specs.Prelude.{IfOk}
use Rattle.redo_model.specs.Model.{body_of}
use Rattle.change_laws.specs.Types.{fill, migrate_fills}
use Rattle.row_change.specs.Drafting.{FillIs, FillsAre, fill_list}
use Rattle.row_change.specs.Filling.{first_of}
use Rattle.row_change.specs.Standing.{AreAtHome, told_stand}
use Rattle.row_change.specs.declared.stand.Stand.{Stand}
use Rattle.row_change.proofs.filling.migrated_with.Goals as goal

pub returns-in-Whole-clause-says : goal.returns-in-Whole-clause-says
returns-in-Whole-clause-says g c = λ R o who own target bytes t a x h.
    let b = subst (λ (z : Stand). AreAtHome c.args.store.now.shape R o (told_stand z)) c.in-Whole.is x in
    let k = subst (λ (z : Stand). FillIs R own c.args.body (fill target (body_of c.args.row (first_of (told_stand z)) bytes))) c.in-Whole.is h in
    subst (λ (z : Stand). IfOk c.left_behind.result (λ fs. FillsAre R own (fill_list fs) (migrate_fills c.args.row (told_stand z) target bytes))) (sym c.in-Whole.is) (c.left_behind.ensures.says R o who own (fill target (body_of c.args.row c.in-Whole.at bytes)) t a b k)

pub returns-in-Whole-clause-sound : goal.returns-in-Whole-clause-sound
returns-in-Whole-clause-sound g c = λ R o who own t a x n. c.left_behind.ensures.sound R o who own t a (subst (λ (z : Stand). AreAtHome c.args.store.now.shape R o (told_stand z)) c.in-Whole.is x) n

pub returns-in-Apart-clause-says : goal.returns-in-Apart-clause-says
returns-in-Apart-clause-says g c = λ R o who own target bytes t a x h.
    let b = subst (λ (z : Stand). AreAtHome c.args.store.now.shape R o (told_stand z)) c.in-Apart.is x in
    let k = subst (λ (z : Stand). FillIs R own c.args.body (fill target (body_of c.args.row (first_of (told_stand z)) bytes))) c.in-Apart.is h in
    subst (λ (z : Stand). IfOk c.moved_on.result (λ fs. FillsAre R own (fill_list fs) (migrate_fills c.args.row (told_stand z) target bytes))) (sym c.in-Apart.is) (c.moved_on.ensures.says R o who own (fill target (body_of c.args.row c.in-Apart.head bytes)) t a b.0 b.1 k)

pub returns-in-Apart-clause-sound : goal.returns-in-Apart-clause-sound
returns-in-Apart-clause-sound g c = λ R o who own t a x n. (let b = subst (λ (z : Stand). AreAtHome c.args.store.now.shape R o (told_stand z)) c.in-Apart.is x in c.moved_on.ensures.sound R o who own t a b.0 b.1 n)
