use Rattle.std.proofs.Common.{sym, subst}
use Rattle.std.specs.Prelude.{IfOk}
use Rattle.change_laws.specs.Types.{free_place, holder_of}
use Rattle.row_change.specs.declared.stand.Stand.{Stand}
use Rattle.row_change.specs.Standing.{told_stand}
use Rattle.redo_model.specs.Model.{image}
use Rattle.shrink_move.specs.declared.draft.Moving.{Moving}
use Rattle.shrink_move.specs.Drafting.{IsMoving}
use Rattle.shrink_move.specs.Filling.{AreAtHome}
use Rattle.shrink_move.specs.Moves.{to_block_fills}
use Rattle.shrink_move.proofs.filling.from_stand.Goals as goal

pub returns-in-Whole-clause-says : goal.returns-in-Whole-clause-says
returns-in-Whole-clause-says g c = λ R o k h t.
    subst (λ (z : Stand). IfOk c.from_slot.result (λ (m : Moving). IsMoving R m c.args.row (to_block_fills c.args.row (told_stand z) (free_place R c.args.target) (image R (holder_of (told_stand z)).dba (holder_of (told_stand z)).slot).bytes))) (sym c.in-Whole.is)
    (c.from_slot.ensures.says R o k (subst (λ (z : Stand). AreAtHome c.args.ground.now.shape R (told_stand z)) c.in-Whole.is h) t)

pub returns-in-Whole-clause-sound : goal.returns-in-Whole-clause-sound
returns-in-Whole-clause-sound g c = λ R o k h t u. c.from_slot.ensures.sound R o k (subst (λ (z : Stand). AreAtHome c.args.ground.now.shape R (told_stand z)) c.in-Whole.is h) t u

pub returns-in-Apart-clause-says : goal.returns-in-Apart-clause-says
returns-in-Apart-clause-says g c = λ R o k h t.
    let b = subst (λ (z : Stand). AreAtHome c.args.ground.now.shape R (told_stand z)) c.in-Apart.is h in
    subst (λ (z : Stand). IfOk c.from_both.result (λ (m : Moving). IsMoving R m c.args.row (to_block_fills c.args.row (told_stand z) (free_place R c.args.target) (image R (holder_of (told_stand z)).dba (holder_of (told_stand z)).slot).bytes))) (sym c.in-Apart.is)
    (c.from_both.ensures.says R o k b.0 b.1 t)

pub returns-in-Apart-clause-sound : goal.returns-in-Apart-clause-sound
returns-in-Apart-clause-sound g c = λ R o k h t u. (let b = subst (λ (z : Stand). AreAtHome c.args.ground.now.shape R (told_stand z)) c.in-Apart.is h in c.from_both.ensures.sound R o k b.0 b.1 t u)
