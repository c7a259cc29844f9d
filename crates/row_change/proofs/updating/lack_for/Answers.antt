use Rattle.std.proofs.Common.{◌≡◌, ℕ, List, ◌∷◌, [], sym, ap, ◌∙◌, subst}
use Rattle.std.specs.Prelude.{IfOk}
use Rattle.seg_words.specs.Types.{Rowid}
use Rattle.change_laws.specs.Types.{first_lacking}
use Rattle.row_change.specs.Lacking.{names_at}
use Rattle.row_change.specs.Standing.{told_stand}
use Rattle.row_change.proofs.Listed.{lack_alone}
use Rattle.row_change.proofs.Moved.{holder_home}
use Rattle.row_change.proofs.updating.lack_for.Goals as goal

pub returns-then-changes_all-clause-says : goal.returns-then-changes_all-clause-says
returns-then-changes_all-clause-says g c = λ R who own t a i. subst (λ (bs : List ℕ). IfOk c.lack_of.result (λ x. x ≡ names_at R (first_lacking R own bs))) (sym (c.changes_all.ensures.all c.if-changes_all.true (told_stand c.args.u.now.stand))) (c.lack_of.ensures.says R c.args.u.now.obj who own t a i.home)

pub returns-then-changes_all-clause-sound : goal.returns-then-changes_all-clause-sound
returns-then-changes_all-clause-sound g c = λ R who own t a i n. c.lack_of.ensures.sound R c.args.u.now.obj who own t a i.home n

pub returns-clause-says : goal.returns-clause-says
returns-clause-says g c = λ R who own t a i.
    let one = c.changes_all.ensures.one c.if-changes_all.false (told_stand c.args.u.now.stand) ∙ ap (λ (p : Rowid). p.dba ∷ []) i.holder in
    subst (λ (bs : List ℕ). IfOk c.lack_at.result (λ x. x ≡ names_at R (first_lacking R own bs))) (sym one) (lack_alone R own c.args.u.now.at.dba c.lack_at.result (c.lack_at.ensures.says R c.args.u.now.obj who own t a (holder_home c.args.store.now.shape R c.args.u.now.obj (told_stand c.args.u.now.stand) c.args.u.now.at i.home i.holder)))

pub returns-clause-sound : goal.returns-clause-sound
returns-clause-sound g c = λ R who own t a i n. c.lack_at.ensures.sound R c.args.u.now.obj who own t a (holder_home c.args.store.now.shape R c.args.u.now.obj (told_stand c.args.u.now.stand) c.args.u.now.at i.home i.holder) n
