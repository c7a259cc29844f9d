use Rattle.std.proofs.Common.{◌≡◌, Bool, sym, ◌∙◌, ap, cond, subst}
use Rattle.std.specs.Prelude.{IfOk}
use Rattle.change_laws.specs.Types.{InPlace, ToOther, path_of}
use Rattle.store_core.proofs.Lookups.{looked_ok, looked_err}
use Rattle.row_change.specs.Fitting.{AreThere, told_way}
use Rattle.row_change.specs.Standing.{AreAtHome, told_stand}
use Rattle.row_change.specs.declared.stand.Stand.{Stand}
use Rattle.row_change.proofs.fitting.way_of.Goals as goal

pub returns-in-Ok-clause-looked : goal.returns-in-Ok-clause-looked
returns-in-Ok-clause-looked g c = looked_ok g.D.Disk.meaning c.args.store.now c.fits_at.new.store c.in-Ok.fits _ c.in-Ok.ensures.looked

pub returns-in-Ok-clause-says : goal.returns-in-Ok-clause-says
returns-in-Ok-clause-says g c = λ R o who t a x.
    let b = subst (λ (z : Stand). AreAtHome c.args.store.now.shape R o (told_stand z)) c.in-Whole.is x in
    c.whole_way.ensures ∙ ap (λ (v : Bool). cond v InPlace ToOther) (c.in-Ok.ensures.says R o who t a b) ∙ ap (λ (z : Stand). path_of R c.args.own.now (told_stand z) c.args.len) (sym c.in-Whole.is)

pub returns-in-Err-clause-looked : goal.returns-in-Err-clause-looked
returns-in-Err-clause-looked g c = looked_err g.D.Disk.meaning c.args.store.now c.fits_at.new.store c.in-Err.fault c.in-Err.ensures.looked

pub returns-in-Err-clause-sound : goal.returns-in-Err-clause-sound
returns-in-Err-clause-sound g c = λ R o who t a x l n. c.in-Err.ensures.sound R o who t a (subst (λ (z : Stand). AreAtHome c.args.store.now.shape R o (told_stand z)) c.in-Whole.is x) (subst (λ (z : Stand). AreThere R (told_stand z)) c.in-Whole.is l) n

pub returns-in-Apart-clause-says : goal.returns-in-Apart-clause-says
returns-in-Apart-clause-says g c = λ R o who t a x.
    let b = subst (λ (z : Stand). AreAtHome c.args.store.now.shape R o (told_stand z)) c.in-Apart.is x in
    subst (λ (z : Stand). IfOk c.way_apart.result (λ w. told_way w ≡ path_of R c.args.own.now (told_stand z) c.args.len)) (sym c.in-Apart.is) (c.way_apart.ensures.says R o who t a b.0 b.1)

pub returns-in-Apart-clause-sound : goal.returns-in-Apart-clause-sound
returns-in-Apart-clause-sound g c = λ R o who t a x l n.
    let b = subst (λ (z : Stand). AreAtHome c.args.store.now.shape R o (told_stand z)) c.in-Apart.is x in
    let m = subst (λ (z : Stand). AreThere R (told_stand z)) c.in-Apart.is l in
    c.way_apart.ensures.sound R o who t a b.0 b.1 m.0 m.1 n
