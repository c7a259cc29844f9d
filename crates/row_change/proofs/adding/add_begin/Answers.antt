use Rattle.std.proofs.Common.{◌∷◌, Option, Ok, sym, subst}
use Rattle.redo_model.specs.Records.{Begin, BeginRecord}
use Rattle.redo_model.specs.Model.{IsLawful}
use Rattle.store_core.specs.Adding.{Adds}
use Rattle.row_change.specs.Adding.{begun}
use Rattle.row_change.proofs.Chains.{cause_none, loan_none}
use Rattle.row_change.proofs.Made.{begun_none, begin_added, begin_kept}
use Rattle.row_change.proofs.adding.add_begin.Goals as goal

pub returns-in-None-clause-makes : goal.returns-in-None-clause-makes
returns-in-None-clause-makes g c = λ R t l. subst (λ (b : Option BeginRecord). Adds g.D.Disk.meaning R (begun b R) c.args.store.now c.args.store.now (Ok tt)) (sym c.in-None.is) (begun_none g.D.Disk.meaning c.args.store.now R t)

pub returns-in-None-clause-loan : goal.returns-in-None-clause-loan
returns-in-None-clause-loan g c = loan_none g.D.Disk.meaning c.args.store.now c.requires.unspent

pub returns-in-None-clause-cause : goal.returns-in-None-clause-cause
returns-in-None-clause-cause g c = cause_none g.D.Disk.meaning c.args.store.now tt c.requires.unspent

pub returns-in-Ok-clause-makes : goal.returns-in-Ok-clause-makes
returns-in-Ok-clause-makes g c = λ R t l.
    let lawful = subst (λ (b : Option BeginRecord). IsLawful c.args.store.now.shape (begun b R)) c.in-Some.is l in
    subst (λ (b : Option BeginRecord). Adds g.D.Disk.meaning R (begun b R) c.args.store.now c.take.new.self (Ok tt)) (sym c.in-Some.is)
    (begin_added g.D.Disk.meaning c.args.store.now c.take.new.self R (Begin c.in-Some.begin ∷ R) (c.in-Ok.ensures.added_true R t lawful) (c.in-Ok.ensures.stable R t.list) (λ since needed s. c.in-Ok.ensures.survives since needed R t s))

pub returns-clause-makes : goal.returns-clause-makes
returns-clause-makes g c = λ R t l.
    let lawful = subst (λ (b : Option BeginRecord). IsLawful c.args.store.now.shape (begun b R)) c.in-Some.is l in
    begin_kept g.D.Disk.meaning c.args.store.now c.take.new.self R (begun c.args.begin R) c.in-Err.fault (c.in-Err.ensures.refused_true R t) (λ n. c.in-Err.ensures.sound R t lawful n) (c.in-Err.ensures.stable R t.list) (λ since needed s. c.in-Err.ensures.survives_refused since needed R t s)
