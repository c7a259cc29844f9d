use Rattle.std.proofs.Common.{◌∷◌, ℕ, Bool, true, false, Ok, Err, List, sym, ap, subst}
use Rattle.redo_model.specs.Records.{Record, Class, ClassRecord}
use Rattle.usage_laws.specs.Types.{class_to}
use Rattle.store_core.specs.Adding.{Adds}
use Rattle.store_core.proofs.Additions.{adds_told, adds_same, adds_none, adds_ok, adds_err, tried_on, tried_none, tried_ok, tried_err}
use Rattle.space_usage.specs.Keeping.{with_kept}
use Rattle.space_usage.proofs.Bitmaps.{kept_lawful, kept_on, kept_off}
use Rattle.space_usage.proofs.Drafting.{was_other, was_same}
use Rattle.space_usage.proofs.Stored.{tried_looked}
use Rattle.space_usage.proofs.keeping.keep.Goals as goal

pub returns-in-Ok-clause-keeps : goal.returns-in-Ok-clause-keeps
returns-in-Ok-clause-keeps g c = λ R o h is l.
    let M = g.D.Disk.meaning in
    let a = c.args.store.now in
    let d : ℕ = c.args.dba in
    let w = was_other a.shape R o d c.args.class c.in-Ok-Some.field-0 c.in-Ok-Some.rec (c.in-Ok-Some.ensures.says R o h is) c.in-Ok-Some.field-0-is in
    subst (λ (Q : List Record). Adds {T = Bool} M R Q a c.add.new.store (Ok true)) (kept_on a.shape R o d c.args.class w.0)
    (adds_ok {A = Unit {0}} M a c.add.new.store tt true R (Class (class_to a.shape R o d c.args.class) ∷ R)
    (adds_told M a c.draft.new.store c.add.new.store c.in-Ok-Some.field-0 (Ok tt) (Class (class_to a.shape R o d c.args.class)) (Class c.in-Ok-Some.rec) R h.holds c.in-Ok-Some.ensures.looked (ap (λ (k : ClassRecord). Class k) w.1) (kept_lawful a.shape R o d c.args.class h.holds.lawful h.table h.here l w.0) (λ Q q m. c.in-Ok.ensures.adds Q q m)))

pub returns-in-Ok-clause-changed : goal.returns-in-Ok-clause-changed
returns-in-Ok-clause-changed g c = λ R o h is. sym (was_other c.args.store.now.shape R o c.args.dba c.args.class c.in-Ok-Some.field-0 c.in-Ok-Some.rec (c.in-Ok-Some.ensures.says R o h is) c.in-Ok-Some.field-0-is).0

pub returns-in-Ok-clause-tried : goal.returns-in-Ok-clause-tried
returns-in-Ok-clause-tried g c = tried_ok {A = Unit {0}} g.D.Disk.meaning c.args.store.now c.add.new.store tt true (tried_on g.D.Disk.meaning c.args.store.now c.draft.new.store c.add.new.store c.in-Ok-Some.field-0 (Ok tt) c.in-Ok-Some.ensures.looked c.in-Ok.ensures.tried)

pub returns-in-Ok-Some-clause-keeps : goal.returns-in-Ok-Some-clause-keeps
returns-in-Ok-Some-clause-keeps g c = λ R o h is l.
    let M = g.D.Disk.meaning in
    let a = c.args.store.now in
    let d : ℕ = c.args.dba in
    let w = was_other a.shape R o d c.args.class c.in-Ok-Some.field-0 c.in-Ok-Some.rec (c.in-Ok-Some.ensures.says R o h is) c.in-Ok-Some.field-0-is in
    subst (λ (Q : List Record). Adds {T = Bool} M R Q a c.add.new.store (Err c.in-Err-add.fault)) (kept_on a.shape R o d c.args.class w.0)
    (adds_err {A = Unit {0}} M a c.add.new.store c.in-Err-add.fault R (Class (class_to a.shape R o d c.args.class) ∷ R)
    (adds_told M a c.draft.new.store c.add.new.store c.in-Ok-Some.field-0 (Err c.in-Err-add.fault) (Class (class_to a.shape R o d c.args.class)) (Class c.in-Ok-Some.rec) R h.holds c.in-Ok-Some.ensures.looked (ap (λ (k : ClassRecord). Class k) w.1) (kept_lawful a.shape R o d c.args.class h.holds.lawful h.table h.here l w.0) (λ Q q m. c.in-Err-add.ensures.adds Q q m)))

pub returns-in-Ok-Some-clause-tried : goal.returns-in-Ok-Some-clause-tried
returns-in-Ok-Some-clause-tried g c = tried_err {A = Unit {0}} g.D.Disk.meaning c.args.store.now c.add.new.store c.in-Err-add.fault (tried_on g.D.Disk.meaning c.args.store.now c.draft.new.store c.add.new.store c.in-Ok-Some.field-0 (Err c.in-Err-add.fault) c.in-Ok-Some.ensures.looked c.in-Err-add.ensures.tried)

pub returns-in-Ok-None-clause-keeps : goal.returns-in-Ok-None-clause-keeps
returns-in-Ok-None-clause-keeps g c = λ R o h is l.
    let M = g.D.Disk.meaning in
    let a = c.args.store.now in
    subst (λ (Q : List Record). Adds {T = Bool} M R Q a c.draft.new.store (Ok false)) (kept_off a.shape R o c.args.dba c.args.class (was_same a.shape R o c.args.dba c.args.class c.in-Ok-None.field-0 (c.in-Ok-None.ensures.says R o h is) c.in-Ok-None.field-0-is))
    (adds_same M a c.draft.new.store c.in-Ok-None.field-0 false R h.holds c.in-Ok-None.ensures.looked)

pub returns-in-Ok-None-clause-changed : goal.returns-in-Ok-None-clause-changed
returns-in-Ok-None-clause-changed g c = λ R o h is. sym (was_same c.args.store.now.shape R o c.args.dba c.args.class c.in-Ok-None.field-0 (c.in-Ok-None.ensures.says R o h is) c.in-Ok-None.field-0-is)

pub returns-in-Ok-None-clause-tried : goal.returns-in-Ok-None-clause-tried
returns-in-Ok-None-clause-tried g c = tried_looked g.D.Disk.meaning c.args.store.now c.draft.new.store c.in-Ok-None.field-0 false c.in-Ok-None.ensures.looked

pub returns-clause-keeps : goal.returns-clause-keeps
returns-clause-keeps g c = λ R o h is l. adds_none g.D.Disk.meaning c.args.store.now c.draft.new.store c.in-Err.fault R (with_kept c.args.store.now.shape R o c.args.dba c.args.class) h.holds c.in-Err.ensures.looked (λ n. c.in-Err.ensures.sound R o h is n)

pub returns-clause-tried : goal.returns-clause-tried
returns-clause-tried g c = tried_none g.D.Disk.meaning c.args.store.now c.draft.new.store c.in-Err.fault c.in-Err.ensures.looked
