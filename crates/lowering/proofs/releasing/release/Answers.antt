use Rattle.std.proofs.Common.{◌≡◌, ◌∷◌, ◌∙◌, ap, subst, IfOk}
use Rattle.redo_model.specs.Records.{Lower, LowerRecord}
use Rattle.store_core.specs.declared.fault.StoreFault.TheVariants.{NoMemory}
use Rattle.store_core.specs.declared.lowered.Lowered.{Lowered}
use Rattle.store_core.proofs.Lookups.{looked_memory}
use Rattle.store_core.proofs.Additions.{adds_told, adds_none, tried_on, tried_none}
use Rattle.lower_laws.specs.Drafts.{lower_to}
use Rattle.lowering.specs.Answered.{answer_of}
use Rattle.lowering.proofs.Adding.{told_lower}
use Rattle.lowering.proofs.releasing.release.Goals as goal

pub returns-in-Err-clause-adds : goal.returns-in-Err-clause-adds
returns-in-Err-clause-adds g c = λ R o k l lawful. adds_none g.D.Disk.meaning c.args.store.now c.draft_lower.new.store c.in-Err.fault R (Lower (lower_to c.args.store.now.shape R o c.args.kept) ∷ R) k.holds c.in-Err.ensures.looked (λ n. c.in-Err.ensures.sound R o k l)

pub returns-in-Err-clause-tried : goal.returns-in-Err-clause-tried
returns-in-Err-clause-tried g c = tried_none g.D.Disk.meaning c.args.store.now c.draft_lower.new.store c.in-Err.fault c.in-Err.ensures.looked

pub returns-in-Ok-answer_of-clause-adds : goal.returns-in-Ok-answer_of-clause-adds
returns-in-Ok-answer_of-clause-adds g c = λ R o k l lawful.
    let a = c.args.store.now in
    let is = told_lower c.args.ground.now.shape a.shape R o c.args.kept c.in-Ok.rec k.shape (c.in-Ok.ensures.says R o k l) in
    adds_told g.D.Disk.meaning a c.draft_lower.new.store c.add_lower.new.store c.in-Ok.rec c.add_lower.result (Lower (lower_to a.shape R o c.args.kept)) (Lower c.in-Ok.rec) R k.holds c.in-Ok.ensures.looked (ap (λ (r : LowerRecord). Lower r) is) lawful (λ Q q w. c.add_lower.ensures.adds Q q w)

pub returns-in-Ok-answer_of-clause-answers : goal.returns-in-Ok-answer_of-clause-answers
returns-in-Ok-answer_of-clause-answers g c = λ R o k l.
    let a = c.args.store.now in
    let is = told_lower c.args.ground.now.shape a.shape R o c.args.kept c.in-Ok.rec k.shape (c.in-Ok.ensures.says R o k l) in
    subst (λ (y : Lowered). IfOk c.add_lower.result (λ x. x ≡ y)) (c.in-Ok-answer_of.ensures ∙ ap (λ (r : LowerRecord). answer_of r) is) c.add_lower.ensures.answers

pub returns-in-Ok-answer_of-clause-tried : goal.returns-in-Ok-answer_of-clause-tried
returns-in-Ok-answer_of-clause-tried g c = tried_on g.D.Disk.meaning c.args.store.now c.draft_lower.new.store c.add_lower.new.store c.in-Ok.rec c.add_lower.result c.in-Ok.ensures.looked c.add_lower.ensures.tried

pub returns-in-Err-answer_of-clause-adds : goal.returns-in-Err-answer_of-clause-adds
returns-in-Err-answer_of-clause-adds g c = λ R o k l lawful. adds_none {A = LowerRecord} g.D.Disk.meaning c.args.store.now c.draft_lower.new.store NoMemory R (Lower (lower_to c.args.store.now.shape R o c.args.kept) ∷ R) k.holds (looked_memory g.D.Disk.meaning c.args.store.now c.draft_lower.new.store c.in-Ok.rec c.in-Ok.ensures.looked) (λ n. tt)

pub returns-in-Err-answer_of-clause-tried : goal.returns-in-Err-answer_of-clause-tried
returns-in-Err-answer_of-clause-tried g c = tried_none {A = LowerRecord} g.D.Disk.meaning c.args.store.now c.draft_lower.new.store NoMemory (looked_memory g.D.Disk.meaning c.args.store.now c.draft_lower.new.store c.in-Ok.rec c.in-Ok.ensures.looked)
