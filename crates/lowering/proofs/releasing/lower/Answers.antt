use Rattle.std.proofs.Common.{◌≡◌, IfOk, subst}
use Rattle.seg_words.specs.Types.{Shape}
use Rattle.store_core.specs.Adding.{Adds}
use Rattle.store_core.proofs.Additions.{adds_on, adds_none, tried_on, tried_none}
use Rattle.lower_laws.specs.Drafts.{with_lower}
use Rattle.lowering.specs.declared.ground.Ground.{Ground}
use Rattle.lowering.specs.Answered.{lowered}
use Rattle.lowering.proofs.releasing.lower.Goals as goal

pub returns-in-Ok-clause-adds : goal.returns-in-Ok-clause-adds
returns-in-Ok-clause-adds g c = λ R t i.
    let M = g.D.Disk.meaning in
    let a = c.args.store.now in
    let b = c.read_ground.new.store in
    adds_on M a b c.lower_by.new.store c.in-Ok.ground c.lower_by.result R (with_lower a.shape R c.args.obj) t c.in-Ok.ensures.looked
    (subst (λ (sh : Shape). Adds M R (with_lower sh R c.args.obj) b c.lower_by.new.store c.lower_by.result) c.in-Ok.ensures.looked.loan.shape
    (c.lower_by.ensures.adds R c.args.obj (c.in-Ok.ensures.says R t i)))

pub returns-in-Ok-clause-answers : goal.returns-in-Ok-clause-answers
returns-in-Ok-clause-answers g c = λ R t i.
    subst (λ (sh : Shape). IfOk c.lower_by.result (λ x. x ≡ lowered sh R c.args.obj)) c.in-Ok.ensures.looked.loan.shape
    (c.lower_by.ensures.answers R c.args.obj (c.in-Ok.ensures.says R t i))

pub returns-in-Ok-clause-tried : goal.returns-in-Ok-clause-tried
returns-in-Ok-clause-tried g c = tried_on g.D.Disk.meaning c.args.store.now c.read_ground.new.store c.lower_by.new.store c.in-Ok.ground c.lower_by.result c.in-Ok.ensures.looked c.lower_by.ensures.tried

pub returns-in-Err-clause-adds : goal.returns-in-Err-clause-adds
returns-in-Err-clause-adds g c = λ R t i. adds_none {A = Ground} g.D.Disk.meaning c.args.store.now c.read_ground.new.store c.in-Err.fault R (with_lower c.args.store.now.shape R c.args.obj) t c.in-Err.ensures.looked (λ n. c.in-Err.ensures.sound R t i n)

pub returns-in-Err-clause-tried : goal.returns-in-Err-clause-tried
returns-in-Err-clause-tried g c = tried_none {A = Ground} g.D.Disk.meaning c.args.store.now c.read_ground.new.store c.in-Err.fault c.in-Err.ensures.looked

pub lower_by-requires-clause-unspent : goal.lower_by-requires-clause-unspent
lower_by-requires-clause-unspent g c = c.in-Ok.ensures.looked.cause.kept c.in-Ok.ensures.looked.cause.goes_on
