use Rattle.std.proofs.Common.{◌≡◌, ℕ, Ok, IfOk, subst}
use Rattle.seg_words.specs.Types.{Shape}
use Rattle.store_core.specs.Adding.{Adds}
use Rattle.store_core.proofs.Additions.{adds_on, adds_none, tried_on, tried_none}
use Rattle.lower_laws.specs.Drafts.{with_lower}
use Rattle.lowering.specs.Answered.{lowered}
use Rattle.lowering.proofs.Knowing.{knows_later}
use Rattle.lowering.proofs.Adding.{kept_there}
use Rattle.lowering.proofs.releasing.lower_by.Goals as goal

pub returns-in-Ok-clause-adds : goal.returns-in-Ok-clause-adds
returns-in-Ok-clause-adds g c = λ R o k.
    let M = g.D.Disk.meaning in
    let a = c.args.store.now in
    let b = c.kept_extents.new.store in
    let q = knows_later M a b R o c.args.ground.now (Ok c.in-Ok.kept) c.in-Ok.ensures.looked k in
    adds_on M a b c.lower_to_kept.new.store c.in-Ok.kept c.lower_to_kept.result R (with_lower a.shape R o) k.holds c.in-Ok.ensures.looked
    (subst (λ (sh : Shape). Adds M R (with_lower sh R o) b c.lower_to_kept.new.store c.lower_to_kept.result) c.in-Ok.ensures.looked.loan.shape
    (c.lower_to_kept.ensures.adds R o q (kept_there c.args.ground.now.shape b.shape R o c.in-Ok.kept q.shape (c.in-Ok.ensures.says R o k))))

pub returns-in-Ok-clause-answers : goal.returns-in-Ok-clause-answers
returns-in-Ok-clause-answers g c = λ R o k.
    let b = c.kept_extents.new.store in
    let q = knows_later g.D.Disk.meaning c.args.store.now b R o c.args.ground.now (Ok c.in-Ok.kept) c.in-Ok.ensures.looked k in
    subst (λ (sh : Shape). IfOk c.lower_to_kept.result (λ x. x ≡ lowered sh R o)) c.in-Ok.ensures.looked.loan.shape
    (c.lower_to_kept.ensures.answers R o q (kept_there c.args.ground.now.shape b.shape R o c.in-Ok.kept q.shape (c.in-Ok.ensures.says R o k)))

pub returns-in-Ok-clause-tried : goal.returns-in-Ok-clause-tried
returns-in-Ok-clause-tried g c = tried_on g.D.Disk.meaning c.args.store.now c.kept_extents.new.store c.lower_to_kept.new.store c.in-Ok.kept c.lower_to_kept.result c.in-Ok.ensures.looked c.lower_to_kept.ensures.tried

pub returns-in-Err-clause-adds : goal.returns-in-Err-clause-adds
returns-in-Err-clause-adds g c = λ R o k. adds_none {A = ℕ} g.D.Disk.meaning c.args.store.now c.kept_extents.new.store c.in-Err.fault R (with_lower c.args.store.now.shape R o) k.holds c.in-Err.ensures.looked (λ n. c.in-Err.ensures.sound R o k)

pub returns-in-Err-clause-tried : goal.returns-in-Err-clause-tried
returns-in-Err-clause-tried g c = tried_none {A = ℕ} g.D.Disk.meaning c.args.store.now c.kept_extents.new.store c.in-Err.fault c.in-Err.ensures.looked

pub lower_to_kept-requires-clause-unspent : goal.lower_to_kept-requires-clause-unspent
lower_to_kept-requires-clause-unspent g c = c.in-Ok.ensures.looked.cause.kept c.in-Ok.ensures.looked.cause.goes_on
