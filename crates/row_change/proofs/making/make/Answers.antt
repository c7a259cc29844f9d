use Rattle.std.proofs.Common.{Some, None, subst}
use Rattle.row_change.specs.Planning.{PlanMeans}
use Rattle.store_core.proofs.Lookups.{cause_ok, cause_err}
use Rattle.row_change.proofs.Chains.{cause_none, loan_none}
use Rattle.row_change.proofs.Made.{spent_answers, added_answers, failed_answers}
use Rattle.row_change.proofs.making.make.Goals as goal

pub returns-in-Spent-clause-answers : goal.returns-in-Spent-clause-answers
returns-in-Spent-clause-answers g c = λ R who own k t p. spent_answers g.D.Disk.meaning c.args.store.now R who own k c.in-Spent.holders t (subst (PlanMeans c.args.store.now.shape R who own k) c.in-Spent.is p)

pub returns-in-Spent-clause-loan : goal.returns-in-Spent-clause-loan
returns-in-Spent-clause-loan g c = loan_none g.D.Disk.meaning c.args.store.now c.requires.unspent

pub returns-in-Spent-clause-cause : goal.returns-in-Spent-clause-cause
returns-in-Spent-clause-cause g c = cause_none g.D.Disk.meaning c.args.store.now None c.requires.unspent

pub returns-in-Ok-clause-answers : goal.returns-in-Ok-clause-answers
returns-in-Ok-clause-answers g c = λ R who own k t p.
    let made = subst (PlanMeans c.args.store.now.shape R who own k) c.in-Adds.is p in
    added_answers g.D.Disk.meaning c.args.store.now c.add_all.new.store R who own k c.in-Adds.x _ made (c.in-Ok.ensures.adds R t made.lawful)

pub returns-in-Ok-clause-cause : goal.returns-in-Ok-clause-cause
returns-in-Ok-clause-cause g c = cause_ok g.D.Disk.meaning c.args.store.now c.add_all.new.store _ (Some c.in-Adds.x.done) c.in-Ok.ensures.cause

pub returns-clause-answers : goal.returns-clause-answers
returns-clause-answers g c = λ R who own k t p.
    let made = subst (PlanMeans c.args.store.now.shape R who own k) c.in-Adds.is p in
    failed_answers g.D.Disk.meaning c.args.store.now c.add_all.new.store R who own k c.in-Adds.x c.in-Err.fault _ made (c.in-Err.ensures.adds R t made.lawful)

pub returns-clause-cause : goal.returns-clause-cause
returns-clause-cause g c = cause_err g.D.Disk.meaning c.args.store.now c.add_all.new.store c.in-Err.fault c.in-Err.ensures.cause
