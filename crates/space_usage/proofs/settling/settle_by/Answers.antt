use Rattle.std.proofs.Common.{ℕ}
use Rattle.usage_laws.specs.Types.{with_clean}
use Rattle.store_core.proofs.Lookups.{cause_on, cause_err}
use Rattle.space_usage.proofs.Stored.{block_cleaned, holds_after, loan_after, settle_none, settle_both, class_call_same}
use Rattle.space_usage.proofs.settling.settle_by.Goals as goal

pub returns-in-Ok-clause-settles : goal.returns-in-Ok-clause-settles
returns-in-Ok-clause-settles g c = λ R h k.
    let M = g.D.Disk.meaning in
    let a = c.args.store.now in
    let b = c.clean_block_of.new.store in
    let o : ℕ = c.args.obj in
    let d : ℕ = c.args.dba in
    let cleans = c.in-Ok.ensures.cleans R o h k in
    let tried = c.in-Ok.ensures.tried in
    let later = block_cleaned M a b R o d tried.loan cleans.added h in
    let table = holds_after R d c.args.table.now k in
    settle_both M a b c.keep_class_of.new.store R o d c.in-Ok.field-0 c.keep_class_of.result (tried.cause.kept tried.cause.goes_on) tried.loan.shape (class_call_same a.shape R o d h.holds.lawful h.here) cleans
    (c.keep_class_of.ensures.keeps (with_clean R d) later table) (c.keep_class_of.ensures.changed (with_clean R d) later table)

pub returns-in-Ok-clause-loan : goal.returns-in-Ok-clause-loan
returns-in-Ok-clause-loan g c = loan_after g.D.Disk.meaning c.args.store.now c.clean_block_of.new.store c.keep_class_of.new.store (λ R h. c.in-Ok.ensures.list R h) c.in-Ok.ensures.tried.loan c.keep_class_of.ensures.tried.loan

pub returns-in-Ok-clause-cause : goal.returns-in-Ok-clause-cause
returns-in-Ok-clause-cause g c = cause_on g.D.Disk.meaning c.args.store.now c.clean_block_of.new.store c.keep_class_of.new.store c.in-Ok.field-0 c.keep_class_of.result c.in-Ok.ensures.tried.loan c.in-Ok.ensures.tried.cause c.keep_class_of.ensures.tried.cause

pub returns-in-Err-clause-settles : goal.returns-in-Err-clause-settles
returns-in-Err-clause-settles g c = λ R h k. settle_none {A = Unit {0}} g.D.Disk.meaning c.args.store.now c.clean_block_of.new.store R (with_clean R c.args.dba) c.args.obj c.args.dba c.in-Err.fault (c.in-Err.ensures.cleans R c.args.obj h k)

pub returns-in-Err-clause-loan : goal.returns-in-Err-clause-loan
returns-in-Err-clause-loan g c = c.in-Err.ensures.tried.loan

pub returns-in-Err-clause-cause : goal.returns-in-Err-clause-cause
returns-in-Err-clause-cause g c = cause_err {A = Unit {0}} g.D.Disk.meaning c.args.store.now c.clean_block_of.new.store c.in-Err.fault c.in-Err.ensures.tried.cause
