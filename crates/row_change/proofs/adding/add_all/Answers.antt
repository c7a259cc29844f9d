use Rattle.std.proofs.Common.{List}
use Rattle.redo_model.specs.Records.{Record}
use Rattle.store_core.proofs.Lookups.{cause_on}
use Rattle.row_change.specs.Adding.{begun}
use Rattle.row_change.proofs.Chains.{loan_after}
use Rattle.row_change.proofs.Made.{begin_refused, adds_all, lawful_later}
use Rattle.row_change.proofs.adding.add_all.Goals as goal

pub returns-in-Err-clause-adds : goal.returns-in-Err-clause-adds
returns-in-Err-clause-adds g c = λ R t l. begin_refused g.D.Disk.meaning c.args.store.now c.add_begin.new.store c.in-Err.fault R c.args.x.now c.requires.unspent (c.in-Err.ensures.makes R t l.first)

pub returns-clause-adds : goal.returns-clause-adds
returns-clause-adds g c = λ R t l.
    let first = c.in-Ok.ensures.makes R t l.first in
    adds_all g.D.Disk.meaning c.args.store.now c.add_begin.new.store c.add_change.new.store _ c.add_change.result R c.args.x.now (c.in-Ok.ensures.cause.kept c.requires.unspent) first (c.add_change.ensures.makes (begun c.args.x.now.begin R) first.added (lawful_later c.args.store.now c.add_begin.new.store R c.args.x.now c.in-Ok.ensures.loan.shape l))

pub returns-clause-loan : goal.returns-clause-loan
returns-clause-loan g c = loan_after g.D.Disk.meaning c.args.store.now c.add_begin.new.store c.add_change.new.store (λ (R : List Record). begun c.args.x.now.begin R) c.in-Ok.ensures.list c.in-Ok.ensures.loan c.add_change.ensures.loan

pub returns-clause-cause : goal.returns-clause-cause
returns-clause-cause g c = cause_on g.D.Disk.meaning c.args.store.now c.add_begin.new.store c.add_change.new.store _ c.add_change.result c.in-Ok.ensures.loan c.in-Ok.ensures.cause c.add_change.ensures.cause
