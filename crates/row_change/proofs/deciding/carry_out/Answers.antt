use Rattle.std.proofs.Common.{None, sym, subst}
use Rattle.change_laws.specs.Types.{Answer}
use Rattle.row_change.specs.Answering.{Answers}
use Rattle.row_change.specs.Deciding.{DecisionMeans}
use Rattle.row_change.proofs.Chains.{cause_none, loan_none}
use Rattle.row_change.proofs.Decided.{refused_busy, refused_changed, refused_entries, refused_block}
use Rattle.row_change.proofs.deciding.carry_out.Goals as goal

pub returns-in-Makes-clause-answers : goal.returns-in-Makes-clause-answers
returns-in-Makes-clause-answers g c = λ R who own a t d.
    let x = subst (DecisionMeans c.args.store.now.shape R who own a) c.in-Makes.is d in
    subst (λ (y : Answer). Answers g.D.Disk.meaning R who own y c.args.store.now c.make.new.store c.make.result) (sym x.answer_is) (c.make.ensures.answers R who own x.change t x.plan)

pub returns-in-Changed-clause-answers : goal.returns-in-Changed-clause-answers
returns-in-Changed-clause-answers g c = λ R who own a t d. refused_changed g.D.Disk.meaning c.args.store.now R who own a c.in-Changed.commits t (subst (DecisionMeans c.args.store.now.shape R who own a) c.in-Changed.is d)

pub returns-in-Changed-clause-loan : goal.returns-in-Changed-clause-loan
returns-in-Changed-clause-loan g c = loan_none g.D.Disk.meaning c.args.store.now c.requires.unspent

pub returns-in-Changed-clause-cause : goal.returns-in-Changed-clause-cause
returns-in-Changed-clause-cause g c = cause_none g.D.Disk.meaning c.args.store.now None c.requires.unspent

pub returns-in-Busy-clause-answers : goal.returns-in-Busy-clause-answers
returns-in-Busy-clause-answers g c = λ R who own a t d. refused_busy g.D.Disk.meaning c.args.store.now R who own a c.in-Busy.txn t (subst (DecisionMeans c.args.store.now.shape R who own a) c.in-Busy.is d)

pub returns-in-Busy-clause-loan : goal.returns-in-Busy-clause-loan
returns-in-Busy-clause-loan g c = loan_none g.D.Disk.meaning c.args.store.now c.requires.unspent

pub returns-in-Busy-clause-cause : goal.returns-in-Busy-clause-cause
returns-in-Busy-clause-cause g c = cause_none g.D.Disk.meaning c.args.store.now None c.requires.unspent

pub returns-in-NoSlot-clause-answers : goal.returns-in-NoSlot-clause-answers
returns-in-NoSlot-clause-answers g c = λ R who own a t d. refused_entries g.D.Disk.meaning c.args.store.now R who own a c.in-NoSlot.txns t (subst (DecisionMeans c.args.store.now.shape R who own a) c.in-NoSlot.is d)

pub returns-in-NoSlot-clause-loan : goal.returns-in-NoSlot-clause-loan
returns-in-NoSlot-clause-loan g c = loan_none g.D.Disk.meaning c.args.store.now c.requires.unspent

pub returns-in-NoSlot-clause-cause : goal.returns-in-NoSlot-clause-cause
returns-in-NoSlot-clause-cause g c = cause_none g.D.Disk.meaning c.args.store.now None c.requires.unspent

pub returns-in-NeedsBlock-clause-answers : goal.returns-in-NeedsBlock-clause-answers
returns-in-NeedsBlock-clause-answers g c = λ R who own a t d. refused_block g.D.Disk.meaning c.args.store.now R who own a c.in-NeedsBlock.len t (subst (DecisionMeans c.args.store.now.shape R who own a) c.in-NeedsBlock.is d)

pub returns-in-NeedsBlock-clause-loan : goal.returns-in-NeedsBlock-clause-loan
returns-in-NeedsBlock-clause-loan g c = loan_none g.D.Disk.meaning c.args.store.now c.requires.unspent

pub returns-in-NeedsBlock-clause-cause : goal.returns-in-NeedsBlock-clause-cause
returns-in-NeedsBlock-clause-cause g c = cause_none g.D.Disk.meaning c.args.store.now None c.requires.unspent
