use Rattle.std.proofs.Common.{Bool, true, false, subst}
use Rattle.std.specs.Prelude.{Ok, Err}
use Rattle.session_core.specs.Acting.{HasCalled}
use Rattle.session_core.proofs.Calls.{called_on}
use Rattle.session_core.proofs.Settlings.{it_settled, it_released, it_failed}
use Rattle.session_core.proofs.settling.settle_it.Goals as goal

pub settle_block-requires : goal.settle_block-requires
settle_block-requires g c = record { unspent = c.in-Ok-true.ensures.called.kept }

pub returns-in-Ok-true-clause-settled : goal.returns-in-Ok-true-clause-settled
returns-in-Ok-true-clause-settled g c = λ R t.
    it_settled g.D.Disk.meaning R c.args.block.now.obj c.args.block.now.dba c.in-Ok-true.field-0 c.args.store.now c.is_there.new.store c.settle_block.new.store c.settle_block.result c.in-Ok-true.field-0-test c.in-Ok-true.ensures.called.loan.shape t (c.in-Ok-true.ensures.told R t) (λ h. c.settle_block.ensures.settled R h)

pub returns-in-Ok-true-clause-called : goal.returns-in-Ok-true-clause-called
returns-in-Ok-true-clause-called g c = called_on {A = Bool} {T = Bool} g.D.Disk.meaning c.args.store.now c.is_there.new.store c.settle_block.new.store c.in-Ok-true.field-0 c.settle_block.result c.in-Ok-true.ensures.called c.settle_block.ensures.called

pub returns-in-Ok-false-clause-settled : goal.returns-in-Ok-false-clause-settled
returns-in-Ok-false-clause-settled g c = λ R t. it_released g.D.Disk.meaning R c.args.block.now.obj c.args.block.now.dba c.in-Ok-false.field-0 c.args.store.now c.is_there.new.store c.in-Ok-false.field-0-test (c.in-Ok-false.ensures.told R t)

pub returns-in-Ok-false-clause-called : goal.returns-in-Ok-false-clause-called
returns-in-Ok-false-clause-called g c = subst (λ (y : Bool). HasCalled {T = Bool} g.D.Disk.meaning c.args.store.now c.is_there.new.store (Ok y)) c.in-Ok-false.field-0-test c.in-Ok-false.ensures.called

pub returns-in-Err-clause-settled : goal.returns-in-Err-clause-settled
returns-in-Err-clause-settled g c = λ R t. it_failed g.D.Disk.meaning R c.args.block.now.obj c.args.block.now.dba c.in-Err.fault c.args.store.now c.is_there.new.store (c.in-Err.ensures.told R t)

pub returns-in-Err-clause-called : goal.returns-in-Err-clause-called
returns-in-Err-clause-called g c = c.in-Err.ensures.called
