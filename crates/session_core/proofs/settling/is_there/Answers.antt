use Rattle.std.proofs.Common.{Bool, true, false, subst}
use Rattle.std.specs.Prelude.{Ok, Err}
use Rattle.session_core.specs.Acting.{HasCalled}
use Rattle.session_core.proofs.Calls.{called_on}
use Rattle.session_core.proofs.Settlings.{there_told, not_there_told, there_untold}
use Rattle.session_core.proofs.settling.is_there.Goals as goal

pub is_row_block-requires : goal.is_row_block-requires
is_row_block-requires g c = record { unspent = c.in-Ok-true.ensures.called.kept }

pub returns-in-Ok-true-clause-told : goal.returns-in-Ok-true-clause-told
returns-in-Ok-true-clause-told g c = λ R t.
    there_told g.D.Disk.meaning R c.args.block.now.obj c.args.block.now.dba c.in-Ok-true.field-0 c.args.store.now c.is_table.new.store c.is_row_block.new.store c.is_row_block.result c.in-Ok-true.field-0-test c.in-Ok-true.ensures.called.loan.shape (c.in-Ok-true.ensures.told R t) (λ s i. c.is_row_block.ensures.told R s i)

pub returns-in-Ok-true-clause-called : goal.returns-in-Ok-true-clause-called
returns-in-Ok-true-clause-called g c = called_on {A = Bool} {T = Bool} g.D.Disk.meaning c.args.store.now c.is_table.new.store c.is_row_block.new.store c.in-Ok-true.field-0 c.is_row_block.result c.in-Ok-true.ensures.called c.is_row_block.ensures.called

pub returns-in-Ok-false-clause-told : goal.returns-in-Ok-false-clause-told
returns-in-Ok-false-clause-told g c = λ R t. not_there_told g.D.Disk.meaning R c.args.block.now.obj c.args.block.now.dba c.in-Ok-false.field-0 c.args.store.now c.is_table.new.store c.in-Ok-false.field-0-test (c.in-Ok-false.ensures.told R t)

pub returns-in-Ok-false-clause-called : goal.returns-in-Ok-false-clause-called
returns-in-Ok-false-clause-called g c = subst (λ (y : Bool). HasCalled {T = Bool} g.D.Disk.meaning c.args.store.now c.is_table.new.store (Ok y)) c.in-Ok-false.field-0-test c.in-Ok-false.ensures.called

pub returns-in-Err-clause-told : goal.returns-in-Err-clause-told
returns-in-Err-clause-told g c = λ R t. there_untold g.D.Disk.meaning R c.args.block.now.obj c.args.block.now.dba c.in-Err.fault c.args.store.now c.is_table.new.store (c.in-Err.ensures.told R t)

pub returns-in-Err-clause-called : goal.returns-in-Err-clause-called
returns-in-Err-clause-called g c = c.in-Err.ensures.called
