use Rattle.std.proofs.Common.{◌<◌, ℕ, Bool, true, false, List, length, sym, ◌∙◌, subst}
use Rattle.std.specs.Prelude.{Ok, Err}
use Rattle.session_core.specs.Acting.{HasCalled}
use Rattle.session_core.proofs.Calls.{called_on, called_same}
use Rattle.session_core.proofs.Settlings.{idle_begun, idle_step, first_found, first_fails, none_found, rest_shorter}
use Rattle.session_core.proofs.settling.settle_owed.Goals as goal

pub loop-block-init : goal.loop-block-init
loop-block-init g c = idle_begun g.D.Disk.meaning c.args.owed.now c.args.store.now (called_same {T = Bool} g.D.Disk.meaning c.args.store.now false c.requires.unspent)

pub settle_it-requires : goal.settle_it-requires
settle_it-requires g c = record { unspent = c.loop-block.invariant.called.kept }

pub returns-in-Ok-true-clause-settled : goal.returns-in-Ok-true-clause-settled
returns-in-Ok-true-clause-settled g c = first_found g.D.Disk.meaning c.args.owed.now c.loop-block.owed c.in-Some.block c.in-Ok-true.field-0 c.args.store.now c.loop-block.store c.settle_it.new.store c.in-Ok-true.field-0-test c.loop-block.invariant (sym c.next.ensures ∙ c.in-Some.is) (λ R h. c.in-Ok-true.ensures.settled R h)

pub returns-in-Ok-true-clause-called : goal.returns-in-Ok-true-clause-called
returns-in-Ok-true-clause-called g c =
    called_on {A = Bool} {T = Bool} g.D.Disk.meaning c.args.store.now c.loop-block.store c.settle_it.new.store false (Ok true) c.loop-block.invariant.called
    (subst (λ (y : Bool). HasCalled {T = Bool} g.D.Disk.meaning c.loop-block.store c.settle_it.new.store (Ok y)) c.in-Ok-true.field-0-test c.in-Ok-true.ensures.called)

pub loop-block-smaller : goal.loop-block-smaller
loop-block-smaller g c = subst (λ (es : List (ℕ × ℕ)). length es < length c.loop-block.owed) (sym c.drop_next.ensures) (rest_shorter c.loop-block.owed c.in-Some.block (sym c.next.ensures ∙ c.in-Some.is))

pub loop-block-preserved : goal.loop-block-preserved
loop-block-preserved g c =
    idle_step g.D.Disk.meaning c.args.owed.now c.loop-block.owed c.drop_next.new.self c.in-Some.block c.in-Ok-false.field-0 c.args.store.now c.loop-block.store c.settle_it.new.store c.in-Ok-false.field-0-test c.loop-block.invariant (sym c.next.ensures ∙ c.in-Some.is) c.drop_next.ensures
    c.in-Ok-false.ensures.called (λ R h. c.in-Ok-false.ensures.settled R h)

pub returns-in-Err-clause-settled : goal.returns-in-Err-clause-settled
returns-in-Err-clause-settled g c = first_fails g.D.Disk.meaning c.args.owed.now c.loop-block.owed c.in-Some.block c.in-Err.fault c.args.store.now c.loop-block.store c.settle_it.new.store c.loop-block.invariant (sym c.next.ensures ∙ c.in-Some.is) (λ R h. c.in-Err.ensures.settled R h)

pub returns-in-Err-clause-called : goal.returns-in-Err-clause-called
returns-in-Err-clause-called g c = called_on {A = Bool} {T = Bool} g.D.Disk.meaning c.args.store.now c.loop-block.store c.settle_it.new.store false (Err c.in-Err.fault) c.loop-block.invariant.called c.in-Err.ensures.called

pub returns-clause-settled : goal.returns-clause-settled
returns-clause-settled g c = λ R t. none_found g.D.Disk.meaning c.args.owed.now c.loop-block.owed c.args.store.now c.loop-block.store c.loop-block.invariant (sym c.next.ensures ∙ c.in_default.is) R t

pub returns-clause-called : goal.returns-clause-called
returns-clause-called g c = c.loop-block.invariant.called
