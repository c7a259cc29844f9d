use Rattle.std.proofs.Common.{ℕ, Option, Ok, subst}
use Rattle.store_core.specs.Causes.{HasLooked}
use Rattle.recovery.specs.Next.{IsNext}
use Rattle.recovery.proofs.Loops.{next_none, next_some, next_stopped, looked_stopped}
use Rattle.recovery.proofs.closing.roll_back_next.Goals as goal

pub returns-in-Ok-None-clause-next : goal.returns-in-Ok-None-clause-next
returns-in-Ok-None-clause-next g c = λ R h. next_none g.D.Disk.meaning R c.args.store.now c.next_active.new.store h
    (subst (λ (o : Option ℕ). HasLooked g.D.Disk.meaning c.args.store.now c.next_active.new.store (Ok o)) c.in-Ok-None.field-0-is c.in-Ok-None.ensures.looked) (subst (IsNext R) c.in-Ok-None.field-0-is (c.in-Ok-None.ensures.says R h))

pub returns-in-Ok-clause-next : goal.returns-in-Ok-clause-next
returns-in-Ok-clause-next g c = λ R h. next_some g.D.Disk.meaning R c.args.store.now c.next_active.new.store c.roll_back.new.store c.in-Ok-Some.txn _ h
    (subst (λ (o : Option ℕ). HasLooked g.D.Disk.meaning c.args.store.now c.next_active.new.store (Ok o)) c.in-Ok-Some.field-0-is c.in-Ok-Some.ensures.looked) (subst (IsNext R) c.in-Ok-Some.field-0-is (c.in-Ok-Some.ensures.says R h)) (λ Q q f. c.in-Ok.ensures.comes Q q f)

pub returns-in-Err-roll_back-clause-stopped : goal.returns-in-Err-roll_back-clause-stopped
returns-in-Err-roll_back-clause-stopped g c = λ R h. (next_stopped g.D.Disk.meaning R c.args.store.now c.next_active.new.store c.roll_back.new.store c.in-Ok-Some.txn c.in-Err-roll_back.fault h
    (subst (λ (o : Option ℕ). HasLooked g.D.Disk.meaning c.args.store.now c.next_active.new.store (Ok o)) c.in-Ok-Some.field-0-is c.in-Ok-Some.ensures.looked) (subst (IsNext R) c.in-Ok-Some.field-0-is (c.in-Ok-Some.ensures.says R h)) (λ Q q f. c.in-Err-roll_back.ensures.comes Q q f)).0

pub returns-in-Err-roll_back-clause-sound : goal.returns-in-Err-roll_back-clause-sound
returns-in-Err-roll_back-clause-sound g c = λ R h. (next_stopped g.D.Disk.meaning R c.args.store.now c.next_active.new.store c.roll_back.new.store c.in-Ok-Some.txn c.in-Err-roll_back.fault h
    (subst (λ (o : Option ℕ). HasLooked g.D.Disk.meaning c.args.store.now c.next_active.new.store (Ok o)) c.in-Ok-Some.field-0-is c.in-Ok-Some.ensures.looked) (subst (IsNext R) c.in-Ok-Some.field-0-is (c.in-Ok-Some.ensures.says R h)) (λ Q q f. c.in-Err-roll_back.ensures.comes Q q f)).1

pub returns-in-Err-clause-stopped : goal.returns-in-Err-clause-stopped
returns-in-Err-clause-stopped g c = λ R h. looked_stopped g.D.Disk.meaning R c.args.store.now c.next_active.new.store c.in-Err.fault h c.in-Err.ensures.looked

pub returns-in-Err-clause-sound : goal.returns-in-Err-clause-sound
returns-in-Err-clause-sound g c = λ R h. c.in-Err.ensures.sound R h c.requires.unspent
