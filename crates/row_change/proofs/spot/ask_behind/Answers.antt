use Rattle.std.proofs.Common.{Ok, Err, Some, ℕ, ◌<◌, ◌-◌, ◌^◌, sym, ap, ◌∙◌, subst}
use Rattle.store_core.proofs.Lookups.{looked_on, looked_ok, looked_err}
use Rattle.row_change.specs.declared.ring.UndoState.{UndoState}
use Rattle.row_change.proofs.Numbered.{fewer}
use Rattle.row_change.proofs.spot.ask_behind.Goals as goal

pub returns-in-Err-clause-sound : goal.returns-in-Err-clause-sound
returns-in-Err-clause-sound g c = λ R o t k i r n. c.in-Err.ensures.sound R t k r n

pub returns-in-Some-clause-looked : goal.returns-in-Some-clause-looked
returns-in-Some-clause-looked g c = looked_ok g.D.Disk.meaning c.args.store.now c.undo_state.new.store c.in-Ok.state _ c.in-Ok.ensures.looked

pub returns-in-Some-clause-says : goal.returns-in-Some-clause-says
returns-in-Some-clause-says g c = λ R t k r. sym (ap (λ (x : UndoState). x.holder) (c.in-Ok.ensures.says R t k r)) ∙ c.in-Some.is ∙ ap (λ (n : ℕ). Some n) (sym c.number_of.ensures)

pub returns-in-Ok-reuse-clause-looked : goal.returns-in-Ok-reuse-clause-looked
returns-in-Ok-reuse-clause-looked g c = looked_ok g.D.Disk.meaning c.args.store.now c.reuse.new.store c.in-Ok-reuse.reuse _ (looked_on g.D.Disk.meaning c.args.store.now c.undo_state.new.store c.reuse.new.store c.in-Ok.state (Ok c.in-Ok-reuse.reuse) c.in-Ok.ensures.looked c.in-Ok-reuse.ensures.looked)

pub returns-in-Ok-reuse-clause-says : goal.returns-in-Ok-reuse-clause-says
returns-in-Ok-reuse-clause-says g c = λ R t k r.
    let used = c.in-Ok.ensures.says R t k r in
    (sym (ap (λ (x : UndoState). x.holder) used) ∙ c.in-None.is, c.in-Ok-reuse.ensures.says R (ap (λ (x : UndoState). x.sequence) used))

pub returns-in-Err-reuse-clause-looked : goal.returns-in-Err-reuse-clause-looked
returns-in-Err-reuse-clause-looked g c = looked_on g.D.Disk.meaning c.args.store.now c.undo_state.new.store c.reuse.new.store c.in-Ok.state (Err c.in-Err-reuse.fault) c.in-Ok.ensures.looked (looked_err g.D.Disk.meaning c.undo_state.new.store c.reuse.new.store c.in-Err-reuse.fault c.in-Err-reuse.ensures.looked)

pub returns-in-Err-reuse-clause-sound : goal.returns-in-Err-reuse-clause-sound
returns-in-Err-reuse-clause-sound g c = λ R o t k i r n. c.in-Err-reuse.ensures.sound (subst (λ m. m < 2 ^ 64 - 1) (sym (ap (λ (x : UndoState). x.sequence) (c.in-Ok.ensures.says R t k r))) ((fewer R o i t.list.few).uses c.args.block))
