use Rattle.std.proofs.Common.{◌≡◌, ◌≤◌, ℕ, List, [], length, refl, sym, ap, ◌∙◌, subst}
use Rattle.log_frame.specs.Types.{IsReady}
use Rattle.redo_log.specs.Kept.{Kept, with_group}
use Rattle.redo_log.proofs.Adding.{leaves_some, leaves_none, lasts_some, lasts_none, ready_some, ready_none, list_some, none_waits}
use Rattle.redo_log.proofs.Acknowledging.{all_last}
use Rattle.redo_log.proofs.log.RedoLog.flush.Goals as goal

pub returns-then-is_empty-clause-any_moment : goal.returns-then-is_empty-clause-any_moment
returns-then-is_empty-clause-any_moment g c shape groups ready = leaves_none g.D.Disk.meaning shape groups c.args.self.now.waiting.bytes c.args.disk.now c.args.self.now.end ready

pub returns-then-is_empty-clause-survives : goal.returns-then-is_empty-clause-survives
returns-then-is_empty-clause-survives g c since shape groups acknowledged ready lasts =
    let none : c.args.self.now.waiting.bytes ≡ [] = sym (ap (λ (k : Kept). k.waiting.bytes) c.self.view_is) ∙ c.is_empty.ensures.yes c.if-is_empty.true in
    lasts_none g.D.Disk.meaning since shape groups c.args.self.now.waiting.bytes acknowledged c.args.disk.now none lasts

pub returns-then-is_empty-clause-ready : goal.returns-then-is_empty-clause-ready
returns-then-is_empty-clause-ready g c shape groups ready =
    let meaning = g.D.Disk.meaning in
    let none : c.args.self.now.waiting.bytes ≡ [] = sym (ap (λ (k : Kept). k.waiting.bytes) c.self.view_is) ∙ c.is_empty.ensures.yes c.if-is_empty.true in
    let e = sym (ap (λ (k : Kept). k.end) c.self.view_is) in
    ready_none meaning shape groups c.args.self.now.waiting.bytes c.args.disk.now _ none (subst (IsReady meaning c.args.disk.now shape groups) e ready)

pub returns-then-is_empty-clause-list : goal.returns-then-is_empty-clause-list
returns-then-is_empty-clause-list g c groups R0 R list =
    let none : c.args.self.now.waiting.bytes ≡ [] = sym (ap (λ (k : Kept). k.waiting.bytes) c.self.view_is) ∙ c.is_empty.ensures.yes c.if-is_empty.true in
    let count = ap (λ (k : Kept). k.count) c.self.view_is in
    none_waits groups R0 R c.args.self.now _ list none count count (ap (λ (k : Kept). k.waiting.bytes) c.self.view_is)

pub returns-in-Ok-clause-any_moment : goal.returns-in-Ok-clause-any_moment
returns-in-Ok-clause-any_moment g c shape groups ready =
    let some : 1 ≤ length c.args.self.now.waiting.bytes = subst (λ (k : Kept). 1 ≤ length k.waiting.bytes) c.self.view_is (c.is_empty.ensures.no c.if-is_empty.false) in
    leaves_some g.D.Disk.meaning shape groups c.args.self.now.waiting.bytes c.args.disk.now c.write_group.new.disk some (c.write_group.ensures.any_moment shape groups ready)

pub returns-in-Err-clause-any_moment : goal.returns-in-Err-clause-any_moment
returns-in-Err-clause-any_moment g c shape groups ready =
    let some : 1 ≤ length c.args.self.now.waiting.bytes = subst (λ (k : Kept). 1 ≤ length k.waiting.bytes) c.self.view_is (c.is_empty.ensures.no c.if-is_empty.false) in
    leaves_some g.D.Disk.meaning shape groups c.args.self.now.waiting.bytes c.args.disk.now c.write_group.new.disk some (c.write_group.ensures.any_moment shape groups ready)

pub returns-in-Ok-clause-survives : goal.returns-in-Ok-clause-survives
returns-in-Ok-clause-survives g c since shape groups acknowledged ready lasts =
    let some : 1 ≤ length c.args.self.now.waiting.bytes = subst (λ (k : Kept). 1 ≤ length k.waiting.bytes) c.self.view_is (c.is_empty.ensures.no c.if-is_empty.false) in
    lasts_some g.D.Disk.meaning shape groups c.args.self.now.waiting.bytes some since acknowledged c.write_group.new.disk (c.write_group.ensures.survives since shape groups acknowledged ready lasts)

pub returns-in-Err-clause-survives : goal.returns-in-Err-clause-survives
returns-in-Err-clause-survives g c since shape groups acknowledged ready lasts =
    let some : 1 ≤ length c.args.self.now.waiting.bytes = subst (λ (k : Kept). 1 ≤ length k.waiting.bytes) c.self.view_is (c.is_empty.ensures.no c.if-is_empty.false) in
    lasts_some g.D.Disk.meaning shape groups c.args.self.now.waiting.bytes some since acknowledged c.write_group.new.disk (c.write_group.ensures.survives since shape groups acknowledged ready lasts)

pub returns-in-Ok-clause-ready : goal.returns-in-Ok-clause-ready
returns-in-Ok-clause-ready g c shape groups ready =
    let some : 1 ≤ length c.args.self.now.waiting.bytes = subst (λ (k : Kept). 1 ≤ length k.waiting.bytes) c.self.view_is (c.is_empty.ensures.no c.if-is_empty.false) in
    ready_some g.D.Disk.meaning shape groups c.args.self.now.waiting.bytes some c.args.disk.now c.write_group.new.disk c.write_group.new.self.end (c.in-Ok.ensures.ready shape groups ready)

pub returns-in-Ok-clause-list : goal.returns-in-Ok-clause-list
returns-in-Ok-clause-list g c groups R0 R list =
    let some : 1 ≤ length c.args.self.now.waiting.bytes = subst (λ (k : Kept). 1 ≤ length k.waiting.bytes) c.self.view_is (c.is_empty.ensures.no c.if-is_empty.false) in
    list_some groups c.args.self.now.waiting.bytes R0 R c.write_group.new.self some (c.in-Ok.ensures.list groups R0 R list)

pub returns-then-is_empty-clause-acknowledged : goal.returns-then-is_empty-clause-acknowledged
returns-then-is_empty-clause-acknowledged g c since shape groups acknowledged ready lasts =
    all_last g.D.Disk.meaning shape (with_group groups c.args.self.now.waiting.bytes) _ c.args.disk.now (returns-then-is_empty-clause-ready g c shape groups ready) since acknowledged (returns-then-is_empty-clause-survives g c since shape groups acknowledged ready lasts)

pub returns-in-Ok-clause-acknowledged : goal.returns-in-Ok-clause-acknowledged
returns-in-Ok-clause-acknowledged g c since shape groups acknowledged ready lasts =
    all_last g.D.Disk.meaning shape (with_group groups c.args.self.now.waiting.bytes) _ c.write_group.new.disk (returns-in-Ok-clause-ready g c shape groups ready) since acknowledged (returns-in-Ok-clause-survives g c since shape groups acknowledged ready lasts)
