use Rattle.std.proofs.Common.{◌≡◌, ℕ, List, [], ◌∷◌, ◌++◌, refl, sym, ap, ◌∙◌, subst, OnOk}
use Rattle.disk_model.specs.Types.{Leaves, OnlyFile}
use Rattle.disk_model.specs.declared.disk.File.TheVariants.{Log}
use Rattle.log_frame.specs.Types.{IsReady, Leads, WithOrWithout}
use Rattle.redo_log.specs.Kept.{Kept}
use Rattle.redo_log.specs.Lasting.{Lasts}
use Rattle.redo_log.proofs.Adding.{all_stable}
use Rattle.redo_log.proofs.log.RedoLog.write_group.Goals as goal

pub returns-in_err-write_bytes-clause-any_moment : goal.returns-in_err-write_bytes-clause-any_moment
returns-in_err-write_bytes-clause-any_moment g c shape groups ready =
    let meaning = g.D.Disk.meaning in
    let b : c.as_slice.result.now ≡ c.args.self.now.waiting.bytes = c.as_slice.ensures.bytes ∙ ap (λ (k : Kept). k.waiting.bytes) c.self.view_is in
    let e = sym (ap (λ (k : Kept). k.end) c.self.view_is) in
    subst (λ (x : List ℕ). Leaves meaning c.args.disk.now c.write_bytes.new.disk (OnlyFile meaning c.args.disk.now Log (WithOrWithout shape groups x))) b
    (c.write_bytes.ensures.any_moment shape groups (subst (IsReady meaning c.args.disk.now shape groups) e ready))

pub returns-clause-any_moment : goal.returns-clause-any_moment
returns-clause-any_moment g c shape groups ready =
    let meaning = g.D.Disk.meaning in
    let b : c.as_slice.result.now ≡ c.args.self.now.waiting.bytes = c.as_slice.ensures.bytes ∙ ap (λ (k : Kept). k.waiting.bytes) c.self.view_is in
    let e = sym (ap (λ (k : Kept). k.end) c.self.view_is) in
    subst (λ (x : List ℕ). Leaves meaning c.args.disk.now c.write_bytes.new.disk (OnlyFile meaning c.args.disk.now Log (WithOrWithout shape groups x))) b
    (c.write_bytes.ensures.any_moment shape groups (subst (IsReady meaning c.args.disk.now shape groups) e ready))

pub returns-in_err-write_bytes-clause-survives : goal.returns-in_err-write_bytes-clause-survives
returns-in_err-write_bytes-clause-survives g c since shape groups acknowledged ready lasts =
    let meaning = g.D.Disk.meaning in
    let b : c.as_slice.result.now ≡ c.args.self.now.waiting.bytes = c.as_slice.ensures.bytes ∙ ap (λ (k : Kept). k.waiting.bytes) c.self.view_is in
    let e = sym (ap (λ (k : Kept). k.end) c.self.view_is) in
    subst (λ (x : List ℕ). Lasts meaning since shape (groups ++ x ∷ []) acknowledged c.write_bytes.new.disk) b
    (c.write_bytes.ensures.survives since shape groups acknowledged (subst (IsReady meaning c.args.disk.now shape groups) e ready) lasts)

pub returns-clause-survives : goal.returns-clause-survives
returns-clause-survives g c since shape groups acknowledged ready lasts =
    let meaning = g.D.Disk.meaning in
    let b : c.as_slice.result.now ≡ c.args.self.now.waiting.bytes = c.as_slice.ensures.bytes ∙ ap (λ (k : Kept). k.waiting.bytes) c.self.view_is in
    let e = sym (ap (λ (k : Kept). k.end) c.self.view_is) in
    subst (λ (x : List ℕ). Lasts meaning since shape (groups ++ x ∷ []) acknowledged c.write_bytes.new.disk) b
    (c.write_bytes.ensures.survives since shape groups acknowledged (subst (IsReady meaning c.args.disk.now shape groups) e ready) lasts)

pub returns-clause-ready : goal.returns-clause-ready
returns-clause-ready g c shape groups ready =
    let meaning = g.D.Disk.meaning in
    let b : c.as_slice.result.now ≡ c.args.self.now.waiting.bytes = c.as_slice.ensures.bytes ∙ ap (λ (k : Kept). k.waiting.bytes) c.self.view_is in
    let e = sym (ap (λ (k : Kept). k.end) c.self.view_is) in
    subst (λ (x : List ℕ). Leads meaning c.args.disk.now c.write_bytes.new.disk shape (groups ++ x ∷ []) c.write_bytes.new.file) b
    (c.in_ok-write_bytes.ensures.ready shape groups (subst (IsReady meaning c.args.disk.now shape groups) e ready))

pub returns-clause-list : goal.returns-clause-list
returns-clause-list g c groups R0 R list =
    let count = ap (λ (k : Kept). k.count) c.self.view_is in
    all_stable groups R0 R c.args.self.now.waiting.bytes c.args.self.now _ list refl count count c.clear.ensures.bytes
