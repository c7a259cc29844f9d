use Rattle.std.proofs.Common.{ℕ, List, length, subst}
use Rattle.disk_model.specs.Types.{written, Torn, Leaves, IsPut, OnlyFile}
use Rattle.disk_model.specs.declared.disk.File.TheVariants.{Log}
use Rattle.log_frame.proofs.Making.{body_run, body_put, gate_run, gate_put}
use Rattle.log_frame.proofs.head.make_head.Goals as goal

pub returns-in_err-write_and_sync-clause-any_moment : goal.returns-in_err-write_and_sync-clause-any_moment
returns-in_err-write_and_sync-clause-any_moment g c settled not_yet =
    let meaning = g.D.Disk.meaning in
    let shape = c.args.shape.now in
    let d0 = c.args.disk.now in
    let d1 = c.close_head.new.disk in
    let d2 = c.write_and_sync.new.disk in
    let closed = c.in_ok-close_head.ensures.closed settled not_yet in
    let leaves = subst (λ (l : List ℕ). Leaves meaning d1 d2 (OnlyFile meaning d1 Log (Torn 1 (length l) (meaning.files d1).log_bytes))) c.head_bytes.ensures (c.write_and_sync.ensures.any_moment closed.settled) in
    body_run meaning shape c.requires d0 d1 d2 closed (c.in_ok-close_head.ensures.any_moment settled not_yet) leaves

pub returns-in_err-write_and_sync-2-clause-any_moment : goal.returns-in_err-write_and_sync-2-clause-any_moment
returns-in_err-write_and_sync-2-clause-any_moment g c settled not_yet =
    let meaning = g.D.Disk.meaning in
    let shape = c.args.shape.now in
    let d0 = c.args.disk.now in
    let d1 = c.close_head.new.disk in
    let d2 = c.write_and_sync.new.disk in
    let closed = c.in_ok-close_head.ensures.closed settled not_yet in
    let leaves = subst (λ (l : List ℕ). Leaves meaning d1 d2 (OnlyFile meaning d1 Log (Torn 1 (length l) (meaning.files d1).log_bytes))) c.head_bytes.ensures (c.write_and_sync.ensures.any_moment closed.settled) in
    let so_far = body_run meaning shape c.requires d0 d1 d2 closed (c.in_ok-close_head.ensures.any_moment settled not_yet) leaves in
    let d3 = c.write_and_sync-2.new.disk in
    let put = subst (λ (l : List ℕ). IsPut meaning d1 d2 Log (written (meaning.files d1).log_bytes 1 l)) c.head_bytes.ensures (c.in_ok-write_and_sync.ensures.put closed.settled) in
    let stage = body_put meaning shape c.requires d0 d1 d2 closed put in
    gate_run meaning shape c.requires d0 d2 d3 stage so_far (c.write_and_sync-2.ensures.any_moment stage.settled)

pub returns-clause-any_moment : goal.returns-clause-any_moment
returns-clause-any_moment g c settled not_yet =
    let meaning = g.D.Disk.meaning in
    let shape = c.args.shape.now in
    let d0 = c.args.disk.now in
    let d1 = c.close_head.new.disk in
    let d2 = c.write_and_sync.new.disk in
    let closed = c.in_ok-close_head.ensures.closed settled not_yet in
    let leaves = subst (λ (l : List ℕ). Leaves meaning d1 d2 (OnlyFile meaning d1 Log (Torn 1 (length l) (meaning.files d1).log_bytes))) c.head_bytes.ensures (c.write_and_sync.ensures.any_moment closed.settled) in
    let so_far = body_run meaning shape c.requires d0 d1 d2 closed (c.in_ok-close_head.ensures.any_moment settled not_yet) leaves in
    let d3 = c.write_and_sync-2.new.disk in
    let put = subst (λ (l : List ℕ). IsPut meaning d1 d2 Log (written (meaning.files d1).log_bytes 1 l)) c.head_bytes.ensures (c.in_ok-write_and_sync.ensures.put closed.settled) in
    let stage = body_put meaning shape c.requires d0 d1 d2 closed put in
    gate_run meaning shape c.requires d0 d2 d3 stage so_far (c.write_and_sync-2.ensures.any_moment stage.settled)

pub returns-clause-made : goal.returns-clause-made
returns-clause-made g c settled not_yet =
    let meaning = g.D.Disk.meaning in
    let shape = c.args.shape.now in
    let d0 = c.args.disk.now in
    let d1 = c.close_head.new.disk in
    let d2 = c.write_and_sync.new.disk in
    let closed = c.in_ok-close_head.ensures.closed settled not_yet in
    let d3 = c.write_and_sync-2.new.disk in
    let put = subst (λ (l : List ℕ). IsPut meaning d1 d2 Log (written (meaning.files d1).log_bytes 1 l)) c.head_bytes.ensures (c.in_ok-write_and_sync.ensures.put closed.settled) in
    let stage = body_put meaning shape c.requires d0 d1 d2 closed put in
    gate_put meaning shape c.requires d0 d2 d3 stage (c.in_ok-write_and_sync-2.ensures.put stage.settled)
