use Rattle.std.proofs.Common.{◌≡◌, ◌+◌, ◌≤◌, ℕ, replicate, ◌∙◌, subst, arith}
use Rattle.disk_model.proofs.Lemmas.{after_sync, is_put}
use Rattle.disk_model.specs.declared.disk.File.TheVariants.{Data}
use Rattle.store_files.specs.declared.new_store.TheConstants.{PIECE}
use Rattle.store_files.proofs.Zeros.{Zeroed, zero_torn, zero_more, zeros_of, torn_zeros}
use Rattle.store_files.proofs.new_store.write_zeros.Goals as goal

pub returns-in_err-write_at-clause-any_moment : goal.returns-in_err-write_at-clause-any_moment
returns-in_err-write_at-clause-any_moment g c settled =
    let meaning = g.D.Disk.meaning in
    let size = c.min-size.result in
    let same = zeros_of meaning c.args.disk.now c.args.total size PIECE (omega (arith, c.min-size.ensures)) in
    (zero_torn meaning c.args.disk.now c.args.total c.pieces.done size c.pieces.disk c.write_at.new.self _ same (omega (arith, c.pieces-test.true, c.min-size.ensures)) (c.pieces.invariant.zeroed settled) c.write_at.ensures.time c.write_at.ensures.crash).leaves

pub pieces-preserved : goal.pieces-preserved
pieces-preserved g c =
    let meaning = g.D.Disk.meaning in
    let kept = c.pieces.invariant in
    let size = c.min-size.result in
    let write = c.write_at.ensures in
    let le : c.pieces.done + size ≤ c.args.total = omega (arith, c.pieces-test.true, c.min-size.ensures) in
    record {
      later = omega (arith, kept.later, write.cause.later);
      told = (λ is. kept.told.0 (write.told.0 is), λ is. write.told.1 (kept.told.1 is));
      reads = write.reads ∙ kept.reads;
      within = le;
      zeroed = λ settled.
          let same = zeros_of meaning c.args.disk.now c.args.total size PIECE (omega (arith, c.min-size.ensures)) in
          zero_more meaning c.args.disk.now c.args.total c.pieces.done size c.pieces.disk c.write_at.new.self _ same le (kept.zeroed settled) write.time write.crash (c.in_ok-write_at.ensures.written (kept.told.1 settled.told));
    }

pub returns-clause-any_moment : goal.returns-clause-any_moment
returns-clause-any_moment g c settled =
    let meaning = g.D.Disk.meaning in
    let kept = c.pieces.invariant in
    let sync = c.sync.ensures in
    let total = c.args.total in
    let all : c.pieces.done ≡ total = omega (arith, kept.within, c.pieces-test.false) in
    let zeroed = subst (λ (n : ℕ). Zeroed meaning c.args.disk.now total n c.pieces.disk) all (kept.zeroed settled) in
    (after_sync meaning c.args.disk.now Data 0 total c.pieces.disk c.sync.new.self (replicate total 0) c.sync.result zeroed.so zeroed.made (sync.durable (kept.told.1 settled.told)) (torn_zeros meaning c.args.disk.now total c.pieces.disk zeroed) sync.time sync.crash).leaves

pub returns-clause-put : goal.returns-clause-put
returns-clause-put g c settled =
    let meaning = g.D.Disk.meaning in
    let kept = c.pieces.invariant in
    let sync = c.sync.ensures in
    let total = c.args.total in
    let all : c.pieces.done ≡ total = omega (arith, kept.within, c.pieces-test.false) in
    let zeroed = subst (λ (n : ℕ). Zeroed meaning c.args.disk.now total n c.pieces.disk) all (kept.zeroed settled) in
    let told = kept.told.1 settled.told in
    is_put meaning c.args.disk.now Data 0 total c.pieces.disk c.sync.new.self (replicate total 0) c.sync.result zeroed.so zeroed.made (sync.durable told) (sync.told.1 told) (sync.same told)
