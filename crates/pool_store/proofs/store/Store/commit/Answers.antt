use Rattle.std.proofs.Common.{rules, ◌∙◌, refl, sym, arith}
use Rattle.std.specs.Prelude.{Err}
use Rattle.std.proofs.lemmas.Bool.{true≢false}
use Rattle.pool_store.proofs.Looking.{flush_done, flush_failed_as, flushed_at}
use Rattle.pool_store.proofs.Committing.{added_at, mid_count, mid_stable, commit_loan, commit_fits, commit_true, commit_survives, failed_cause}
use Rattle.pool_store.proofs.store.Store.commit.Goals as goal

pub returns-in-Err-clause-added : goal.returns-in-Err-clause-added
returns-in-Err-clause-added g c = λ R h lawful small.
    let fit = commit_fits g.D.Disk.meaning R c.args.c c.args.self.now c.self.inside.log c.self.inside.pages (search rules) (search rules) (search rules) h lawful small in
    absurd (true≢false (sym (c.in-Err.ensures.fits fit.file R fit.small fit.shows fit.fits)))

pub returns-in-Err-clause-sound : goal.returns-in-Err-clause-sound
returns-in-Err-clause-sound g c = λ R h lawful small.
    let fit = commit_fits g.D.Disk.meaning R c.args.c c.args.self.now c.self.inside.log c.self.inside.pages (search rules) (search rules) (search rules) h lawful small in
    absurd (true≢false (sym (c.in-Err.ensures.fits fit.file R fit.small fit.shows fit.fits)))

pub returns-in-Err-clause-survives : goal.returns-in-Err-clause-survives
returns-in-Err-clause-survives g c = λ since needed R h lawful small left.
    let fit = commit_fits g.D.Disk.meaning R c.args.c c.args.self.now c.self.inside.log c.self.inside.pages (search rules) (search rules) (search rules) h lawful small in
    absurd (true≢false (sym (c.in-Err.ensures.fits fit.file R fit.small fit.shows fit.fits)))

pub returns-in-Ok-flush_in-clause-added : goal.returns-in-Ok-flush_in-clause-added
returns-in-Ok-flush_in-clause-added g c = λ R h lawful small.
    let e = c.in-Ok-flush_in.ensures in
    commit_true g.D.Disk.meaning c.args.self.now _ c.commit_in.new.log c.commit_in.new.pages c.args.c _ (search rules) (added_at _ c.self.inside.log c.commit_in.new.log _ c.self.inside.pages c.commit_in.new.pages c.args.c (search rules) (search rules) (record { list = c.in-Ok.ensures.list; pages = c.in-Ok.ensures.pages; shape = c.in-Ok.ensures.shape; end = c.in-Ok.ensures.end; stable = c.in-Ok.ensures.stable })) (flush_done g.D.Disk.meaning _ _ g.met.D.Disk.as_read (record { loan = search rules; first = search rules; shape = search rules; pages = refl; commits = refl }) refl (flushed_at g.D.Disk.meaning _ c.self.inside.disk.now _ _ c.commit_in.new.log _ _ (search rules) refl (record { any_moment = e.any_moment; ready = e.ready; list = e.list; stable = e.stable; refused = tt; cause = e.cause; told = e.told; reads = e.reads })) (search rules)) R h lawful small

pub returns-in-Ok-flush_in-clause-all_stable : goal.returns-in-Ok-flush_in-clause-all_stable
returns-in-Ok-flush_in-clause-all_stable g c = λ R h small. c.in-Ok-flush_in.ensures.stable ∙ mid_count g.D.Disk.meaning c.args.self.now c.commit_in.new.log c.commit_in.new.pages c.args.c (search rules) (added_at _ c.self.inside.log c.commit_in.new.log _ c.self.inside.pages c.commit_in.new.pages c.args.c (search rules) (search rules) (record { list = c.in-Ok.ensures.list; pages = c.in-Ok.ensures.pages; shape = c.in-Ok.ensures.shape; end = c.in-Ok.ensures.end; stable = c.in-Ok.ensures.stable })) R h.list small

pub returns-in-Ok-flush_in-clause-survives : goal.returns-in-Ok-flush_in-clause-survives
returns-in-Ok-flush_in-clause-survives g c = λ since needed R h lawful small left.
    let e = c.in-Ok-flush_in.ensures in
    commit_survives g.D.Disk.meaning c.args.self.now _ c.commit_in.new.log c.commit_in.new.pages c.args.c _ (search rules) (added_at _ c.self.inside.log c.commit_in.new.log _ c.self.inside.pages c.commit_in.new.pages c.args.c (search rules) (search rules) (record { list = c.in-Ok.ensures.list; pages = c.in-Ok.ensures.pages; shape = c.in-Ok.ensures.shape; end = c.in-Ok.ensures.end; stable = c.in-Ok.ensures.stable })) (flush_done g.D.Disk.meaning _ _ g.met.D.Disk.as_read (record { loan = search rules; first = search rules; shape = search rules; pages = refl; commits = refl }) refl (flushed_at g.D.Disk.meaning _ c.self.inside.disk.now _ _ c.commit_in.new.log _ _ (search rules) refl (record { any_moment = e.any_moment; ready = e.ready; list = e.list; stable = e.stable; refused = tt; cause = e.cause; told = e.told; reads = e.reads })) (search rules)) since needed R h lawful small left

pub returns-in-Ok-flush_in-clause-stable : goal.returns-in-Ok-flush_in-clause-stable
returns-in-Ok-flush_in-clause-stable g c = λ R h. omega (arith, c.in-Ok-flush_in.ensures.stable, mid_stable g.D.Disk.meaning c.args.self.now c.commit_in.new.log c.commit_in.new.pages c.args.c (search rules) (added_at _ c.self.inside.log c.commit_in.new.log _ c.self.inside.pages c.commit_in.new.pages c.args.c (search rules) (search rules) (record { list = c.in-Ok.ensures.list; pages = c.in-Ok.ensures.pages; shape = c.in-Ok.ensures.shape; end = c.in-Ok.ensures.end; stable = c.in-Ok.ensures.stable })) R h)

pub returns-in-Err-flush_in-clause-added : goal.returns-in-Err-flush_in-clause-added
returns-in-Err-flush_in-clause-added g c = λ R h lawful small.
    let e = c.in-Err-flush_in.ensures in
    commit_true g.D.Disk.meaning c.args.self.now _ c.commit_in.new.log c.commit_in.new.pages c.args.c _ (search rules) (added_at _ c.self.inside.log c.commit_in.new.log _ c.self.inside.pages c.commit_in.new.pages c.args.c (search rules) (search rules) (record { list = c.in-Ok.ensures.list; pages = c.in-Ok.ensures.pages; shape = c.in-Ok.ensures.shape; end = c.in-Ok.ensures.end; stable = c.in-Ok.ensures.stable })) (flush_failed_as g.D.Disk.meaning _ _ g.met.D.Disk.as_read (record { loan = search rules; first = search rules; shape = search rules; pages = refl; commits = refl }) refl c.in-Err-flush_in.fault e.only (flushed_at g.D.Disk.meaning _ c.self.inside.disk.now _ _ c.commit_in.new.log _ _ (search rules) refl (record { any_moment = e.any_moment; ready = e.ready; list = e.list; stable = tt; refused = e.refused; cause = e.cause; told = e.told; reads = e.reads })) c.lasting-self-inside-in-Err-flush_in.ensures) R h lawful small

pub returns-in-Err-flush_in-clause-sound : goal.returns-in-Err-flush_in-clause-sound
returns-in-Err-flush_in-clause-sound g c = λ R h lawful small. c.in-Err-flush_in.ensures.only

pub returns-in-Err-flush_in-clause-survives : goal.returns-in-Err-flush_in-clause-survives
returns-in-Err-flush_in-clause-survives g c = λ since needed R h lawful small left.
    let e = c.in-Err-flush_in.ensures in
    commit_survives g.D.Disk.meaning c.args.self.now _ c.commit_in.new.log c.commit_in.new.pages c.args.c _ (search rules) (added_at _ c.self.inside.log c.commit_in.new.log _ c.self.inside.pages c.commit_in.new.pages c.args.c (search rules) (search rules) (record { list = c.in-Ok.ensures.list; pages = c.in-Ok.ensures.pages; shape = c.in-Ok.ensures.shape; end = c.in-Ok.ensures.end; stable = c.in-Ok.ensures.stable })) (flush_failed_as g.D.Disk.meaning _ _ g.met.D.Disk.as_read (record { loan = search rules; first = search rules; shape = search rules; pages = refl; commits = refl }) refl c.in-Err-flush_in.fault e.only (flushed_at g.D.Disk.meaning _ c.self.inside.disk.now _ _ c.commit_in.new.log _ _ (search rules) refl (record { any_moment = e.any_moment; ready = e.ready; list = e.list; stable = tt; refused = e.refused; cause = e.cause; told = e.told; reads = e.reads })) c.lasting-self-inside-in-Err-flush_in.ensures) since needed R h lawful small left

pub returns-in-Err-flush_in-clause-memory : goal.returns-in-Err-flush_in-clause-memory
returns-in-Err-flush_in-clause-memory g c = λ is. absurd (cc (is, c.in-Err-flush_in.ensures.only))

pub returns-in-Err-flush_in-clause-loan : goal.returns-in-Err-flush_in-clause-loan
returns-in-Err-flush_in-clause-loan g c =
    let e = c.in-Err-flush_in.ensures in
    commit_loan g.D.Disk.meaning c.args.self.now _ c.commit_in.new.log c.flush_in.new.log c.commit_in.new.pages c.args.c (Err c.in-Err-flush_in.fault) (search rules) (added_at _ c.self.inside.log c.commit_in.new.log _ c.self.inside.pages c.commit_in.new.pages c.args.c (search rules) (search rules) (record { list = c.in-Ok.ensures.list; pages = c.in-Ok.ensures.pages; shape = c.in-Ok.ensures.shape; end = c.in-Ok.ensures.end; stable = c.in-Ok.ensures.stable })) (flushed_at g.D.Disk.meaning _ c.self.inside.disk.now _ _ c.commit_in.new.log _ _ (search rules) refl (record { any_moment = e.any_moment; ready = e.ready; list = e.list; stable = tt; refused = e.refused; cause = e.cause; told = e.told; reads = e.reads })) (search rules) (search rules) (search rules)

pub returns-in-Err-flush_in-clause-cause : goal.returns-in-Err-flush_in-clause-cause
returns-in-Err-flush_in-clause-cause g c =
    let e = c.in-Err-flush_in.ensures in
    let f = flushed_at g.D.Disk.meaning c.args.self.now.disk c.self.inside.disk.now c.flush_in.new.disk c.commit_in.new.log c.commit_in.new.log c.flush_in.new.log (Err c.in-Err-flush_in.fault) (search rules) refl
    (record { any_moment = e.any_moment; ready = e.ready; list = e.list; stable = tt; refused = e.refused; cause = e.cause; told = e.told; reads = e.reads }) in
    failed_cause g.D.Disk.meaning _ _ c.in-Err-flush_in.fault (search rules) c.lasting-self-inside-in-Err-flush_in.ensures (f.cause.rose refl)
