use Rattle.std.proofs.Common.{inl, inr, ℕ, length, sym, ◌∙◌, ap, subst, Err}
use Rattle.seg_words.specs.Types.{Shape}
use Rattle.disk_model.specs.Files.{Files}
use Rattle.disk_model.specs.Crash.{Untouched}
use Rattle.rollback_laws.proofs.ClosingLaw.{lists_close}
use Rattle.store_core.proofs.Prepared.{durable_settled}
use Rattle.recovery.specs.Refused.{IsRead, Shows}
use Rattle.recovery.proofs.Refusals.{left_active, store_shows, store_sound}
use Rattle.recovery.proofs.Reading.{causes_ok, causes_err}
use Rattle.recovery.proofs.TakenBack.{reopens_untouched, reopens_looked, reopens_as}
use Rattle.recovery.proofs.opening.recover.Goals as goal

-- ---- it wasn't read

pub returns-in-Err-clause-refused : goal.returns-in-Err-clause-refused
returns-in-Err-clause-refused g c = λ settled. inl (c.in-Err.ensures.untouched, c.in-Err.ensures.found settled.told)

pub returns-in-Err-clause-shows : goal.returns-in-Err-clause-shows
returns-in-Err-clause-shows g c = λ told. subst (λ (f : Files). Shows f c.in-Err.fault) (sym (c.in-Err.ensures.untouched.files told)) (c.in-Err.ensures.shows told)

pub returns-in-Err-clause-any_moment : goal.returns-in-Err-clause-any_moment
returns-in-Err-clause-any_moment g c = λ sh R durable sound. reopens_untouched g.D.Disk.meaning c.args.disk.now c.read_store.new.disk sh R durable sound c.in-Err.ensures.untouched

pub returns-in-Err-clause-told : goal.returns-in-Err-clause-told
returns-in-Err-clause-told g c = c.in-Err.ensures.untouched.told

-- ---- it wasn't taken back

pub returns-in-Err-take_back_read-clause-refused : goal.returns-in-Err-take_back_read-clause-refused
returns-in-Err-take_back_read-clause-refused g c = λ settled.
    let meaning = g.D.Disk.meaning in
    let d0 = c.args.disk.now in
    let d2 = c.take_back_read.new.disk in
    let takes = c.in-Err-take_back_read.ensures in
    let sh = c.in-Ok.loaded.shape in
    let read = c.in-Ok.ensures.found settled.told in
    let told2 = takes.told.1 (c.in-Ok.ensures.untouched.told.1 settled.told) in
    inr (left_active (meaning.files d0) (meaning.files d2) sh c.in-Err-take_back_read.fault c.of_store.result read (λ sound. takes.sound read.R (c.in-Ok.ensures.list sh read.R settled sound)) (c.of_store.ensures.same told2))

pub returns-in-Err-take_back_read-clause-shows : goal.returns-in-Err-take_back_read-clause-shows
returns-in-Err-take_back_read-clause-shows g c = λ told.
    let meaning = g.D.Disk.meaning in
    let d2 = c.take_back_read.new.disk in
    let takes = c.in-Err-take_back_read.ensures in
    let told2 = takes.told.1 (c.in-Ok.ensures.untouched.told.1 told) in
    subst (λ (f : Files). Shows f c.of_store.result) (sym (c.of_store.ensures.untouched.files told2)) (store_shows (meaning.files d2) c.in-Err-take_back_read.fault c.of_store.result (c.of_store.ensures.same told2))

pub returns-in-Err-take_back_read-clause-sound : goal.returns-in-Err-take_back_read-clause-sound
returns-in-Err-take_back_read-clause-sound g c = λ sh R settled sound.
    let meaning = g.D.Disk.meaning in
    let d2 = c.take_back_read.new.disk in
    let takes = c.in-Err-take_back_read.ensures in
    let told2 = takes.told.1 (c.in-Ok.ensures.untouched.told.1 settled.told) in
    store_sound (meaning.files d2) c.in-Err-take_back_read.fault c.of_store.result (takes.sound R (c.in-Ok.ensures.list sh R settled sound)) (c.of_store.ensures.same told2)

pub returns-in-Err-take_back_read-clause-any_moment : goal.returns-in-Err-take_back_read-clause-any_moment
returns-in-Err-take_back_read-clause-any_moment g c = λ sh R durable sound.
    let meaning = g.D.Disk.meaning in
    let d0 = c.args.disk.now in
    let d2 = c.take_back_read.new.disk in
    let loaded = c.in-Ok.loaded in
    let settled = durable_settled meaning d0 durable in
    let since = meaning.clock d0 in
    let found = c.in-Err-take_back_read.ensures.any_moment since R (c.in-Ok.ensures.list sh R settled sound) (c.in-Ok.ensures.survives sh R durable sound) in
    let bytes = ap (λ (f : Files). f.data_bytes) (c.in-Ok.ensures.first.files durable.told) in
    let here = reopens_as meaning since d2 loaded.shape sh R (meaning.files loaded.first).data_bytes (meaning.files d0).data_bytes (c.in-Ok.ensures.shape sh R durable.told sound) bytes found in
    reopens_looked meaning since d2 c.of_store.new.disk sh R (meaning.files d0).data_bytes here c.of_store.ensures.untouched

pub returns-in-Err-take_back_read-clause-cause : goal.returns-in-Err-take_back_read-clause-cause
returns-in-Err-take_back_read-clause-cause g c =
    causes_err g.D.Disk.meaning c.args.disk.now c.read_store.new.disk c.take_back_read.new.disk c.of_store.new.disk _ _ c.of_store.result c.in-Ok.ensures.cause c.in-Err-take_back_read.ensures.cause c.of_store.ensures.later
    (λ e. elim (c.of_store.ensures.device e) [ inl q ↦ inl (ap Err q) | inr rose ↦ inr rose ])

pub returns-in-Err-take_back_read-clause-told : goal.returns-in-Err-take_back_read-clause-told
returns-in-Err-take_back_read-clause-told g c =
    let read = c.in-Ok.ensures.untouched.told in
    let taken = c.in-Err-take_back_read.ensures.told in
    let looked = c.of_store.ensures.untouched.told in
    (λ is. read.0 (taken.0 (looked.0 is)), λ is. looked.1 (taken.1 (read.1 is)))

-- ---- it is opened

pub returns-in-Ok-take_back_read-clause-read : goal.returns-in-Ok-take_back_read-clause-read
returns-in-Ok-take_back_read-clause-read g c = λ told.
    subst (λ (s : Shape). IsRead s (g.D.Disk.meaning.files c.args.disk.now)) (sym c.in-Ok-take_back_read.ensures.kept.1) (c.in-Ok.ensures.found told)

pub returns-in-Ok-take_back_read-clause-opened : goal.returns-in-Ok-take_back_read-clause-opened
returns-in-Ok-take_back_read-clause-opened g c = λ sh R settled sound loan.
    let takes = c.in-Ok-take_back_read.ensures in
    let done = takes.done R (c.in-Ok.ensures.list sh R settled sound) in
    record { shape = takes.kept.1 ∙ c.in-Ok.ensures.shape sh R settled.told sound; list = done.0 loan; closes = lists_close sh R sound.lawful; stable = done.1 }

pub returns-in-Ok-take_back_read-clause-survives : goal.returns-in-Ok-take_back_read-clause-survives
returns-in-Ok-take_back_read-clause-survives g c = λ sh R durable sound.
    let meaning = g.D.Disk.meaning in
    let d0 = c.args.disk.now in
    c.in-Ok-take_back_read.ensures.survives (meaning.clock d0) (λ (m : ℕ). length R) R (c.in-Ok.ensures.list sh R (durable_settled meaning d0 durable) sound) (c.in-Ok.ensures.survives sh R durable sound)

pub returns-in-Ok-take_back_read-clause-any_moment : goal.returns-in-Ok-take_back_read-clause-any_moment
returns-in-Ok-take_back_read-clause-any_moment g c = λ sh R durable sound.
    let meaning = g.D.Disk.meaning in
    let d0 = c.args.disk.now in
    let d2 = c.take_back_read.new.disk in
    let loaded = c.in-Ok.loaded in
    let since = meaning.clock d0 in
    let found = c.in-Ok-take_back_read.ensures.any_moment since R (c.in-Ok.ensures.list sh R (durable_settled meaning d0 durable) sound) (c.in-Ok.ensures.survives sh R durable sound) in
    let bytes = ap (λ (f : Files). f.data_bytes) (c.in-Ok.ensures.first.files durable.told) in
    reopens_as meaning since d2 loaded.shape sh R (meaning.files loaded.first).data_bytes (meaning.files d0).data_bytes (c.in-Ok.ensures.shape sh R durable.told sound) bytes found

pub returns-in-Ok-take_back_read-clause-first : goal.returns-in-Ok-take_back_read-clause-first
returns-in-Ok-take_back_read-clause-first g c = subst (λ (d : g.row.D.Denot). Untouched g.D.Disk.meaning c.args.disk.now d) (sym c.in-Ok-take_back_read.ensures.kept.0) c.in-Ok.ensures.first

pub returns-in-Ok-take_back_read-clause-unspent : goal.returns-in-Ok-take_back_read-clause-unspent
returns-in-Ok-take_back_read-clause-unspent g c = c.in-Ok-take_back_read.ensures.kept.2

pub returns-in-Ok-take_back_read-clause-cause : goal.returns-in-Ok-take_back_read-clause-cause
returns-in-Ok-take_back_read-clause-cause g c = causes_ok g.D.Disk.meaning c.args.disk.now c.read_store.new.disk c.take_back_read.new.disk _ _ _ c.in-Ok.ensures.cause c.in-Ok-take_back_read.ensures.cause (λ e. absurd (cc e))

pub returns-in-Ok-take_back_read-clause-told : goal.returns-in-Ok-take_back_read-clause-told
returns-in-Ok-take_back_read-clause-told g c =
    let read = c.in-Ok.ensures.untouched.told in
    let taken = c.in-Ok-take_back_read.ensures.told in
    (λ is. read.0 (taken.0 is), λ is. taken.1 (read.1 is))
