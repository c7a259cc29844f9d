use Rattle.std.proofs.Common.{◌≡◌, inl, inr, ℕ, List, sym, ap, subst, Err}
use Rattle.disk_model.specs.Files.{Files}
use Rattle.disk_model.specs.Crash.{Untouched}
use Rattle.disk_model.proofs.Going.{untouched_then}
use Rattle.seg_words.specs.Types.{Shape}
use Rattle.store_core.specs.Preparing.{IsReadOf, IsRefused}
use Rattle.store_core.proofs.Prepared.{settled_then, log_then}
use Rattle.recovery.specs.FaultOf.{IsReadFault}
use Rattle.recovery.proofs.Refusals.{head_refused, head_shows, head_blocks, read_refused, read_shows, is_read, store_of, shape_of, answers_sound, read_sound}
use Rattle.recovery.proofs.Reading.{durable_then, sound_then, survives_from, causes_ok, causes_err}
use Rattle.recovery.proofs.opening.read_store.Goals as goal

-- ---- the head, or the data file's length

pub returns-in-Err-clause-found : goal.returns-in-Err-clause-found
returns-in-Err-clause-found g c = λ told. head_refused (g.D.Disk.meaning.files c.args.disk.now) c.in-Err.fault (c.in-Err.ensures.found told)

pub returns-in-Err-clause-shows : goal.returns-in-Err-clause-shows
returns-in-Err-clause-shows g c = λ told. head_shows (g.D.Disk.meaning.files c.args.disk.now) c.in-Err.fault (c.in-Err.ensures.found told)

pub returns-in-Err-clause-sound : goal.returns-in-Err-clause-sound
returns-in-Err-clause-sound g c = λ sh R settled sound. answers_sound c.in-Err.fault (λ (answer : Shape). answer ≡ sh) (c.in-Err.ensures.whole sh sound.log.groups settled.told (store_of sh R (g.D.Disk.meaning.files c.args.disk.now) sound))

-- ---- the log

pub returns-in-Err-prepare-clause-found : goal.returns-in-Err-prepare-clause-found
returns-in-Err-prepare-clause-found g c = λ told.
    let meaning = g.D.Disk.meaning in
    let d0 = c.args.disk.now in
    let d1 = c.read_head.new.disk in
    let d2 = c.prepare.new.disk in
    let files = meaning.files d0 in
    let look1 = c.in-Ok.ensures.untouched in
    let look2 = c.in-Err-prepare.ensures.untouched in
    let told1 = look1.told.1 told in
    let blocks = head_blocks files c.in-Ok.shape (c.in-Ok.ensures.found told) in
    let why = subst (λ (file : List ℕ). IsRefused file c.in-Err-prepare.fault) (log_then meaning d0 d1 told look1) (c.in-Err-prepare.ensures.prepared told1) in
    let same = subst (λ (f : Files). IsReadFault f c.in-Err-prepare.fault c.of_open.result) ((untouched_then meaning d0 d1 d2 look1 look2).files told) (c.of_open.ensures.same (look2.told.1 told1)) in
    read_refused files c.in-Ok.shape c.in-Err-prepare.fault c.of_open.result blocks why same

pub returns-in-Err-prepare-clause-shows : goal.returns-in-Err-prepare-clause-shows
returns-in-Err-prepare-clause-shows g c = λ told.
    let meaning = g.D.Disk.meaning in
    let d0 = c.args.disk.now in
    let d1 = c.read_head.new.disk in
    let d2 = c.prepare.new.disk in
    let look = untouched_then meaning d0 d1 d2 c.in-Ok.ensures.untouched c.in-Err-prepare.ensures.untouched in
    let same = subst (λ (f : Files). IsReadFault f c.in-Err-prepare.fault c.of_open.result) (look.files told) (c.of_open.ensures.same (look.told.1 told)) in
    read_shows (meaning.files d0) c.in-Err-prepare.fault c.of_open.result same

pub returns-in-Err-prepare-clause-sound : goal.returns-in-Err-prepare-clause-sound
returns-in-Err-prepare-clause-sound g c = λ sh R settled sound.
    let meaning = g.D.Disk.meaning in
    let d0 = c.args.disk.now in
    let d1 = c.read_head.new.disk in
    let d2 = c.prepare.new.disk in
    let look1 = c.in-Ok.ensures.untouched in
    let look2 = c.in-Err-prepare.ensures.untouched in
    let told1 = look1.told.1 settled.told in
    let here = sound_then meaning d0 d1 sh R settled.told look1 sound in
    read_sound (meaning.files d2) c.in-Err-prepare.fault c.of_open.result (c.in-Err-prepare.ensures.sound sh R (settled_then meaning d0 d1 settled look1) here.log here.lawful) (c.of_open.ensures.same (look2.told.1 told1))

pub returns-in-Err-prepare-clause-cause : goal.returns-in-Err-prepare-clause-cause
returns-in-Err-prepare-clause-cause g c =
    let meaning = g.D.Disk.meaning in
    let fault = c.in-Err-prepare.fault in
    causes_err meaning c.args.disk.now c.read_head.new.disk c.prepare.new.disk c.of_open.new.disk _ _ c.of_open.result c.in-Ok.ensures.cause c.in-Err-prepare.ensures.cause c.of_open.ensures.later
    (λ e. elim (c.of_open.ensures.device e) [ inl q ↦ inl (ap Err q) | inr rose ↦ inr rose ])

pub returns-in-Err-prepare-clause-untouched : goal.returns-in-Err-prepare-clause-untouched
returns-in-Err-prepare-clause-untouched g c =
    let meaning = g.D.Disk.meaning in
    let d0 = c.args.disk.now in
    let d1 = c.read_head.new.disk in
    let d2 = c.prepare.new.disk in
    untouched_then meaning d0 d2 c.of_open.new.disk (untouched_then meaning d0 d1 d2 c.in-Ok.ensures.untouched c.in-Err-prepare.ensures.untouched) c.of_open.ensures.untouched

-- ---- a store

pub returns-in-Ok-prepare-clause-found : goal.returns-in-Ok-prepare-clause-found
returns-in-Ok-prepare-clause-found g c = λ told.
    let meaning = g.D.Disk.meaning in
    let d0 = c.args.disk.now in
    let d1 = c.read_head.new.disk in
    let files = meaning.files d0 in
    let look = c.in-Ok.ensures.untouched in
    let blocks = head_blocks files c.in-Ok.shape (c.in-Ok.ensures.found told) in
    let is = subst (λ (file : List ℕ). IsReadOf file c.in-Ok-prepare.loaded) (log_then meaning d0 d1 told look) (c.in-Ok-prepare.ensures.prepared (look.told.1 told)) in
    is_read files c.in-Ok.shape c.in-Ok-prepare.loaded blocks is

pub returns-in-Ok-prepare-clause-list : goal.returns-in-Ok-prepare-clause-list
returns-in-Ok-prepare-clause-list g c = λ sh R settled sound.
    let meaning = g.D.Disk.meaning in
    let d0 = c.args.disk.now in
    let d1 = c.read_head.new.disk in
    let look = c.in-Ok.ensures.untouched in
    let here = sound_then meaning d0 d1 sh R settled.told look sound in
    c.in-Ok-prepare.ensures.lawful sh R (settled_then meaning d0 d1 settled look) here.log here.lawful

pub returns-in-Ok-prepare-clause-shape : goal.returns-in-Ok-prepare-clause-shape
returns-in-Ok-prepare-clause-shape g c = λ sh R told sound.
    let meaning = g.D.Disk.meaning in
    let d0 = c.args.disk.now in
    let d1 = c.read_head.new.disk in
    let look = c.in-Ok.ensures.untouched in
    shape_of sh R (meaning.files d1) c.in-Ok-prepare.loaded (sound_then meaning d0 d1 sh R told look sound) (c.in-Ok-prepare.ensures.prepared (look.told.1 told))

pub returns-in-Ok-prepare-clause-survives : goal.returns-in-Ok-prepare-clause-survives
returns-in-Ok-prepare-clause-survives g c = λ sh R durable sound.
    let meaning = g.D.Disk.meaning in
    let d0 = c.args.disk.now in
    let d1 = c.read_head.new.disk in
    let d2 = c.prepare.new.disk in
    let look = c.in-Ok.ensures.untouched in
    let loaded = c.in-Ok-prepare.loaded in
    let here = sound_then meaning d0 d1 sh R durable.told look sound in
    let shape = shape_of sh R (meaning.files d1) loaded here (c.in-Ok-prepare.ensures.prepared (look.told.1 durable.told)) in
    survives_from meaning d0 d1 d2 sh R loaded durable sound look c.in-Ok-prepare.ensures.untouched c.in-Ok-prepare.ensures.first shape (c.in-Ok-prepare.ensures.survives sh R (durable_then meaning d0 d1 durable look) here)

pub returns-in-Ok-prepare-clause-first : goal.returns-in-Ok-prepare-clause-first
returns-in-Ok-prepare-clause-first g c = subst (λ (d : g.row.D.Denot). Untouched g.D.Disk.meaning c.args.disk.now d) (sym c.in-Ok-prepare.ensures.first) c.in-Ok.ensures.untouched

pub returns-in-Ok-prepare-clause-cause : goal.returns-in-Ok-prepare-clause-cause
returns-in-Ok-prepare-clause-cause g c = causes_ok g.D.Disk.meaning c.args.disk.now c.read_head.new.disk c.prepare.new.disk _ _ _ c.in-Ok.ensures.cause c.in-Ok-prepare.ensures.cause (λ e. absurd (cc e))

pub returns-in-Ok-prepare-clause-untouched : goal.returns-in-Ok-prepare-clause-untouched
returns-in-Ok-prepare-clause-untouched g c = untouched_then g.D.Disk.meaning c.args.disk.now c.read_head.new.disk c.prepare.new.disk c.in-Ok.ensures.untouched c.in-Ok-prepare.ensures.untouched
