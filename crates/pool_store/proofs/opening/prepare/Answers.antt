use Rattle.std.proofs.Common.{◌≡◌, ◌∙◌, true, ℕ, List, [], ap, reverse, subst, sym}
use Rattle.std.specs.Prelude.{None}
use Rattle.seg_words.specs.Types.{Shape, is_shape}
use Rattle.redo_model.specs.Records.{Record}
use Rattle.redo_model.specs.Model.{commit_count}
use Rattle.redo_log.specs.Found.{WalkEnds}
use Rattle.page_store.specs.Types.{is_sound_area}
use Rattle.page_store.proofs.Logs.{log_looked, log_then}
use Rattle.store_pages.specs.Redoing.{StopsAt}
use Rattle.pool_store.specs.Store.{Read}
use Rattle.pool_store.proofs.Prepared.{readable, few_of, durable_log, openable, is_read, read_list, read_true, read_survives, left_looked, left_written, lawful_as, data_then, named_then}
use Rattle.pool_store.proofs.opening.prepare.Goals as goal

pub returns-in-Err-clause-prepared : goal.returns-in-Err-clause-prepared
returns-in-Err-clause-prepared g c = λ told. c.in-Err.ensures.refused told

pub returns-in-Err-pages_of-clause-prepared : goal.returns-in-Err-pages_of-clause-prepared
returns-in-Err-pages_of-clause-prepared g c = λ told.
    let is = c.in-Ok.ensures.found told in
    c.in-Err-pages_of.ensures.why (g.D.Disk.meaning.files c.args.disk.now).log_bytes c.in-Ok.read.log.end is.head
    (subst (λ (l : List Record). WalkEnds (g.D.Disk.meaning.files c.args.disk.now).log_bytes 63 c.in-Ok.read.log.end [] (reverse l)) (sym c.deref.ensures.value) is.ends)

pub returns-clause-prepared : goal.returns-clause-prepared
returns-clause-prepared g c = λ told.
    record {
      R = reverse c.in-Ok.read.records.items;
      is = c.in-Ok.ensures.found told;
      commits = c.count_commits-commits.ensures ∙ ap (λ (l : List Record). commit_count (reverse l)) c.deref-2.ensures.value;
      same = c.in-Ok-pages_of.ensures.shape;
    }

pub returns-in-Err-clause-stops : goal.returns-in-Err-clause-stops
returns-in-Err-clause-stops g c = λ sh R durable log folds readable dba e. absurd (c.in-Err.ensures.no_page dba (cc e))

pub returns-in-Err-pages_of-clause-stops : goal.returns-in-Err-pages_of-clause-stops
returns-in-Err-pages_of-clause-stops g c = λ sh R durable log folds readable dba e.
    let meaning = g.D.Disk.meaning in
    let d0 = c.args.disk.now in
    let d1 = c.read_log.new.disk in
    let read = c.in-Ok.read in
    let look = c.in-Ok.ensures.untouched in
    let whole = c.in-Ok.ensures.whole sh log.groups R (durable_log meaning d0 durable) log.log log.holds in
    let all : reverse c.deref.result.now ≡ R = ap reverse c.deref.ensures.value ∙ whole.2 in
    let able = openable meaning d0 d1 sh read.shape R c.deref.result.now durable look whole.0 all folds readable in
    subst (λ (s : Shape). StopsAt s R 0 dba) whole.0 (subst (λ (l : List Record). StopsAt read.shape l 0 dba) all (c.in-Err-pages_of.ensures.stops able dba (cc e)))

pub returns-in-Err-clause-sound : goal.returns-in-Err-clause-sound
returns-in-Err-clause-sound g c = λ sh R durable sound. c.in-Err.ensures.whole sh sound.log.groups R (durable_log g.D.Disk.meaning c.args.disk.now durable) sound.log.log sound.log.holds

pub returns-in-Err-pages_of-clause-sound : goal.returns-in-Err-pages_of-clause-sound
returns-in-Err-pages_of-clause-sound g c = λ sh R durable sound.
    let meaning = g.D.Disk.meaning in
    let d0 = c.args.disk.now in
    let d1 = c.read_log.new.disk in
    let read = c.in-Ok.read in
    let look = c.in-Ok.ensures.untouched in
    let log = sound.log in
    let whole = c.in-Ok.ensures.whole sh log.groups R (durable_log meaning d0 durable) log.log log.holds in
    let all : reverse c.deref.result.now ≡ R = ap reverse c.deref.ensures.value ∙ whole.2 in
    let few = few_of read.records.items R whole.2 c.in-Ok.ensures.few in
    let able = openable meaning d0 d1 sh read.shape R c.deref.result.now durable look whole.0 all sound.folds (readable sh R log.log.within few sound.lawful.allowed) in
    c.in-Err-pages_of.ensures.lawful able (ap is_shape whole.0 ∙ log.log.within) (lawful_as sh read.shape R (reverse c.deref.result.now) whole.0 all sound.lawful)

pub returns-in-Err-clause-any_moment : goal.returns-in-Err-clause-any_moment
returns-in-Err-clause-any_moment g c = λ sh R durable sound. left_looked g.D.Disk.meaning c.args.disk.now sh R durable sound c.read_log.new.disk c.in-Err.ensures.untouched

pub returns-in-Err-pages_of-clause-any_moment : goal.returns-in-Err-pages_of-clause-any_moment
returns-in-Err-pages_of-clause-any_moment g c = λ sh R durable sound.
    let meaning = g.D.Disk.meaning in
    let d0 = c.args.disk.now in
    let d1 = c.read_log.new.disk in
    let read = c.in-Ok.read in
    let look = c.in-Ok.ensures.untouched in
    let log = sound.log in
    let whole = c.in-Ok.ensures.whole sh log.groups R (durable_log meaning d0 durable) log.log log.holds in
    let all : reverse c.deref.result.now ≡ R = ap reverse c.deref.ensures.value ∙ whole.2 in
    let few = few_of read.records.items R whole.2 c.in-Ok.ensures.few in
    let able = openable meaning d0 d1 sh read.shape R c.deref.result.now durable look whole.0 all sound.folds (readable sh R log.log.within few sound.lawful.allowed) in
    left_written meaning d0 sh R durable sound d1 c.pages_of.new.disk read.shape c.deref.result.now look whole.0 all (c.pages_of.ensures.any_moment able)

pub returns-clause-any_moment : goal.returns-clause-any_moment
returns-clause-any_moment g c = λ sh R durable sound.
    let meaning = g.D.Disk.meaning in
    let d0 = c.args.disk.now in
    let d1 = c.read_log.new.disk in
    let read = c.in-Ok.read in
    let look = c.in-Ok.ensures.untouched in
    let log = sound.log in
    let whole = c.in-Ok.ensures.whole sh log.groups R (durable_log meaning d0 durable) log.log log.holds in
    let all : reverse c.deref.result.now ≡ R = ap reverse c.deref.ensures.value ∙ whole.2 in
    let few = few_of read.records.items R whole.2 c.in-Ok.ensures.few in
    let able = openable meaning d0 d1 sh read.shape R c.deref.result.now durable look whole.0 all sound.folds (readable sh R log.log.within few sound.lawful.allowed) in
    left_written meaning d0 sh R durable sound d1 c.pages_of.new.disk read.shape c.deref.result.now look whole.0 all (c.pages_of.ensures.any_moment able)

pub returns-in-Err-clause-log : goal.returns-in-Err-clause-log
returns-in-Err-clause-log g c = log_looked g.D.Disk.meaning c.args.disk.now c.read_log.new.disk c.in-Err.ensures.untouched

pub returns-in-Err-pages_of-clause-log : goal.returns-in-Err-pages_of-clause-log
returns-in-Err-pages_of-clause-log g c = log_then g.D.Disk.meaning c.args.disk.now c.read_log.new.disk c.pages_of.new.disk (log_looked g.D.Disk.meaning c.args.disk.now c.read_log.new.disk c.in-Ok.ensures.untouched) c.pages_of.ensures.log

pub returns-clause-log : goal.returns-clause-log
returns-clause-log g c = log_then g.D.Disk.meaning c.args.disk.now c.read_log.new.disk c.pages_of.new.disk (log_looked g.D.Disk.meaning c.args.disk.now c.read_log.new.disk c.in-Ok.ensures.untouched) c.pages_of.ensures.log

pub returns-clause-list : goal.returns-clause-list
returns-clause-list g c = λ sh R settled log loan.
    let meaning = g.D.Disk.meaning in
    let d0 = c.args.disk.now in
    let d1 = c.read_log.new.disk in
    let read = c.in-Ok.read in
    let look = c.in-Ok.ensures.untouched in
    let whole = c.in-Ok.ensures.whole sh log.groups R settled log.log log.holds in
    let r : Read g.row.D.Denot = record { first = c.of-first.result.value; shape = read.shape; log = read.log; pages = c.in-Ok-pages_of.pages; commits = c.count_commits-commits.result; fault = None } in
    let is = is_read meaning d1 sh log.groups R r read.records.items c.deref-2.result.now log.log.within whole.0 whole.1 log.holds c.in-Ok.ensures.few whole.2 c.deref-2.ensures.value c.count_commits-commits.ensures in
    read_list meaning d1 c.pages_of.new.disk sh log.groups R r is c.pages_of.ensures.log loan

pub returns-clause-lawful : goal.returns-clause-lawful
returns-clause-lawful g c = λ sh R durable sound loan.
    let meaning = g.D.Disk.meaning in
    let d0 = c.args.disk.now in
    let d1 = c.read_log.new.disk in
    let read = c.in-Ok.read in
    let look = c.in-Ok.ensures.untouched in
    let log = sound.log in
    let whole = c.in-Ok.ensures.whole sh log.groups R (durable_log meaning d0 durable) log.log log.holds in
    let all : reverse c.deref.result.now ≡ R = ap reverse c.deref.ensures.value ∙ whole.2 in
    let few = few_of read.records.items R whole.2 c.in-Ok.ensures.few in
    let able = openable meaning d0 d1 sh read.shape R c.deref.result.now durable look whole.0 all sound.folds (readable sh R log.log.within few sound.lawful.allowed) in
    let r : Read g.row.D.Denot = record { first = c.of-first.result.value; shape = read.shape; log = read.log; pages = c.in-Ok-pages_of.pages; commits = c.count_commits-commits.result; fault = None } in
    let is = is_read meaning d1 sh log.groups R r read.records.items c.deref-2.result.now log.log.within whole.0 whole.1 log.holds c.in-Ok.ensures.few whole.2 c.deref-2.ensures.value c.count_commits-commits.ensures in
    read_true meaning d1 c.pages_of.new.disk sh log.groups R r is c.pages_of.ensures.log c.deref.result.now sound.lawful c.in-Ok-pages_of.ensures.shape all (c.in-Ok-pages_of.ensures.opened able) loan

pub returns-clause-survives : goal.returns-clause-survives
returns-clause-survives g c = λ sh R durable sound loan.
    let meaning = g.D.Disk.meaning in
    let d0 = c.args.disk.now in
    let d1 = c.read_log.new.disk in
    let read = c.in-Ok.read in
    let look = c.in-Ok.ensures.untouched in
    let log = sound.log in
    let whole = c.in-Ok.ensures.whole sh log.groups R (durable_log meaning d0 durable) log.log log.holds in
    let all : reverse c.deref.result.now ≡ R = ap reverse c.deref.ensures.value ∙ whole.2 in
    let few = few_of read.records.items R whole.2 c.in-Ok.ensures.few in
    let able = openable meaning d0 d1 sh read.shape R c.deref.result.now durable look whole.0 all sound.folds (readable sh R log.log.within few sound.lawful.allowed) in
    let r : Read g.row.D.Denot = record { first = c.of-first.result.value; shape = read.shape; log = read.log; pages = c.in-Ok-pages_of.pages; commits = c.count_commits-commits.result; fault = None } in
    let is = is_read meaning d1 sh log.groups R r read.records.items c.deref-2.result.now log.log.within whole.0 whole.1 log.holds c.in-Ok.ensures.few whole.2 c.deref-2.ensures.value c.count_commits-commits.ensures in
    read_survives meaning d1 c.pages_of.new.disk sh log.groups R r is c.pages_of.ensures.log d0 c.of-first.ensures
    (left_written meaning d0 sh R durable sound d1 c.pages_of.new.disk read.shape c.deref.result.now look whole.0 all (c.pages_of.ensures.any_moment able)) loan

pub returns-in-Err-pages_of-clause-unwritten : goal.returns-in-Err-pages_of-clause-unwritten
returns-in-Err-pages_of-clause-unwritten g c = λ e. absurd (c.in-Err-pages_of.ensures.not_open (cc e))

pub returns-in-Err-pages_of-clause-bad_unwritten : goal.returns-in-Err-pages_of-clause-bad_unwritten
returns-in-Err-pages_of-clause-bad_unwritten g c = λ offset seen e. absurd (c.in-Err-pages_of.ensures.no_log offset seen (cc e))

pub returns-in-Err-pages_of-clause-page : goal.returns-in-Err-pages_of-clause-page
returns-in-Err-pages_of-clause-page g c = λ told dba e.
    let meaning = g.D.Disk.meaning in
    let is = c.in-Ok.ensures.found told in
    record {
      shape = c.in-Ok.read.shape;
      head = is.head;
      at = c.in-Ok.read.log.end;
      records = c.deref.result.now;
      ends = subst (λ (l : List Record). WalkEnds (meaning.files c.args.disk.now).log_bytes 63 c.in-Ok.read.log.end [] (reverse l)) (sym c.deref.ensures.value) is.ends;
      names = named_then meaning c.args.disk.now c.read_log.new.disk c.in-Ok.read.shape c.deref.result.now dba c.in-Ok.ensures.untouched (λ has. c.in-Err-pages_of.ensures.names has dba (cc e));
    }

pub returns-clause-area : goal.returns-clause-area
returns-clause-area g c = λ told.
    subst (λ (bytes : List ℕ). is_sound_area c.in-Ok.read.shape bytes ≡ true) (data_then g.D.Disk.meaning c.args.disk.now c.read_log.new.disk told c.in-Ok.ensures.untouched)
    (c.in-Ok-pages_of.ensures.area (c.in-Ok.ensures.untouched.told.1 told))
