use Rattle.page_store.specs.Types.{Leads}
use Rattle.store_pages.proofs.Opened.{opening_leaves, opening_sound, reading_leaves, reading_sound, reading_turns}
use Rattle.store_pages.proofs.Refusing.{unread_table, unsound_names}
use Rattle.store_pages.proofs.opening.over_file.Goals as goal

pub returns-in-Err-clause-any_moment : goal.returns-in-Err-clause-any_moment
returns-in-Err-clause-any_moment g c = λ records older m o. opening_leaves g.D.Disk.meaning c.args.disk.now c.args.shape records older m o c.open.new.disk c.open.ensures.any_moment

pub returns-in-Err-clause-sound : goal.returns-in-Err-clause-sound
returns-in-Err-clause-sound g c = λ records older m o. opening_sound g.D.Disk.meaning c.args.disk.now c.args.shape records older m o (λ pages _. Leads g.D.Disk.meaning c.args.disk.now c.open.new.disk c.args.shape pages) c.in-Err.fault c.in-Err.ensures.opened

pub returns-in-Ok-new-clause-any_moment : goal.returns-in-Ok-new-clause-any_moment
returns-in-Ok-new-clause-any_moment g c = λ records older m o.
    reading_leaves g.D.Disk.meaning c.args.disk.now c.args.shape records older m o c.open.new.disk c.new.new.disk c.open.ensures.any_moment c.in-Ok.ensures.opened c.new.ensures.untouched

pub returns-in-Ok-new-clause-done : goal.returns-in-Ok-new-clause-done
returns-in-Ok-new-clause-done g c = λ records older m o.
    reading_turns g.D.Disk.meaning c.args.disk.now c.args.shape records older m o c.open.new.disk c.new.new.disk c.open.ensures.any_moment c.in-Ok.ensures.opened c.new.ensures.untouched c.in-Ok.store c.in-Ok.ensures.shape c.in-Ok-new.pool c.in-Ok-new.ensures.shape c.in-Ok-new.ensures.shows

pub returns-in-Err-new-clause-any_moment : goal.returns-in-Err-new-clause-any_moment
returns-in-Err-new-clause-any_moment g c = λ records older m o.
    reading_leaves g.D.Disk.meaning c.args.disk.now c.args.shape records older m o c.open.new.disk c.new.new.disk c.open.ensures.any_moment c.in-Ok.ensures.opened c.new.ensures.untouched

pub returns-in-Err-new-clause-sound : goal.returns-in-Err-new-clause-sound
returns-in-Err-new-clause-sound g c = λ records older m o.
    reading_sound g.D.Disk.meaning c.args.disk.now c.args.shape records older m o c.open.new.disk c.new.new.disk c.open.ensures.any_moment c.in-Ok.ensures.opened c.new.ensures.untouched c.in-Ok.store c.in-Ok.ensures.shape c.in-Err-new.fault c.in-Err-new.ensures.shows

pub returns-in-Err-clause-any : goal.returns-in-Err-clause-any
returns-in-Err-clause-any g c = λ has. unsound_names c.args.shape (g.D.Disk.meaning.files c.args.disk.now).data_bytes c.in-Err.fault (c.in-Err.ensures.found has.settled.told)

pub returns-in-Err-new-clause-any : goal.returns-in-Err-new-clause-any
returns-in-Err-new-clause-any g c = λ has.
    unread_table g.D.Disk.meaning c.args.disk.now c.args.shape has c.open.new.disk c.in-Ok.store c.in-Err-new.fault c.in-Ok.ensures.shape (c.in-Ok.ensures.found has.settled.told) c.in-Ok.ensures.opened c.in-Err-new.ensures.shows
