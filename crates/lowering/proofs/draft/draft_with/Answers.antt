use Rattle.std.proofs.Common.{List, ℕ, Ok, Err}
use Rattle.redo_model.specs.Records.{LowerRecord}
use Rattle.store_core.proofs.Lookups.{looked_on, looked_ok, looked_err}
use Rattle.lowering.specs.declared.draft.Tops.{Tops}
use Rattle.lowering.proofs.Knowing.{knows_later}
use Rattle.lowering.proofs.Drafting.{lower_drafted}
use Rattle.lowering.proofs.draft.draft_with.Goals as goal

pub returns-in-Err-clause-looked : goal.returns-in-Err-clause-looked
returns-in-Err-clause-looked g c = looked_err {A = Tops} {T = LowerRecord} g.D.Disk.meaning c.args.store.now c.tops_of.new.store c.in-Err.fault c.in-Err.ensures.looked

pub returns-in-Err-clause-sound : goal.returns-in-Err-clause-sound
returns-in-Err-clause-sound g c = λ R o k u. c.in-Err.ensures.sound R o k u

pub returns-in-Ok-released_from-clause-looked : goal.returns-in-Ok-released_from-clause-looked
returns-in-Ok-released_from-clause-looked g c = looked_ok g.D.Disk.meaning c.args.store.now c.released_from.new.store c.in-Ok-released_from.released _ (looked_on g.D.Disk.meaning c.args.store.now c.tops_of.new.store c.released_from.new.store c.in-Ok.tops (Ok c.in-Ok-released_from.released) c.in-Ok.ensures.looked c.in-Ok-released_from.ensures.looked)

pub returns-in-Ok-released_from-clause-says : goal.returns-in-Ok-released_from-clause-says
returns-in-Ok-released_from-clause-says g c = λ R o k l a. lower_drafted g.D.Disk.meaning c.args.store.now R o c.args.kept c.args.ground.now c.args.groups c.in-Ok.tops c.in-Ok-released_from.released c.record_of.result k l a (c.in-Ok.ensures.says R o k)
    (c.in-Ok-released_from.ensures.says R o (knows_later g.D.Disk.meaning c.args.store.now c.tops_of.new.store R o c.args.ground.now (Ok c.in-Ok.tops) c.in-Ok.ensures.looked k)) c.record_of.ensures

pub returns-in-Err-released_from-clause-looked : goal.returns-in-Err-released_from-clause-looked
returns-in-Err-released_from-clause-looked g c = looked_on g.D.Disk.meaning c.args.store.now c.tops_of.new.store c.released_from.new.store c.in-Ok.tops (Err c.in-Err-released_from.fault) c.in-Ok.ensures.looked (looked_err {A = List ℕ} {T = LowerRecord} g.D.Disk.meaning c.tops_of.new.store c.released_from.new.store c.in-Err-released_from.fault c.in-Err-released_from.ensures.looked)

pub returns-in-Err-released_from-clause-sound : goal.returns-in-Err-released_from-clause-sound
returns-in-Err-released_from-clause-sound g c = λ R o k u. c.in-Err-released_from.ensures.sound R o (knows_later g.D.Disk.meaning c.args.store.now c.tops_of.new.store R o c.args.ground.now (Ok c.in-Ok.tops) c.in-Ok.ensures.looked k) (c.in-Ok.ensures.looked.cause.kept u)
