use Rattle.std.proofs.Common.{sym, ap, ◌∙◌}
use Rattle.end_laws.specs.Types.{present_addr}
use Rattle.redo_model.specs.Model.{undo_sequence}
use Rattle.txn_end.proofs.Given.{sequence_given, undo_there}
use Rattle.txn_end.proofs.Taking.{address_is}
use Rattle.txn_end.proofs.back.address_of.Goals as goal

pub returns-in-Ok-clause-says : goal.returns-in-Ok-clause-says
returns-in-Ok-clause-says g c = λ R t used. address_is c.args.store.now.shape R c.in-Some.place c.in-Ok.seq t.list.within t.lawful (used c.in-Some.place c.in-Some.is) (c.in-Ok.ensures.says R t) ∙ ap (present_addr R) (sym c.in-Some.is)

pub returns-in-Err-clause-sound : goal.returns-in-Err-clause-sound
returns-in-Err-clause-sound g c = λ R t used. c.in-Err.ensures.sound R (undo_sequence R c.in-Some.place.block) t c.requires.unspent (undo_there c.args.store.now.shape R c.in-Some.place.block t.list.within (used c.in-Some.place c.in-Some.is)) (sequence_given c.args.store.now.shape R c.in-Some.place.block t.list.within t.lawful (used c.in-Some.place c.in-Some.is))
