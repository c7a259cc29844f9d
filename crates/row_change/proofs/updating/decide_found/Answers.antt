use Rattle.std.proofs.Common.{refl}
use Rattle.row_change.proofs.Decided.{own_of}
use Rattle.row_change.proofs.Updated.{updates_at}
use Rattle.row_change.proofs.updating.decide_found.Goals as goal

pub returns-clause-says : goal.returns-clause-says
returns-clause-says g c = λ R n t m f i s b. c.decide_at.ensures.says R n c.args.place.now t m (updates_at c.args.store.now.shape R c.args.own.now n c.args.place.now c.args.front.now _ t.lawful (own_of R c.args.who c.args.own.now m) f i s b refl refl refl c.stand_of-stand.ensures)

pub returns-clause-sound : goal.returns-clause-sound
returns-clause-sound g c = λ R n t m f i s b u. c.decide_at.ensures.sound R t m (updates_at c.args.store.now.shape R c.args.own.now n c.args.place.now c.args.front.now _ t.lawful (own_of R c.args.who c.args.own.now m) f i s b refl refl refl c.stand_of-stand.ensures).is u
