use Rattle.std.proofs.Common.{refl, sym, subst}
use Rattle.std.specs.Prelude.{IfOk}
use Rattle.seg_words.specs.Types.{Shape}
use Rattle.change_laws.specs.Types.{Answer, blocks_at, by_lack, by_spot, change_size, delete_of, first_lacking, spot_for}
use Rattle.store_core.proofs.Lookups.{looked_on, looked_err}
use Rattle.row_change.specs.Deciding.{DecisionMeans}
use Rattle.row_change.specs.Planning.{CanBeMade}
use Rattle.row_change.specs.Standing.{AreAtHome, told_stand}
use Rattle.row_change.proofs.Decided.{own_of, deletes_at}
use Rattle.row_change.proofs.Looked.{table_still}
use Rattle.row_change.proofs.deleting.decide_at.Goals as goal

pub returns-in-Err-clause-looked : goal.returns-in-Err-clause-looked
returns-in-Err-clause-looked g c = looked_err g.D.Disk.meaning c.args.store.now c.begin_change.new.store c.in-Err.fault c.in-Err.ensures.looked

pub returns-in-Err-clause-sound : goal.returns-in-Err-clause-sound
returns-in-Err-clause-sound g c = λ R n t m f i u. c.in-Err.ensures.sound R c.args.obj t (table_still c.args.store.now.shape R c.args.own c.args.obj n c.args.place.now t.lawful.allowed f) m u

pub returns-clause-looked : goal.returns-clause-looked
returns-clause-looked g c = looked_on g.D.Disk.meaning c.args.store.now c.begin_change.new.store c.decide_free.new.store c.in-Ok.opening c.decide_free.result c.in-Ok.ensures.looked c.decide_free.ensures.looked

pub returns-clause-says : goal.returns-clause-says
returns-clause-says g c = λ R n t m f i.
    let y = told_stand c.stand_of-stand.result in
    let k = delete_of c.args.obj c.args.front.now.row y in
    let d = deletes_at c.args.store.now.shape R c.args.own c.args.obj n c.args.place.now c.args.front.now c.args.front.now.row y t.lawful (own_of R c.args.who c.args.own m) f i refl c.stand_of-stand.ensures in
    let same = c.in-Ok.ensures.looked.loan.shape in
    subst (λ (z : Answer). IfOk c.decide_free.result (DecisionMeans c.args.store.now.shape R c.args.who c.args.own z)) d.answer
    (subst (λ (s : Shape). IfOk c.decide_free.result (DecisionMeans s R c.args.who c.args.own (by_lack R (first_lacking R c.args.own (blocks_at y)) (by_spot k (spot_for s R (change_size R k)))))) same
    (c.decide_free.ensures.says R c.args.who c.args.own (c.in-Ok.ensures.looked.stays_true R t) m (c.in-Ok.ensures.says R t m) (subst (λ (s : Shape). AreAtHome s R c.args.obj y) (sym same) d.home) (λ e. subst (λ (s : Shape). CanBeMade s R c.args.own k) (sym same) (d.can e))))

pub returns-clause-sound : goal.returns-clause-sound
returns-clause-sound g c = λ R n t m f i u.
    let y = told_stand c.stand_of-stand.result in
    let d = deletes_at c.args.store.now.shape R c.args.own c.args.obj n c.args.place.now c.args.front.now c.args.front.now.row y t.lawful (own_of R c.args.who c.args.own m) f i refl c.stand_of-stand.ensures in
    c.decide_free.ensures.sound R c.args.who c.args.own (c.in-Ok.ensures.looked.stays_true R t) (c.in-Ok.ensures.says R t m) (table_still c.args.store.now.shape R c.args.own c.args.obj n c.args.place.now t.lawful.allowed f) (subst (λ (s : Shape). AreAtHome s R c.args.obj y) (sym c.in-Ok.ensures.looked.loan.shape) d.home) (c.in-Ok.ensures.looked.cause.kept u)
