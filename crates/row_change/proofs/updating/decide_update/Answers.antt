use Rattle.std.proofs.Common.{length, sym, subst}
use Rattle.std.specs.Prelude.{IfOk}
use Rattle.seg_words.specs.Types.{Shape}
use Rattle.change_laws.specs.Types.{MayBeTarget, WasFound, change_by, path_of, stand_at, update_answer, updated_blocks}
use Rattle.store_core.proofs.Lookups.{looked_on, looked_ok, looked_err}
use Rattle.row_change.specs.Deciding.{DecisionMeans}
use Rattle.row_change.specs.Looking.{IsFreeAt, LookMeans}
use Rattle.row_change.proofs.Decided.{own_of}
use Rattle.row_change.proofs.updating.decide_update.Goals as goal

pub returns-in-Free-clause-looked : goal.returns-in-Free-clause-looked
returns-in-Free-clause-looked g c = looked_on g.D.Disk.meaning c.args.store.now c.look_again.new.store c.decide_found.new.store c.in-Ok.look c.decide_found.result c.in-Ok.ensures.looked c.decide_found.ensures.looked

pub returns-in-Free-clause-says : goal.returns-in-Free-clause-says
returns-in-Free-clause-says g c = λ R n t m f z b.
    let same = c.in-Ok.ensures.looked.loan.shape in
    let x = subst (LookMeans c.args.store.now.shape R c.args.own c.args.obj n c.args.place.now) c.in-Free.is (c.in-Ok.ensures.says R n t (own_of R c.args.who c.args.own m) f) in
    subst (λ (s : Shape). IfOk c.decide_found.result (DecisionMeans s R c.args.who c.args.own (update_answer s R c.args.own c.args.obj n c.args.place.now.at c.args.place.now.start c.args.bytes.now c.args.to))) same
    (c.decide_found.ensures.says R n (c.in-Ok.ensures.looked.stays_true R t) m
    (subst (λ (s : Shape). WasFound s R c.args.own c.args.obj n c.args.place.now.at c.args.place.now.born c.args.place.now.undo c.args.place.now.start) (sym same) f)
    (subst (λ (s : Shape). IsFreeAt s R c.args.own c.args.obj n c.args.place.now c.in-Free.front) (sym same) x) z
    (subst (λ (s : Shape). MayBeTarget s R c.args.own c.args.obj (stand_at R c.args.place.now.at) (length c.args.bytes.now) c.args.to) (sym same) b))

pub returns-in-Free-clause-sound : goal.returns-in-Free-clause-sound
returns-in-Free-clause-sound g c = λ R n t m f z b u.
    let same = c.in-Ok.ensures.looked.loan.shape in
    let x = subst (LookMeans c.args.store.now.shape R c.args.own c.args.obj n c.args.place.now) c.in-Free.is (c.in-Ok.ensures.says R n t (own_of R c.args.who c.args.own m) f) in
    c.decide_found.ensures.sound R n (c.in-Ok.ensures.looked.stays_true R t) m
    (subst (λ (s : Shape). WasFound s R c.args.own c.args.obj n c.args.place.now.at c.args.place.now.born c.args.place.now.undo c.args.place.now.start) (sym same) f)
    (subst (λ (s : Shape). IsFreeAt s R c.args.own c.args.obj n c.args.place.now c.in-Free.front) (sym same) x) z
    (subst (λ (s : Shape). MayBeTarget s R c.args.own c.args.obj (stand_at R c.args.place.now.at) (length c.args.bytes.now) c.args.to) (sym same) b) (c.in-Ok.ensures.looked.cause.kept u)

pub returns-in-Changed-clause-looked : goal.returns-in-Changed-clause-looked
returns-in-Changed-clause-looked g c = looked_ok g.D.Disk.meaning c.args.store.now c.look_again.new.store c.in-Ok.look _ c.in-Ok.ensures.looked

pub returns-in-Changed-clause-says : goal.returns-in-Changed-clause-says
returns-in-Changed-clause-says g c = λ R n t m f z b.
    let x = stand_at R c.args.place.now.at in
    let len = length c.args.bytes.now in
    subst (LookMeans c.args.store.now.shape R c.args.own c.args.obj n c.args.place.now) c.in-Changed.is (c.in-Ok.ensures.says R n t (own_of R c.args.who c.args.own m) f) (updated_blocks R c.args.own x len) len (change_by R c.args.obj n x c.args.bytes.now c.args.to (path_of R c.args.own x len))

pub returns-in-Busy-clause-looked : goal.returns-in-Busy-clause-looked
returns-in-Busy-clause-looked g c = looked_ok g.D.Disk.meaning c.args.store.now c.look_again.new.store c.in-Ok.look _ c.in-Ok.ensures.looked

pub returns-in-Busy-clause-says : goal.returns-in-Busy-clause-says
returns-in-Busy-clause-says g c = λ R n t m f z b.
    let x = stand_at R c.args.place.now.at in
    let len = length c.args.bytes.now in
    subst (LookMeans c.args.store.now.shape R c.args.own c.args.obj n c.args.place.now) c.in-Busy.is (c.in-Ok.ensures.says R n t (own_of R c.args.who c.args.own m) f) (updated_blocks R c.args.own x len) len (change_by R c.args.obj n x c.args.bytes.now c.args.to (path_of R c.args.own x len))

pub returns-in-Err-clause-looked : goal.returns-in-Err-clause-looked
returns-in-Err-clause-looked g c = looked_err g.D.Disk.meaning c.args.store.now c.look_again.new.store c.in-Err.fault c.in-Err.ensures.looked

pub returns-in-Err-clause-sound : goal.returns-in-Err-clause-sound
returns-in-Err-clause-sound g c = λ R n t m f z b u. c.in-Err.ensures.sound R n t (own_of R c.args.who c.args.own m) f u
