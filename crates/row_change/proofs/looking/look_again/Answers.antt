use Rattle.std.proofs.Common.{true, false, sym, ◌∙◌, subst}
use Rattle.std.specs.Prelude.{Ok, Err, IfOk}
use Rattle.seg_words.specs.Types.{Shape}
use Rattle.change_laws.specs.Types.{WasFound}
use Rattle.store_core.proofs.Lookups.{looked_on, looked_ok, looked_err}
use Rattle.row_change.specs.Looking.{IsThere, LookMeans}
use Rattle.row_change.proofs.Looked.{table_still, found_by, there_for, changed_means}
use Rattle.row_change.proofs.Searching.{search_on}
use Rattle.row_change.proofs.looking.look_again.Goals as goal

pub returns-in-Err-clause-looked : goal.returns-in-Err-clause-looked
returns-in-Err-clause-looked g c = looked_err g.D.Disk.meaning c.args.store.now c.search_for.new.store c.in-Err.fault c.in-Err.ensures.looked

pub returns-in-Err-clause-sound : goal.returns-in-Err-clause-sound
returns-in-Err-clause-sound g c = λ R n t w f u. c.in-Err.ensures.sound R t (table_still c.args.store.now.shape R c.args.own.now c.args.obj.now n c.args.place.now t.lawful.allowed f) u

pub returns-in-Ok-true-clause-looked : goal.returns-in-Ok-true-clause-looked
returns-in-Ok-true-clause-looked g c = looked_on g.D.Disk.meaning c.args.store.now c.is_there.new.store c.look_at_front.new.store c.in-Ok-true.field-0 c.look_at_front.result (looked_on g.D.Disk.meaning c.args.store.now c.search_for.new.store c.is_there.new.store c.in-Ok.search (Ok c.in-Ok-true.field-0) c.in-Ok.ensures.looked c.in-Ok-true.ensures.looked) c.look_at_front.ensures.looked

pub returns-in-Ok-true-clause-says : goal.returns-in-Ok-true-clause-says
returns-in-Ok-true-clause-says g c = λ R n t w f.
    let l = c.in-Ok.ensures.looked in
    let q = c.in-Ok.ensures.says R t (table_still c.args.store.now.shape R c.args.own.now c.args.obj.now n c.args.place.now t.lawful.allowed f) w in
    let s = subst (IsThere c.in-Ok.search.shape R c.in-Ok.search.own c.args.obj.now n c.args.place.now) c.in-Ok-true.field-0-test
    (c.in-Ok-true.ensures.says R c.args.obj.now n (l.stays_true R t) (search_on g.D.Disk.meaning c.args.store.now c.search_for.new.store _ R c.args.obj.now c.in-Ok.search l q.search) (found_by c.args.store.now.shape R c.args.own.now c.args.obj.now n c.in-Ok.search c.args.place.now q f)) in
    let same = c.in-Ok-true.ensures.looked.loan.shape ∙ l.loan.shape in
    subst (λ (z : Shape). IfOk c.look_at_front.result (LookMeans z R c.args.own.now c.args.obj.now n c.args.place.now)) same
    (c.look_at_front.ensures.says R c.args.own.now c.args.obj.now n (c.in-Ok-true.ensures.looked.stays_true R (l.stays_true R t)) w
    (subst (λ (z : Shape). WasFound z R c.args.own.now c.args.obj.now n c.args.place.now.at c.args.place.now.born c.args.place.now.undo c.args.place.now.start) (sym same) f)
    (subst (λ (z : Shape). IsThere z R c.args.own.now c.args.obj.now n c.args.place.now true) (sym same) (there_for c.args.store.now.shape R c.args.own.now c.args.obj.now n c.in-Ok.search c.args.place.now true q s)))

pub returns-in-Ok-true-clause-sound : goal.returns-in-Ok-true-clause-sound
returns-in-Ok-true-clause-sound g c = λ R n t w f u.
    let l = c.in-Ok.ensures.looked in
    let q = c.in-Ok.ensures.says R t (table_still c.args.store.now.shape R c.args.own.now c.args.obj.now n c.args.place.now t.lawful.allowed f) w in
    let s = subst (IsThere c.in-Ok.search.shape R c.in-Ok.search.own c.args.obj.now n c.args.place.now) c.in-Ok-true.field-0-test
    (c.in-Ok-true.ensures.says R c.args.obj.now n (l.stays_true R t) (search_on g.D.Disk.meaning c.args.store.now c.search_for.new.store _ R c.args.obj.now c.in-Ok.search l q.search) (found_by c.args.store.now.shape R c.args.own.now c.args.obj.now n c.in-Ok.search c.args.place.now q f)) in
    let same = c.in-Ok-true.ensures.looked.loan.shape ∙ l.loan.shape in
    c.look_at_front.ensures.sound R c.args.own.now c.args.obj.now n (c.in-Ok-true.ensures.looked.stays_true R (l.stays_true R t)) w
    (subst (λ (z : Shape). WasFound z R c.args.own.now c.args.obj.now n c.args.place.now.at c.args.place.now.born c.args.place.now.undo c.args.place.now.start) (sym same) f)
    (subst (λ (z : Shape). IsThere z R c.args.own.now c.args.obj.now n c.args.place.now true) (sym same) (there_for c.args.store.now.shape R c.args.own.now c.args.obj.now n c.in-Ok.search c.args.place.now true q s))
    (c.in-Ok-true.ensures.looked.cause.kept (l.cause.kept u))

pub returns-in-Ok-false-clause-looked : goal.returns-in-Ok-false-clause-looked
returns-in-Ok-false-clause-looked g c = looked_ok g.D.Disk.meaning c.args.store.now c.is_there.new.store c.in-Ok-false.field-0 _ (looked_on g.D.Disk.meaning c.args.store.now c.search_for.new.store c.is_there.new.store c.in-Ok.search (Ok c.in-Ok-false.field-0) c.in-Ok.ensures.looked c.in-Ok-false.ensures.looked)

pub returns-in-Ok-false-clause-says : goal.returns-in-Ok-false-clause-says
returns-in-Ok-false-clause-says g c = λ R n t w f.
    let l = c.in-Ok.ensures.looked in
    let q = c.in-Ok.ensures.says R t (table_still c.args.store.now.shape R c.args.own.now c.args.obj.now n c.args.place.now t.lawful.allowed f) w in
    let s = subst (IsThere c.in-Ok.search.shape R c.in-Ok.search.own c.args.obj.now n c.args.place.now) c.in-Ok-false.field-0-test
    (c.in-Ok-false.ensures.says R c.args.obj.now n (l.stays_true R t) (search_on g.D.Disk.meaning c.args.store.now c.search_for.new.store _ R c.args.obj.now c.in-Ok.search l q.search) (found_by c.args.store.now.shape R c.args.own.now c.args.obj.now n c.in-Ok.search c.args.place.now q f)) in
    changed_means c.args.store.now.shape R c.args.own.now c.args.obj.now n c.args.place.now c.in-Ok.search.start q.search.start_is (there_for c.args.store.now.shape R c.args.own.now c.args.obj.now n c.in-Ok.search c.args.place.now false q s)

pub returns-clause-looked : goal.returns-clause-looked
returns-clause-looked g c = looked_on g.D.Disk.meaning c.args.store.now c.search_for.new.store c.is_there.new.store c.in-Ok.search (Err c.in-Err-is_there.fault) c.in-Ok.ensures.looked (looked_err g.D.Disk.meaning c.search_for.new.store c.is_there.new.store c.in-Err-is_there.fault c.in-Err-is_there.ensures.looked)

pub returns-clause-sound : goal.returns-clause-sound
returns-clause-sound g c = λ R n t w f u.
    let l = c.in-Ok.ensures.looked in
    let q = c.in-Ok.ensures.says R t (table_still c.args.store.now.shape R c.args.own.now c.args.obj.now n c.args.place.now t.lawful.allowed f) w in
    c.in-Err-is_there.ensures.sound R c.args.obj.now n (l.stays_true R t) (search_on g.D.Disk.meaning c.args.store.now c.search_for.new.store _ R c.args.obj.now c.in-Ok.search l q.search) (found_by c.args.store.now.shape R c.args.own.now c.args.obj.now n c.in-Ok.search c.args.place.now q f) (l.cause.kept u)
