use Rattle.std.proofs.Common.{sym, subst, true≢false}
use Rattle.version_read.specs.Walking as walking
use Rattle.store_core.specs.Store.{IsFetched}
use Rattle.store_core.proofs.UndoLent.{all_looked, all_failed}
use Rattle.row_change.proofs.Searching.{working, works, is_walk, walked, walk_refused, looked_search}
use Rattle.row_change.proofs.Sights.{sees_none, all_read}
use Rattle.row_change.proofs.slots.follow_down.Goals as goal

pub returns-in-Err-clause-looked : goal.returns-in-Err-clause-looked
returns-in-Err-clause-looked g c = all_failed g.D.Disk.meaning c.args.store.now c.walk.new.pages c.in-Err.fault c.requires c.in-Err.ensures.failed

pub returns-in-Err-clause-sound : goal.returns-in-Err-clause-sound
returns-in-Err-clause-sound g c = λ R o t h s. c.in-Err.ensures.sound c.args.search.now.shape R c.args.at.dba c.args.at.slot (working g.D.Disk.meaning c.args.store.now R o c.args.search.now c.requires t h) h.txns (is_walk c.args.store.now.shape R o c.args.search.now c.args.at c.args.from h s)

pub returns-in-Ok-Nothing-clause-looked : goal.returns-in-Ok-Nothing-clause-looked
returns-in-Ok-Nothing-clause-looked g c = walked g.D.Disk.meaning c.args.store.now c.walk.new.pages _ c.requires c.in-Ok-Nothing.ensures.looked

pub returns-in-Ok-Nothing-clause-says : goal.returns-in-Ok-Nothing-clause-says
returns-in-Ok-Nothing-clause-says g c = λ R o t h s.
    sees_none c.args.store.now.shape R o c.args.search.now c.args.at h (subst (walking.Finds c.args.search.now.shape R c.args.at.dba c.args.at.slot c.args.search.now.start c.args.search.now.own) c.in-Ok-Nothing.field-0-is (c.in-Ok-Nothing.ensures.finds c.args.search.now.shape R c.args.at.dba c.args.at.slot (working g.D.Disk.meaning c.args.store.now R o c.args.search.now c.requires t h) h.txns (is_walk c.args.store.now.shape R o c.args.search.now c.args.at c.args.from h s)))

pub told_sight-requires : goal.told_sight-requires
told_sight-requires g c = subst (walking.IsLent (λ u. IsFetched u c.walk.new.pages)) c.in-Ok-Row.field-0-is c.in-Ok-Row.ensures.lent

pub returns-in-Ok-clause-looked : goal.returns-in-Ok-clause-looked
returns-in-Ok-clause-looked g c = walked g.D.Disk.meaning c.args.store.now c.walk.new.pages _ c.requires c.in-Ok-Row.ensures.looked

pub returns-in-Ok-clause-says : goal.returns-in-Ok-clause-says
returns-in-Ok-clause-says g c = λ R o t h s.
    let l = all_looked g.D.Disk.meaning c.args.store.now c.walk.new.pages c.requires c.in-Ok-Row.ensures.looked in
    let v = subst (walking.Finds c.args.search.now.shape R c.args.at.dba c.args.at.slot c.args.search.now.start c.args.search.now.own) c.in-Ok-Row.field-0-is (c.in-Ok-Row.ensures.finds c.args.search.now.shape R c.args.at.dba c.args.at.slot (working g.D.Disk.meaning c.args.store.now R o c.args.search.now c.requires t h) h.txns (is_walk c.args.store.now.shape R o c.args.search.now c.args.at c.args.from h s)) in
    c.in-Ok.ensures.says R o (works g.D.Disk.meaning c.args.store.now c.walk.new.pages R o c.args.search.now l t h) (looked_search g.D.Disk.meaning c.args.store.now c.walk.new.pages R o c.args.search.now l h) v

pub returns-in-Err-told_sight-clause-looked : goal.returns-in-Err-told_sight-clause-looked
returns-in-Err-told_sight-clause-looked g c = walk_refused g.D.Disk.meaning c.args.store.now c.walk.new.pages c.refuse.new.self c.refuse.result c.requires c.in-Ok-Row.ensures.looked c.refuse.ensures.looked

pub returns-in-Err-told_sight-clause-sound : goal.returns-in-Err-told_sight-clause-sound
returns-in-Err-told_sight-clause-sound g c = λ R o t h s.
    let l = all_looked g.D.Disk.meaning c.args.store.now c.walk.new.pages c.requires c.in-Ok-Row.ensures.looked in
    let v = subst (walking.Finds c.args.search.now.shape R c.args.at.dba c.args.at.slot c.args.search.now.start c.args.search.now.own) c.in-Ok-Row.field-0-is (c.in-Ok-Row.ensures.finds c.args.search.now.shape R c.args.at.dba c.args.at.slot (working g.D.Disk.meaning c.args.store.now R o c.args.search.now c.requires t h) h.txns (is_walk c.args.store.now.shape R o c.args.search.now c.args.at c.args.from h s)) in
    absurd (true≢false (sym (c.in-Err-told_sight.ensures.right R o (works g.D.Disk.meaning c.args.store.now c.walk.new.pages R o c.args.search.now l t h) (looked_search g.D.Disk.meaning c.args.store.now c.walk.new.pages R o c.args.search.now l h) v)))

pub returns-in-Ok-TooOld-clause-looked : goal.returns-in-Ok-TooOld-clause-looked
returns-in-Ok-TooOld-clause-looked g c = walk_refused g.D.Disk.meaning c.args.store.now c.walk.new.pages c.refuse-in-Ok-TooOld.new.self c.refuse-in-Ok-TooOld.result c.requires c.in-Ok-TooOld.ensures.looked c.refuse-in-Ok-TooOld.ensures.looked

pub returns-in-Ok-TooOld-clause-sound : goal.returns-in-Ok-TooOld-clause-sound
returns-in-Ok-TooOld-clause-sound g c = λ R o t h s.
    absurd (subst walking.IsGiven c.in-Ok-TooOld.field-0-is (c.in-Ok-TooOld.ensures.now c.args.search.now.shape R c.args.at.dba c.args.at.slot (working g.D.Disk.meaning c.args.store.now R o c.args.search.now c.requires t h) h.txns (is_walk c.args.store.now.shape R o c.args.search.now c.args.at c.args.from h s) (all_read c.args.store.now.shape R o c.args.search.now h)))

pub returns-in-Ok-TooOldEntry-clause-looked : goal.returns-in-Ok-TooOldEntry-clause-looked
returns-in-Ok-TooOldEntry-clause-looked g c = walk_refused g.D.Disk.meaning c.args.store.now c.walk.new.pages c.refuse-in-Ok-TooOldEntry.new.self c.refuse-in-Ok-TooOldEntry.result c.requires c.in-Ok-TooOldEntry.ensures.looked c.refuse-in-Ok-TooOldEntry.ensures.looked

pub returns-in-Ok-TooOldEntry-clause-sound : goal.returns-in-Ok-TooOldEntry-clause-sound
returns-in-Ok-TooOldEntry-clause-sound g c = λ R o t h s.
    absurd (subst walking.IsGiven c.in-Ok-TooOldEntry.field-0-is (c.in-Ok-TooOldEntry.ensures.now c.args.search.now.shape R c.args.at.dba c.args.at.slot (working g.D.Disk.meaning c.args.store.now R o c.args.search.now c.requires t h) h.txns (is_walk c.args.store.now.shape R o c.args.search.now c.args.at c.args.from h s) (all_read c.args.store.now.shape R o c.args.search.now h)))
