use Rattle.std.proofs.Common.{Option, Some, MatchOption, subst, sym}
use Rattle.version_read.specs.Walking as walking
use Rattle.version_read.specs.Walking.{IsRefusedEntry, txn_or_none}
use Rattle.store_core.specs.Store.{IsFetched}
use Rattle.store_core.proofs.Lookups.{looked_memory}
use Rattle.store_core.proofs.UndoLent.{all_looked, all_failed}
use Rattle.history_text.specs.declared.outcome.RowOut.{RowOut}
use Rattle.scan_table.specs.Reading.{SlotGives}
use Rattle.scan_table.proofs.Going.{working, works, is_walk, walked, walk_refused}
use Rattle.scan_table.proofs.Showing.{gives_none}
use Rattle.scan_table.proofs.slots.follow_down.Goals as goal

pub returns-in-Err-clause-looked : goal.returns-in-Err-clause-looked
returns-in-Err-clause-looked g c = all_failed g.D.Disk.meaning c.args.store.now c.walk.new.pages c.in-Err.fault c.requires c.in-Err.ensures.failed

pub returns-in-Err-clause-says : goal.returns-in-Err-clause-says
returns-in-Err-clause-says g c = λ R o t h s. c.in-Err.ensures.sound c.args.reader.now.shape R c.args.dba c.args.slot (working g.D.Disk.meaning c.args.store.now R c.args.reader.now o c.args.dba c.requires t h) h.txns (is_walk c.args.store.now.shape R c.args.reader.now o c.args.dba c.args.slot c.args.from h s)

pub returns-in-Nothing-clause-looked : goal.returns-in-Nothing-clause-looked
returns-in-Nothing-clause-looked g c = walked g.D.Disk.meaning c.args.store.now c.walk.new.pages _ c.requires c.in-Ok.ensures.looked

pub returns-in-Nothing-clause-says : goal.returns-in-Nothing-clause-says
returns-in-Nothing-clause-says g c = λ R o t h s.
    gives_none R c.args.dba c.args.slot c.args.reader.now.at (txn_or_none c.args.reader.now.own) (subst (walking.Finds c.args.reader.now.shape R c.args.dba c.args.slot c.args.reader.now.at c.args.reader.now.own) c.in-Nothing.is (c.in-Ok.ensures.finds c.args.reader.now.shape R c.args.dba c.args.slot (working g.D.Disk.meaning c.args.store.now R c.args.reader.now o c.args.dba c.requires t h) h.txns (is_walk c.args.store.now.shape R c.args.reader.now o c.args.dba c.args.slot c.args.from h s)))

pub returns-in-TooOld-clause-looked : goal.returns-in-TooOld-clause-looked
returns-in-TooOld-clause-looked g c = walked g.D.Disk.meaning c.args.store.now c.walk.new.pages _ c.requires c.in-Ok.ensures.looked

pub returns-in-TooOld-clause-says : goal.returns-in-TooOld-clause-says
returns-in-TooOld-clause-says g c = λ R o t h s.
    subst (walking.Finds c.args.reader.now.shape R c.args.dba c.args.slot c.args.reader.now.at c.args.reader.now.own) c.in-TooOld.is (c.in-Ok.ensures.finds c.args.reader.now.shape R c.args.dba c.args.slot (working g.D.Disk.meaning c.args.store.now R c.args.reader.now o c.args.dba c.requires t h) h.txns (is_walk c.args.store.now.shape R c.args.reader.now o c.args.dba c.args.slot c.args.from h s))

pub returns-in-TooOldEntry-clause-looked : goal.returns-in-TooOldEntry-clause-looked
returns-in-TooOldEntry-clause-looked g c = walked g.D.Disk.meaning c.args.store.now c.walk.new.pages _ c.requires c.in-Ok.ensures.looked

pub returns-in-TooOldEntry-clause-says : goal.returns-in-TooOldEntry-clause-says
returns-in-TooOldEntry-clause-says g c = λ R o t h s.
    subst (λ u. IsRefusedEntry R c.args.dba c.args.slot c.args.reader.now.at (txn_or_none c.args.reader.now.own) u) (sym (c.forgotten_in.ensures _ c.in-TooOldEntry.is)) (subst (walking.Finds c.args.reader.now.shape R c.args.dba c.args.slot c.args.reader.now.at c.args.reader.now.own) c.in-TooOldEntry.is (c.in-Ok.ensures.finds c.args.reader.now.shape R c.args.dba c.args.slot (working g.D.Disk.meaning c.args.store.now R c.args.reader.now o c.args.dba c.requires t h) h.txns (is_walk c.args.store.now.shape R c.args.reader.now o c.args.dba c.args.slot c.args.from h s)))

pub told_row-requires : goal.told_row-requires
told_row-requires g c = subst (walking.IsLent (λ u. IsFetched u c.walk.new.pages)) c.in-Row.is c.in-Ok.ensures.lent

pub returns-in-Ok-Some-clause-looked : goal.returns-in-Ok-Some-clause-looked
returns-in-Ok-Some-clause-looked g c = walked g.D.Disk.meaning c.args.store.now c.walk.new.pages _ c.requires c.in-Ok.ensures.looked

pub returns-in-Ok-Some-clause-says : goal.returns-in-Ok-Some-clause-says
returns-in-Ok-Some-clause-says g c = λ R o t h s.
    let l = all_looked g.D.Disk.meaning c.args.store.now c.walk.new.pages c.requires c.in-Ok.ensures.looked in
    let v = subst (walking.Finds c.args.reader.now.shape R c.args.dba c.args.slot c.args.reader.now.at c.args.reader.now.own) c.in-Row.is (c.in-Ok.ensures.finds c.args.reader.now.shape R c.args.dba c.args.slot (working g.D.Disk.meaning c.args.store.now R c.args.reader.now o c.args.dba c.requires t h) h.txns (is_walk c.args.store.now.shape R c.args.reader.now o c.args.dba c.args.slot c.args.from h s)) in
    subst (λ (x : Option RowOut). MatchOption x ⊥ (λ row. SlotGives R c.args.dba c.args.slot c.args.reader.now.at (txn_or_none c.args.reader.now.own) (Some row))) c.in-Ok-Some.field-0-is (c.in-Ok-Some.ensures c.args.reader.now.shape R c.args.dba c.args.slot c.args.reader.now.at (txn_or_none c.args.reader.now.own) (works g.D.Disk.meaning c.args.store.now c.walk.new.pages R c.args.reader.now o c.args.dba l t h) v)

pub returns-in-Ok-None-clause-looked : goal.returns-in-Ok-None-clause-looked
returns-in-Ok-None-clause-looked g c = walk_refused g.D.Disk.meaning c.args.store.now c.walk.new.pages c.refuse.new.self c.refuse.result c.requires c.in-Ok.ensures.looked c.refuse.ensures.looked

pub returns-in-Ok-None-clause-says : goal.returns-in-Ok-None-clause-says
returns-in-Ok-None-clause-says g c = λ R o t h s.
    let l = all_looked g.D.Disk.meaning c.args.store.now c.walk.new.pages c.requires c.in-Ok.ensures.looked in
    let v = subst (walking.Finds c.args.reader.now.shape R c.args.dba c.args.slot c.args.reader.now.at c.args.reader.now.own) c.in-Row.is (c.in-Ok.ensures.finds c.args.reader.now.shape R c.args.dba c.args.slot (working g.D.Disk.meaning c.args.store.now R c.args.reader.now o c.args.dba c.requires t h) h.txns (is_walk c.args.store.now.shape R c.args.reader.now o c.args.dba c.args.slot c.args.from h s)) in
    absurd (subst (λ (x : Option RowOut). MatchOption x ⊥ (λ row. SlotGives R c.args.dba c.args.slot c.args.reader.now.at (txn_or_none c.args.reader.now.own) (Some row))) c.in-Ok-None.field-0-is (c.in-Ok-None.ensures c.args.reader.now.shape R c.args.dba c.args.slot c.args.reader.now.at (txn_or_none c.args.reader.now.own) (works g.D.Disk.meaning c.args.store.now c.walk.new.pages R c.args.reader.now o c.args.dba l t h) v))

pub returns-in-Err-told_row-clause-looked : goal.returns-in-Err-told_row-clause-looked
returns-in-Err-told_row-clause-looked g c = looked_memory g.D.Disk.meaning c.args.store.now c.walk.new.pages tt (all_looked g.D.Disk.meaning c.args.store.now c.walk.new.pages c.requires c.in-Ok.ensures.looked)
