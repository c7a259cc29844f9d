use Rattle.std.proofs.Common.{subst}
use Rattle.version_read.specs.Walking as walking
use Rattle.row_change.proofs.Sights.{reader_of, sees_row, sees_none, no_slot, never_unknown, has_sight}
use Rattle.row_change.proofs.sight.slot_shown.Goals as goal

pub returns-in-None-clause-says : goal.returns-in-None-clause-says
returns-in-None-clause-says c = λ sh R o h p. no_slot R c.args.search.now.own c.args.at (λ l. (c.in-None.ensures.there R c.args.at.dba p).1 l)

pub returns-in-Some-Nothing-clause-says : goal.returns-in-Some-Nothing-clause-says
returns-in-Some-Nothing-clause-says c = λ sh R o h p. sees_none sh R o c.args.search.now c.args.at h (subst (walking.Shows c.args.search.now.shape R c.args.at.dba c.args.at.slot c.args.search.now.start c.args.search.now.own) c.in-Some-Nothing.field-0-is (c.in-Some-Nothing.ensures.slot c.args.search.now.shape R c.args.at.dba (reader_of sh R o c.args.search.now h) h.txns p))

pub returns-in-Some-Step-clause-says : goal.returns-in-Some-Step-clause-says
returns-in-Some-Step-clause-says c = λ sh R o h p. subst (walking.Shows c.args.search.now.shape R c.args.at.dba c.args.at.slot c.args.search.now.start c.args.search.now.own) c.in-Some-Step.field-0-is (c.in-Some-Step.ensures.slot c.args.search.now.shape R c.args.at.dba (reader_of sh R o c.args.search.now h) h.txns p)

pub returns-in-Some-TooOldEntry-clause-right : goal.returns-in-Some-TooOldEntry-clause-right
returns-in-Some-TooOldEntry-clause-right c = λ sh R o h p. absurd (never_unknown sh R o c.args.search.now c.args.at.dba c.args.at.slot _ h (subst (walking.Shows c.args.search.now.shape R c.args.at.dba c.args.at.slot c.args.search.now.start c.args.search.now.own) c.in-Some-TooOldEntry.field-0-is (c.in-Some-TooOldEntry.ensures.slot c.args.search.now.shape R c.args.at.dba (reader_of sh R o c.args.search.now h) h.txns p)))

pub returns-in-Ok-clause-says : goal.returns-in-Ok-clause-says
returns-in-Ok-clause-says c = λ sh R o h p.
    let v = subst (walking.Shows c.args.search.now.shape R c.args.at.dba c.args.at.slot c.args.search.now.start c.args.search.now.own) c.in-Some-Row.field-0-is (c.in-Some-Row.ensures.slot c.args.search.now.shape R c.args.at.dba (reader_of sh R o c.args.search.now h) h.txns p) in
    sees_row sh R o c.args.search.now c.args.at c.in-Some-Row.image.now c.in-Ok.sight h v c.in-Ok.ensures.says

pub returns-in-Err-clause-right : goal.returns-in-Err-clause-right
returns-in-Err-clause-right c = λ sh R o h p.
    let v = subst (walking.Shows c.args.search.now.shape R c.args.at.dba c.args.at.slot c.args.search.now.start c.args.search.now.own) c.in-Some-Row.field-0-is (c.in-Some-Row.ensures.slot c.args.search.now.shape R c.args.at.dba (reader_of sh R o c.args.search.now h) h.txns p) in
    c.in-Err.ensures.right (has_sight sh R o c.args.search.now c.args.at.dba c.args.at.slot c.in-Some-Row.image.now h v)
