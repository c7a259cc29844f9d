use Rattle.row_change.proofs.Sights.{rows_held, no_rows}
use Rattle.row_change.proofs.sight.shown_in.Goals as goal

pub returns-in-None-clause-says : goal.returns-in-None-clause-says
returns-in-None-clause-says c = λ sh R o i h at e. no_rows sh R o i c.args.search.now c.args.page.now c.args.at h at e c.in-None.ensures

pub returns-in-Some-clause-says : goal.returns-in-Some-clause-says
returns-in-Some-clause-says c = λ sh R o i h at e. c.slot_shown.ensures.says sh R o h (rows_held (λ b. b) c.args.search.now.shape R c.args.at.dba c.args.page.now c.in-Some.block.now e c.in-Some.ensures)

pub returns-in-Some-clause-right : goal.returns-in-Some-clause-right
returns-in-Some-clause-right c = λ sh R o i h at e. c.slot_shown.ensures.right sh R o h (rows_held (λ b. b) c.args.search.now.shape R c.args.at.dba c.args.page.now c.in-Some.block.now e c.in-Some.ensures)
