use Rattle.redo_model.specs.Model.{at_place}
use Rattle.row_change.proofs.Sights.{rows_held, no_rows, none_from}
use Rattle.row_change.proofs.sight.slots_in.Goals as goal

pub returns-in-None : goal.returns-in-None
returns-in-None c = λ sh R o i b q h at e. λ k l. no_rows sh R o i q c.args.page.now (at_place b k) h at e c.in-None.ensures

pub returns-in-Some : goal.returns-in-Some
returns-in-Some c = λ sh R o i b q h at e. none_from R q b c.slots.result c.in-Some.block.now (rows_held (λ b. b) q.shape R b c.args.page.now c.in-Some.block.now e c.in-Some.ensures) c.slots.ensures.count
