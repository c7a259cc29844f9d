use Rattle.scan_table.proofs.Showing.{rows_held, no_rows, slots_counted}
use Rattle.scan_table.proofs.reader.slots_in.Goals as goal

pub returns-in-None : goal.returns-in-None
returns-in-None c = λ sh R o b q h e. no_rows sh R q o b c.args.page.now h e c.in-None.ensures

pub returns-in-Some : goal.returns-in-Some
returns-in-Some c = λ sh R o b q h e. slots_counted R b c.slots.result c.in-Some.block.now (rows_held (λ b. b) q.shape R b c.args.page.now c.in-Some.block.now e c.in-Some.ensures) c.slots.ensures.count
