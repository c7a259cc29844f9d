use Rattle.scan_table.proofs.Showing.{rows_held, no_rows}
use Rattle.scan_table.proofs.reader.shown_in.Goals as goal

pub returns-in-None : goal.returns-in-None
returns-in-None c = λ sh R o b h e. no_rows sh R c.args.reader.now o b c.args.page.now h e c.in-None.ensures

pub returns-in-Ok : goal.returns-in-Ok
returns-in-Ok c = λ sh R o b h e. c.in-Ok.ensures sh R o b h (rows_held (λ b. b) c.args.reader.now.shape R b c.args.page.now c.in-Some.block.now e c.in-Some.ensures)
