use Rattle.std.proofs.Common.{◌∙◌, ap}
use Rattle.scan_table.specs.Reading.{row_of}
use Rattle.scan_table.proofs.Showing.{gives_copy, same_image}
use Rattle.scan_table.proofs.slots.told_row.Goals as goal

pub returns-in-None : goal.returns-in-None
returns-in-None g c = λ sh R b k s t w v. let z = c.in-None.ensures sh R v.image w v.stands in absurd cc

pub returns-in-Ok : goal.returns-in-Ok
returns-in-Ok g c = λ sh R b k s t w v. gives_copy R b k s t v.image c.in-Ok.row v.sees (c.in-Ok.ensures ∙ ap row_of (same_image c.in-Some.image.now v.image (c.in-Some.ensures sh R v.image w v.stands)))
