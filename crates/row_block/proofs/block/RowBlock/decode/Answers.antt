use Rattle.row_block.proofs.InRange.{page_fits}
use Rattle.row_block.proofs.block.RowBlock.decode.Goals as goal

pub returns-clause-spelled : goal.returns-clause-spelled
returns-clause-spelled c = page_fits c.args.bytes.now c.in_ok-page.page c.told-bytes (λ i. c.fits-bytes i) c.in_ok-page.ensures.exact.0
