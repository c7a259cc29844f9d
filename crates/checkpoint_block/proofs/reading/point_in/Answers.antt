use Rattle.std.proofs.Common.{sym, ◌∙◌}
use Rattle.checkpoint_block.proofs.Said.{decoded, wrong_bytes}
use Rattle.checkpoint_block.proofs.reading.point_in.Goals as goal

pub returns-in-Ok : goal.returns-in-Ok
returns-in-Ok c = c.point_on.ensures ∙ decoded c.args.bytes.now c.in-Ok.page c.in-Ok.ensures.exact

pub returns-in-Err-BadPage : goal.returns-in-Err-BadPage
returns-in-Err-BadPage c = sym (wrong_bytes c.args.bytes.now c.in-Err-BadPage.field-0 c.in-Err-BadPage.field-0-0 c.told-bytes c.in-Err-BadPage.field-0-is c.in-Err-BadPage.ensures.exact)
