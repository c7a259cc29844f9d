use Rattle.std.proofs.Common.{◌∙◌}
use Rattle.version_read.proofs.Answering.{follows_there}
use Rattle.version_read.proofs.chain.image_at.Goals as goal

pub returns-in-Some : goal.returns-in-Some
returns-in-Some g c = λ sh R i h s. c.follow.ensures ∙ follows_there sh R c.in-Some.block.now c.args.at i (c.in-Some.ensures.page sh R h) s
