use Rattle.std.proofs.Common.{◌∙◌}
use Rattle.segment_read.proofs.Saying.{extent_says, no_extent_says}
use Rattle.segment_read.proofs.pages.extent_in.Goals as goal

pub returns-in-Some-clause-says : goal.returns-in-Some-clause-says
returns-in-Some-clause-says c = λ R o s. extent_says R o c.args.page.now c.in-Header.page c.args.index c.extent_at.result c.in-Header.is c.extent_at.ensures s ∙ c.in-Some.is

pub returns-in-None-clause-right : goal.returns-in-None-clause-right
returns-in-None-clause-right c = λ R o s l. absurd (no_extent_says R o c.args.page.now c.in-Header.page c.args.index c.extent_at.result c.in-Header.is c.extent_at.ensures c.in-None.is s l)
