use Rattle.segment_read.proofs.Free.{least_says}
use Rattle.segment_read.proofs.extents.least_free_in.Goals as goal

pub returns-in-Space-clause-says : goal.returns-in-Space-clause-says
returns-in-Space-clause-says c = λ R s. least_says c.args.shape.now R c.args.page.now c.in-Space.space c.extent_count.result c.least_free.result c.requires c.in-Space.is c.extent_count.ensures.value c.extent_count.ensures.most c.least_free.ensures s
