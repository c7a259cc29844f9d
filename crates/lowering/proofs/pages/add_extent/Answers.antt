use Rattle.std.proofs.Common.{◌∙◌, sym}
use Rattle.lowering.proofs.Told.{added_one, none_taken}
use Rattle.lowering.proofs.pages.add_extent.Goals as goal

pub returns-in-Some-clause-extents : goal.returns-in-Some-clause-extents
returns-in-Some-clause-extents c = added_one c.args.header.now.extents c.args.found.now c.push.new.self c.args.index c.in-Some.extent c.push.result (sym c.extent_at.ensures ∙ c.in-Some.is) c.push.ensures.ok

pub returns-in-None-clause-extents : goal.returns-in-None-clause-extents
returns-in-None-clause-extents c = none_taken c.args.header.now.extents c.args.found.now c.args.index (sym c.extent_at.ensures ∙ c.in-None.is)
