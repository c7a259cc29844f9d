use Rattle.std.proofs.Common.{arith}
use Rattle.scan_table.proofs.Locating.{found_is, none_there}
use Rattle.scan_table.proofs.listing.found_in.Goals as goal

pub returns-in-None-clause-right : goal.returns-in-None-clause-right
returns-in-None-clause-right c = λ w l. absurd (none_there c.args.shape.now c.args.extent 0 w (omega (arith, l)) c.in-None.ensures)

pub returns-in-None-block_in-clause-right : goal.returns-in-None-block_in-clause-right
returns-in-None-block_in-clause-right c = λ w l. absurd (none_there c.args.shape.now c.args.extent c.args.nth w l c.in-None-block_in.ensures)

pub returns-in-Some-block_in-clause-says : goal.returns-in-Some-block_in-clause-says
returns-in-Some-block_in-clause-says c = found_is c.args.shape.now c.args.extent c.args.nth c.in-Some.first c.in-Some-block_in.dba c.in-Some.ensures c.in-Some-block_in.ensures
