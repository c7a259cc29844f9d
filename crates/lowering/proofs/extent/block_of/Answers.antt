use Rattle.std.proofs.Common.{Err, ◌∙◌, sym}
use Rattle.redo_model.specs.Model.{extents_of}
use Rattle.store_core.proofs.Lookups.{looked_on, looked_ok, looked_err}
use Rattle.lowering.proofs.Knowing.{segment_there}
use Rattle.lowering.proofs.Places.{block_most, block_told, has_block}
use Rattle.lowering.proofs.extent.block_of.Goals as goal

pub returns-in-Err-clause-sound : goal.returns-in-Err-clause-sound
returns-in-Err-clause-sound g c = λ R o k l m u. c.in-Err.ensures.sound R o k.holds k.table (segment_there g.D.Disk.meaning c.args.store.now R o c.args.ground.now k) l u

pub returns-in-Some-clause-looked : goal.returns-in-Some-clause-looked
returns-in-Some-clause-looked g c = looked_ok g.D.Disk.meaning c.args.store.now c.extent_number.new.store c.in-Ok.extent _ c.in-Ok.ensures.looked

pub returns-in-Some-clause-says : goal.returns-in-Some-clause-says
returns-in-Some-clause-says g c = λ R o k. block_told c.args.ground.now.shape (extents_of R o) c.args.index c.in-Ok.extent c.args.nth c.in-Some.dba (c.in-Ok.ensures.says R o k.holds k.table (segment_there g.D.Disk.meaning c.args.store.now R o c.args.ground.now k)) (sym c.block_in.ensures ∙ c.in-Some.is)

pub returns-in-Some-clause-most : goal.returns-in-Some-clause-most
returns-in-Some-clause-most g c = block_most c.args.ground.now.shape c.in-Ok.extent c.args.nth c.in-Some.dba c.requires (sym c.block_in.ensures ∙ c.in-Some.is)

pub returns-in-None-clause-looked : goal.returns-in-None-clause-looked
returns-in-None-clause-looked g c = looked_on g.D.Disk.meaning c.args.store.now c.extent_number.new.store c.refuse.new.self c.in-Ok.extent (Err c.refuse.result) c.in-Ok.ensures.looked (looked_err g.D.Disk.meaning c.extent_number.new.store c.refuse.new.self c.refuse.result c.refuse.ensures.looked)

pub returns-in-None-clause-sound : goal.returns-in-None-clause-sound
returns-in-None-clause-sound g c = λ R o k l m u. absurd (has_block g.D.Disk.meaning c.args.store.now R o c.args.index c.in-Ok.extent c.args.nth c.args.ground.now k (c.in-Ok.ensures.says R o k.holds k.table (segment_there g.D.Disk.meaning c.args.store.now R o c.args.ground.now k)) m (sym c.block_in.ensures ∙ c.in-None.is))
