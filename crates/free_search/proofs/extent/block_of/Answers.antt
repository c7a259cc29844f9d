use Rattle.std.proofs.Common.{◌∙◌, sym, Err}
use Rattle.redo_model.specs.Model.{extents_of}
use Rattle.store_core.proofs.Lookups.{looked_on, looked_ok, looked_err}
use Rattle.free_search.proofs.Known.{fixed_segment, segment_said}
use Rattle.free_search.proofs.Extents.{has_block, block_most, block_told}
use Rattle.free_search.proofs.extent.block_of.Goals as goal

pub returns-in-Err-clause-sound : goal.returns-in-Err-clause-sound
returns-in-Err-clause-sound g c = λ R t h l m n. c.in-Err.ensures.sound R c.args.segment.now.obj t h.table (segment_said c.args.store.now.shape R c.args.shape.now c.args.segment.now h) l n

pub returns-in-Some-clause-looked : goal.returns-in-Some-clause-looked
returns-in-Some-clause-looked g c = looked_ok g.D.Disk.meaning c.args.store.now c.extent_number.new.store c.in-Ok.extent _ c.in-Ok.ensures.looked

pub returns-in-Some-clause-says : goal.returns-in-Some-clause-says
returns-in-Some-clause-says g c = λ R t h. block_told c.args.shape.now (extents_of R c.args.segment.now.obj) c.args.index c.in-Ok.extent c.args.nth c.in-Some.dba (c.in-Ok.ensures.says R c.args.segment.now.obj t h.table (segment_said c.args.store.now.shape R c.args.shape.now c.args.segment.now h)) (sym c.block_in.ensures ∙ c.in-Some.is)

pub returns-in-Some-clause-most : goal.returns-in-Some-clause-most
returns-in-Some-clause-most g c = block_most c.args.shape.now c.in-Ok.extent c.args.nth c.in-Some.dba c.requires (sym c.block_in.ensures ∙ c.in-Some.is)

pub returns-in-None-clause-looked : goal.returns-in-None-clause-looked
returns-in-None-clause-looked g c = looked_on g.D.Disk.meaning c.args.store.now c.extent_number.new.store c.refuse.new.self c.in-Ok.extent (Err c.refuse.result) c.in-Ok.ensures.looked (looked_err g.D.Disk.meaning c.extent_number.new.store c.refuse.new.self c.refuse.result c.refuse.ensures.looked)

pub returns-in-None-clause-sound : goal.returns-in-None-clause-sound
returns-in-None-clause-sound g c = λ R t h l m n. absurd (has_block R c.args.shape.now c.args.segment.now c.args.index c.in-Ok.extent c.args.nth (fixed_segment g.D.Disk.meaning c.args.store.now R c.args.shape.now c.args.segment.now t h) (c.in-Ok.ensures.says R c.args.segment.now.obj t h.table (segment_said c.args.store.now.shape R c.args.shape.now c.args.segment.now h)) m (sym c.block_in.ensures ∙ c.in-None.is))
