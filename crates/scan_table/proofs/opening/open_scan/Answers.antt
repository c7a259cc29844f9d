use Rattle.std.specs.Prelude.{Ok}
use Rattle.store_core.proofs.Lookups.{looked_ok, looked_on, refused_after}
use Rattle.scan_table.proofs.opening.open_scan.Goals as goal

pub returns-in-Ok-list_blocks-clause-looked : goal.returns-in-Ok-list_blocks-clause-looked
returns-in-Ok-list_blocks-clause-looked g c = looked_ok g.D.Disk.meaning c.args.store.now c.list_blocks.new.store c.in-Ok-list_blocks.blocks _ (looked_on g.D.Disk.meaning c.args.store.now c.read_segment.new.store c.list_blocks.new.store c.in-Ok.segment (Ok c.in-Ok-list_blocks.blocks) c.in-Ok.ensures.looked c.in-Ok-list_blocks.ensures.looked)

pub returns-in-Err-list_blocks-clause-looked : goal.returns-in-Err-list_blocks-clause-looked
returns-in-Err-list_blocks-clause-looked g c = refused_after g.D.Disk.meaning c.args.store.now c.read_segment.new.store c.list_blocks.new.store c.in-Ok.segment c.in-Err-list_blocks.fault c.in-Ok.ensures.looked c.in-Err-list_blocks.ensures.looked
