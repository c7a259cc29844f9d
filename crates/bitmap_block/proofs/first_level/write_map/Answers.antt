use Rattle.bitmap_block.specs.Types.{ExtentMap}
use Rattle.bitmap_block.proofs.Forms.{map_written}
use Rattle.bitmap_block.proofs.first_level.write_map.Goals as goal

pub returns : goal.returns
returns c =
    let m : ExtentMap = record { dba = c.args.dba; lsn = c.args.lsn; incarnation = c.args.incarnation; codes = c.args.codes.now } in
    map_written m c.begin-start.new.page c.add-head.new.page c.add-front.new.page c.add.new.page c.head_bytes.result c.to_be_bytes.result
    c.begin-start.result c.add-head.result c.add-front.result c.add.result
    c.begin-start.ensures c.add-head.ensures.bytes c.add-front.ensures.bytes c.add.ensures.bytes c.head_bytes.ensures c.to_be_bytes.ensures
