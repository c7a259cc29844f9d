use Rattle.std.proofs.Common.{[], ◌++◌}
use Rattle.segment_blocks.proofs.Forms.{space_written}
use Rattle.segment_blocks.proofs.space.write_page.Goals as goal

pub returns : goal.returns
returns c =
    space_written (record { dba = c.args.dba; lsn = c.args.lsn; lowerings = c.args.lowerings; bits = c.args.bits.now }) c.add.new.page c.head_bytes.result c.to_be_bytes.result c.head_bytes.ensures c.to_be_bytes.ensures
    (c.add.ensures.bytes (c.head_bytes.result ++ c.to_be_bytes.result) (c.add-bits_at.ensures.bytes c.head_bytes.result (c.add-lowerings_at.ensures.bytes [] c.begin-start.ensures))).bytes
