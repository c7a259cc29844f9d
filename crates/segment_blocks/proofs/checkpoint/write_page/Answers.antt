use Rattle.std.proofs.Common.{[], ◌++◌}
use Rattle.segment_blocks.proofs.Forms.{checkpoint_written}
use Rattle.segment_blocks.proofs.checkpoint.write_page.Goals as goal

pub returns : goal.returns
returns c =
    checkpoint_written (record { dba = c.args.dba; records = c.args.length; end_gate = c.args.end_gate; commits = c.args.commits }) c.add.new.page
    c.head_bytes.result c.to_be_bytes.result c.to_be_bytes-2.result c.to_be_bytes-3.result c.head_bytes.ensures c.to_be_bytes.ensures c.to_be_bytes-2.ensures c.to_be_bytes-3.ensures
    (c.add.ensures.bytes ((c.head_bytes.result ++ c.to_be_bytes.result) ++ c.to_be_bytes-2.result)
    (c.add-commits_at.ensures.bytes (c.head_bytes.result ++ c.to_be_bytes.result)
    (c.add-gate_at.ensures.bytes c.head_bytes.result (c.add-length_at.ensures.bytes [] c.begin-start.ensures)))).bytes
