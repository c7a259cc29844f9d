use Rattle.std.proofs.Common.{[], ◌++◌}
use Rattle.undo_block.proofs.Writing.{spelled}
use Rattle.undo_block.proofs.page.write_page.Goals as goal

pub returns : goal.returns
returns c = λ sequence f.
    spelled (record { dba = c.args.dba; lsn = c.args.lsn; sequence = sequence; parts = c.args.parts.now }) c.add_parts.new.page c.head_bytes.result c.args.fields.now c.head_bytes.ensures f
    (c.add_parts.ensures (c.head_bytes.result ++ c.args.fields.now) (c.add-parts_at.ensures.bytes c.head_bytes.result (c.add-fields_at.ensures.bytes [] c.begin-start.ensures))).bytes
