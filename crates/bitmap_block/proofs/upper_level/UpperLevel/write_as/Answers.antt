use Rattle.std.proofs.Common.{ap, ◌∙◌}
use Rattle.bitmap_block.specs.Types.{Summary, spelling_of_summary}
use Rattle.bitmap_block.proofs.Forms.{summary_written}
use Rattle.bitmap_block.proofs.upper_level.UpperLevel.write_as.Goals as goal

pub returns : goal.returns
returns g c =
    let s : Summary = record { dba = c.self.inside.dba; lsn = c.self.inside.lsn; codes = c.self.inside.codes } in
    summary_written c.args.kind s c.begin-start.new.page c.add-head.new.page c.add.new.page c.head_bytes.result c.begin-start.result c.add-head.result c.add.result
    c.begin-start.ensures c.add-head.ensures.bytes c.add.ensures.bytes c.head_bytes.ensures
    ∙ ap (spelling_of_summary c.args.kind) c.self.view_is
