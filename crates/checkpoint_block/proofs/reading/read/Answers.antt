use Rattle.std.proofs.Common.{sym, ◌∙◌}
use Rattle.seg_words.specs.Types.{CHECKPOINT_BLOCK}
use Rattle.checkpoint_block.proofs.Said.{file_fault, said_point, said_none}
use Rattle.checkpoint_block.proofs.reading.read.Goals as goal

pub returns-in-Err-clause-found : goal.returns-in-Err-clause-found
returns-in-Err-clause-found g c told = file_fault (g.D.Disk.meaning.files c.args.disk.now).data_bytes c.get.new.into c.in-Err.fault (c.in-Err.ensures.found told)

pub returns-in-Ok-Some-clause-page : goal.returns-in-Ok-Some-clause-page
returns-in-Ok-Some-clause-page g c pages store =
    said_point (pages CHECKPOINT_BLOCK) c.get.new.into c.in-Ok-Some.point (c.in-Ok.ensures.page pages store) (sym c.in-Ok-Some.field-0-is ∙ c.in-Ok-Some.ensures)

pub returns-in-Ok-None-clause-page : goal.returns-in-Ok-None-clause-page
returns-in-Ok-None-clause-page g c pages store =
    said_none (pages CHECKPOINT_BLOCK) c.get.new.into (c.in-Ok.ensures.page pages store) (sym c.in-Ok-None.field-0-is ∙ c.in-Ok-None.ensures)
