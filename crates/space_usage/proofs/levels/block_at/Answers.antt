use Rattle.std.proofs.Common.{◌∙◌, sym}
use Rattle.space_usage.proofs.Bitmaps.{table_has}
use Rattle.space_usage.proofs.levels.block_at.Goals as goal

pub returns-in-None-clause-right : goal.returns-in-None-clause-right
returns-in-None-clause-right c = λ R o s e l m. absurd (table_has c.args.shape.now R o c.args.index c.in_ok-extent.extent c.args.nth e (c.in_ok-extent.ensures.says R o s) m (sym c.block_in.ensures ∙ c.in-None.is))
