use Rattle.std.proofs.Common.{◌≡◌, IfOk, subst}
use Rattle.seg_words.specs.Types.{Shape}
use Rattle.space_usage.specs.Keeping.{levels_of}
use Rattle.space_usage.proofs.Bitmaps.{block_header, table_extents, block_index}
use Rattle.space_usage.proofs.levels.told_levels.Goals as goal

pub returns-clause-says : goal.returns-clause-says
returns-clause-says g c = λ R o h e is. subst (λ (sh : Shape). IfOk c.levels_in.result (λ l. l ≡ levels_of sh R o c.args.dba)) e (c.levels_in.ensures.says R o (block_header g.D.Disk.meaning R o c.args.dba c.args.store.now c.args.segment.now c.frame.result.now h is (c.frame.ensures R h.holds.list)))

pub returns-clause-right : goal.returns-clause-right
returns-clause-right g c = λ R o h e is.
    let M = g.D.Disk.meaning in
    let s = c.args.store.now in
    c.levels_in.ensures.right R o (block_header M R o c.args.dba s c.args.segment.now c.frame.result.now h is (c.frame.ensures R h.holds.list)) (table_extents M R o c.args.dba s c.args.shape.now h e) (block_index M R o c.args.dba s c.args.shape.now h e)
