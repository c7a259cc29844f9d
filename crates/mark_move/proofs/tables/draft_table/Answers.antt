use Rattle.std.proofs.Common.{◌+◌, ◌∙◌, sym, refl, Err}
use Rattle.store_core.proofs.Lookups.{looked_on, looked_ok, looked_err, looked_memory}
use Rattle.mark_move.proofs.Tabling.{free_has, drafts_table, too_many}
use Rattle.mark_move.proofs.tables.draft_table.Goals as goal

pub returns-in-None-clause-sound : goal.returns-in-None-clause-sound
returns-in-None-clause-sound g c = λ R t m free n. absurd (free_has c.shape-shape.result c.args.store.now.shape R c.args.extent c.shape-shape.ensures t.list.within free (sym c.block_in.ensures ∙ c.in-None.is))

pub returns-then-count-ge-MOST_TABLES-clause-looked : goal.returns-then-count-ge-MOST_TABLES-clause-looked
returns-then-count-ge-MOST_TABLES-clause-looked g c = looked_on g.D.Disk.meaning c.args.store.now c.count_tables.new.store c.refuse-then-count-ge-MOST_TABLES.new.self c.in-Ok.count (Err c.refuse-then-count-ge-MOST_TABLES.result) c.in-Ok.ensures.looked (looked_err g.D.Disk.meaning c.count_tables.new.store c.refuse-then-count-ge-MOST_TABLES.new.self c.refuse-then-count-ge-MOST_TABLES.result c.refuse-then-count-ge-MOST_TABLES.ensures.looked)

pub returns-then-count-ge-MOST_TABLES-clause-sound : goal.returns-then-count-ge-MOST_TABLES-clause-sound
returns-then-count-ge-MOST_TABLES-clause-sound g c = λ R t m free n. absurd (too_many R c.args.name.now c.args.pctfree c.in-Ok.count m (c.in-Ok.ensures.says R t) c.if-count-ge-MOST_TABLES.true)

pub returns-in-Ok-duplicate-clause-looked : goal.returns-in-Ok-duplicate-clause-looked
returns-in-Ok-duplicate-clause-looked g c = looked_ok g.D.Disk.meaning c.args.store.now c.count_tables.new.store c.in-Ok.count _ c.in-Ok.ensures.looked

pub returns-in-Ok-duplicate-clause-says : goal.returns-in-Ok-duplicate-clause-says
returns-in-Ok-duplicate-clause-says g c = λ R t. drafts_table c.shape-shape.result c.args.store.now.shape R c.args.name.now c.in-Ok-duplicate.copy c.args.pctfree c.args.extent c.in-Some.first c.in-Ok.count (c.in-Ok.count + 1) c.both_records.result c.shape-shape.ensures (sym c.block_in.ensures ∙ c.in-Some.is) (c.in-Ok.ensures.says R t) c.in-Ok-duplicate.ensures refl c.both_records.ensures.obj c.both_records.ensures.table c.both_records.ensures.first

pub returns-in-Err-duplicate-clause-looked : goal.returns-in-Err-duplicate-clause-looked
returns-in-Err-duplicate-clause-looked g c = looked_memory g.D.Disk.meaning c.args.store.now c.count_tables.new.store c.in-Ok.count c.in-Ok.ensures.looked

pub returns-in-Err-clause-sound : goal.returns-in-Err-clause-sound
returns-in-Err-clause-sound g c = λ R t m free n. c.in-Err.ensures.sound R t n
