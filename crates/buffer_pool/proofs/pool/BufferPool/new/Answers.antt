use Rattle.std.proofs.Common.{◌≡◌}
use Rattle.page_store.specs.Types.{block}
use Rattle.page_set.specs.declared.page.Page.{Page}
use Rattle.page_set.specs.Spelled.{meaning_of}
use Rattle.seg_words.specs.Types.{TXN_TABLE_BLOCK}
use Rattle.buffer_pool.specs.Frames.{in_file, IsSpelled, Pool, Shows}
use Rattle.buffer_pool.specs.Reading.{IsSpelledIn}
use Rattle.buffer_pool.proofs.Fetches.{clean_first, reading_err, shows_new}
use Rattle.buffer_pool.proofs.pool.BufferPool.new.Goals as goal

pub returns-in-Err-clause-shows : goal.returns-in-Err-clause-shows
returns-in-Err-clause-shows g c = λ pages s. reading_err c.args.store TXN_TABLE_BLOCK (IsSpelled TXN_TABLE_BLOCK (pages TXN_TABLE_BLOCK)) (λ (p : Page). p ≡ in_file pages TXN_TABLE_BLOCK) (λ (q : Pool). Shows c.args.store pages (in_file pages) q.held) c.in-Err.fault (c.in-Err.ensures.page pages s)

pub returns-in-Err-clause-found : goal.returns-in-Err-clause-found
returns-in-Err-clause-found g c = λ told. reading_err c.args.store TXN_TABLE_BLOCK (IsSpelledIn TXN_TABLE_BLOCK (g.D.Disk.meaning.files c.args.disk.now).data_bytes) (λ (p : Page). p ≡ meaning_of TXN_TABLE_BLOCK (block TXN_TABLE_BLOCK (g.D.Disk.meaning.files c.args.disk.now).data_bytes)) (λ (q : Pool). q.dirty ≡ 0) c.in-Err.fault (c.in-Err.ensures.found told)

pub returns-clause-shows : goal.returns-clause-shows
returns-clause-shows g c = λ pages s.
    let is = c.in-Ok.ensures.page pages s in
    (is.0, is.1, rw c.in-Ok-new.ensures (shows_new c.args.store TXN_TABLE_BLOCK pages c.in-Ok.page is))

pub returns-clause-clean : goal.returns-clause-clean
returns-clause-clean g c = rw c.in-Ok-new.ensures (clean_first TXN_TABLE_BLOCK c.in-Ok.page)
