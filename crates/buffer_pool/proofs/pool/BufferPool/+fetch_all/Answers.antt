use Rattle.std.proofs.Common.{◌-◌, length}
use Rattle.buffer_pool.proofs.Stores.{looks_start, looks_then}
use Rattle.buffer_pool.proofs.Gathered.{names_head, names_rest, why_head, why_rest}
use Rattle.buffer_pool.proofs.pool.BufferPool.+fetch_all.Goals as goal

pub returns-in-empty-clause-looks : goal.returns-in-empty-clause-looks
returns-in-empty-clause-looks g t c = looks_start g.D.Disk.meaning c.args.disk.now c.args.self.now

pub returns-in-Ok-fetch_all-clause-looks : goal.returns-in-Ok-fetch_all-clause-looks
returns-in-Ok-fetch_all-clause-looks g t c =
    looks_then g.D.Disk.meaning c.args.disk.now c.fetch.new.disk c.fetch_all.new.disk c.args.self.now c.fetch.new.self c.fetch_all.new.self c.fetch.ensures.looks c.fetch_all.ensures.looks

pub returns-in-Err-fetch_all-clause-looks : goal.returns-in-Err-fetch_all-clause-looks
returns-in-Err-fetch_all-clause-looks g t c =
    looks_then g.D.Disk.meaning c.args.disk.now c.fetch.new.disk c.fetch_all.new.disk c.args.self.now c.fetch.new.self c.fetch_all.new.self c.fetch.ensures.looks c.fetch_all.ensures.looks

pub returns-in-Err-clause-why : goal.returns-in-Err-clause-why
returns-in-Err-clause-why g t c = λ pages s.
    why_head c.args.self.now.shape pages c.args.self.now.held c.args.blocks.now c.block-item.result c.in-Err.fault c.in-len1-up.len_at_least c.block-item.is (c.in-Err.ensures.page pages s)

pub returns-in-Err-fetch_all-clause-why : goal.returns-in-Err-fetch_all-clause-why
returns-in-Err-fetch_all-clause-why g t c = λ pages s.
    why_rest g.D.Disk.meaning c.args.disk.now c.fetch.new.disk c.args.self.now c.fetch.new.self c.fetch.ensures.looks pages s c.args.blocks.now (length c.args.blocks.now - 1) c.in-Err-fetch_all.fault c.in-Err-fetch_all.ensures.why

pub returns-in-Err-clause-names : goal.returns-in-Err-clause-names
returns-in-Err-clause-names g t c = names_head c.args.blocks.now c.block-item.result c.in-Err.fault c.in-len1-up.len_at_least c.block-item.is c.in-Err.ensures.names

pub returns-in-Err-fetch_all-clause-names : goal.returns-in-Err-fetch_all-clause-names
returns-in-Err-fetch_all-clause-names g t c = names_rest c.args.blocks.now (length c.args.blocks.now - 1) c.in-Err-fetch_all.fault c.in-Err-fetch_all.ensures.names
