use Rattle.std.proofs.Common.{sym}
use Rattle.scan_table.proofs.Advancing.{block_read, block_refused, block_settled, none_left, some_within}
use Rattle.scan_table.proofs.Staying.{next_block}
use Rattle.scan_table.proofs.scan.OpenScan.go_on.Goals as goal

pub returns-in-None-clause-says : goal.returns-in-None-clause-says
returns-in-None-clause-says g c = λ B R t h. absurd (none_left c.args.store.now.shape B R c.args.self.now h c.in-None.ensures.next)

pub read_on-requires-clause-within : goal.read_on-requires-clause-within
read_on-requires-clause-within g c = some_within c.args.self.now.blocks c.args.self.now.read c.in-Some.dba c.in-Some.ensures.next

pub returns-in-Err-clause-settled : goal.returns-in-Err-clause-settled
returns-in-Err-clause-settled g c = block_settled c.args.self.now c.read_on.new.self c.in-Err.fault c.requires.unmarked c.in-Err.ensures.kept c.in-Err.ensures.block

pub returns-in-Err-clause-says : goal.returns-in-Err-clause-says
returns-in-Err-clause-says g c = λ B R t h.
    let s = c.args.self.now in
    let n = sym c.in-Some.ensures.next in
    block_refused c.args.store.now.shape B R s c.in-Some.dba c.in-Err.fault h n (c.in-Err.ensures.says R s.obj t (next_block c.args.store.now.shape B R s c.in-Some.dba t.lawful.allowed c.requires.unmarked n h).scanning)

pub returns-in-Ok-clause-says : goal.returns-in-Ok-clause-says
returns-in-Ok-clause-says g c = λ B R t h.
    let s = c.args.self.now in
    let n = sym c.in-Some.ensures.next in
    block_read c.args.store.now.shape B R s c.read_on.new.self c.outcome-in-Ok.new.self c.in-Some.dba c.outcome-in-Ok.result t.lawful.allowed h c.requires.unmarked n (c.in-Ok.ensures.says R s.obj t (next_block c.args.store.now.shape B R s c.in-Some.dba t.lawful.allowed c.requires.unmarked n h).scanning) c.outcome-in-Ok.ensures
