use Rattle.std.proofs.Common.{arith}
use Rattle.buffer_pool.proofs.Drops.{keeps_then, keeps_added, dirty_then, dirty_added, frames_added}
use Rattle.buffer_pool.proofs.cache.take_in.Goals as goal

pub returns-in-Ok-clause-keeps : goal.returns-in-Ok-clause-keeps
returns-in-Ok-clause-keeps c = λ pages written.
    let a = c.args.frames.now.entries in let b = c.make_room.new.frames.entries in
    rw c.in-Ok.ensures.entries (keeps_then pages a b _ (c.make_room.ensures.keeps pages) (keeps_added pages c.args.block c.args.page b (c.make_room.ensures.absent c.args.block c.requires.absent) written))

pub returns-in-Err-clause-keeps : goal.returns-in-Err-clause-keeps
returns-in-Err-clause-keeps c = λ pages written. rw c.in-Err.ensures.err (c.make_room.ensures.keeps pages)

pub returns-in-Ok-clause-same_dirty : goal.returns-in-Ok-clause-same_dirty
returns-in-Ok-clause-same_dirty c =
    let a = c.args.frames.now.entries in let b = c.make_room.new.frames.entries in
    rw c.in-Ok.ensures.entries (dirty_then a b _ c.make_room.ensures.same_dirty (dirty_added c.args.block c.args.page b (c.make_room.ensures.absent c.args.block c.requires.absent)))

pub returns-in-Err-clause-same_dirty : goal.returns-in-Err-clause-same_dirty
returns-in-Err-clause-same_dirty c = rw c.in-Err.ensures.err c.make_room.ensures.same_dirty

pub returns-in-Ok-clause-absent : goal.returns-in-Ok-clause-absent
returns-in-Ok-clause-absent c = λ d other none. rw (c.in-Ok.ensures.entries, other) (c.make_room.ensures.absent d none)

pub returns-in-Err-clause-absent : goal.returns-in-Err-clause-absent
returns-in-Err-clause-absent c = λ d other none. rw c.in-Err.ensures.err (c.make_room.ensures.absent d none)

pub returns-in-Err-clause-err : goal.returns-in-Err-clause-err
returns-in-Err-clause-err c = rw c.in-Err.ensures.err (c.make_room.ensures.absent c.args.block c.requires.absent)

pub returns-in-Ok-clause-stays : goal.returns-in-Ok-clause-stays
returns-in-Ok-clause-stays c = λ room.
    let same = c.make_room.ensures.same (omega (arith, room)) in
    rw (c.in-Ok.ensures.entries, same) (frames_added c.args.block _ c.args.frames.now.entries)

pub returns-in-Err-clause-stays : goal.returns-in-Err-clause-stays
returns-in-Err-clause-stays c = λ room.
    let same = c.make_room.ensures.same (omega (arith, room)) in
    rw (c.in-Err.ensures.err, same) (record { at = λ d h. h })

pub returns-in-Ok-clause-brought : goal.returns-in-Ok-clause-brought
returns-in-Ok-clause-brought c = record { kept = c.make_room.new.frames.entries; page = c.args.page; gives = c.make_room.ensures.gives; front = c.in-Ok.ensures.entries }

pub returns-in-Err-clause-gives : goal.returns-in-Err-clause-gives
returns-in-Err-clause-gives c = rw c.in-Err.ensures.err c.make_room.ensures.gives
