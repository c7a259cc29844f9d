use Rattle.std.proofs.Common.{◌∙◌, ◌∷◌, sym}
use Rattle.seg_words.specs.Types.{TXN_TABLE_BLOCK}
use Rattle.buffer_pool.proofs.Batched.{due_apart, due_dirty, due_in, many_due}
use Rattle.buffer_pool.proofs.pool.BufferPool.due_numbers.Goals as goal

pub returns-clause-apart : goal.returns-clause-apart
returns-clause-apart c =
    let permuted = rw (c.in_ok-numbers.ensures, ← c.self.view_is) at c.sort.ensures.permutation in
    due_apart c.args.upto TXN_TABLE_BLOCK c.self.inside.first c.self.inside.frames.entries c.sort.new.self.items c.len-count.ensures.valid.0 c.self.invariant.2 permuted

pub returns-clause-each : goal.returns-clause-each
returns-clause-each c =
    let permuted = rw (c.in_ok-numbers.ensures, ← c.self.view_is) at c.sort.ensures.permutation in
    rw (← c.self.view_is) (due_in c.args.upto TXN_TABLE_BLOCK c.self.inside.first c.self.inside.frames.entries c.sort.new.self.items c.len-count.ensures.valid.0 c.self.invariant.2 permuted)

pub returns-clause-dirty : goal.returns-clause-dirty
returns-clause-dirty c =
    let permuted = rw (c.in_ok-numbers.ensures, ← c.self.view_is) at c.sort.ensures.permutation in
    let f = c.self.inside.first in let es = c.self.inside.frames.entries in
    rw (← c.self.view_is) (due_dirty c.args.upto ((TXN_TABLE_BLOCK, f) ∷ es) c.sort.new.self.items (due_in c.args.upto TXN_TABLE_BLOCK f es c.sort.new.self.items c.len-count.ensures.valid.0 c.self.invariant.2 permuted))

pub returns-clause-many : goal.returns-clause-many
returns-clause-many c = λ up.
    let permuted = rw (c.in_ok-numbers.ensures, ← c.self.view_is) at c.sort.ensures.permutation in
    let up2 = rw (← c.self.view_is) at up in
    rw (← c.self.view_is) (many_due c.args.upto TXN_TABLE_BLOCK c.self.inside.first c.self.inside.frames.entries c.sort.new.self.items c.len-count.ensures.valid.0 c.self.invariant.2 up2 permuted ∙ sym c.self.invariant.0)

pub returns-clause-only : goal.returns-clause-only
returns-clause-only c = rw (← c.self.view_is) c.self.invariant.3
