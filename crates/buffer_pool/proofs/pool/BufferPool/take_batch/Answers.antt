use Rattle.std.proofs.Common.{arith, ℕ, List, length, min, sym, ap, subst, ◌∙◌}
use Rattle.std.proofs.lemmas.List.{length-take}
use Rattle.buffer_pool.specs.Batches.{IsDueIn, Settled}
use Rattle.buffer_pool.specs.Frames.{frame_at, IsDirty}
use Rattle.buffer_pool.proofs.Batched.{all_take, apart_take, batch_due, batch_length, settled_blocks, shows_put, writable}
use Rattle.buffer_pool.proofs.pool.BufferPool.take_batch.Goals as goal

pub settle_all-requires-clause-apart : goal.settle_all-requires-clause-apart
settle_all-requires-clause-apart c = rw (c.deref-2.ensures.value, c.truncate.ensures.items) (apart_take c.args.most c.in_ok-numbers.numbers.items c.in_ok-numbers.ensures.apart)

pub settle_all-requires-clause-dirty : goal.settle_all-requires-clause-dirty
settle_all-requires-clause-dirty c = rw (c.deref-2.ensures.value, c.truncate.ensures.items) (all_take (λ d. IsDirty (frame_at c.args.self.now.held d)) c.args.most c.in_ok-numbers.numbers.items c.in_ok-numbers.ensures.dirty)

pub copy_all-requires : goal.copy_all-requires
copy_all-requires c = rw (c.deref.ensures.value, c.truncate.ensures.items) (all_take (λ d. IsDirty (frame_at c.args.self.now.held d)) c.args.most c.in_ok-numbers.numbers.items c.in_ok-numbers.ensures.dirty)

pub returns-clause-batch : goal.returns-clause-batch
returns-clause-batch c = record {
  all = c.in_ok-numbers.numbers.items;
  due = c.in_ok-numbers.ensures.due;
  order = c.in_ok-numbers.ensures.order;
  pages = rw (c.deref.ensures.value, c.truncate.ensures.items) at c.in_ok-batch.ensures;
}

pub returns-clause-settled : goal.returns-clause-settled
returns-clause-settled c =
    let old = c.args.self.now.held in let new = c.settle_all.new.self.held in
    settled_blocks c.deref.result.now c.in_ok-batch.batch.items old old new c.in_ok-batch.ensures (subst (λ (xs : List ℕ). Settled xs old new) (c.deref-2.ensures.value ∙ sym c.deref.ensures.value) c.settle_all.ensures.settled)

pub returns-clause-dirty : goal.returns-clause-dirty
returns-clause-dirty c =
    let long = batch_length c.args.self.now.held c.deref.result.now c.in_ok-batch.batch.items c.in_ok-batch.ensures in
    let same = ap (λ (xs : List ℕ). length xs) (c.deref-2.ensures.value ∙ sym c.deref.ensures.value) in
    omega (arith, long, same, c.settle_all.ensures.dirty)

pub returns-clause-many : goal.returns-clause-many
returns-clause-many c = λ up.
    let most = c.args.most in let numbers = c.in_ok-numbers.numbers.items in
    batch_length c.args.self.now.held c.deref.result.now c.in_ok-batch.batch.items c.in_ok-batch.ensures ∙ ap (λ (xs : List ℕ). length xs) (c.deref.ensures.value ∙ c.truncate.ensures.items) ∙ length-take most numbers ∙ ap (λ (n : ℕ). min most n) (c.in_ok-numbers.ensures.many up)

pub returns-clause-writable : goal.returns-clause-writable
returns-clause-writable c = λ few some.
    let held = c.args.self.now.held in let most = c.args.most in let numbers = c.in_ok-numbers.numbers.items in
    writable c.args.self.now.shape held most numbers c.in_ok-batch.batch.items c.in_ok-numbers.ensures.only (apart_take most numbers c.in_ok-numbers.ensures.apart) (all_take (λ d. IsDirty (frame_at held d)) most numbers c.in_ok-numbers.ensures.dirty)
    (rw (c.deref.ensures.value, c.truncate.ensures.items) at c.in_ok-batch.ensures) few some

pub returns-clause-shows : goal.returns-clause-shows
returns-clause-shows c = λ pages image s back.
    let old = c.args.self.now.held in let new = c.settle_all.new.self.held in
    shows_put c.args.self.now.shape pages image c.deref.result.now c.in_ok-batch.batch.items old new
    (rw (c.deref.ensures.value, c.truncate.ensures.items) (all_take (λ d. IsDirty (frame_at old d)) c.args.most c.in_ok-numbers.numbers.items c.in_ok-numbers.ensures.dirty)) c.in_ok-batch.ensures
    (subst (λ (xs : List ℕ). Settled xs old new) (c.deref-2.ensures.value ∙ sym c.deref.ensures.value) c.settle_all.ensures.settled) back s

pub returns-clause-due : goal.returns-clause-due
returns-clause-due c =
    let held = c.args.self.now.held in
    batch_due c.args.upto held c.deref.result.now c.in_ok-batch.batch.items c.in_ok-batch.ensures
    (rw (c.deref.ensures.value, c.truncate.ensures.items) (all_take (λ d. IsDueIn c.args.upto (frame_at held d)) c.args.most c.in_ok-numbers.numbers.items c.in_ok-numbers.ensures.each))
