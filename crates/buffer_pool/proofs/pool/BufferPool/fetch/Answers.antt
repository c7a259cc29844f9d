use Rattle.std.proofs.Common.{◌≡◌, arith, ℕ, nat_eq, None, IfErr, IsSome, OnOk, OnErr, refl, sym, subst, ◌∙◌}
use Rattle.lru.specs.LruCache.{promoted}
use Rattle.page_store.specs.Types.{Names}
use Rattle.buffer_pool.specs.Recent.{Brought, Gives}
use Rattle.std.proofs.lemmas.Grind.{common_steps}
use Rattle.seg_words.specs.Types.{TXN_TABLE_BLOCK}
use Rattle.buffer_pool.specs.Frames.{frame_at, IsSpelled}
use Rattle.buffer_pool.specs.Reading.{IsFetching, IsSpelledIn}
use Rattle.buffer_pool.proofs.Recency.{moves_fetched, moves_first}
use Rattle.buffer_pool.proofs.Drops.{keeps_behind, dirty_behind, frames_behind, frames_itself}
use Rattle.buffer_pool.proofs.Fetches.{fetched_hit, fetched_behind, front_some, still_apart, still_pages}
use Rattle.buffer_pool.proofs.Installs.{unequal}
use Rattle.buffer_pool.proofs.Stores.{looks_start}
use Rattle.buffer_pool.proofs.pool.BufferPool.fetch.Goals as goal

pub invariant_of-self : goal.invariant_of-self
invariant_of-self g c =
    let sh = c.self.inside.store in let f = c.self.inside.first in let a = c.self.inside.frames.entries in let b = c.bring.new.frames.entries in (
      grind (arith, common_steps, c.bring.ensures.dirty, c.self.invariant.0),
      c.bring.ensures.cap ∙ c.self.invariant.1,
      still_apart sh c.dba.inside.0 TXN_TABLE_BLOCK a b c.bring.ensures.only c.self.invariant.2 c.if-block-eq-TXN_TABLE_BLOCK.false,
      rw c.bring.ensures.same (still_pages sh c.dba.inside.0 TXN_TABLE_BLOCK f a b c.bring.ensures.only c.self.invariant.3),
    )

pub returns-clause-looks : goal.returns-clause-looks
returns-clause-looks g c =
    let f = c.self.inside.first in let a = c.self.inside.frames.entries in let b = c.bring.new.frames.entries in
    rw (← c.self.view_is) (record {
      untouched = c.bring.ensures.untouched;
      reads = c.bring.ensures.reads;
      shape = c.bring.ensures.same;
      dirty = refl;
      same = dirty_behind TXN_TABLE_BLOCK f a b c.bring.ensures.same_dirty;
      shows = λ pages s. keeps_behind pages TXN_TABLE_BLOCK f a b (c.bring.ensures.keeps pages s);
    })

pub returns-clause-page : goal.returns-clause-page
returns-clause-page g c = λ pages s.
    let sh = c.self.inside.store in let a = c.self.inside.frames.entries in let d = c.args.dba in
    let s2 = rw (← c.self.view_is) at s in
    let other = unequal d TXN_TABLE_BLOCK (λ e. c.if-block-eq-TXN_TABLE_BLOCK.false (c.dba.view_is ∙ e)) in
    rw (← c.self.view_is) (fetched_behind sh d (IsSpelled d (pages d)) TXN_TABLE_BLOCK c.self.inside.first a c.bring.result other
    (subst (λ (j : ℕ). IsFetching sh j (IsSpelled j (pages j)) (frame_at a j) c.bring.result) c.dba.view_is (c.bring.ensures.page pages s2)))

pub returns-clause-found : goal.returns-clause-found
returns-clause-found g c = λ told.
    let sh = c.self.inside.store in let a = c.self.inside.frames.entries in let d = c.args.dba in
    let file = (g.D.Disk.meaning.files c.args.disk.now).data_bytes in
    let other = unequal d TXN_TABLE_BLOCK (λ e. c.if-block-eq-TXN_TABLE_BLOCK.false (c.dba.view_is ∙ e)) in
    rw (← c.self.view_is) (fetched_behind sh d (IsSpelledIn d file) TXN_TABLE_BLOCK c.self.inside.first a c.bring.result other
    (subst (λ (j : ℕ). IsFetching sh j (IsSpelledIn j file) (frame_at a j) c.bring.result) c.dba.view_is (c.bring.ensures.found told)))

pub returns-clause-stays : goal.returns-clause-stays
returns-clause-stays g c = λ room.
    let room2 = rw (← c.self.view_is) at room in
    rw (← c.self.view_is) (frames_behind TXN_TABLE_BLOCK c.self.inside.first c.self.inside.frames.entries c.bring.new.frames.entries (c.bring.ensures.stays (omega (arith, room2, c.self.invariant.1))))

pub returns-then-block-eq-TXN_TABLE_BLOCK-clause-looks : goal.returns-then-block-eq-TXN_TABLE_BLOCK-clause-looks
returns-then-block-eq-TXN_TABLE_BLOCK-clause-looks g c = looks_start g.D.Disk.meaning c.args.disk.now c.args.self.now

pub returns-then-block-eq-TXN_TABLE_BLOCK-clause-page : goal.returns-then-block-eq-TXN_TABLE_BLOCK-clause-page
returns-then-block-eq-TXN_TABLE_BLOCK-clause-page g c = λ pages s.
    let d = c.args.dba in
    rw (← c.self.view_is) (fetched_hit c.self.inside.store d (IsSpelled d (pages d)) _ (front_some d TXN_TABLE_BLOCK c.self.inside.first c.self.inside.frames.entries (sym c.dba.view_is ∙ c.if-block-eq-TXN_TABLE_BLOCK.true)))

pub returns-then-block-eq-TXN_TABLE_BLOCK-clause-found : goal.returns-then-block-eq-TXN_TABLE_BLOCK-clause-found
returns-then-block-eq-TXN_TABLE_BLOCK-clause-found g c = λ told.
    let d = c.args.dba in
    rw (← c.self.view_is) (fetched_hit c.self.inside.store d (IsSpelledIn d (g.D.Disk.meaning.files c.args.disk.now).data_bytes) _ (front_some d TXN_TABLE_BLOCK c.self.inside.first c.self.inside.frames.entries (sym c.dba.view_is ∙ c.if-block-eq-TXN_TABLE_BLOCK.true)))

pub returns-then-block-eq-TXN_TABLE_BLOCK-clause-has : goal.returns-then-block-eq-TXN_TABLE_BLOCK-clause-has
returns-then-block-eq-TXN_TABLE_BLOCK-clause-has g c =
    rw (← c.self.view_is) (front_some c.args.dba TXN_TABLE_BLOCK c.self.inside.first c.self.inside.frames.entries (sym c.dba.view_is ∙ c.if-block-eq-TXN_TABLE_BLOCK.true))

pub returns-then-block-eq-TXN_TABLE_BLOCK-clause-there : goal.returns-then-block-eq-TXN_TABLE_BLOCK-clause-there
returns-then-block-eq-TXN_TABLE_BLOCK-clause-there g c =
    rw (← c.self.view_is) (c.self.invariant.3.at c.args.dba (front_some c.args.dba TXN_TABLE_BLOCK c.self.inside.first c.self.inside.frames.entries (sym c.dba.view_is ∙ c.if-block-eq-TXN_TABLE_BLOCK.true)))

pub returns-then-block-eq-TXN_TABLE_BLOCK-clause-stays : goal.returns-then-block-eq-TXN_TABLE_BLOCK-clause-stays
returns-then-block-eq-TXN_TABLE_BLOCK-clause-stays g c = λ room. frames_itself c.args.self.now.held

pub returns-clause-moves : goal.returns-clause-moves
returns-clause-moves g c =
    let a = c.self.inside.frames.entries in let b = c.bring.new.frames.entries in let d = c.args.dba in
    let other = unequal d TXN_TABLE_BLOCK (λ e. c.if-block-eq-TXN_TABLE_BLOCK.false (c.dba.view_is ∙ e)) in
    rw (← c.self.view_is) (moves_fetched c.bring.result d c.self.inside.first a b other
    (subst (λ (j : ℕ). IsSome (frame_at a j) → b ≡ promoted (nat_eq j) a) c.dba.view_is c.bring.ensures.moved)
    (subst (λ (n : ℕ). frame_at a d ≡ None → OnOk c.bring.result (Brought n d a b)) c.self.invariant.1
    (subst (λ (j : ℕ). frame_at a j ≡ None → OnOk c.bring.result (Brought c.self.inside.frames.cap j a b)) c.dba.view_is c.bring.ensures.brought)))

pub returns-clause-gives : goal.returns-clause-gives
returns-clause-gives g c =
    let a = c.self.inside.frames.entries in let b = c.bring.new.frames.entries in
    rw (← c.self.view_is) (subst (λ (n : ℕ). OnErr c.bring.result (Gives 1 n a b)) c.self.invariant.1 c.bring.ensures.gives)

pub returns-then-block-eq-TXN_TABLE_BLOCK-clause-moves : goal.returns-then-block-eq-TXN_TABLE_BLOCK-clause-moves
returns-then-block-eq-TXN_TABLE_BLOCK-clause-moves g c =
    let d = c.args.dba in let is = sym c.dba.view_is ∙ c.if-block-eq-TXN_TABLE_BLOCK.true in
    moves_first d c.args.self.now.held is (rw (← c.self.view_is) (front_some d TXN_TABLE_BLOCK c.self.inside.first c.self.inside.frames.entries is))

pub returns-clause-names : goal.returns-clause-names
returns-clause-names g c = subst (λ (j : ℕ). IfErr c.bring.result (Names (λ b. b ≡ j))) c.dba.view_is c.bring.ensures.names
