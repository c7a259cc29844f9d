use Rattle.std.proofs.Common.{ℕ, ◌+◌, ◌-◌, Ok, Err, Option, Some, arith, subst}
use Rattle.seg_words.specs.Types.{head_blocks}
use Rattle.redo_model.specs.Model.{data_blocks}
use Rattle.store_core.specs.Causes.{HasLooked}
use Rattle.free_search.specs.Looks.{passes_in, row_sought}
use Rattle.free_search.specs.Walks.{FirstWithin}
use Rattle.store_core.proofs.Lookups.{looked_on, looked_ok, looked_err}
use Rattle.free_search.proofs.Walking.{passed_none, passed_over, passed_next, passed_found, passed_fails, over_fails, passed_high, passed_all}
use Rattle.free_search.proofs.walk.first_in_extents.Goals as goal

pub extents-init : goal.extents-init
extents-init g c = passed_none g.D.Disk.meaning c.args.store.now c.args.look.now c.args.wanted.now c.args.only c.args.from c.requires.unspent

pub returns-in-Err-clause-looked : goal.returns-in-Err-clause-looked
returns-in-Err-clause-looked g c = looked_on g.D.Disk.meaning c.args.store.now c.extents.store c.next_index.new.store tt (Err c.in-Err.fault) c.extents.invariant.looked (looked_err g.D.Disk.meaning c.extents.store c.next_index.new.store c.in-Err.fault c.in-Err.ensures.looked)

pub returns-in-Err-clause-sound : goal.returns-in-Err-clause-sound
returns-in-Err-clause-sound g c = λ R t k. over_fails g.D.Disk.meaning c.args.store.now c.extents.store c.args.look.now c.args.wanted.now c.args.only c.args.from c.extents.index c.in-Err.fault R c.extents.invariant (λ Q q z. c.in-Err.ensures.sound Q q z c.requires.covered) t k

pub returns-then-next-to-clause-looked : goal.returns-then-next-to-clause-looked
returns-then-next-to-clause-looked g c =
    let t = passed_over g.D.Disk.meaning c.args.store.now c.extents.store c.next_index.new.store c.args.look.now c.args.wanted.now c.args.only c.args.from c.args.to c.extents.index c.in-Ok.next c.requires.few c.extents.invariant c.in-Ok.ensures.looked c.in-Ok.ensures.within c.in-Ok.ensures.says in
    looked_ok g.D.Disk.meaning c.args.store.now c.next_index.new.store tt _ t.looked

pub returns-then-next-to-clause-says : goal.returns-then-next-to-clause-says
returns-then-next-to-clause-says g c = λ R h k.
    let t = passed_over g.D.Disk.meaning c.args.store.now c.extents.store c.next_index.new.store c.args.look.now c.args.wanted.now c.args.only c.args.from c.args.to c.extents.index c.in-Ok.next c.requires.few c.extents.invariant c.in-Ok.ensures.looked c.in-Ok.ensures.within c.in-Ok.ensures.says in
    passed_all g.D.Disk.meaning c.args.store.now c.next_index.new.store c.args.look.now c.args.wanted.now c.args.only c.args.from c.args.to c.in-Ok.next R c.if-next-to.true t h k

pub returns-then-passed-look-clause-looked : goal.returns-then-passed-look-clause-looked
returns-then-passed-look-clause-looked g c =
    let t = passed_over g.D.Disk.meaning c.args.store.now c.extents.store c.next_index.new.store c.args.look.now c.args.wanted.now c.args.only c.args.from c.args.to c.extents.index c.in-Ok.next c.requires.few c.extents.invariant c.in-Ok.ensures.looked c.in-Ok.ensures.within c.in-Ok.ensures.says in
    looked_ok g.D.Disk.meaning c.args.store.now c.next_index.new.store tt _ t.looked

pub returns-then-passed-look-clause-says : goal.returns-then-passed-look-clause-says
returns-then-passed-look-clause-says g c = λ R h k.
    let t = passed_over g.D.Disk.meaning c.args.store.now c.extents.store c.next_index.new.store c.args.look.now c.args.wanted.now c.args.only c.args.from c.args.to c.extents.index c.in-Ok.next c.requires.few c.extents.invariant c.in-Ok.ensures.looked c.in-Ok.ensures.within c.in-Ok.ensures.says in
    passed_high g.D.Disk.meaning c.args.store.now c.next_index.new.store c.args.look.now c.args.wanted.now c.args.only c.args.from c.args.to c.in-Ok.next c.data_count-passed.result R c.if-passed-look.true c.data_count-passed.ensures.value t h k

pub returns-in-Err-first_in_extent-clause-looked : goal.returns-in-Err-first_in_extent-clause-looked
returns-in-Err-first_in_extent-clause-looked g c =
    let t = passed_over g.D.Disk.meaning c.args.store.now c.extents.store c.next_index.new.store c.args.look.now c.args.wanted.now c.args.only c.args.from c.args.to c.extents.index c.in-Ok.next c.requires.few c.extents.invariant c.in-Ok.ensures.looked c.in-Ok.ensures.within c.in-Ok.ensures.says in
    looked_on g.D.Disk.meaning c.args.store.now c.next_index.new.store c.first_in_extent.new.store tt (Err c.in-Err-first_in_extent.fault) t.looked (looked_err g.D.Disk.meaning c.next_index.new.store c.first_in_extent.new.store c.in-Err-first_in_extent.fault c.in-Err-first_in_extent.ensures.looked)

pub returns-in-Err-first_in_extent-clause-sound : goal.returns-in-Err-first_in_extent-clause-sound
returns-in-Err-first_in_extent-clause-sound g c = λ R h k.
    let t = passed_over g.D.Disk.meaning c.args.store.now c.extents.store c.next_index.new.store c.args.look.now c.args.wanted.now c.args.only c.args.from c.args.to c.extents.index c.in-Ok.next c.requires.few c.extents.invariant c.in-Ok.ensures.looked c.in-Ok.ensures.within c.in-Ok.ensures.says in
    passed_fails g.D.Disk.meaning c.args.store.now c.next_index.new.store c.args.look.now c.args.wanted.now c.args.only c.args.from c.args.to c.in-Ok.next c.in-Err-first_in_extent.fault R c.requires.few c.if-next-to.false t (λ Q q z m n. c.in-Err-first_in_extent.ensures.sound Q q z m n) h k

pub returns-in-Ok-Some-clause-looked : goal.returns-in-Ok-Some-clause-looked
returns-in-Ok-Some-clause-looked g c =
    let t = passed_over g.D.Disk.meaning c.args.store.now c.extents.store c.next_index.new.store c.args.look.now c.args.wanted.now c.args.only c.args.from c.args.to c.extents.index c.in-Ok.next c.requires.few c.extents.invariant c.in-Ok.ensures.looked c.in-Ok.ensures.within c.in-Ok.ensures.says in
    looked_on g.D.Disk.meaning c.args.store.now c.next_index.new.store c.first_in_extent.new.store tt (Ok (Some c.in-Ok-Some.dba)) t.looked (subst (λ (o : Option ℕ). HasLooked g.D.Disk.meaning c.next_index.new.store c.first_in_extent.new.store (Ok o)) c.in-Ok-Some.field-0-is c.in-Ok-Some.ensures.looked)

pub returns-in-Ok-Some-clause-says : goal.returns-in-Ok-Some-clause-says
returns-in-Ok-Some-clause-says g c = λ R h k.
    let l = c.args.look.now in
    let t = passed_over g.D.Disk.meaning c.args.store.now c.extents.store c.next_index.new.store l c.args.wanted.now c.args.only c.args.from c.args.to c.extents.index c.in-Ok.next c.requires.few c.extents.invariant c.in-Ok.ensures.looked c.in-Ok.ensures.within c.in-Ok.ensures.says in
    passed_found g.D.Disk.meaning c.args.store.now c.next_index.new.store l c.args.wanted.now c.args.only c.args.from c.args.to c.in-Ok.next c.data_count-passed.result c.in-Ok-Some.dba R c.requires.few c.if-next-to.false c.data_count-passed.ensures.value t
    (λ Q q z m p. subst (λ (o : Option ℕ). FirstWithin (passes_in l.shape Q (row_sought l) c.args.wanted.now c.args.only) (data_blocks l.shape Q l.segment.obj) l.segment.high c.data_count-passed.result (c.data_count-passed.result + (l.shape.extent - head_blocks c.in-Ok.next)) o) c.in-Ok-Some.field-0-is (c.in-Ok-Some.ensures.says Q q z m p)) h k

pub extents-preserved : goal.extents-preserved
extents-preserved g c =
    let l = c.args.look.now in
    let t = passed_over g.D.Disk.meaning c.args.store.now c.extents.store c.next_index.new.store l c.args.wanted.now c.args.only c.args.from c.args.to c.extents.index c.in-Ok.next c.requires.few c.extents.invariant c.in-Ok.ensures.looked c.in-Ok.ensures.within c.in-Ok.ensures.says in
    passed_next g.D.Disk.meaning c.args.store.now c.next_index.new.store c.first_in_extent.new.store l c.args.wanted.now c.args.only c.args.from c.args.to c.in-Ok.next c.data_count-passed.result c.requires.few c.if-next-to.false c.data_count-passed.ensures.value t
    (subst (λ (o : Option ℕ). HasLooked g.D.Disk.meaning c.next_index.new.store c.first_in_extent.new.store (Ok o)) c.in-Ok-None.field-0-is c.in-Ok-None.ensures.looked)
    (λ Q q z m p. subst (λ (o : Option ℕ). FirstWithin (passes_in l.shape Q (row_sought l) c.args.wanted.now c.args.only) (data_blocks l.shape Q l.segment.obj) l.segment.high c.data_count-passed.result (c.data_count-passed.result + (l.shape.extent - head_blocks c.in-Ok.next)) o) c.in-Ok-None.field-0-is (c.in-Ok-None.ensures.says Q q z m p))

pub extents-smaller : goal.extents-smaller
extents-smaller g c =
    let w = c.in-Ok.ensures.within in
    let up = w.0 in
    let less = c.if-next-to.false in
    omega (arith, up, less)

pub returns-clause-looked : goal.returns-clause-looked
returns-clause-looked g c = looked_ok g.D.Disk.meaning c.args.store.now c.extents.store tt _ c.extents.invariant.looked

pub returns-clause-says : goal.returns-clause-says
returns-clause-says g c = λ R t k. passed_all g.D.Disk.meaning c.args.store.now c.extents.store c.args.look.now c.args.wanted.now c.args.only c.args.from c.args.to c.extents.index R c.extents-test.false c.extents.invariant t k

pub next_index-requires-clause-order : goal.next_index-requires-clause-order
next_index-requires-clause-order g c = c.extents.invariant.least

pub next_index-requires-clause-unspent : goal.next_index-requires-clause-unspent
next_index-requires-clause-unspent g c = c.extents.invariant.looked.cause.kept c.extents.invariant.looked.cause.goes_on
