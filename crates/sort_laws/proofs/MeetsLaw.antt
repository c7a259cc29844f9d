-- An allowed record meets the sorts of pages that it needs.
use Rattle.std.proofs.Common.{◌≡◌, ◌⊎◌, ℕ, zero, suc, ◌+◌, ◌-◌, ◌*◌, ◌%◌, ◌<◌, ◌≤◌, max, true, false, cond, eqb, List, [], ◌∷◌, ◌++◌, length, Option, Some, None, refl, sym, ◌∙◌, ap, ap₂, subst, arith, inl, inr, length-append, true≢false, eq-eqb}
use Rattle.seg_words.proofs.Lemmas.{cond-true}
use Rattle.std.proofs.lemmas.Nat.{mod-mul-add}
use Rattle.seg_words.specs.Types.{Shape, Slot, new_slot, number_of_writer, as_told, clean_slot, first_block, is_shape, is_empty, MOST_TABLES, OWN_BLOCKS, LEAST_EXTENT_BLOCKS, MOST_EXTENT_BLOCKS}
use Rattle.redo_model.specs.Records.{Record, Extend, Begin, Reuse, Insert, Update, Migrate, Return, Delete, Commit, Back, Ended, Move, ExtendRecord, FormatBlockRecord, ClassRecord}
use Rattle.redo_model.specs.Model.{Step, Effect, effect_of, txn_count, is_active, has_begun, Extent, extents_of, data_blocks, high_mark, extent_at, block_in, group_start, changed_image, image, ExtendAllowed, FormatAllowed, ClassAllowed, StatesBitmaps, IsKindAllowed, IsOverflow, AreAllowed}
use Rattle.redo_model.specs.Effects.{Still, Formats, Adds, TakesBack, Cleans}
use Rattle.redo_laws.specs.Among.{is_in}
use Rattle.redo_laws.proofs.allowed.AllKinds.{shape_of}
use Rattle.redo_laws.proofs.space.Apart.{apart_extents}
use Rattle.redo_laws.proofs.space.ApartLaw.{placed}
use Rattle.redo_laws.proofs.numbers.Bounds.{limits}
use Rattle.redo_laws.proofs.steps.Facts.{BackFits, EffectFits}
use Rattle.redo_laws.proofs.numbers.Known.{turn}
use Rattle.redo_laws.proofs.space.Places.{in_take, in_contains, segments, a_table, format_first}
use Rattle.redo_laws.proofs.allowed.Shapes.{empty_of}
use Rattle.redo_laws.proofs.numbers.TxnTable.{txn_table}
use Rattle.redo_laws.proofs.spread.Whole.{record_fits}
use Rattle.sort_laws.specs.Sorts.{First, Second, Third, sort_of, changes_table, MapsFit, RecordsMeetSorts, ReuseMayComeFirst, CalledReusesFindTable}
use Rattle.page_model.specs.Types.{first_of}
use Rattle.space_laws.proofs.BestsLaw.{index_is}
use Rattle.page_laws.proofs.FitsLaw.{named_blocks_are_formatted}
use Rattle.sort_laws.proofs.SortsLaw.{at_exists, at_last, group_below, group_twice, heads_in, sorts_are_made}
use Rattle.space_laws.proofs.ExtentsLaw.{data_at}
use Rattle.page_laws.proofs.PartsLaw.{step_known}
use Rattle.page_laws.proofs.UndoLaw.{undo_takes_parts}

-- a transaction that has begun is counted

pub begun_counts : (R : List Record) (t : ℕ) → has_begun R t ≡ true → 1 ≤ txn_count R
begun_counts [] t h = absurd (true≢false (sym h))
begun_counts (Begin g ∷ R) t h = omega arith
begun_counts (Commit c ∷ R) t h = begun_counts R t h
begun_counts (Ended e ∷ R) t h = begun_counts R t h
begun_counts (_ ∷ R) t h = begun_counts R t h

active_counts : (sh : Shape) (R : List Record) (t : ℕ) → AreAllowed sh R → is_active R t ≡ true → 1 ≤ txn_count R
active_counts sh R t h on = begun_counts R t ((txn_table sh R h).begun t on)

pub table_counts : (sh : Shape) (R : List Record) (r : Record) → AreAllowed sh (r ∷ R) → IsKindAllowed sh R r → changes_table r ≡ true → 1 ≤ txn_count R
table_counts sh R (Insert w) h a e = active_counts sh R w.txn h.0 a.change.active
table_counts sh R (Update w) h a e = active_counts sh R w.txn h.0 ((step_known sh R (Update w) _ h refl).live w.txn refl)
table_counts sh R (Migrate w) h a e = active_counts sh R w.txn h.0 ((step_known sh R (Migrate w) _ h refl).live w.txn refl)
table_counts sh R (Return w) h a e = active_counts sh R w.txn h.0 ((step_known sh R (Return w) _ h refl).live w.txn refl)
table_counts sh R (Delete w) h a e = active_counts sh R w.txn h.0 ((step_known sh R (Delete w) _ h refl).live w.txn refl)
table_counts sh R (Commit c) h a e = active_counts sh R c.txn h.0 a.active
table_counts sh R (Back k) h a e = active_counts sh R k.txn h.0 a.active
table_counts sh R (Ended x) h a e = active_counts sh R x.txn h.0 a.active
table_counts sh R _ h a e = absurd (true≢false (sym e))

-- bitmaps of a data block

first_is : (sh : Shape) (x b : ℕ) → LEAST_EXTENT_BLOCKS ≤ sh.extent → first_block sh x ≤ b → b < first_block sh x + sh.extent → first_of sh b ≡ first_block sh x
first_is sh x b w l u =
    let n = b - first_block sh x in
    let e1 : b - (OWN_BLOCKS + sh.undo) ≡ x * sh.extent + n = omega (arith, l) in
    let e2 : max sh.extent 1 ≡ sh.extent = omega (arith, w) in
    let e3 : (b - (OWN_BLOCKS + sh.undo)) % max sh.extent 1 ≡ n = ap₂ (λ p q. p % q) e1 e2 ∙ mod-mul-add x sh.extent n (omega (arith, l, u)) in
    ap (λ k. b - k) e3 ∙ (let z : b - (b - first_block sh x) ≡ first_block sh x = omega (arith, l) in z)

maps_fit : (sh : Shape) (R : List Record) (o b l2 l3 index : ℕ) → is_shape sh ≡ true → AreAllowed sh R → 1 ≤ o → o ≤ MOST_TABLES → is_in b (data_blocks sh R o) ≡ true → StatesBitmaps sh R o b l2 l3 index → MapsFit sh R b l2 l3 index
maps_fit sh R o b l2 l3 index s h one most here a =
    let lim = limits sh s in
    let es = extents_of R o in
    let d = data_at sh 0 es b here in
    let from = d.from in
    let to = d.to in
    let w = lim.extent_from in
    let v = lim.extent_to in
    let same : index ≡ d.index = a.index_is ∙ index_is sh es d.index b d.extent (apart_extents sh R o h (record { least = one; most = most })) d.at (omega (arith, from)) to in
    let few = (placed sh R o h).few in
    let below = at_less es d.index d.extent d.at in
    let first = first_is sh d.extent.number b w (omega (arith, from)) to in
    let up = group_below index in
    let g = at_exists es (group_start index) (omega (arith, same, below, up)) in
    let z = at_exists es 0 (omega (arith, below)) in
    let l2_is : l2 ≡ first_block sh g.0.number + 1 = a.l2_is ∙ ap (λ (x : Option Extent). block_in sh x 1) g.1 in
    let l3_is : l3 ≡ first_block sh z.0.number + 2 = a.l3_is ∙ ap (λ (x : Option Extent). block_in sh x 2) z.1 in
    record {
      first = subst (λ n. sort_of sh R n ≡ First) (let y : first_block sh d.extent.number + 0 ≡ first_of sh b = omega (arith, first) in y) (heads_in sh R s h o d.index d.extent d.at).first;
      second = subst (λ n. sort_of sh R n ≡ Second) (sym l2_is) ((heads_in sh R s h o (group_start index) g.0 g.1).second (group_twice index));
      third = subst (λ n. sort_of sh R n ≡ Third) (sym l3_is) ((heads_in sh R s h o 0 z.0 z.1).third refl);
      from = subst (λ n. n ≤ b) (sym first) (omega (arith, from));
      to = subst (λ n. b - n < MOST_EXTENT_BLOCKS) (sym first) (omega (arith, from, to, v));
      few = omega (arith, same, below, few);
    }
  where
    at_less : (es : List Extent) (i : ℕ) (e : Extent) → extent_at es i ≡ Some e → i < length es
    at_less [] i e h = absurd (let x : ◌≡◌ {A = Option Extent} None (Some e) = h in cc)
    at_less (f ∷ es) zero e h = omega arith
    at_less (f ∷ es) (suc i) e h = let l = at_less es i e h in omega (arith, l)

format_maps : (sh : Shape) (R : List Record) (f : FormatBlockRecord) → is_shape sh ≡ true → AreAllowed sh R → FormatAllowed sh R f → MapsFit sh R f.dba f.l2 f.l3 f.index
format_maps sh R f s h a = let n = a_table sh R f.obj (segments sh R h) a.table in maps_fit sh R f.obj f.dba f.l2 f.l3 f.index s h n.least n.most (in_take f.dba (high_mark R f.obj) (data_blocks sh R f.obj) (format_first sh R f a).0) a.bitmaps

class_maps : (sh : Shape) (R : List Record) (k : ClassRecord) → is_shape sh ≡ true → AreAllowed sh R → ClassAllowed sh R k → MapsFit sh R k.dba k.l2 k.l3 k.index
class_maps sh R k s h a = let n = a_table sh R k.obj (segments sh R h) a.table in maps_fit sh R k.obj k.dba k.l2 k.l3 k.index s h n.least n.most (in_take k.dba (high_mark R k.obj) (data_blocks sh R k.obj) (in_contains _ k.dba a.here.here.0 a.here.here.1 a.here.here.2)) a.bitmaps

-- bitmaps of a new extent

extend_maps : (sh : Shape) (R : List Record) (e : ExtendRecord) → is_shape sh ≡ true → AreAllowed sh (Extend e ∷ R) → ExtendAllowed sh R e
    → (sort_of sh (Extend e ∷ R) e.l2 ≡ Second) × (sort_of sh (Extend e ∷ R) e.l3 ≡ Third) × (sort_of sh (Extend e ∷ R) (first_block sh e.extent) ≡ First)
extend_maps sh R e s h a =
    let S = Extend e ∷ R in
    let es = extents_of (Extend e ∷ R) e.obj in
    let list : es ≡ extents_of R e.obj ++ record { number = e.extent; incarnation = suc (length R) } ∷ [] = cond-true _ _ _ (eq-eqb e.obj e.obj refl) in
    let long : length es ≡ length (extents_of R e.obj) + 1 = ap (λ (xs : List Extent). length xs) list ∙ length-append (extents_of R e.obj) (record { number = e.extent; incarnation = suc (length R) } ∷ []) in
    let index = a.index in
    let up = group_below e.index in
    let g = at_exists es (group_start e.index) (omega (arith, long, index, up)) in
    let z = at_exists es 0 (omega (arith, long)) in
    let l2_is : e.l2 ≡ first_block sh g.0.number + 1 = a.l2 ∙ ap (λ (x : Option Extent). block_in sh x 1) g.1 in
    let l3_is : e.l3 ≡ first_block sh z.0.number + 2 = a.l3 ∙ ap (λ (x : Option Extent). block_in sh x 2) z.1 in
    let new : extent_at es e.index ≡ Some (record { number = e.extent; incarnation = suc (length R) }) = ap (λ (xs : List Extent). extent_at xs e.index) list ∙ ap (extent_at (extents_of R e.obj ++ record { number = e.extent; incarnation = suc (length R) } ∷ [])) index ∙ at_last (extents_of R e.obj) (record { number = e.extent; incarnation = suc (length R) }) in (
      subst (λ n. sort_of sh S n ≡ Second) (sym l2_is) ((heads_in sh S s h e.obj (group_start e.index) g.0 g.1).second (group_twice e.index)),
      subst (λ n. sort_of sh S n ≡ Third) (sym l3_is) ((heads_in sh S s h e.obj 0 z.0 z.1).third refl),
      subst (λ n. sort_of sh S n ≡ First) (let y : first_block sh e.extent + 0 ≡ first_block sh e.extent = omega arith in y) (heads_in sh S s h e.obj e.index (record { number = e.extent; incarnation = suc (length R) }) new).first,
    )

pub records_meet_sorts : RecordsMeetSorts
records_meet_sorts sh R r s h =
    let m = sorts_are_made sh R s h.0 in
    record {
      rows = λ b x. m.formatted b (named_blocks_are_formatted sh R r b h x);
      undo = λ st e. m.used st.undo.block (undo_takes_parts sh R r st (limits sh s).undo_from h e).in_use;
      table = λ e. m.begun (table_counts sh R r h h.1.kind e);
      format = λ f e. format_maps sh R f s h.0 (subst (IsKindAllowed sh R) e h.1.kind);
      class = λ k e. class_maps sh R k s h.0 (subst (IsKindAllowed sh R) e h.1.kind);
      extend = λ x e. extend_maps sh R x s (subst (λ y. AreAllowed sh (y ∷ R)) e h) (subst (IsKindAllowed sh R) e h.1.kind);
    }

-- without a transaction all slots are Empty

told_kind : (i : Slot) (o : Option ℕ) → (as_told i o).kind ≡ i.kind
told_kind i None = refl
told_kind i (Some zero) = refl
told_kind i (Some (suc c)) = refl

abbrev pub AllEmpty : List Record → Type 0
AllEmpty R = (b k : ℕ) → is_empty (image R b k).kind ≡ true

pub step_begun : (sh : Shape) (R : List Record) (r : Record) (st : Step) → AreAllowed sh (r ∷ R) → IsKindAllowed sh R r → effect_of r ≡ Adds st → AllEmpty R → 1 ≤ txn_count R
step_begun sh R (Insert w) st h a e z = table_counts sh R (Insert w) h a refl
step_begun sh R (Update w) st h a e z = table_counts sh R (Update w) h a refl
step_begun sh R (Migrate w) st h a e z = table_counts sh R (Migrate w) h a refl
step_begun sh R (Return w) st h a e z = table_counts sh R (Return w) h a refl
step_begun sh R (Delete w) st h a e z = table_counts sh R (Delete w) h a refl
step_begun sh R (Move m) st h a e z =
    let x = shape_of sh R (Move m) (segments sh R h.0) a in
    let o = x.old.source in
    absurd (true≢false (sym (z o.block o.slot) ∙ empty_of (image R o.block o.slot).kind o.holds))
step_begun sh R r st h a e z = absurd cc

empty_effect : (sh : Shape) (R : List Record) (r : Record) (e : Effect) → AreAllowed sh (r ∷ R) → effect_of r ≡ e → txn_count R ≡ 0 → AllEmpty R → (b k : ℕ) → is_empty (changed_image e b k (image R b k)).kind ≡ true
empty_effect sh R r Still h f n z b k = z b k
empty_effect sh R r (Formats d) h f n z b k = elim (eqb d b) as (λ v. is_empty (cond v new_slot (image R b k)).kind ≡ true) [ true ↦ refl | false ↦ z b k ]
empty_effect sh R r (Adds st) h f n z b k = (let l = step_begun sh R r st h h.1.kind f z in absurd (omega (arith, l, n)))
empty_effect sh R r (TakesBack t) h f n z b k =
    let x : BackFits R t = subst (EffectFits R) f (record_fits sh R r h).effect in
    (let l = active_counts sh R t.txn h.0 x.active in absurd (omega (arith, l, n)))
empty_effect sh R r (Cleans d cs) h f n z b k = elim (eqb d b) as (λ v. is_empty (cond v (clean_slot cs (image R b k)) (image R b k)).kind ≡ true) [
  | true ↦ ap is_empty (told_kind (image R b k) (number_of_writer cs (image R b k).writer)) ∙ z b k
  | false ↦ z b k
]

pub all_empty : (sh : Shape) (R : List Record) → AreAllowed sh R → txn_count R ≡ 0 → AllEmpty R
all_empty sh [] h n b k = refl
all_empty sh (r ∷ R) h n b k =
    let m = (turn sh R r h.1.kind).more in
    let less : txn_count R ≡ 0 = omega (arith, m, n) in
    empty_effect sh R r (effect_of r) h refl less (all_empty sh R h.0 less) b k

pub called_step : (R : List Record) (e : Effect) → IsOverflow R e → (st : Step) × (e ≡ Adds st)
called_step R (Adds st) h = (st, refl)
called_step R Still h = absurd h
called_step R (Formats d) h = absurd h
called_step R (TakesBack t) h = absurd h
called_step R (Cleans d cs) h = absurd h

some_or_none : (n : ℕ) → (1 ≤ n) ⊎ (n ≡ 0)
some_or_none zero = inr refl
some_or_none (suc n) = inl (omega arith)

pub called_reuses_find_table : CalledReusesFindTable
called_reuses_find_table sh R q r s h =
    let c = called_step R (effect_of r) h.1.called_for in
    let l : 1 ≤ txn_count R = elim (some_or_none (txn_count R)) [
      | inl y ↦ y
      | inr n ↦ step_begun sh (Reuse q ∷ R) r c.0 h h.1.kind c.1 (all_empty sh (Reuse q ∷ R) h.0 n)
    ] in
    (l, (sorts_are_made sh R s h.0.0).begun l)

pub reuse_may_come_first : ReuseMayComeFirst
reuse_may_come_first = record {
  allowed = (tt, record { called_for = tt; kind = record { block = record { next = refl }; sequence = refl } });
  touches = refl;
  blank = refl;
  left_blank = refl;
}
