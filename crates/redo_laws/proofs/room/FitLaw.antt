-- What an allowed record states can be put into its blocks.
use Rattle.std.proofs.Common.{◌≡◌, ◌⊎◌, ℕ, zero, suc, ◌<◌, ◌≤◌, true, false, cond, leb, List, [], ◌∷◌, length, Option, Some, None, refl, sym, ◌∙◌, ap, subst, arith, inl, inr, leb-true, leb-false}
use Rattle.seg_words.proofs.Lemmas.{cases_Bool, cases_order}
use Rattle.seg_words.specs.Types.{Shape, Slot, Writer, By, At, row_size, BLOCK_ROOM, LONGEST_ROW, MOST_SLOTS, MOST_LIST_ENTRIES}
use Rattle.redo_model.specs.Records.{Record, RowPart, BackRecord}
use Rattle.redo_model.specs.Model.{Step, Effect, effect_of, txn_count, is_active, ended_in, is_by, standing_steps, standing, newest_of, image, without, makers, taken_back, AreAllowed, slot_count, entry_count, block_of}
use Rattle.redo_model.specs.Effects.{Still, Formats, Adds, TakesBack, Cleans}
use Rattle.redo_laws.proofs.lists.Every.{Every, every-map, every-filter}
use Rattle.redo_laws.proofs.steps.OnTop.{head_named, OnTop}
use Rattle.redo_laws.proofs.steps.Facts.{StatesOld, BackFits, EffectFits as NeedsMet}
use Rattle.seg_base.proofs.Rooms.{slot_to_use-le-length, entry_for-within, takes_is}
use Rattle.redo_model.proofs.Bridge.{count_is, entry_count_is}
use Rattle.redo_laws.specs.Fit.{EachFits, EachBackFits, EffectFits, RecordsFitBlocks}
use Rattle.redo_laws.proofs.steps.Held.{Held, own_newest}
use Rattle.redo_laws.proofs.spread.Spread.{good}
use Rattle.redo_laws.proofs.allowed.Shapes.{Puts, AllPut}
use Rattle.redo_laws.proofs.steps.Beyond.{beyond}
use Rattle.redo_laws.proofs.spread.Whole.{record_fits, whole}
use Rattle.redo_laws.proofs.room.RoomKinds.{Quiet, Taken, Fitted, EntersAt, IsShort, Enter, StepRoom}
use Rattle.redo_laws.proofs.room.RoomLaw.{size_at, RoomIn, ShortIn, Small, small, small_of, EffectSmall, short_part, each_named, made_there}
use Rattle.redo_laws.proofs.lists.Sums.{sum_below}

-- a term of a sum is no more than the sum
sum_has : (n k : ℕ) (f : ℕ → ℕ) → k < n → f k ≤ sum_below n f
sum_has zero k f l = absurd (omega arith)
sum_has (suc n) k f l =
    elim (cases_order k n) [
      | inl e ↦ subst (λ x. f x ≤ sum_below (suc n) f) (sym e) (omega arith)
      | inr w ↦ elim w [ inl b ↦ (let a = sum_has n k f b in omega arith) | inr a ↦ absurd (omega arith) ]
    ]

-- what a slot counts fits in the block
slot_within : (R : List Record) (b k : ℕ) → RoomIn R b → row_size (ended_in R) (image R b k) ≤ 3992
slot_within R b k r = elim (cases_Bool (leb (slot_count R b) k)) [
  | inr f ↦ (let a = sum_has (slot_count R b) k (size_at (ended_in R) (image R b)) (leb-false (slot_count R b) k f) in let u = r.used in omega arith)
  | inl y ↦ (let e : row_size (ended_in R) (image R b k) ≡ 0 = ap (row_size (ended_in R)) (beyond R b k (leb-true (slot_count R b) k y)).0 in omega arith)
]

-- the slot of a part
record SlotFits (R : List Record) (p : RowPart) : Type 0 where
  there : p.slot ≤ slot_count R p.dba
  few : p.slot < MOST_SLOTS

quiet_slot : (R : List Record) (p : RowPart) → ((b : ℕ) → RoomIn R b) → Quiet R p → SlotFits R p
quiet_slot R p r q = record { there = (let l = q.there in omega arith); few = (let l = q.there in let m = (r p.dba).slots in omega arith) }

grown_slot : (R : List Record) (st : Step) (g : RowPart) → ((b : ℕ) → RoomIn R b) → Taken R st g ⊎ Fitted R st g → SlotFits R g
grown_slot R st g r (inr f) = record { there = (let l = f.there in omega arith); few = (let l = f.there in let m = (r g.dba).slots in omega arith) }
grown_slot R st g r (inl t) =
    let w = takes_is (ended_in R) t.pctfree (block_of R g.dba) (length g.new.bytes) t.taker t.takes_it in
    record {
      there = (let a = slot_to_use-le-length (ended_in R) (block_of R g.dba) in let c = count_is R g.dba in let s = t.slot in omega arith);
      few = (let a = w.slot in let s = t.slot in omega arith);
    }

slots_fit : (R : List Record) (st : Step) → ((b : ℕ) → RoomIn R b) → StepRoom R st → Every (SlotFits R) st.parts
slots_fit R st r x = elim x.rooms [
  | inl q ↦ every-map _ _ st.parts (λ p z. quiet_slot R p r z) q
  | inr g ↦ every-map _ _ st.parts (λ p z. elim z [ inl q ↦ quiet_slot R p r q | inr e ↦ subst (SlotFits R) (sym e) (grown_slot R st g.part r g.grows) ]) g.others
]

some_entry : (a e : ℕ) → ◌≡◌ {A = Option ℕ} (Some a) (Some e) → a ≡ e
some_entry a e x = cc

entry_fits : (R : List Record) (t : ℕ) (p : RowPart) → RoomIn R p.dba → EntersAt R t p → (e : ℕ) → p.entry ≡ Some e → (e ≤ entry_count R p.dba) × (e < MOST_LIST_ENTRIES)
entry_fits R t p r x e f =
    let same : x.entry ≡ e = some_entry x.entry e (sym x.entry_is ∙ f) in
    let w = entry_for-within (ended_in R) (block_of R p.dba) t x.entry (subst (λ n. n ≤ MOST_LIST_ENTRIES) (sym (entry_count_is R p.dba)) r.entries_to) x.for_it in
    (subst (λ n. n ≤ entry_count R p.dba) same (subst (λ n. x.entry ≤ n) (entry_count_is R p.dba) w.0), subst (λ n. n < MOST_LIST_ENTRIES) same w.1)

abbrev EntryFits : List Record → RowPart → Type 0
EntryFits R p = (e : ℕ) → p.entry ≡ Some e → (e ≤ entry_count R p.dba) × (e < MOST_LIST_ENTRIES)

entries_fit : (R : List Record) (w : Writer) (ps : List RowPart) → ((b : ℕ) → RoomIn R b) → Enter R w ps → Every (EntryFits R) ps
entries_fit R (By t) ps r h = every-map _ _ ps (λ p x. entry_fits R t p (r p.dba) x) h
entries_fit R (At m) ps r h = every-map _ _ ps (λ p n e f. absurd (let x : ◌≡◌ {A = Option ℕ} None (Some e) = sym n ∙ f in cc)) h

room_fits : (R : List Record) (st : Step) (i : ℕ) (p : RowPart) → RoomIn R p.dba → Puts R st i p → length p.new.bytes ≤ LONGEST_ROW → p.old ≡ image R p.dba p.slot → p.new.room ≤ BLOCK_ROOM
room_fits R st i p r pu l o = go st.by refl
  where
    go : (w : Writer) → st.by ≡ w → p.new.room ≤ BLOCK_ROOM
    go (By u) e = (let a = pu.room u e in let s = slot_within R p.dba p.slot r in let q : row_size (ended_in R) p.old ≡ row_size (ended_in R) (image R p.dba p.slot) = ap (row_size (ended_in R)) o in omega arith)
    go (At m) e = (let a = pu.room_at m e in omega arith)

abbrev Small' : List Record → Type 0
Small' R = ((b : ℕ) → RoomIn R b) × ShortIn R

parts_fit : (R : List Record) (st : Step) (i : ℕ) (ps : List RowPart) → Small' R → AllPut R st i ps → Every (IsShort R) ps → StatesOld R ps → Every (SlotFits R) ps → Every (EntryFits R) ps → EachFits R ps
parts_fit R st i [] s pu sh o sl en = tt
parts_fit R st i (p ∷ ps) s pu sh o sl en =
    let b = short_part R p s.1 sh.0 in
    (record { there = sl.0.there; few = sl.0.few; bytes = b; room = room_fits R st i p (s.0 p.dba) pu.0 b o.0; entry = en.0; old = o.0 }, parts_fit R st (suc i) ps s pu.1 sh.1 o.1 sl.1 en.1)

-- the old images of standing steps are short

abbrev OldShort : Step → Type 0
OldShort st = Every (λ (p : RowPart). length p.old.bytes ≤ LONGEST_ROW) st.parts

olds_short : (R : List Record) (ps : List RowPart) → ShortIn R → StatesOld R ps → Every (λ (p : RowPart). length p.old.bytes ≤ LONGEST_ROW) ps
olds_short R [] s o = tt
olds_short R (p ∷ ps) s o = (subst (λ (i : Slot). length i.bytes ≤ LONGEST_ROW) (sym o.0) (s p.dba p.slot).0, olds_short R ps s o.1)

steps_effect : (R : List Record) (ef : Effect) → NeedsMet R ef → ShortIn R → Every OldShort (standing R) → Every OldShort (standing_steps ef (standing R))
steps_effect R Still f s h = h
steps_effect R (Formats d) f s h = h
steps_effect R (Adds st) f s h = (olds_short R st.parts s f.old, h)
steps_effect R (TakesBack t) f s h = every-filter _ _ (standing R) h
steps_effect R (Cleans d cs) f s h = h

steps_short : (sh : Shape) (R : List Record) → AreAllowed sh R → Every OldShort (standing R)
steps_short sh [] h = tt
steps_short sh (r ∷ R) h = steps_effect R (effect_of r) (record_fits sh R r h).effect (small sh R h.0).short (steps_short sh R h.0)

newest_short : (ss : List Step) (u : ℕ) (st : Step) → newest_of ss u ≡ Some st → Every OldShort ss → OldShort st
newest_short [] u st e h = absurd (let x : ◌≡◌ {A = Option Step} None (Some st) = e in cc)
newest_short (s ∷ ss) u st e h =
    (elim (is_by s.by u) as (λ v. cond v (Some s) (newest_of ss u) ≡ Some st → OldShort st) [
      | true ↦ λ f. let same : s ≡ st = cc in subst OldShort same h.0
      | false ↦ λ f. newest_short ss u st f h.1
    ]) e

back_parts : (R : List Record) (ps : List RowPart) → ((b : ℕ) → RoomIn R b) → Every (λ (p : RowPart). p.slot < slot_count R p.dba) ps → Every (λ (p : RowPart). length p.old.bytes ≤ LONGEST_ROW) ps → EachBackFits R (taken_back ps)
back_parts R [] r l s = tt
back_parts R (p ∷ ps) r l s = (record { there = l.0; few = (let a = l.0 in let m = (r p.dba).slots in omega arith); bytes = s.0 }, back_parts R ps r l.1 s.1)

back_fits : (R : List Record) (t : BackRecord) → ((b : ℕ) → RoomIn R b) → BackFits R t → Held (is_active R) (txn_count R) (standing R) (makers R) → Every OldShort (standing R) → EachBackFits R t.parts
back_fits R t r f h s =
    let st = f.step in
    let o = own_newest (standing R) t.txn st f.newest in
    let top : OnTop (st ∷ o.0) (makers R) = subst (λ us. OnTop us (makers R)) o.1 (h.top t.txn f.active) in
    let there : Every (λ (p : RowPart). p.slot < slot_count R p.dba) st.parts = every-map _ _ st.parts (λ p n.
    let w = head_named st 0 st.parts p.dba p.slot (without st.undo (makers R p.dba p.slot)) n in
    made_there R p.dba p.slot w.made (without st.undo (makers R p.dba p.slot)) (top.0 p.dba p.slot ∙ w.list)) (each_named st.parts) in
    subst (EachBackFits R) (sym f.restores) (back_parts R st.parts r there (newest_short (standing R) t.txn st f.newest s))

effect_fits : (sh : Shape) (R : List Record) (ef : Effect) → NeedsMet R ef → EffectSmall R ef → Small sh R → Held (is_active R) (txn_count R) (standing R) (makers R) → Every OldShort (standing R) → EffectFits R ef
effect_fits sh R Still f x s h o = tt
effect_fits sh R (Formats d) f x s h o = tt
effect_fits sh R (Adds st) f x s h o = parts_fit R st 0 st.parts (s.room, s.short) x.1 x.0.short f.old (slots_fit R st s.room x.0) (entries_fit R st.by st.parts s.room x.0.entries)
effect_fits sh R (TakesBack t) f x s h o = back_fits R t s.room f h o
effect_fits sh R (Cleans d cs) f x s h o = tt

pub records_fit_blocks : RecordsFitBlocks
records_fit_blocks sh R r h =
    let w = whole sh R h.0 in
    effect_fits sh R (effect_of r) (record_fits sh R r h).effect (small_of sh R r w h.1.kind h.0) (small sh R h.0) (good sh R w.fit).held (steps_short sh R h.0)
