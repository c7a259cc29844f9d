-- Images, and the parts of row records and Moves, have spellings.
use Rattle.std.proofs.Common.{◌≡◌, ℕ, zero, suc, ◌+◌, ◌<◌, ◌≤◌, ◌^◌, true, false, cond, eqb, ltb, leb, List, [], ◌∷◌, length, Option, Some, None, refl, sym, ◌∙◌, ap, subst, arith, inl, inr, true≢false, ltb-false, leb-true, leb-false}
use Rattle.seg_words.proofs.Lemmas.{cases_Bool, not-true}
use Rattle.seg_words.specs.Types.{AllByRecursion, Shape, Head, Slot, UndoAddr, Writer, By, At, new_slot, number_of, number_of_writer, as_told, clean_slot, writer_number, is_empty, BLOCK_ROOM, MOST_SLOTS, MOST_UNDO_PARTS, OWN_BLOCKS, MOST_LIST_ENTRIES}
use Rattle.seg_base.proofs.Rooms.{slot_to_use-le-length}
use Rattle.redo_model.specs.Records.{Record, RowPart, BackPart, IsTableNumber, IsUndo, IsPlace, IsLink, IsEntry, IsImage, IsRowPart, IsBackPart, AreParts}
use Rattle.redo_model.specs.Model.{Step, Effect, written, restored, is_commit, is_begin, ended_in, is_by, standing_steps, standing, newest_of, undo_of_step, is_place, placed_in, changed_image, image, slot_count, block_of, parts_size, undo_used, at_place, next_slot, place_of_undo, data_blocks, AreAllowed}
use Rattle.redo_model.specs.Effects.{Still, Formats, Adds, TakesBack, Cleans}
use Rattle.redo_model.proofs.Bridge.{count_is}
use Rattle.redo_laws.specs.Among.{is_in}
use Rattle.redo_laws.specs.Fit.{PartFits, EachFits}
use Rattle.redo_laws.proofs.lists.Every.{Every, every-filter}
use Rattle.redo_laws.proofs.allowed.Basics.{Basics}
use Rattle.redo_laws.proofs.steps.Beyond.{beyond}
use Rattle.redo_laws.proofs.numbers.Known.{known}
use Rattle.redo_laws.proofs.allowed.Shapes.{Replaces, Puts, AllPut}
use Rattle.redo_laws.proofs.spread.Fitting.{Whole}
use Rattle.redo_laws.proofs.room.RoomLaw.{RoomIn}
use Rattle.redo_laws.proofs.numbers.Bounds.{count_short, sequence_short, Limits, data_bound, places_bound, current_bound}

abbrev pub AreNumbers : ℕ × ℕ → Type 0
AreNumbers t = (t.0 < 2 ^ 64) × (t.1 < 2 ^ 64)

pub record StepSpelled (st : Step) : Type 0 where
  pub obj : IsTableNumber st.obj
  pub row : st.row < 2 ^ 64
  pub undo : IsUndo (Some st.undo)
  pub previous : IsPlace st.previous
  pub parts : AreParts IsRowPart st.parts

abbrev pub EffectSpelled : Effect → Type 0
EffectSpelled (Adds st) = StepSpelled st
EffectSpelled (TakesBack t) = AllByRecursion IsBackPart t.parts
EffectSpelled (Cleans d cs) = AllByRecursion AreNumbers cs
EffectSpelled _ = Unit {0}

abbrev pub ImagesSpelled : List Record → Type 0
ImagesSpelled R = (b k : ℕ) → IsImage (image R b k)

-- images

pub new_spelled : IsImage new_slot
new_spelled = record { writer = omega arith; undo = tt; row = omega arith; link = tt; bytes = omega arith; room = omega arith }

placed_written : (ps : List RowPart) (b k : ℕ) (i : Slot) → AllByRecursion IsRowPart ps → IsImage i → IsImage (placed_in (written ps) b k i)
placed_written [] b k i h j = j
placed_written (p ∷ ps) b k i h j = elim (is_place p.dba p.slot b k) as (λ v. IsImage (cond v p.new (placed_in (written ps) b k i))) [ true ↦ h.0.new | false ↦ placed_written ps b k i h.1 j ]

placed_restored : (ps : List BackPart) (b k : ℕ) (i : Slot) → AllByRecursion IsBackPart ps → IsImage i → IsImage (placed_in (restored ps) b k i)
placed_restored [] b k i h j = j
placed_restored (p ∷ ps) b k i h j = elim (is_place p.dba p.slot b k) as (λ v. IsImage (cond v p.new (placed_in (restored ps) b k i))) [ true ↦ h.0.new | false ↦ placed_restored ps b k i h.1 j ]

told_number : (cs : List (ℕ × ℕ)) (t c : ℕ) → AllByRecursion AreNumbers cs → number_of cs t ≡ Some c → c < 2 ^ 64
told_number [] t c h e = absurd (let x : ◌≡◌ {A = Option ℕ} None (Some c) = e in cc)
told_number (x ∷ cs) t c h e =
    (elim (eqb x.0 t) as (λ v. ◌≡◌ {A = Option ℕ} (cond v (Some x.1) (number_of cs t)) (Some c) → c < 2 ^ 64) [
      | true ↦ λ f. let same : x.1 ≡ c = cc in subst (λ n. n < 2 ^ 64) same h.0.1
      | false ↦ λ f. told_number cs t c h.1 f
    ]) e

told : (s : Slot) (o : Option ℕ) → ((c : ℕ) → o ≡ Some c → c < 2 ^ 64) → IsImage s → IsImage (as_told s o)
told s None h i = i
told s (Some zero) h i = record { writer = i.writer; undo = i.undo; row = i.row; link = i.link; bytes = i.bytes; room = i.bytes }
told s (Some (suc c)) h i = record { writer = h (suc c) refl; undo = i.undo; row = i.row; link = i.link; bytes = i.bytes; room = i.bytes }

cleaned : (cs : List (ℕ × ℕ)) (s : Slot) → AllByRecursion AreNumbers cs → IsImage s → IsImage (clean_slot cs s)
cleaned cs s h i = told s (number_of_writer cs s.writer) (λ c. number s.writer c) i
  where
    number : (w : Writer) (c : ℕ) → number_of_writer cs w ≡ Some c → c < 2 ^ 64
    number (By t) c e = told_number cs t c h e
    number (At m) c e = absurd (let x : ◌≡◌ {A = Option ℕ} None (Some c) = e in cc)

pub image_spelled : (e : Effect) (b k : ℕ) (i : Slot) → EffectSpelled e → IsImage i → IsImage (changed_image e b k i)
image_spelled Still b k i h j = j
image_spelled (Formats d) b k i h j = elim (eqb d b) as (λ v. IsImage (cond v new_slot i)) [ true ↦ new_spelled | false ↦ j ]
image_spelled (Adds st) b k i h j = placed_written st.parts b k i h.parts.each j
image_spelled (TakesBack t) b k i h j = placed_restored t.parts b k i h j
image_spelled (Cleans d cs) b k i h j = elim (eqb d b) as (λ v. IsImage (cond v (clean_slot cs i) i)) [ true ↦ cleaned cs i h j | false ↦ j ]

pub steps_spelled : (e : Effect) (ss : List Step) → EffectSpelled e → Every StepSpelled ss → Every StepSpelled (standing_steps e ss)
steps_spelled Still ss h k = k
steps_spelled (Formats d) ss h k = k
steps_spelled (Adds st) ss h k = (h, k)
steps_spelled (TakesBack t) ss h k = every-filter _ _ ss k
steps_spelled (Cleans d cs) ss h k = k

pub newest_spelled : (ss : List Step) (t : ℕ) (st : Step) → Every StepSpelled ss → newest_of ss t ≡ Some st → StepSpelled st
newest_spelled [] t st h e = absurd (let x : ◌≡◌ {A = Option Step} None (Some st) = e in cc)
newest_spelled (s ∷ ss) t st h e =
    (elim (is_by s.by t) as (λ v. cond v (Some s) (newest_of ss t) ≡ Some st → StepSpelled st) [
      | true ↦ λ f. let same : s ≡ st = cc in subst StepSpelled same h.0
      | false ↦ λ f. newest_spelled ss t st h.1 f
    ]) e

pub last_spelled : (ss : List Step) (t : ℕ) → Every StepSpelled ss → IsUndo (undo_of_step (newest_of ss t))
last_spelled [] t h = tt
last_spelled (s ∷ ss) t h = elim (is_by s.by t) as (λ v. IsUndo (undo_of_step (cond v (Some s) (newest_of ss t)))) [ true ↦ h.0.undo | false ↦ last_spelled ss t h.1 ]

pub place_spelled : (o : Option UndoAddr) → IsUndo o → IsPlace (place_of_undo o)
place_spelled None h = tt
place_spelled (Some a) h = (h.0, (h.1.0, h.1.1.1))

-- what is known of the list before a record
pub record Before (sh : Shape) (R : List Record) : Type 0 where
  pub limits : Limits sh
  pub allowed : AreAllowed sh R
  pub whole : Whole sh R
  pub room : (b : ℕ) → RoomIn R b
  pub images : ImagesSpelled R
  pub steps : Every StepSpelled (standing R)
  pub short : suc (length R) < 2 ^ 64

-- links

full_block : (sh : Shape) (R : List Record) (b k : ℕ) → Before sh R → is_empty (image R b k).kind ≡ false → (OWN_BLOCKS ≤ b) × (b < sh.blocks)
full_block sh R b k q e = elim (q.whole.homes b) [
  | inl l ↦ data_bound sh R l.obj b q.allowed l.here.1
  | inr d ↦ absurd (true≢false (sym (d.vacant k).empty ∙ e))
]

full_slot : (R : List Record) (b k : ℕ) → RoomIn R b → is_empty (image R b k).kind ≡ false → k < MOST_SLOTS
full_slot R b k r e = elim (cases_Bool (leb (slot_count R b) k)) [
  | inr f ↦ (let l = leb-false (slot_count R b) k f in let m = r.slots in omega (arith, l, m))
  | inl y ↦ absurd (true≢false (sym (ap (λ (i : Slot). is_empty i.kind) (beyond R b k (leb-true (slot_count R b) k y)).0) ∙ e))
]

link_of : (sh : Shape) (b k : ℕ) → Limits sh → (OWN_BLOCKS ≤ b) × (b < sh.blocks) → k ≤ MOST_SLOTS → IsLink (Some (at_place b k))
link_of sh b k l h s = let from = h.0 in let to = h.1 in let m = l.most in (omega (arith, from), (omega (arith, to, m), omega (arith, s)))

pub full_link : (sh : Shape) (R : List Record) (b k : ℕ) → Before sh R → is_empty (image R b k).kind ≡ false → IsLink (Some (at_place b k))
full_link sh R b k q e = let s = full_slot R b k (q.room b) e in link_of sh b k q.limits (full_block sh R b k q e) (omega (arith, s))

pub target_link : (sh : Shape) (R : List Record) (o b : ℕ) → Before sh R → is_in b (data_blocks sh R o) ≡ true → IsLink (Some (at_place b (next_slot R b)))
target_link sh R o b q h =
    let a = slot_to_use-le-length (ended_in R) (block_of R b) in
    let c = count_is R b in
    let m = (q.room b).slots in
    link_of sh b (next_slot R b) q.limits (data_bound sh R o b q.allowed h) (omega (arith, a, c, m))

-- parts

abbrev pub LinkRow : RowPart → Type 0
LinkRow p = IsLink p.new.link × (p.new.row < 2 ^ 64) × (p.new.kind ≡ Head → p.new.bytes ≡ [])

entry_spelled : (o : Option ℕ) → ((e : ℕ) → o ≡ Some e → e < MOST_LIST_ENTRIES) → IsEntry o
entry_spelled None h = tt
entry_spelled (Some e) h = let l = h e refl in omega (arith, l)

-- the writer and the undo address of a step
record Numbers (st : Step) : Type 0 where
  writer : writer_number st.by < 2 ^ 64
  positive : 0 < st.undo.block
  block : st.undo.block < 2 ^ 32
  seq : st.undo.seq < 2 ^ 64
  places : st.undo.nth + length st.parts ≤ MOST_UNDO_PARTS

numbers : (sh : Shape) (R : List Record) (st : Step) → Before sh R → Basics R st → Numbers st
numbers sh R st q b =
    let c = current_bound sh R st.undo.block q.limits.undo_from q.allowed b.undo.current in
    let from = c.0 in
    let to = c.1 in
    let all = q.limits.all in
    let most = q.limits.most in
    let s = sequence_short R st.undo.block in
    let e = b.undo.sequence in
    let n = q.short in
    let place = b.undo.place in
    let fits = places_bound R st.undo.block st.parts (ltb-false BLOCK_ROOM (undo_used R st.undo.block + parts_size st.parts) (not-true (ltb BLOCK_ROOM (undo_used R st.undo.block + parts_size st.parts)) b.undo.fits)) in
    record {
      writer = go st.by refl;
      positive = omega (arith, from);
      block = omega (arith, to, all, most);
      seq = omega (arith, s, e, n);
      places = omega (arith, place, fits);
    }
  where
    go : (w : Writer) → st.by ≡ w → writer_number w < 2 ^ 64
    go (By u) e = let k = (known sh R 0 u q.allowed).begins (b.live u e) in let c = count_short is_begin R in let n = q.short in omega (arith, k, c, n)
    go (At m) e = let k = b.number m e in let c = count_short is_commit R in let n = q.short in omega (arith, k, c, n)

part_spelled : (sh : Shape) (R : List Record) (st : Step) (i : ℕ) (p : RowPart) → Before sh R → Numbers st → st.undo.nth + i < MOST_UNDO_PARTS → Replaces sh R st p → Puts R st i p → PartFits R p → LinkRow p → IsRowPart p
part_spelled sh R st i p q n l r pu f x =
    let d = block r in
    let to = d.1 in
    let most = q.limits.most in
    let few = f.few in
    let bytes = f.bytes in
    let room = f.room in
    record {
      dba = omega (arith, to, most);
      slot = omega (arith, few);
      entry = entry_spelled p.entry (λ e g. (f.entry e g).1);
      new = record {
        writer = subst (λ (w : Writer). writer_number w < 2 ^ 64) (sym pu.writer) n.writer;
        undo = subst IsUndo (sym pu.undo) (n.positive, (n.block, (n.seq, omega (arith, l))));
        row = x.1;
        link = x.0;
        bytes = omega (arith, bytes);
        room = omega (arith, room);
      };
      old = subst IsImage (sym f.old) (q.images p.dba p.slot);
    }
  where
    block : Replaces sh R st p → (OWN_BLOCKS ≤ p.dba) × (p.dba < sh.blocks)
    block (inl y) = full_block sh R p.dba p.slot q (ap (λ (s : Slot). is_empty s.kind) (sym f.old) ∙ y.0)
    block (inr y) = data_bound sh R st.obj p.dba q.allowed y.2.1

parts_spelled : (sh : Shape) (R : List Record) (st : Step) (i : ℕ) (ps : List RowPart) → Before sh R → Numbers st → st.undo.nth + i + length ps ≤ MOST_UNDO_PARTS → Every (Replaces sh R st) ps → AllPut R st i ps → EachFits R ps → Every LinkRow ps → AllByRecursion IsRowPart ps
parts_spelled sh R st i [] q n l r pu f x = tt
parts_spelled sh R st i (p ∷ ps) q n l r pu f x = (part_spelled sh R st i p q n (omega arith) r.0 pu.0 f.0 x.0, parts_spelled sh R st (suc i) ps q n (omega arith) r.1 pu.1 f.1 x.1)

-- what each kind says of its own
pub record KindFacts (st : Step) : Type 0 where
  pub obj : IsTableNumber st.obj
  pub row : st.row < 2 ^ 64
  pub previous : IsPlace st.previous
  pub few : length st.parts ≤ 3
  pub links : Every LinkRow st.parts

pub step_spelled : (sh : Shape) (R : List Record) (st : Step) → Before sh R → Basics R st → KindFacts st → Every (Replaces sh R st) st.parts → AllPut R st 0 st.parts → EachFits R st.parts → StepSpelled st
step_spelled sh R st q b k r pu f =
    let n = numbers sh R st q b in
    let p = n.places in
    record {
      obj = k.obj;
      row = k.row;
      undo = (n.positive, (n.block, (n.seq, (let l = b.least in omega (arith, p)))));
      previous = k.previous;
      parts = record { least = b.least; most = k.few; each = parts_spelled sh R st 0 st.parts q n (omega (arith, p)) r pu f k.links };
    }
