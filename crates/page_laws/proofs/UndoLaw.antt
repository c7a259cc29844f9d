-- Undo pages of a lawful list.
use Rattle.std.proofs.Common.{◌≡◌, ℕ, suc, ◌+◌, ◌^◌, ◌<◌, ◌≤◌, true, false, cond, eqb, List, [], ◌∷◌, ◌++◌, length, map, Option, Some, None, refl, sym, ◌∙◌, ap, subst, arith, ltb-false, eq-eqb, sum_by}
use Rattle.seg_words.proofs.Lemmas.{cond-true, not-true, sum_by-cons}
use Rattle.seg_words.specs.Types.{AllByRecursion, Shape, Kind, Empty, Row, Head, Body, Slot, UndoAddr, Rowid, Writer, By, At, UndoPlace, is_shape, BLOCK_ROOM, MOST_SLOTS}
use Rattle.page_bytes.specs.Types.{len_as, room_as, UndoFits, LinkFits, IsSlot}
use Rattle.undo_block.specs.Again.{few_parts}
use Rattle.undo_block.specs.Types.{used_by, part_size as kept_size, IsPart, PlaceFits}
use Rattle.redo_model.specs.Records.{IsUndo, IsPlace, IsLink, IsRowPart, Record, Reuse, RowPart}
use Rattle.redo_model.specs.Model.{Step, Effect, effect_of, txn_count, is_begin, standing, standing_steps, holds_row, image, Undone, part_size, parts_size, HeldPart, held_by, held_after, kept_by, undo_held, undo_used, undo_sequence, current_undo, AreAllowed}
use Rattle.redo_model.specs.Effects.{Adds}
use Rattle.redo_laws.specs.Fit.{EachFits, EffectFits as BlocksFit}
use Rattle.redo_laws.specs.Sound.{IsSound}
use Rattle.redo_laws.proofs.allowed.Basics.{Basics, EffectBasics, basics}
use Rattle.redo_laws.proofs.numbers.Bounds.{count_short, sequence_short, current_bound}
use Rattle.redo_laws.proofs.undo.EconomyLaw.{undo_is_enough}
use Rattle.redo_laws.proofs.lists.Every.{Every}
use Rattle.redo_laws.proofs.room.FitLaw.{records_fit_blocks}
use Rattle.redo_laws.proofs.numbers.Known.{known}
use Rattle.redo_laws.proofs.undo.ReadsLaw.{undo_is_read}
use Rattle.redo_laws.proofs.spelled.SoundLaw.{blocks_are_sound}
use Rattle.redo_laws.proofs.spelled.SpelledLaw.{spelled}
use Rattle.redo_laws.proofs.spelled.SpelledRows.{StepSpelled}
use Rattle.page_laws.specs.UndoPages.{txn_of, as_kept, AreBytes, UndoPagesAreSpelled, UndoTakesParts}
use Rattle.page_laws.proofs.FormLaw.{parts_formed}
use Rattle.page_laws.proofs.PartsLaw.{step_known}

-- a sound image is a slot that has a spelling

undo_is : (o : Option UndoAddr) → IsUndo o → UndoFits o
undo_is None h = tt
undo_is (Some a) h = (h.0, h.1.0, h.1.1.0, h.1.1.1)

link_is : (o : Option Rowid) → IsLink o → LinkFits o
link_is None h = tt
link_is (Some r) h = (h.0, h.1.0, h.1.1)

place_is : (o : Option UndoPlace) → IsPlace o → PlaceFits o
place_is None h = tt
place_is (Some p) h = (h.0, h.1.0, h.1.1)

len_is : (k : Kind) (xs : List ℕ) → (holds_row k ≡ false → xs ≡ []) → len_as k (length xs) ≡ length xs
len_is Empty xs h = sym (ap (λ (ys : List ℕ). length ys) (h refl))
len_is Row xs h = refl
len_is Head xs h = sym (ap (λ (ys : List ℕ). length ys) (h refl))
len_is Body xs h = refl

room_is : (w : Writer) (len room : ℕ) → len ≤ room → ((c : ℕ) → w ≡ At c → room ≡ len) → room_as w len room ≡ room
room_is (By t) len room l h = omega (arith, l)
room_is (At c) len room l h = sym (h c refl)

pub slot_is : (i : Slot) → IsSound i → IsSlot i
slot_is i h = record {
  writer = h.image.writer;
  undo = undo_is i.undo h.image.undo;
  row = h.image.row;
  link = link_is i.link h.image.link;
  bytes = h.image.bytes;
  len = len_is i.kind i.bytes h.rowless;
  room_fits = h.image.room;
  room = room_is i.writer (length i.bytes) i.room h.within h.exact;
}

-- the parts of a step

abbrev HeldOk : HeldPart → Type 0
HeldOk h = IsPart (as_kept h) × AreBytes h

abbrev PartOk : List Record → RowPart → Type 0
PartOk R p = (p.dba < 2 ^ 32) × (p.slot < MOST_SLOTS) × (p.old ≡ image R p.dba p.slot)

parts_ok : (R : List Record) (ps : List RowPart) → AllByRecursion IsRowPart ps → EachFits R ps → Every (PartOk R) ps
parts_ok R [] h f = tt
parts_ok R (p ∷ ps) h f = ((h.0.dba, f.0.few, f.0.old), parts_ok R ps h.1 f.1)

txn_small : (R : List Record) (n : ℕ) (w : Writer) → n < 2 ^ 64 → ((t : ℕ) → w ≡ By t → t ≤ n) → txn_of w < 2 ^ 64
txn_small R n (By t) l h = (let k = h t refl in omega (arith, k, l))
txn_small R n (At c) l h = omega arith

held_ok : (R : List Record) (st : Step) (ps : List RowPart) → ((b k : ℕ) → IsSound (image R b k)) → txn_of st.by < 2 ^ 64 → PlaceFits st.previous → 1 ≤ length st.parts → length st.parts ≤ 3 → Every (PartOk R) ps → Every HeldOk (held_by st ps)
held_ok R st [] s t p l m h = tt
held_ok R st (x ∷ ps) s t p l m h = (
  (record { txn = t; previous = p; dba = h.0.0; old = subst IsSlot (sym h.0.2) (slot_is (image R x.dba x.slot) (s x.dba x.slot)) }, (h.0.1, l, m)),
  held_ok R st ps s t p l m h.1,
)

step_ok : (sh : Shape) (R : List Record) (r : Record) (st : Step) → is_shape sh ≡ true → suc (suc (length R)) < 2 ^ 64 → AreAllowed sh (r ∷ R) → effect_of r ≡ Adds st → Every HeldOk (held_by st st.parts)
step_ok sh R r st shape l h e =
    let x = step_known sh R r st h e in
    let q : Every StepSpelled (standing_steps (Adds st) (standing R)) = subst (λ z. Every StepSpelled (standing_steps z (standing R))) e (spelled sh (r ∷ R) shape l h).steps in
    let s = q.0 in
    let f : EachFits R st.parts = subst (BlocksFit R) e (records_fit_blocks sh R r h) in
    let c = count_short is_begin R in
    held_ok R st st.parts (λ b k. (blocks_are_sound sh R b shape (omega (arith, l)) h.0).slots k) (txn_small R (txn_count R) st.by (omega (arith, c, l)) (λ t w. (known sh R 0 t h.0).begins (x.live t w)))
    (place_is st.previous s.previous) s.parts.least s.parts.most (parts_ok R st.parts s.parts.each f)

-- what a block holds

every-append : {A : Type 0} (P : A → Type 0) (xs ys : List A) → Every P xs → Every P ys → Every P (xs ++ ys)
every-append P [] ys h k = k
every-append P (x ∷ xs) ys h k = (h.0, every-append P xs ys h.1 k)

kept_ok : (r : Record) (u : ℕ) (hs : List HeldPart) → Every HeldOk hs → Every HeldOk (kept_by r u hs)
kept_ok (Reuse q) u hs h = elim (eqb q.block u) as (λ v. Every HeldOk (cond v [] hs)) [ true ↦ tt | false ↦ h ]
kept_ok _ u hs h = h

after_ok : (e : Effect) (u : ℕ) (hs : List HeldPart) → ((st : Step) → e ≡ Adds st → Every HeldOk (held_by st st.parts)) → Every HeldOk hs → Every HeldOk (held_after e u hs)
after_ok (Adds st) u hs n h = elim (eqb st.undo.block u) as (λ v. Every HeldOk (cond v (hs ++ held_by st st.parts) hs)) [ true ↦ every-append HeldOk hs (held_by st st.parts) h (n st refl) | false ↦ h ]
after_ok _ u hs n h = h

all_ok : (sh : Shape) (R : List Record) (u : ℕ) → is_shape sh ≡ true → suc (length R) < 2 ^ 64 → AreAllowed sh R → Every HeldOk (undo_held R u)
all_ok sh [] u s l h = tt
all_ok sh (r ∷ R) u s l h = after_ok (effect_of r) u (kept_by r u (undo_held R u)) (λ st e. step_ok sh R r st s l h e) (kept_ok r u (undo_held R u) (all_ok sh R u s (omega (arith, l)) h.0))

are_parts : (hs : List HeldPart) → Every HeldOk hs → AllByRecursion IsPart (map as_kept hs)
are_parts [] h = tt
are_parts (x ∷ hs) h = (h.0.0, are_parts hs h.1)

are_bytes : (hs : List HeldPart) → Every HeldOk hs → AllByRecursion AreBytes hs
are_bytes [] h = tt
are_bytes (x ∷ hs) h = (h.0.1, are_bytes hs h.1)

abbrev sized : HeldPart → Undone
sized h = record { by = h.by; size = part_size h.part }

used_same : (hs : List HeldPart) → used_by (map as_kept hs) ≡ sum_by (λ (p : Undone). p.size) (map sized hs)
used_same [] = refl
used_same (h ∷ hs) = sum_by-cons kept_size (as_kept h) (map as_kept hs) ∙ ap (λ n. part_size h.part + n) (used_same hs) ∙ sym (sum_by-cons (λ (p : Undone). p.size) (sized h) (map sized hs))

pub used_is : (sh : Shape) (R : List Record) (u : ℕ) → AreAllowed sh R → used_by (map as_kept (undo_held R u)) ≡ undo_used R u
used_is sh R u h = used_same (undo_held R u) ∙ ap (λ (us : List Undone). sum_by (λ (p : Undone). p.size) us) (sym ((undo_is_read sh R h).sizes u))

length_kept : (hs : List HeldPart) → length (map as_kept hs) ≡ length hs
length_kept [] = refl
length_kept (h ∷ hs) = ap (λ n. suc n) (length_kept hs)

pub undo_pages_are_spelled : UndoPagesAreSpelled
undo_pages_are_spelled sh R u s l h =
    let e = used_is sh R u h in
    let f = (undo_is_enough sh R h).full u in
    let few = few_parts (map as_kept (undo_held R u)) in
    let n = length_kept (undo_held R u) in
    let q = sequence_short R u in
    let all = all_ok sh R u s l h in
    record { parts = are_parts (undo_held R u) all; bytes = are_bytes (undo_held R u) all; used = omega (arith, e, f); few = omega (arith, e, f, few, n); sequence = omega (arith, q, l) }

-- what a step adds

size_held : (st : Step) (ps : List RowPart) → used_by (map as_kept (held_by st ps)) ≡ parts_size ps
size_held st [] = refl
size_held st (p ∷ ps) = sum_by-cons kept_size (as_kept (record { by = st.by; previous = st.previous; count = length st.parts; part = p })) (map as_kept (held_by st ps)) ∙ ap (λ n. part_size p + n) (size_held st ps)

length_sized : (hs : List HeldPart) → length (map sized hs) ≡ length hs
length_sized [] = refl
length_sized (h ∷ hs) = ap (λ n. suc n) (length_sized hs)

-- the current block was taken into use
current_used : (R : List Record) (u : ℕ) → current_undo R ≡ Some u → 1 ≤ undo_sequence R u
current_used [] u e = absurd (let x : ◌≡◌ {A = Option ℕ} None (Some u) = e in cc)
current_used (Reuse q ∷ R) u e =
    let same : q.block ≡ u = (let x : ◌≡◌ {A = Option ℕ} (Some q.block) (Some u) = e in cc) in
    subst (λ n. 1 ≤ n) (sym (cond-true _ _ _ (eq-eqb q.block u same))) (omega arith)
current_used (_ ∷ R) u e = current_used R u e

pub undo_takes_parts : UndoTakesParts
undo_takes_parts sh R r st l h e =
    let b : Basics R st = subst (EffectBasics R) e (basics sh R r h.1.kind) in
    let ring = current_bound sh R st.undo.block l h.0 b.undo.current in
    let used = used_is sh R st.undo.block h.0 in
    let size = size_held st st.parts in
    let fits = ltb-false BLOCK_ROOM (undo_used R st.undo.block + parts_size st.parts) (not-true _ b.undo.fits) in
    record {
      current = b.undo.current;
      from = ring.0;
      to = ring.1;
      sequence = b.undo.sequence;
      in_use = current_used R st.undo.block b.undo.current;
      place = b.undo.place ∙ ap length ((undo_is_read sh R h.0).sizes st.undo.block) ∙ length_sized (undo_held R st.undo.block);
      fits = omega (arith, used, size, fits);
      forms = parts_formed sh R r st l h e;
    }
