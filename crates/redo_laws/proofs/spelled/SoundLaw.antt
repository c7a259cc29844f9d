-- What stands in slots and list entries can be put on a page.
use Rattle.std.proofs.Common.{◌≡◌, ℕ, zero, suc, ◌<◌, ◌≤◌, ◌^◌, true, false, cond, ◌&&◌, eqb, List, [], ◌∷◌, length, Option, Some, None, refl, sym, ◌∙◌, ap, subst, arith, le_refl, true≢false}
use Rattle.seg_words.specs.Types.{Shape, Kind, Empty, Row, Head, Body, ListEntry, Slot, Writer, By, At, new_slot, new_entry, number_of, number_of_writer, as_told, clean_slot, entry_as_told, clean_entry, is_empty, is_shape}
use Rattle.redo_model.specs.Records.{Record, Insert, Update, Migrate, Return, Delete, Back, Move, RowPart, BackPart, BackRecord}
use Rattle.redo_model.specs.Model.{Step, Effect, effect_of, row_step, move_step, written, restored, txn_count, is_begin, is_by, standing_steps, standing, newest_of, holds_row, is_place, is_at, placed_in, changed_image, image, entered_in, entered_by, changed_entry, entry, taken_back, BackAllowed, IsKindAllowed, AreAllowed}
use Rattle.redo_model.specs.Effects.{Still, Formats, Adds, TakesBack, Cleans}
use Rattle.redo_laws.specs.Sound.{BlocksAreSound}
use Rattle.redo_laws.proofs.lists.Every.{Every, every-filter}
use Rattle.redo_laws.proofs.steps.Facts.{StatesOld}
use Rattle.redo_laws.proofs.allowed.Basics.{EffectBasics, basics}
use Rattle.redo_laws.proofs.numbers.Known.{known, turn}
use Rattle.redo_laws.proofs.space.Places.{segments}
use Rattle.redo_laws.proofs.allowed.AllKinds.{RecordShape, shape_of}
use Rattle.redo_laws.proofs.allowed.Shapes.{Puts, AllPut, StepShape}
use Rattle.redo_laws.proofs.numbers.Bounds.{count_short}
use Rattle.redo_laws.proofs.spelled.SpelledRows.{LinkRow, KindFacts}
use Rattle.redo_laws.proofs.spelled.SpelledKinds.{EffectFacts, facts_of}
use Rattle.redo_laws.proofs.spelled.SpelledLaw.{spelled, before}

-- an Empty slot and a head have no row, and the room is as the writer asks
record Filled (i : Slot) : Type 0 where
  rowless : holds_row i.kind ≡ false → i.bytes ≡ []
  within : length i.bytes ≤ i.room
  exact : (c : ℕ) → i.writer ≡ At c → i.room ≡ length i.bytes

new_filled : Filled new_slot
new_filled = record { rowless = λ h. refl; within = omega arith; exact = λ c e. refl }

-- parts

put_filled : (R : List Record) (st : Step) (i : ℕ) (p : RowPart) → Puts R st i p → LinkRow p → Filled p.new
put_filled R st i p pu x = record { rowless = empty p.new.kind refl; within = room st.by refl; exact = λ c e. pu.room_at c (sym pu.writer ∙ e) }
  where
    empty : (k : Kind) → p.new.kind ≡ k → holds_row k ≡ false → p.new.bytes ≡ []
    empty Empty e h = pu.none (ap is_empty e)
    empty Head e h = x.2 e
    empty Row e h = absurd (true≢false h)
    empty Body e h = absurd (true≢false h)

    room : (w : Writer) → st.by ≡ w → length p.new.bytes ≤ p.new.room
    room (By u) e = let r = pu.room u e in omega (arith, r)
    room (At m) e = let r = pu.room_at m e in omega (arith, r)

abbrev NewFilled : List RowPart → Type 0
NewFilled ps = Every (λ (p : RowPart). Filled p.new) ps

abbrev OldFilled : List RowPart → Type 0
OldFilled ps = Every (λ (p : RowPart). Filled p.old) ps

puts_filled : (R : List Record) (st : Step) (i : ℕ) (ps : List RowPart) → AllPut R st i ps → Every LinkRow ps → NewFilled ps
puts_filled R st i [] pu x = tt
puts_filled R st i (p ∷ ps) pu x = (put_filled R st i p pu.0 x.0, puts_filled R st (suc i) ps pu.1 x.1)

abbrev ImagesFilled : List Record → Type 0
ImagesFilled R = (b k : ℕ) → Filled (image R b k)

olds_filled : (R : List Record) (ps : List RowPart) → ImagesFilled R → StatesOld R ps → OldFilled ps
olds_filled R [] h o = tt
olds_filled R (p ∷ ps) h o = (subst Filled (sym o.0) (h p.dba p.slot), olds_filled R ps h o.1)

abbrev BackFilled : List BackPart → Type 0
BackFilled ps = Every (λ (p : BackPart). Filled p.new) ps

taken_filled : (ps : List RowPart) → OldFilled ps → BackFilled (taken_back ps)
taken_filled [] h = tt
taken_filled (p ∷ ps) h = (h.0, taken_filled ps h.1)

abbrev EffectFilled : Effect → Type 0
EffectFilled (Adds st) = NewFilled st.parts × OldFilled st.parts
EffectFilled (TakesBack t) = BackFilled t.parts
EffectFilled _ = Unit {0}

-- images

placed_written : (ps : List RowPart) (b k : ℕ) (i : Slot) → NewFilled ps → Filled i → Filled (placed_in (written ps) b k i)
placed_written [] b k i h j = j
placed_written (p ∷ ps) b k i h j = elim (is_place p.dba p.slot b k) as (λ v. Filled (cond v p.new (placed_in (written ps) b k i))) [ true ↦ h.0 | false ↦ placed_written ps b k i h.1 j ]

placed_restored : (ps : List BackPart) (b k : ℕ) (i : Slot) → BackFilled ps → Filled i → Filled (placed_in (restored ps) b k i)
placed_restored [] b k i h j = j
placed_restored (p ∷ ps) b k i h j = elim (is_place p.dba p.slot b k) as (λ v. Filled (cond v p.new (placed_in (restored ps) b k i))) [ true ↦ h.0 | false ↦ placed_restored ps b k i h.1 j ]

told : (s : Slot) (o : Option ℕ) → Filled s → Filled (as_told s o)
told s None i = i
told s (Some zero) i = record { rowless = i.rowless; within = le_refl (length s.bytes); exact = λ c e. refl }
told s (Some (suc c)) i = record { rowless = i.rowless; within = le_refl (length s.bytes); exact = λ d e. refl }

image_filled : (e : Effect) (b k : ℕ) (i : Slot) → EffectFilled e → Filled i → Filled (changed_image e b k i)
image_filled Still b k i h j = j
image_filled (Formats d) b k i h j = elim (eqb d b) as (λ v. Filled (cond v new_slot i)) [ true ↦ new_filled | false ↦ j ]
image_filled (Adds st) b k i h j = placed_written st.parts b k i h.0 j
image_filled (TakesBack t) b k i h j = placed_restored t.parts b k i h j
image_filled (Cleans d cs) b k i h j = elim (eqb d b) as (λ v. Filled (cond v (clean_slot cs i) i)) [ true ↦ told i (number_of_writer cs i.writer) j | false ↦ j ]

abbrev StepsFilled : List Step → Type 0
StepsFilled ss = Every (λ (st : Step). OldFilled st.parts) ss

steps_filled : (e : Effect) (ss : List Step) → EffectFilled e → StepsFilled ss → StepsFilled (standing_steps e ss)
steps_filled Still ss h k = k
steps_filled (Formats d) ss h k = k
steps_filled (Adds st) ss h k = (h.1, k)
steps_filled (TakesBack t) ss h k = every-filter _ _ ss k
steps_filled (Cleans d cs) ss h k = k

newest_filled : (ss : List Step) (t : ℕ) (st : Step) → StepsFilled ss → newest_of ss t ≡ Some st → OldFilled st.parts
newest_filled [] t st h e = absurd (let x : ◌≡◌ {A = Option Step} None (Some st) = e in cc)
newest_filled (s ∷ ss) t st h e =
    (elim (is_by s.by t) as (λ v. cond v (Some s) (newest_of ss t) ≡ Some st → OldFilled st.parts) [
      | true ↦ λ f. let same : s ≡ st = cc in subst (λ (x : Step). OldFilled x.parts) same h.0
      | false ↦ λ f. newest_filled ss t st h.1 f
    ]) e

back_filled : (R : List Record) (k : BackRecord) → StepsFilled (standing R) → BackAllowed R k → BackFilled k.parts
back_filled R k h a = subst BackFilled (sym a.parts) (taken_filled a.step.parts (newest_filled (standing R) k.txn a.step h a.newest))

step_filled : (sh : Shape) (R : List Record) (st : Step) → ImagesFilled R → KindFacts st → StepShape sh R st → NewFilled st.parts × OldFilled st.parts
step_filled sh R st h k x = (puts_filled R st 0 st.parts x.puts k.links, olds_filled R st.parts h x.old)

record AllFilled (R : List Record) : Type 0 where
  images : ImagesFilled R
  steps : StepsFilled (standing R)

effect_filled : (sh : Shape) (R : List Record) (r : Record) → AllFilled R → IsKindAllowed sh R r → EffectFacts (effect_of r) → RecordShape sh R r → EffectFilled (effect_of r)
effect_filled sh R (Insert w) h a k x = step_filled sh R (row_step w false) h.images k x
effect_filled sh R (Update w) h a k x = step_filled sh R (row_step w false) h.images k x.shape
effect_filled sh R (Migrate w) h a k x = step_filled sh R (row_step w false) h.images k x.shape
effect_filled sh R (Return w) h a k x = step_filled sh R (row_step w false) h.images k x.shape
effect_filled sh R (Delete w) h a k x = step_filled sh R (row_step w true) h.images k x.shape
effect_filled sh R (Move m) h a k x = step_filled sh R (move_step m) h.images k x.shape
effect_filled sh R (Back t) h a k x = back_filled R t h.steps a
effect_filled sh R _ h a k x = tt

all_filled : (sh : Shape) (R : List Record) → is_shape sh ≡ true → suc (length R) < 2 ^ 64 → AreAllowed sh R → AllFilled R
all_filled sh [] h l a = record { images = λ b k. new_filled; steps = tt }
all_filled sh (r ∷ R) h l a =
    let less : suc (length R) < 2 ^ 64 = omega (arith, l) in
    let q = before sh R h less a.0 (spelled sh R h less a.0) in
    let f = all_filled sh R h less a.0 in
    let e = effect_filled sh R r f a.1.kind (facts_of sh R r q a.1.kind) (shape_of sh R r (segments sh R a.0) a.1.kind) in
    record { images = λ b k. image_filled (effect_of r) b k (image R b k) e (f.images b k); steps = steps_filled (effect_of r) (standing R) e f.steps }

-- list entries

record IsEntered (n : ℕ) (e : ListEntry) : Type 0 where
  txn : e.txn ≤ n
  number : e.number ≡ 0

new_entered : (n : ℕ) → IsEntered n new_entry
new_entered n = record { txn = omega arith; number = refl }

entered_parts : (n : ℕ) (ps : List RowPart) (t b i : ℕ) (e : ListEntry) → t ≤ n → IsEntered n e → IsEntered n (entered_in ps t b i e)
entered_parts n [] t b i e l h = h
entered_parts n (p ∷ ps) t b i e l h =
    elim (eqb p.dba b && is_at p.entry i) as (λ v. IsEntered n (cond v (record { txn = t; number = 0 }) (entered_in ps t b i e))) [
      | true ↦ record { txn = l; number = refl }
      | false ↦ entered_parts n ps t b i e l h
    ]

entered_writer : (n : ℕ) (w : Writer) (ps : List RowPart) (b i : ℕ) (e : ListEntry) → ((t : ℕ) → w ≡ By t → t ≤ n) → IsEntered n e → IsEntered n (entered_by w ps b i e)
entered_writer n (By t) ps b i e l h = entered_parts n ps t b i e (l t refl) h
entered_writer n (At c) ps b i e l h = h

told_entered : (n : ℕ) (e : ListEntry) (o : Option ℕ) → IsEntered n e → IsEntered n (entry_as_told e o)
told_entered n e None h = h
told_entered n e (Some c) h = new_entered n

abbrev StepBegun : ℕ → Effect → Type 0
StepBegun n (Adds st) = (t : ℕ) → st.by ≡ By t → t ≤ n
StepBegun n _ = Unit {0}

entry_entered : (n : ℕ) (f : Effect) (b i : ℕ) (e : ListEntry) → StepBegun n f → IsEntered n e → IsEntered n (changed_entry f b i e)
entry_entered n Still b i e s h = h
entry_entered n (Formats d) b i e s h = elim (eqb d b) as (λ v. IsEntered n (cond v new_entry e)) [ true ↦ new_entered n | false ↦ h ]
entry_entered n (Adds st) b i e s h = entered_writer n st.by st.parts b i e s h
entry_entered n (TakesBack t) b i e s h = h
entry_entered n (Cleans d cs) b i e s h = elim (eqb d b) as (λ v. IsEntered n (cond v (clean_entry cs e) e)) [ true ↦ told_entered n e (number_of cs e.txn) h | false ↦ h ]

step_begun : (sh : Shape) (R : List Record) (e : Effect) → AreAllowed sh R → EffectBasics R e → StepBegun (txn_count R) e
step_begun sh R Still h b = tt
step_begun sh R (Formats d) h b = tt
step_begun sh R (Adds st) h b = λ t w. (known sh R 0 t h).begins (b.live t w)
step_begun sh R (TakesBack t) h b = tt
step_begun sh R (Cleans d cs) h b = tt

more_entered : (m n : ℕ) (e : ListEntry) → m ≤ n → IsEntered m e → IsEntered n e
more_entered m n e l h = record { txn = (let k = h.txn in omega (arith, k, l)); number = h.number }

entered : (sh : Shape) (R : List Record) (b i : ℕ) → AreAllowed sh R → IsEntered (txn_count R) (entry R b i)
entered sh [] b i h = new_entered 0
entered sh (r ∷ R) b i h =
    more_entered (txn_count R) (txn_count (r ∷ R)) (entry (r ∷ R) b i) (turn sh R r h.1.kind).more
    (entry_entered (txn_count R) (effect_of r) b i (entry R b i) (step_begun sh R (effect_of r) h.0 (basics sh R r h.1.kind)) (entered sh R b i h.0))

pub blocks_are_sound : BlocksAreSound
blocks_are_sound sh R b h l a =
    let s = spelled sh R h l a in
    let f = all_filled sh R h l a in
    let c = count_short is_begin R in
    record {
      slots = λ k. record { image = s.images b k; rowless = (f.images b k).rowless; within = (f.images b k).within; exact = (f.images b k).exact };
      txns = λ i. let e = (entered sh R b i a).txn in omega (arith, e, c, l);
      numbers = λ i. (entered sh R b i a).number;
    }
