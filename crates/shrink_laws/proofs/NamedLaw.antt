-- What a slot holds changes only where the slot is named.
use Rattle.std.proofs.Common.{◌≡◌, ℕ, zero, suc, Bool, true, false, cond, ◌||◌, eqb, List, [], ◌∷◌, Option, Some, None, refl, sym, ◌∙◌, ap, true≢false}
use Rattle.seg_words.proofs.Lemmas.{cond-false, or_parts}
use Rattle.seg_words.specs.Types.{Slot, new_slot, is_empty, as_told, number_of_writer, clean_slot}
use Rattle.redo_model.specs.Records.{Record, RowPart, BackPart}
use Rattle.redo_model.specs.Model.{Effect, effect_of, written, restored, is_place, placed_in, changed_image, image}
use Rattle.redo_model.specs.Effects.{Still, Formats, Adds, TakesBack, Cleans}
use Rattle.redo_laws.specs.Added.{names_slot}
use Rattle.redo_laws.proofs.lists.Since.{each_since}
use Rattle.shrink_laws.specs.Stops.{back_names, is_named_by}
use Rattle.shrink_laws.specs.Named.{formats, HoldsTheSame, SlotsHoldUntilNamed}

-- a slot that isn't named holds something only where it did before

placed_left : (ps : List RowPart) (b k : ℕ) (i : Slot) → names_slot ps b k ≡ false → placed_in (written ps) b k i ≡ i
placed_left [] b k i z = refl
placed_left (p ∷ ps) b k i z = let q = or_parts (is_place p.dba p.slot b k) (names_slot ps b k) z in cond-false _ _ _ q.0 ∙ placed_left ps b k i q.1

back_left : (ps : List BackPart) (b k : ℕ) (i : Slot) → back_names ps b k ≡ false → placed_in (restored ps) b k i ≡ i
back_left [] b k i z = refl
back_left (p ∷ ps) b k i z = let q = or_parts (is_place p.dba p.slot b k) (back_names ps b k) z in cond-false _ _ _ q.0 ∙ back_left ps b k i q.1

told_kind : (s : Slot) (o : Option ℕ) → (as_told s o).kind ≡ s.kind
told_kind s None = refl
told_kind s (Some zero) = refl
told_kind s (Some (suc c)) = refl

clean_full : (v : Bool) (cs : List (ℕ × ℕ)) (s : Slot) → is_empty (cond v (clean_slot cs s) s).kind ≡ false → is_empty s.kind ≡ false
clean_full true cs s h = ap is_empty (sym (told_kind s (number_of_writer cs s.writer))) ∙ h
clean_full false cs s h = h

format_full : (v : Bool) (s : Slot) → is_empty (cond v new_slot s).kind ≡ false → is_empty s.kind ≡ false
format_full true s h = absurd (true≢false h)
format_full false s h = h

pub full_before : (e : Effect) (b k : ℕ) (i : Slot) → is_named_by e b k ≡ false → is_empty (changed_image e b k i).kind ≡ false → is_empty i.kind ≡ false
full_before Still b k i n h = h
full_before (Formats d) b k i n h = format_full (eqb d b) i h
full_before (Adds st) b k i n h = ap (λ (z : Slot). is_empty z.kind) (sym (placed_left st.parts b k i n)) ∙ h
full_before (TakesBack t) b k i n h = ap (λ (z : Slot). is_empty z.kind) (sym (back_left t.parts b k i n)) ∙ h
full_before (Cleans d cs) b k i n h = clean_full (eqb d b) cs i h

-- what an image holds, whoever wrote it and whatever room it keeps
record SameHeld (i j : Slot) : Type 0 where
  kind : i.kind ≡ j.kind
  row : i.row ≡ j.row
  link : i.link ≡ j.link
  bytes : i.bytes ≡ j.bytes
  undo : i.undo ≡ j.undo

same_held : (i j : Slot) → i ≡ j → SameHeld i j
same_held i j e = record { kind = ap (λ (s : Slot). s.kind) e; row = ap (λ (s : Slot). s.row) e; link = ap (λ (s : Slot). s.link) e; bytes = ap (λ (s : Slot). s.bytes) e; undo = ap (λ (s : Slot). s.undo) e }

told_holds : (s : Slot) (o : Option ℕ) → SameHeld (as_told s o) s
told_holds s None = record { kind = refl; row = refl; link = refl; bytes = refl; undo = refl }
told_holds s (Some zero) = record { kind = refl; row = refl; link = refl; bytes = refl; undo = refl }
told_holds s (Some (suc c)) = record { kind = refl; row = refl; link = refl; bytes = refl; undo = refl }

held_after : (e : Effect) (b k : ℕ) (i : Slot) → is_named_by e b k ≡ false → formats e b ≡ false → SameHeld (changed_image e b k i) i
held_after Still b k i n f = same_held i i refl
held_after (Formats d) b k i n f = same_held (changed_image (Formats d) b k i) i (cond-false _ _ _ f)
held_after (Adds st) b k i n f = same_held (changed_image (Adds st) b k i) i (placed_left st.parts b k i n)
held_after (TakesBack t) b k i n f = same_held (changed_image (TakesBack t) b k i) i (back_left t.parts b k i n)
held_after (Cleans d cs) b k i n f = elim (eqb d b) as (λ v. SameHeld (cond v (clean_slot cs i) i) i) [ true ↦ told_holds i (number_of_writer cs i.writer) | false ↦ same_held i i refl ]

holds_more : (Q R : List Record) (r : Record) (b k : ℕ) → (is_named_by (effect_of r) b k || formats (effect_of r) b) ≡ false → HoldsTheSame Q R b k → HoldsTheSame Q (r ∷ R) b k
holds_more Q R r b k n h =
    let q = or_parts (is_named_by (effect_of r) b k) (formats (effect_of r) b) n in
    let s = held_after (effect_of r) b k (image R b k) q.0 q.1 in
    record { kind = s.kind ∙ h.kind; row = s.row ∙ h.row; link = s.link ∙ h.link; bytes = s.bytes ∙ h.bytes; undo = s.undo ∙ h.undo }

pub slots_hold_until_named : SlotsHoldUntilNamed
slots_hold_until_named Q R b k x n =
    each_since (λ r. is_named_by (effect_of r) b k || formats (effect_of r) b) (λ S. HoldsTheSame Q S b k) Q R x n
    (record { kind = refl; row = refl; link = refl; bytes = refl; undo = refl }) (λ S r y z m h. holds_more Q S r b k m h)
