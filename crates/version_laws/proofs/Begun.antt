-- Blocks name only transactions that have begun.
use Rattle.std.proofs.Common.{◌≡◌, ℕ, suc, ◌+◌, ◌-◌, ◌*◌, ◌≤◌, Bool, true, false, cond, not, ◌&&◌, ◌||◌, ◌==◌, eqb, nat_lt, nat_le, if◌then◌else◌, List, [], ◌∷◌, ◌++◌, length, get_or, option_map, sum_by, Option, Some, None, refl, sym, ◌∙◌, ap, ap₂, subst, arith, inl, le_trans, ne_eqb, le-ltb}
use Rattle.seg_words.specs.Types.{position_or_len, Shape, Slot, ListEntry, Writer, By, At, Block, new_slot, new_entry, number_of, entry_as_told, clean_entry, writer_has_ended, slot_size, is_empty, is_reusable, slot_to_use, names, is_spare, other_entry, entry_for, entry_size, used_of, has_room, takes_beside, BLOCK_ROOM, SLOT_SIZE, MOST_SLOTS, LIST_ENTRY_SIZE, LEAST_LIST_ENTRIES, MOST_LIST_ENTRIES}
use Rattle.seg_words.proofs.Lemmas.{cond-false, sum_by-cons}
use Rattle.redo_model.specs.Records.{Record, Begin, Reuse, RowPart, BeginRecord}
use Rattle.redo_model.specs.Model.{Effect, effect_of, txn_count, is_active, ended_in, block_of, slots_of, entries_of, image, is_at, entered_in, entered_by, changed_entry, entry, Undone, undone, undone_after, emptied_by, undo_parts, lesser, least_active, Made, makers, AreAllowed}
use Rattle.redo_model.specs.Effects.{Still, Formats, Adds, TakesBack, Cleans}
use Rattle.redo_model.proofs.Bridge.{image_is, entry_is}
use Rattle.redo_laws.specs.Chain.{EachMade}
use Rattle.redo_laws.specs.Writers.{EachTells}
use Rattle.redo_laws.proofs.links.WritersLaw.{writers_are_told}
use Rattle.redo_laws.proofs.numbers.TxnTable.{txn_table}
use Rattle.redo_laws.proofs.allowed.Basics.{EffectBasics, basics}
use Rattle.redo_laws.proofs.numbers.Known.{turn}
use Rattle.redo_laws.proofs.lists.Every.{Every}
use Rattle.version_laws.specs.Types.{MadeKnown, EndsNew, TakenAfterBegin, SlotToUseStays, HoldersStay}
use Rattle.version_laws.proofs.SlotLaw.{slots_are_known}

-- slots

pub writer_begun : (sh : Shape) (R : List Record) (b k u : ℕ) → AreAllowed sh R → (image R b k).writer ≡ By u → u ≤ txn_count R
writer_begun sh R b k u a e = go (image R b k) (makers R b k) e (writers_are_told sh R 0 0 b k a (inl refl)).images (slots_are_known sh R b k a).made (slots_are_known sh R b k a).ends
  where
    go : (i : Slot) (ms : List Made) → i.writer ≡ By u → EachTells R 0 0 i ms → EachMade (MadeKnown R) ms → EndsNew i ms → u ≤ txn_count R
    go i [] e t m n = absurd (let z : At 0 ≡ By u = sym (ap (λ (j : Slot). j.writer) n) ∙ e in cc)
    go i (m ∷ ms) e t k n = (txn_table sh R a).most u (k.0.begun u (t.0.by u e))

-- list entries

entered_begun : (ps : List RowPart) (t b i : ℕ) (old : ListEntry) (n : ℕ) → t ≤ n → old.txn ≤ n → (entered_in ps t b i old).txn ≤ n
entered_begun [] t b i old n h l = l
entered_begun (p ∷ ps) t b i old n h l = elim (eqb p.dba b && is_at p.entry i) as (λ v. (cond v (record { txn = t; number = 0 }) (entered_in ps t b i old)).txn ≤ n) [ true ↦ h | false ↦ entered_begun ps t b i old n h l ]

by_begun : (sh : Shape) (R : List Record) (w : Writer) (ps : List RowPart) (b i : ℕ) (old : ListEntry) → AreAllowed sh R → ((u : ℕ) → w ≡ By u → is_active R u ≡ true) → old.txn ≤ txn_count R → (entered_by w ps b i old).txn ≤ txn_count R
by_begun sh R (By t) ps b i old a h l = entered_begun ps t b i old (txn_count R) ((txn_table sh R a).most t ((txn_table sh R a).begun t (h t refl))) l
by_begun sh R (At c) ps b i old a h l = l

told_begun : (o : Option ℕ) (e : ListEntry) (n : ℕ) → e.txn ≤ n → (entry_as_told e o).txn ≤ n
told_begun None e n l = l
told_begun (Some c) e n l = omega arith

entry_effect : (sh : Shape) (R : List Record) (e : Effect) (b i : ℕ) (old : ListEntry) → AreAllowed sh R → EffectBasics R e → old.txn ≤ txn_count R → (changed_entry e b i old).txn ≤ txn_count R
entry_effect sh R Still b i old a n l = l
entry_effect sh R (Formats d) b i old a n l = elim (eqb d b) as (λ v. (cond v new_entry old).txn ≤ txn_count R) [ true ↦ omega arith | false ↦ l ]
entry_effect sh R (Adds st) b i old a n l = by_begun sh R st.by st.parts b i old a n.live l
entry_effect sh R (TakesBack t) b i old a n l = l
entry_effect sh R (Cleans d cs) b i old a n l = elim (eqb d b) as (λ v. (cond v (clean_entry cs old) old).txn ≤ txn_count R) [ true ↦ told_begun (number_of cs old.txn) old (txn_count R) l | false ↦ l ]

entry_begun : (sh : Shape) (R : List Record) (b i : ℕ) → AreAllowed sh R → (entry R b i).txn ≤ txn_count R
entry_begun sh [] b i h = omega arith
entry_begun sh (r ∷ R) b i h = le_trans (entry_effect sh R (effect_of r) b i (entry R b i) h.0 (basics sh R r h.1.kind) (entry_begun sh R b i h.0)) (turn sh R r h.1.kind).more

-- lists

pub every_at : {A : Type 0} (P : A → Type 0) (d : A) (xs : List A) → ((k : ℕ) → P (get_or xs k d)) → Every P xs
every_at P d [] h = tt
every_at P d (x ∷ xs) h = (h 0, every_at P d xs (λ k. h (suc k)))

pub sums_same : {A : Type 0} (f g : A → ℕ) (xs : List A) → Every (λ x. f x ≡ g x) xs → sum_by f xs ≡ sum_by g xs
sums_same f g [] h = refl
sums_same f g (x ∷ xs) h = sum_by-cons f x xs ∙ ap₂ (λ (m n : ℕ). m + n) h.0 (sums_same f g xs h.1) ∙ sym (sum_by-cons g x xs)

pub places_same : {A : Type 0} (f g : A → Bool) (xs : List A) → Every (λ x. f x ≡ g x) xs → position_or_len f xs ≡ position_or_len g xs
places_same f g [] h = refl
places_same f g (x ∷ xs) h = ap₂ (λ (v : Bool) (n : ℕ). cond (not v) (1 + n) 0) h.0 (places_same f g xs h.1)

pub none_place : {A : Type 0} (f : A → Bool) (xs : List A) → Every (λ x. f x ≡ false) xs → position_or_len f xs ≡ length xs
none_place f [] h = refl
none_place f (x ∷ xs) h = ap₂ (λ (v : Bool) (n : ℕ). cond (not v) (1 + n) 0) h.0 (none_place f xs h.1) ∙ omega arith

-- what a block takes, by three numbers

abbrev pub made_by : ℕ → Block → Option ℕ
made_by used x = if nat_lt (length x.entries) MOST_LIST_ENTRIES && nat_le LIST_ENTRY_SIZE (BLOCK_ROOM - used) then Some (length x.entries) else None

abbrev pub other_by : ℕ → ℕ → Block → Option ℕ
other_by used spare x = if nat_lt spare (length x.entries) then Some spare else made_by used x

abbrev beside_by : ℕ → ℕ → ℕ → Block → ℕ → Option ℕ → Bool
beside_by used slot pct x len None = false
beside_by used slot pct x len (Some e) = nat_lt slot MOST_SLOTS && has_room pct (BLOCK_ROOM - used) (len + (if nat_lt slot (length x.slots) then 0 else SLOT_SIZE) + e)

beside_same : (f : ℕ → Bool) (pct : ℕ) (x : Block) (len : ℕ) (o : Option ℕ) → takes_beside f pct x len o ≡ beside_by (used_of f x) (slot_to_use f x) pct x len o
beside_same f pct x len None = refl
beside_same f pct x len (Some e) = refl

-- one more transaction is active

pub record Begun (f g : ℕ → Bool) (t : ℕ) (x : Block) : Type 0 where
  pub writers : Every (λ (s : Slot). writer_has_ended g s.writer ≡ writer_has_ended f s.writer) x.slots
  pub spares : Every (λ (e : ListEntry). is_spare g e ≡ is_spare f e) x.entries
  pub strange : Every (λ (e : ListEntry). names t e ≡ false) x.entries

pub sizes : (f g : ℕ → Bool) (ss : List Slot) → Every (λ (s : Slot). writer_has_ended g s.writer ≡ writer_has_ended f s.writer) ss → Every (λ (s : Slot). slot_size g s ≡ slot_size f s) ss
sizes f g [] h = tt
sizes f g (s ∷ ss) h = (ap (λ (v : Bool). SLOT_SIZE + (if v then length s.bytes else s.room)) h.0, sizes f g ss h.1)

pub reusables : (f g : ℕ → Bool) (ss : List Slot) → Every (λ (s : Slot). writer_has_ended g s.writer ≡ writer_has_ended f s.writer) ss → Every (λ (s : Slot). is_reusable g s ≡ is_reusable f s) ss
reusables f g [] h = tt
reusables f g (s ∷ ss) h = (ap (λ (v : Bool). is_empty s.kind && v) h.0, reusables f g ss h.1)

pub takes_same : (f g : ℕ → Bool) (t : ℕ) (x : Block) (pct len : ℕ) → Begun f g t x → takes_beside g pct x len (option_map (entry_size x) (entry_for g x t)) ≡ takes_beside f pct x len (option_map (entry_size x) (other_entry f x))
takes_same f g t x pct len h =
    let used : used_of g x ≡ used_of f x = ap (λ n. n + LIST_ENTRY_SIZE * (length x.entries - LEAST_LIST_ENTRIES)) (sums_same (slot_size g) (slot_size f) x.slots (sizes f g x.slots h.writers)) in
    let slot : slot_to_use g x ≡ slot_to_use f x = places_same (is_reusable g) (is_reusable f) x.slots (reusables f g x.slots h.writers) in
    let spare : position_or_len (is_spare g) x.entries ≡ position_or_len (is_spare f) x.entries = places_same (is_spare g) (is_spare f) x.entries h.spares in
    let other : other_entry g x ≡ other_entry f x = ap₂ (λ (m n : ℕ). other_by m n x) used spare in
    let own : entry_for g x t ≡ other_entry g x = cond-false _ _ _ (ap (λ n. nat_lt n (length x.entries)) (none_place (names t) x.entries h.strange) ∙ le-ltb (length x.entries) (length x.entries) (omega arith)) in
    let o = option_map (entry_size x) (other_entry f x) in
    ap (λ (z : Option ℕ). takes_beside g pct x len (option_map (entry_size x) z)) (own ∙ other)
    ∙ beside_same g pct x len o
    ∙ ap₂ (λ (m n : ℕ). beside_by m n pct x len o) used slot
    ∙ sym (beside_same f pct x len o)

-- a Begin

agree : (R : List Record) (t n u : ℕ) → t ≡ suc n → u ≤ n → not (eqb t u || is_active R u) ≡ not (is_active R u)
agree R t n u e l = ap (λ v. not (v || is_active R u)) (ne_eqb t u (λ s. absurd (omega (arith, e, l, s))))

pub begun : (sh : Shape) (R : List Record) (g : BeginRecord) (b : ℕ) → AreAllowed sh R → g.txn ≡ suc (txn_count R) → Begun (ended_in R) (ended_in (Begin g ∷ R)) g.txn (block_of R b)
begun sh R g b a e = record {
  writers = every_at _ new_slot (slots_of R b) (λ k. subst (λ (s : Slot). writer_has_ended (ended_in (Begin g ∷ R)) s.writer ≡ writer_has_ended (ended_in R) s.writer) (sym (image_is R b k)) (one (image R b k).writer (λ u x. writer_begun sh R b k u a x)));
  spares = every_at _ new_entry (entries_of R b) (λ i. subst (λ (x : ListEntry). is_spare (ended_in (Begin g ∷ R)) x ≡ is_spare (ended_in R) x) (sym (entry_is R b i)) (ap (λ v. (entry R b i).txn == 0 || v) (agree R g.txn (txn_count R) (entry R b i).txn e (entry_begun sh R b i a))));
  strange = every_at _ new_entry (entries_of R b) (λ i. subst (λ (x : ListEntry). names g.txn x ≡ false) (sym (entry_is R b i)) (ne_eqb (entry R b i).txn g.txn (λ s. absurd (let l = entry_begun sh R b i a in omega (arith, e, l, s)))));
}
  where
    one : (w : Writer) → ((u : ℕ) → w ≡ By u → u ≤ txn_count R) → writer_has_ended (ended_in (Begin g ∷ R)) w ≡ writer_has_ended (ended_in R) w
    one (By u) h = agree R g.txn (txn_count R) u e (h u refl)
    one (At c) h = refl

pub taken_after_begin : TakenAfterBegin
taken_after_begin sh R g pct b len a e h = takes_same (ended_in R) (ended_in (Begin g ∷ R)) g.txn (block_of R b) pct len (begun sh R g b a e) ∙ h

-- undo blocks

abbrev PartsBegun : ℕ → List Undone → Type 0
PartsBegun n us = Every (λ (p : Undone). (u : ℕ) → p.by ≡ By u → u ≤ n) us

parts_more : (m n : ℕ) (us : List Undone) → m ≤ n → PartsBegun m us → PartsBegun n us
parts_more m n [] l h = tt
parts_more m n (p ∷ ps) l h = ((λ u e. le_trans (h.0 u e) l), parts_more m n ps l h.1)

parts_both : (n : ℕ) (us vs : List Undone) → PartsBegun n us → PartsBegun n vs → PartsBegun n (us ++ vs)
parts_both n [] vs h k = k
parts_both n (p ∷ ps) vs h k = (h.0, parts_both n ps vs h.1 k)

undone_begun : (n : ℕ) (w : Writer) (ps : List RowPart) → ((u : ℕ) → w ≡ By u → u ≤ n) → PartsBegun n (undone w ps)
undone_begun n w [] h = tt
undone_begun n w (p ∷ ps) h = (h, undone_begun n w ps h)

emptied : (r : Record) (u n : ℕ) (us : List Undone) → PartsBegun n us → PartsBegun n (emptied_by r u us)
emptied (Reuse q) u n us h = elim (eqb q.block u) as (λ v. PartsBegun n (cond v [] us)) [ true ↦ tt | false ↦ h ]
emptied _ u n us h = h

parts_effect : (sh : Shape) (R : List Record) (e : Effect) (u : ℕ) (us : List Undone) → AreAllowed sh R → EffectBasics R e → PartsBegun (txn_count R) us → PartsBegun (txn_count R) (undone_after e u us)
parts_effect sh R (Adds st) u us a n h = elim (eqb st.undo.block u) as (λ v. PartsBegun (txn_count R) (cond v (us ++ undone st.by st.parts) us)) [
  | true ↦ parts_both (txn_count R) us (undone st.by st.parts) h (undone_begun (txn_count R) st.by st.parts (λ t e. (txn_table sh R a).most t ((txn_table sh R a).begun t (n.live t e))))
  | false ↦ h
]
parts_effect sh R _ u us a n h = h

parts_begun : (sh : Shape) (R : List Record) (u : ℕ) → AreAllowed sh R → PartsBegun (txn_count R) (undo_parts R u)
parts_begun sh [] u h = tt
parts_begun sh (r ∷ R) u h = parts_more (txn_count R) (txn_count (r ∷ R)) (undo_parts (r ∷ R) u) (turn sh R r h.1.kind).more (parts_effect sh R (effect_of r) u (emptied_by r u (undo_parts R u)) h.0 (basics sh R r h.1.kind) (emptied r u (txn_count R) (undo_parts R u) (parts_begun sh R u h.0)))

active_same : (R : List Record) (t n u : ℕ) → t ≡ suc n → u ≤ n → (eqb t u || is_active R u) ≡ is_active R u
active_same R t n u e l = ap (λ v. v || is_active R u) (ne_eqb t u (λ s. absurd (omega (arith, e, l, s))))

least_same : (R : List Record) (g : BeginRecord) (us : List Undone) → g.txn ≡ suc (txn_count R) → PartsBegun (txn_count R) us → least_active (Begin g ∷ R) us ≡ least_active R us
least_same R g [] e h = refl
least_same R g (p ∷ ps) e h = go p.by h.0 (least_same R g ps e h.1)
  where
    go : (w : Writer) → ((u : ℕ) → w ≡ By u → u ≤ txn_count R) → least_active (Begin g ∷ R) ps ≡ least_active R ps → least_active (Begin g ∷ R) (record p { by = w } ∷ ps) ≡ least_active R (record p { by = w } ∷ ps)
    go (By t) l ih = ap₂ (λ (v : Bool) (o : Option ℕ). cond v (lesser t o) o) (active_same R g.txn (txn_count R) t e (l t refl)) ih
    go (At c) l ih = ih

pub holders_stay : HoldersStay
holders_stay sh R g u a e = least_same R g (undo_parts R u) e (parts_begun sh R u a)

-- the slot that a new row takes stays
pub slot_to_use_stays : SlotToUseStays
slot_to_use_stays sh R g b a e = places_same _ _ (slots_of R b) (reusables _ _ (slots_of R b) (begun sh R g b a e).writers)
