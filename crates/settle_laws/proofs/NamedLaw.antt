-- Whom a block names has written in it.
use Rattle.std.proofs.Common.{◌≡◌, ◌⊎◌, ℕ, suc, ◌≤◌, Bool, true, false, cond, not, ◌&&◌, eqb, List, [], ◌∷◌, get_or, Option, Some, None, refl, sym, ◌∙◌, ap, arith, inl, inr, true≢false, eq-eqb, eqb-true}
use Rattle.seg_words.proofs.Lemmas.{cond-true, cond-false, cases_Bool, or_left, or_right, or_cases, and_from, and_parts}
use Rattle.seg_words.specs.Types.{Shape, Slot, ListEntry, UndoAddr, Writer, By, At, new_slot, new_entry, number_of, entry_as_told, clean_entry}
use Rattle.redo_model.specs.Records.{Record, Begin, RowPart}
use Rattle.redo_model.specs.Model.{Step, Effect, effect_of, written, part_addr, txn_count, is_addr, is_by, standing, is_active, has_begun, slots_name, entries_name, slots_of, entries_of, is_place, is_at, image, entered_in, entered_by, changed_entry, entry, Made, made_by, without, changed_makers, makers, AreAllowed}
use Rattle.redo_model.specs.Effects.{Still, Formats, Adds, TakesBack, Cleans}
use Rattle.redo_model.proofs.Bridge.{image_is, entry_is}
use Rattle.redo_laws.specs.Added.{any_in}
use Rattle.redo_laws.specs.Chain.{EachMade}
use Rattle.redo_laws.proofs.allowed.Basics.{EffectBasics, basics}
use Rattle.redo_laws.proofs.links.Links.{Linked}
use Rattle.redo_laws.proofs.numbers.TxnTable.{txn_table}
use Rattle.redo_laws.proofs.spread.Whole.{whole}
use Rattle.settle_laws.specs.Named.{wrote_after, has_written, NamedHaveWritten}

-- makers

abbrev Wrote : List Record → ℕ → Made → Type 0
Wrote R b m = (t : ℕ) → m.by ≡ By t → has_written R b t ≡ true

each_made : (P Q : Made → Type 0) (ms : List Made) → ((m : Made) → P m → Q m) → EachMade P ms → EachMade Q ms
each_made P Q [] f h = tt
each_made P Q (m ∷ ms) f h = (f m h.0, each_made P Q ms f h.1)

made_without : (P : Made → Type 0) (a : UndoAddr) (ms : List Made) → EachMade P ms → EachMade P (without a ms)
made_without P a [] h = tt
made_without P a (m ∷ ms) h = elim (not (is_addr m.undo a)) as (λ v. EachMade P (cond v (m ∷ without a ms) (without a ms))) [ true ↦ (h.0, made_without P a ms h.1) | false ↦ made_without P a ms h.1 ]

by_self : (w : Writer) (t : ℕ) → w ≡ By t → is_by w t ≡ true
by_self w t e = ap (λ v. is_by v t) e ∙ eq-eqb t t refl

-- the parts that are left are some of the step's
abbrev Reaches : List RowPart → List RowPart → Type 0
Reaches ps all = (b : ℕ) → any_in (written ps) b ≡ true → any_in (written all) b ≡ true

made_wrote : (P : Made → Type 0) (st : Step) (i : ℕ) (ps : List RowPart) (b k : ℕ) (ms : List Made) → Reaches ps st.parts
    → ((m : Made) → m.by ≡ st.by → any_in (written st.parts) b ≡ true → P m) → EachMade P ms → EachMade P (made_by st i ps b k ms)
made_wrote P st i [] b k ms r f h = h
made_wrote P st i (p ∷ ps) b k ms r f h =
    (elim (is_place p.dba p.slot b k) as (λ v. is_place p.dba p.slot b k ≡ v → EachMade P (cond v (record { by = st.by; undo = st.undo; part = part_addr st.undo i; old = p.old } ∷ ms) (made_by st (suc i) ps b k ms))) [
      | true ↦ λ e. (f (record { by = st.by; undo = st.undo; part = part_addr st.undo i; old = p.old }) refl (r b (or_left (eqb p.dba b) _ (and_parts (eqb p.dba b) (eqb p.slot k) e).0)), h)
      | false ↦ λ e. made_wrote P st (suc i) ps b k ms (λ c y. r c (or_right (eqb p.dba c) _ y)) f h
    ]) refl

makers_step : (R : List Record) (r : Record) (e : Effect) (b k : ℕ) → effect_of r ≡ e → EachMade (Wrote R b) (makers R b k) → EachMade (λ m. (t : ℕ) → m.by ≡ By t → wrote_after e b t (has_written R b t) ≡ true) (changed_makers e b k (makers R b k))
makers_step R r Still b k f h = h
makers_step R r (Formats d) b k f h = elim (eqb d b) as (λ v. EachMade (λ m. (t : ℕ) → m.by ≡ By t → cond v false (has_written R b t) ≡ true) (cond v [] (makers R b k))) [ true ↦ tt | false ↦ h ]
makers_step R r (Adds st) b k f h =
    made_wrote _ st 0 st.parts b k (makers R b k) (λ c y. y)
    (λ m by y t e. or_left (is_by st.by t && any_in (written st.parts) b) _ (and_from (is_by st.by t) _ (by_self st.by t (sym by ∙ e)) y))
    (each_made _ _ (makers R b k) (λ m w t e. or_right (is_by st.by t && any_in (written st.parts) b) _ (w t e)) h)
makers_step R r (TakesBack y) b k f h = made_without _ y.undo (makers R b k) h
makers_step R r (Cleans d cs) b k f h = h

makers_wrote : (R : List Record) (b k : ℕ) → EachMade (Wrote R b) (makers R b k)
makers_wrote [] b k = tt
makers_wrote (r ∷ R) b k = makers_step R r (effect_of r) b k refl (makers_wrote R b k)

pub slot_wrote : (sh : Shape) (R : List Record) (b k t : ℕ) → AreAllowed sh R → (image R b k).writer ≡ By t → has_written R b t ≡ true
slot_wrote sh R b k t h e = go (image R b k) (makers R b k) ((whole sh R h).links b k) (makers_wrote R b k) e
  where
    go : (i : Slot) (ms : List Made) → Linked (is_active R) (txn_count R) (standing R) i ms → EachMade (Wrote R b) ms → i.writer ≡ By t → has_written R b t ≡ true
    go i [] l w e = absurd (let x : At 0 ≡ By t = sym l.writer ∙ e in cc)
    go i (m ∷ ms) l w e = elim l.0.writer [
      | inl y ↦ w.0 t (sym y ∙ e)
      | inr z ↦ absurd (let x : At z.0 ≡ By t = sym z.1 ∙ e in cc)
    ]

-- list entries

entered_wrote : (ps : List RowPart) (u b i t : ℕ) (old : ListEntry) → (entered_in ps u b i old).txn ≡ t → ((u ≡ t) × (any_in (written ps) b ≡ true)) ⊎ (old.txn ≡ t)
entered_wrote [] u b i t old e = inr e
entered_wrote (p ∷ ps) u b i t old e = elim (cases_Bool (eqb p.dba b && is_at p.entry i)) [
  | inl y ↦ inl (ap (λ (x : ListEntry). x.txn) (sym (cond-true _ _ _ y)) ∙ e, or_left (eqb p.dba b) _ (and_parts (eqb p.dba b) (is_at p.entry i) y).0)
  | inr n ↦ elim (entered_wrote ps u b i t old (ap (λ (x : ListEntry). x.txn) (sym (cond-false _ _ _ n)) ∙ e)) [
    | inl z ↦ inl (z.0, or_right (eqb p.dba b) _ z.1)
    | inr z ↦ inr z
  ]
]

by_wrote : (w : Writer) (ps : List RowPart) (b i t : ℕ) (old : ListEntry) → (entered_by w ps b i old).txn ≡ t → ((is_by w t && any_in (written ps) b) ≡ true) ⊎ (old.txn ≡ t)
by_wrote (By u) ps b i t old e = elim (entered_wrote ps u b i t old e) [ inl y ↦ inl (and_from (eqb u t) _ (eq-eqb u t y.0) y.1) | inr z ↦ inr z ]
by_wrote (At c) ps b i t old e = inr e

none_by_zero : (t : ℕ) → 1 ≤ t → 0 ≡ t → ⊥
none_by_zero t l e = omega (arith, l, e)

told_names : (e : ListEntry) (o : Option ℕ) (t : ℕ) → 1 ≤ t → (entry_as_told e o).txn ≡ t → e.txn ≡ t
told_names e None t l h = h
told_names e (Some c) t l h = absurd (none_by_zero t l h)

entry_step : (e : Effect) (b i t : ℕ) (old : ListEntry) (was : Bool) → 1 ≤ t → (old.txn ≡ t → was ≡ true) → (changed_entry e b i old).txn ≡ t → wrote_after e b t was ≡ true
entry_step Still b i t old was l h e = h e
entry_step (Formats d) b i t old was l h e =
    (elim (eqb d b) as (λ v. (cond v new_entry old).txn ≡ t → cond v false was ≡ true) [ true ↦ λ x. absurd (none_by_zero t l x) | false ↦ λ x. h x ]) e
entry_step (Adds st) b i t old was l h e = elim (by_wrote st.by st.parts b i t old e) [ inl y ↦ or_left _ was y | inr z ↦ or_right (is_by st.by t && any_in (written st.parts) b) was (h z) ]
entry_step (TakesBack k) b i t old was l h e = h e
entry_step (Cleans d cs) b i t old was l h e =
    (elim (eqb d b) as (λ v. (cond v (clean_entry cs old) old).txn ≡ t → was ≡ true) [ true ↦ λ x. h (told_names old (number_of cs old.txn) t l x) | false ↦ λ x. h x ]) e

pub entry_wrote : (R : List Record) (b i t : ℕ) → 1 ≤ t → (entry R b i).txn ≡ t → has_written R b t ≡ true
entry_wrote [] b i t l e = absurd (none_by_zero t l e)
entry_wrote (r ∷ R) b i t l e = entry_step (effect_of r) b i t (entry R b i) (has_written R b t) l (λ x. entry_wrote R b i t l x) e

-- by the block's value

named_slot : (ss : List Slot) (t : ℕ) → slots_name ss t ≡ true → (k : ℕ) × (is_by (get_or ss k new_slot).writer t ≡ true)
named_slot [] t h = absurd (true≢false (sym h))
named_slot (s ∷ ss) t h = elim (or_cases (is_by s.writer t) (slots_name ss t) h) [ inl y ↦ (0, y) | inr z ↦ let q = named_slot ss t z in (suc q.0, q.1) ]

named_entry : (es : List ListEntry) (t : ℕ) → entries_name es t ≡ true → (i : ℕ) × ((get_or es i new_entry).txn ≡ t)
named_entry [] t h = absurd (true≢false (sym h))
named_entry (e ∷ es) t h = elim (or_cases (eqb e.txn t) (entries_name es t) h) [ inl y ↦ (0, eqb-true e.txn t y) | inr z ↦ let q = named_entry es t z in (suc q.0, q.1) ]

is_by_of : (w : Writer) (t : ℕ) → is_by w t ≡ true → w ≡ By t
is_by_of (By u) t h = ap By (eqb-true u t h)
is_by_of (At c) t h = absurd (true≢false (sym h))

-- a transaction that has written has begun

begun_goes_on : (R : List Record) (r : Record) (t : ℕ) → has_begun R t ≡ true → has_begun (r ∷ R) t ≡ true
begun_goes_on R (Begin g) t h = or_right (eqb g.txn t) _ h
begun_goes_on R _ t h = h

begun_step : (sh : Shape) (R : List Record) (e : Effect) (b t : ℕ) → AreAllowed sh R → EffectBasics R e → (has_written R b t ≡ true → has_begun R t ≡ true) → wrote_after e b t (has_written R b t) ≡ true → has_begun R t ≡ true
begun_step sh R Still b t h n w e = w e
begun_step sh R (Formats d) b t h n w e = (elim (eqb d b) as (λ v. cond v false (has_written R b t) ≡ true → has_begun R t ≡ true) [ true ↦ λ x. absurd (true≢false (sym x)) | false ↦ w ]) e
begun_step sh R (Adds st) b t h n w e = elim (or_cases (is_by st.by t && any_in (written st.parts) b) (has_written R b t) e) [
  | inl y ↦ (txn_table sh R h).begun t (n.live t (is_by_of st.by t (and_parts (is_by st.by t) (any_in (written st.parts) b) y).0))
  | inr z ↦ w z
]
begun_step sh R (TakesBack k) b t h n w e = w e
begun_step sh R (Cleans d cs) b t h n w e = w e

pub wrote_begun : (sh : Shape) (R : List Record) (b t : ℕ) → AreAllowed sh R → has_written R b t ≡ true → has_begun R t ≡ true
wrote_begun sh [] b t h e = absurd (true≢false (sym e))
wrote_begun sh (r ∷ R) b t h e = begun_goes_on R r t (begun_step sh R (effect_of r) b t h.0 (basics sh R r h.1.kind) (λ x. wrote_begun sh R b t h.0 x) e)

pub named_have_written : NamedHaveWritten
named_have_written sh R b h = record {
  slots = λ k t e. slot_wrote sh R b k t h e;
  entries = λ i t l e. entry_wrote R b i t l e;
  named = λ t l e. elim (or_cases (slots_name (slots_of R b) t) (entries_name (entries_of R b) t) e) [
    | inl y ↦ (let q = named_slot (slots_of R b) t y in slot_wrote sh R b q.0 t h (is_by_of (image R b q.0).writer t (ap (λ (s : Slot). is_by s.writer t) (sym (image_is R b q.0)) ∙ q.1)))
    | inr z ↦ (let q = named_entry (entries_of R b) t z in entry_wrote R b q.0 t l (ap (λ (x : ListEntry). x.txn) (sym (entry_is R b q.0)) ∙ q.1))
  ];
  begun = λ t e. wrote_begun sh R b t h e;
}
