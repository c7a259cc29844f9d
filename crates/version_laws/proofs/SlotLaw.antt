-- What made an image, and where a slot's images begin.
use Rattle.std.proofs.Common.{◌≡◌, ◌⊎◌, ℕ, suc, ◌≤◌, true, false, cond, eqb, Option, Some, None, List, [], ◌∷◌, map, refl, sym, ◌∙◌, ap, ap₂, subst, arith, inl, inr, le_trans, zero, ◌<◌, length, slice_index_or, true≢false, eqb-true, eq-eqb, lt-ltb}
use Rattle.seg_words.proofs.Lemmas.{cases_Bool, cond-true, or_cases, or_right}
use Rattle.seg_words.specs.Types.{Shape, Slot, UndoAddr, new_slot, clean_slot}
use Rattle.redo_model.specs.Records.{Record, Begin, Reuse, Back, Table, BackRecord, RowPart}
use Rattle.redo_model.specs.Model.{Step, Effect, effect_of, part_addr, standing, newest_of, has_begun, is_place, changed_image, image, undo_sequence, current_undo, Made, made_by, changed_makers, makers, images, first_counted, row_in, counts, IsKindAllowed, AreAllowed}
use Rattle.redo_model.specs.Effects.{Still, Formats, Adds, TakesBack, Cleans}
use Rattle.redo_laws.specs.Among.{IsOneOf}
use Rattle.redo_laws.specs.Chain.{IsChain, EachMade}
use Rattle.redo_laws.specs.Added.{names_slot, ImagesAdded, ImagesAfter}
use Rattle.redo_laws.proofs.allowed.Basics.{EffectBasics, basics}
use Rattle.redo_laws.proofs.steps.After.{images_after_steps}
use Rattle.redo_laws.proofs.steps.Beyond.{beyond}
use Rattle.redo_laws.proofs.links.ChainLaw.{slots_are_chains}
use Rattle.redo_laws.proofs.undo.ReadsLaw.{undo_is_read}
use Rattle.redo_laws.proofs.numbers.TxnTable.{txn_table}
use Rattle.version_laws.specs.Types.{MadeKnown, EndsNew, SlotsAreKnown, IsPast, AddressesArePast, SlotsPastTheLast, BegunFromOne}
use Rattle.version_laws.proofs.Makers.{each_map, each_without}

-- each maker

-- the current block was taken into use
current_used : (R : List Record) (u : ℕ) → current_undo R ≡ Some u → 1 ≤ undo_sequence R u
current_used [] u e = absurd (let z : ◌≡◌ {A = Option ℕ} None (Some u) = e in cc)
current_used (Reuse q ∷ R) u e =
    let same : q.block ≡ u = (let z : ◌≡◌ {A = Option ℕ} (Some q.block) (Some u) = e in cc) in
    subst (λ n. 1 ≤ n) (sym (cond-true (eqb q.block u) (suc (undo_sequence R u)) (undo_sequence R u) (eq-eqb q.block u same))) (omega arith)
current_used (_ ∷ R) u e = current_used R u e

uses_grow : (r : Record) (R : List Record) (u : ℕ) → undo_sequence R u ≤ undo_sequence (r ∷ R) u
uses_grow (Reuse q) R u = elim (eqb q.block u) as (λ v. undo_sequence R u ≤ cond v (suc (undo_sequence R u)) (undo_sequence R u)) [ true ↦ omega arith | false ↦ omega arith ]
uses_grow _ R u = omega arith

begun_stays : (r : Record) (R : List Record) (u : ℕ) → has_begun R u ≡ true → has_begun (r ∷ R) u ≡ true
begun_stays (Begin g) R u h = or_right (eqb g.txn u) _ h
begun_stays _ R u h = h

known_more : (r : Record) (R : List Record) (m : Made) → MadeKnown R m → MadeKnown (r ∷ R) m
known_more r R m h = record {
  used = h.used;
  low = le_trans h.low (uses_grow r R m.part.block);
  begun = λ u e. begun_stays r R u (h.begun u e);
}

made_adds : (R : List Record) (st : Step) (i : ℕ) (ps : List RowPart) (b k : ℕ) (ms : List Made) → ((j : ℕ) (old : Slot) → MadeKnown R (record { by = st.by; undo = st.undo; part = part_addr st.undo j; old = old })) → EachMade (MadeKnown R) ms → EachMade (MadeKnown R) (made_by st i ps b k ms)
made_adds R st i [] b k ms n h = h
made_adds R st i (p ∷ ps) b k ms n h =
    elim (is_place p.dba p.slot b k) as (λ v. EachMade (MadeKnown R) (cond v (record { by = st.by; undo = st.undo; part = part_addr st.undo i; old = p.old } ∷ ms) (made_by st (suc i) ps b k ms))) [
      | true ↦ (n i p.old, h)
      | false ↦ made_adds R st (suc i) ps b k ms n h
    ]

made_effect : (sh : Shape) (R : List Record) (e : Effect) (b k : ℕ) (ms : List Made) → AreAllowed sh R → EffectBasics R e → EachMade (MadeKnown R) ms → EachMade (MadeKnown R) (changed_makers e b k ms)
made_effect sh R Still b k ms a n h = h
made_effect sh R (Formats d) b k ms a n h = elim (eqb d b) as (λ v. EachMade (MadeKnown R) (cond v [] ms)) [ true ↦ tt | false ↦ h ]
made_effect sh R (Adds st) b k ms a n h = made_adds R st 0 st.parts b k ms (λ j old. record {
  used = (let e = n.undo.sequence in let l = current_used R st.undo.block n.undo.current in omega (arith, e, l));
  low = (let e = n.undo.sequence in omega (arith, e));
  begun = λ u e. (txn_table sh R a).begun u (n.live u e);
}) h
made_effect sh R (TakesBack t) b k ms a n h = each_without (MadeKnown R) t.undo ms h
made_effect sh R (Cleans d cs) b k ms a n h = h

each_made : (sh : Shape) (R : List Record) (b k : ℕ) → AreAllowed sh R → EachMade (MadeKnown R) (makers R b k)
each_made sh [] b k h = tt
each_made sh (r ∷ R) b k h = each_map _ _ (makers (r ∷ R) b k) (known_more r R) (made_effect sh R (effect_of r) b k (makers R b k) h.0 (basics sh R r h.1.kind) (each_made sh R b k h.0))

-- the last image

abbrev last_of : Slot → List Slot → Slot
last_of d [] = d
last_of d (x ∷ xs) = last_of x xs

last_any : (d e x : Slot) (xs : List Slot) → last_of d (x ∷ xs) ≡ last_of e (x ∷ xs)
last_any d e x xs = refl

last_new : (R : List Record) (r : Record) (b k : ℕ) → last_of new_slot (images R b k) ≡ new_slot → (y : Slot) → images (r ∷ R) b k ≡ y ∷ images R b k → last_of new_slot (images (r ∷ R) b k) ≡ new_slot
last_new R r b k h y e = ap (last_of new_slot) e ∙ h

last_left : (R : List Record) (r : Record) (b k : ℕ) → last_of new_slot (images R b k) ≡ new_slot → images (r ∷ R) b k ≡ images R b k → last_of new_slot (images (r ∷ R) b k) ≡ new_slot
last_left R r b k h e = ap (last_of new_slot) e ∙ h

last_under : (R : List Record) (r : Record) (b k : ℕ) → last_of new_slot (images R b k) ≡ new_slot → (y : Slot) → images R b k ≡ y ∷ images (r ∷ R) b k → last_of new_slot (images (r ∷ R) b k) ≡ new_slot
last_under R r b k h y e = sym (ap (last_of new_slot) e) ∙ h

abbrev olds : List Made → List Slot
olds ms = map (λ (m : Made). m.old) ms

last_clean : (cs : List (ℕ × ℕ)) (i : Slot) (ms : List Made) → last_of new_slot (i ∷ olds ms) ≡ new_slot → last_of new_slot (clean_slot cs i ∷ olds ms) ≡ new_slot
last_clean cs i [] h = ap (clean_slot cs) h
last_clean cs i (m ∷ ms) h = h

last_effect : (R : List Record) (r : Record) (e : Effect) (b k : ℕ) → effect_of r ≡ e → ImagesAfter (effect_of r) R r b k → ((t : BackRecord) → e ≡ TakesBack t → (st : Step) × (newest_of (standing R) t.txn ≡ Some st)) → last_of new_slot (images R b k) ≡ new_slot → last_of new_slot (images (r ∷ R) b k) ≡ new_slot
last_effect R r Still b k e a f h = last_left R r b k h (ap₂ (λ (i : Slot) (ms : List Made). i ∷ olds ms) (ap (λ x. changed_image x b k (image R b k)) e) (ap (λ x. changed_makers x b k (makers R b k)) e))
last_effect R r (Formats d) b k e a f h =
    ap₂ (λ (i : Slot) (ms : List Made). last_of new_slot (i ∷ olds ms)) (ap (λ x. changed_image x b k (image R b k)) e) (ap (λ x. changed_makers x b k (makers R b k)) e)
    ∙ (elim (eqb d b) as (λ v. last_of new_slot (cond v new_slot (image R b k) ∷ olds (cond v [] (makers R b k))) ≡ new_slot) [ true ↦ refl | false ↦ h ])
last_effect R r (Adds st) b k e a f h = go (subst (λ x. ImagesAfter x R r b k) e a)
  where
    go : ImagesAdded R r st b k → last_of new_slot (images (r ∷ R) b k) ≡ new_slot
    go x = elim (cases_Bool (names_slot st.parts b k)) [ inl y ↦ last_new R r b k h _ (x.named y) | inr n ↦ last_left R r b k h (x.left n) ]
last_effect R r (TakesBack t) b k e a f h = go (subst (λ x. ImagesAfter x R r b k) e a)
  where
    go : ImagesAfter (TakesBack t) R r b k → last_of new_slot (images (r ∷ R) b k) ≡ new_slot
    go x =
        let s = f t refl in
        let y = x s.0 s.1 in
        elim (cases_Bool (names_slot s.0.parts b k)) [ inl n ↦ last_under R r b k h _ (y.named n) | inr n ↦ last_left R r b k h (y.left n) ]
last_effect R r (Cleans d cs) b k e a f h =
    ap₂ (λ (i : Slot) (ms : List Made). last_of new_slot (i ∷ olds ms)) (ap (λ x. changed_image x b k (image R b k)) e) (ap (λ x. changed_makers x b k (makers R b k)) e)
    ∙ (elim (eqb d b) as (λ v. last_of new_slot (cond v (clean_slot cs (image R b k)) (image R b k) ∷ olds (makers R b k)) ≡ new_slot) [ true ↦ last_clean cs (image R b k) (makers R b k) h | false ↦ h ])

back_newest : (sh : Shape) (R : List Record) (r : Record) → IsKindAllowed sh R r → (t : BackRecord) → effect_of r ≡ TakesBack t → (st : Step) × (newest_of (standing R) t.txn ≡ Some st)
back_newest sh R (Back x) a t e = let same : x ≡ t = cc in (a.step, subst (λ y. newest_of (standing R) y.txn ≡ Some a.step) same a.newest)
back_newest sh R (Table x) a t e = absurd cc
back_newest sh R _ a t e = absurd cc

last_image : (sh : Shape) (R : List Record) (b k : ℕ) → AreAllowed sh R → last_of new_slot (images R b k) ≡ new_slot
last_image sh [] b k h = refl
last_image sh (r ∷ R) b k h = last_effect R r (effect_of r) b k refl (images_after_steps sh R r b k h) (back_newest sh R r h.1.kind) (last_image sh R b k h.0)

ends : (i : Slot) (ms : List Made) → last_of new_slot (i ∷ olds ms) ≡ new_slot → EndsNew i ms
ends i [] h = h
ends i (m ∷ ms) h = ends m.old ms h

pub slots_are_known : SlotsAreKnown
slots_are_known sh R b k h = record {
  made = each_made sh R b k h;
  ends = ends (image R b k) (makers R b k) (last_image sh R b k h);
}

pub begun_from_one : BegunFromOne
begun_from_one sh [] u h b = absurd (true≢false (sym b))
begun_from_one sh (Begin g ∷ R) u h b = elim (or_cases (eqb g.txn u) (has_begun R u) b) [
  | inl y ↦ (let n = h.1.kind.number in let e = eqb-true g.txn u y in omega (arith, n, e))
  | inr z ↦ begun_from_one sh R u h.0 z
]
begun_from_one sh (_ ∷ R) u h b = begun_from_one sh R u h.0 b

-- addresses

one_of : (xs : List Slot) (i : Slot) (n : ℕ) → n < length xs → slice_index_or xs n i ≡ i → IsOneOf i xs
one_of [] i n l e = absurd (omega arith)
one_of (x ∷ xs) i zero l e = inl e
one_of (x ∷ xs) i (suc n) l e = inr (one_of xs i n (omega arith) e)

past : (sh : Shape) (R : List Record) (m : Made) (a : UndoAddr) → AreAllowed sh R → MadeKnown R m → m.part ≡ a → IsPast R a
past sh R m a h n e = subst (IsPast R) e (record {
  used = n.used;
  low = n.low;
  else_reused = λ d. (undo_is_read sh R h).reused m.part ∙ lt-ltb m.part.seq (undo_sequence R m.part.block) (let l = n.low in omega (arith, l, d));
})

same_addr : (i : Slot) (x y : UndoAddr) → i.undo ≡ Some x → i.undo ≡ Some y → x ≡ y
same_addr i x y e f = let z : ◌≡◌ {A = Option UndoAddr} (Some x) (Some y) = sym e ∙ f in cc

named_past : (sh : Shape) (R : List Record) (i j : Slot) (ms : List Made) (a : UndoAddr) → AreAllowed sh R → IsChain i ms → EachMade (MadeKnown R) ms → IsOneOf j (i ∷ olds ms) → j.undo ≡ Some a → IsPast R a
named_past sh R i j [] a h c n o e = elim o [
  | inl y ↦ absurd (let z : ◌≡◌ {A = Option UndoAddr} None (Some a) = sym c ∙ ap (λ (x : Slot). x.undo) y ∙ e in cc)
  | inr z ↦ absurd z
]
named_past sh R i j (m ∷ ms) a h c n o e = elim o [
  | inl y ↦ past sh R m a h n.0 (same_addr i m.part a c.0 (ap (λ (x : Slot). x.undo) y ∙ e))
  | inr z ↦ named_past sh R m.old j ms a h c.1 n.1 z e
]

pub addresses_are_past : AddressesArePast
addresses_are_past sh R b k i a h w e = named_past sh R (image R b k) i (makers R b k) a h (slots_are_chains sh R b k h).chain (each_made sh R b k h) (one_of (images R b k) i w.0 w.1 w.2) e

pub slots_past_the_last : SlotsPastTheLast
slots_past_the_last R b k l =
    let q = beyond R b k l in
    record { is_new = q.0; unmade = q.1; row = λ s t. ap₂ (λ (i : Slot) (ms : List Made). row_in (first_counted (λ w u. counts R s t w) i ms)) q.0 q.1 }
