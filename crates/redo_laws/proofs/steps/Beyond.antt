-- Slots and entries past the last are as new ones.
use Rattle.std.proofs.Common.{◌≡◌, ℕ, suc, ◌≤◌, max, true, false, cond, ◌&&◌, eqb, List, [], ◌∷◌, refl, ◌∙◌, ap, arith, ne_eqb}
use Rattle.seg_words.proofs.Lemmas.{cond-false}
use Rattle.seg_words.specs.Types.{Slot, new_slot, clean_slot}
use Rattle.redo_model.specs.Records.{Record, RowPart}
use Rattle.redo_model.specs.Model.{Step, Effect, effect_of, Placed, written, restored, part_addr, placed_in, changed_image, image, Made, made_by, without, changed_makers, makers, slots_reached, changed_slot_count, slot_count}
use Rattle.redo_model.specs.Effects.{Still, Formats, Adds, TakesBack, Cleans}

beyond_placed : (ps : List Placed) (b k n : ℕ) (i : Slot) → slots_reached ps b n ≤ k → (placed_in ps b k i ≡ i) × (n ≤ k)
beyond_placed [] b k n i l = (refl, l)
beyond_placed (p ∷ ps) b k n i l =
    (elim (eqb p.dba b) as (λ v. eqb p.dba b ≡ v → cond v (max (suc p.slot) (slots_reached ps b n)) (slots_reached ps b n) ≤ k → (cond (v && eqb p.slot k) p.image (placed_in ps b k i) ≡ i) × (n ≤ k)) [
      | true ↦ λ e m.
          let r = beyond_placed ps b k n i (omega arith) in
          (cond-false _ _ _ (ne_eqb p.slot k (λ x. omega arith)) ∙ r.0, r.1)
      | false ↦ λ e m. beyond_placed ps b k n i m
    ]) refl l

beyond_made : (st : Step) (i : ℕ) (ps : List RowPart) (b k n : ℕ) → slots_reached (written ps) b n ≤ k → made_by st i ps b k [] ≡ []
beyond_made st i [] b k n l = refl
beyond_made st i (p ∷ ps) b k n l =
    (elim (eqb p.dba b) as (λ v. eqb p.dba b ≡ v → cond v (max (suc p.slot) (slots_reached (written ps) b n)) (slots_reached (written ps) b n) ≤ k → cond (v && eqb p.slot k) (record { by = st.by; undo = st.undo; part = part_addr st.undo i; old = p.old } ∷ []) (made_by st (suc i) ps b k []) ≡ []) [
      | true ↦ λ e m. cond-false _ _ _ (ne_eqb p.slot k (λ x. omega arith)) ∙ beyond_made st (suc i) ps b k n (omega arith)
      | false ↦ λ e m. beyond_made st (suc i) ps b k n m
    ]) refl l

-- of slot k of a block with n slots
abbrev pub IsBeyond : ℕ → ℕ → Slot → List Made → Type 0
IsBeyond n k i ms = n ≤ k → (i ≡ new_slot) × (ms ≡ [])

beyond_effect : (e : Effect) (b k n : ℕ) (i : Slot) (ms : List Made) → IsBeyond n k i ms → IsBeyond (changed_slot_count e b n) k (changed_image e b k i) (changed_makers e b k ms)
beyond_effect Still b k n i ms h = h
beyond_effect (Formats d) b k n i ms h =
    elim (eqb d b) as (λ v. cond v 0 n ≤ k → (cond v new_slot i ≡ new_slot) × (cond v [] ms ≡ [])) [ true ↦ λ l. (refl, refl) | false ↦ h ]
beyond_effect (Adds st) b k n i ms h = λ l.
    let r = beyond_placed (written st.parts) b k n i l in
    let q = h r.1 in
    (r.0 ∙ q.0, ap (made_by st 0 st.parts b k) q.1 ∙ beyond_made st 0 st.parts b k n l)
beyond_effect (TakesBack t) b k n i ms h = λ l.
    let r = beyond_placed (restored t.parts) b k n i l in
    let q = h r.1 in
    (r.0 ∙ q.0, ap (without t.undo) q.1)
beyond_effect (Cleans d cs) b k n i ms h = λ l.
    let q = h l in
    (elim (eqb d b) as (λ v. cond v (clean_slot cs i) i ≡ new_slot) [ true ↦ ap (clean_slot cs) q.0 | false ↦ q.0 ], q.1)

pub beyond : (R : List Record) (b k : ℕ) → IsBeyond (slot_count R b) k (image R b k) (makers R b k)
beyond [] b k = λ l. (refl, refl)
beyond (r ∷ R) b k = beyond_effect (effect_of r) b k (slot_count R b) (image R b k) (makers R b k) (beyond R b k)
