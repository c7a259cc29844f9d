-- The newest maker of a slot that counts is the newest step that counts on the row that the slot gives.
use Rattle.std.proofs.Common.{◌≡◌, ℕ, suc, true, false, cond, not, ◌&&◌, ◌||◌, eqb, List, [], ◌∷◌, Option, Some, None, refl, sym, ◌∙◌, ap, ap₂, subst, inl, inr, true≢false, eq-eqb}
use Rattle.seg_words.proofs.Lemmas.{cond-true, cond-false, cases_Bool, and_from, and_left, and_right}
use Rattle.seg_words.specs.Types.{Shape, Slot, UndoAddr}
use Rattle.redo_model.specs.Records.{Record, RowPart, BackRecord}
use Rattle.redo_model.specs.Model.{Step, Effect, effect_of, written, restored, part_addr, txn_count, is_active, is_addr, without_step, standing_steps, standing, is_place, placed_in, changed_image, image, Made, made_by, without, changed_makers, makers, first_counted, row_in}
use Rattle.redo_model.specs.Effects.{Still, Formats, Adds, TakesBack, Cleans}
use Rattle.redo_laws.proofs.steps.OnTop.{is_named, addr_self, off_named, head_named, OnTop}
use Rattle.redo_laws.proofs.steps.Facts.{Counted, place_of, located, seen, BackFits, EffectFits, IsFit, IsClosed}
use Rattle.redo_laws.proofs.numbers.Known.{turn}
use Rattle.redo_laws.proofs.spread.Stays.{effect_stays}
use Rattle.redo_laws.proofs.steps.Held.{own_newest, Tops, tops, Held, effect_held}
use Rattle.redo_laws.proofs.spread.Spread.{but, closed_but, counted_but, closed_turn, good}
use Rattle.version_laws.specs.Types.{made_stamp, step_stamp}

abbrev pub Stamped : List Record → Counted → ℕ → ℕ → ℕ → List ℕ → Type 0
Stamped R c b k n bytes = seen c R b k ≡ Some (n, bytes) → made_stamp c (makers R b k) ≡ step_stamp c (standing R) n

no_row : (n : ℕ) (x : List ℕ) (o : Option (ℕ × List ℕ)) → o ≡ None → o ≡ Some (n, x) → ⊥
no_row n x o e f = let z : ◌≡◌ {A = Option (ℕ × List ℕ)} None (Some (n, x)) = sym e ∙ f in cc

-- makers of a step that doesn't count
skip_made : (c : Counted) (st : Step) (i : ℕ) (ps : List RowPart) (b k : ℕ) (ms : List Made) → c st.by st.undo ≡ false → made_stamp c (made_by st i ps b k ms) ≡ made_stamp c ms
skip_made c st i [] b k ms off = refl
skip_made c st i (p ∷ ps) b k ms off =
    elim (is_place p.dba p.slot b k) as (λ v. made_stamp c (cond v (record { by = st.by; undo = st.undo; part = part_addr st.undo i; old = p.old } ∷ ms) (made_by st (suc i) ps b k ms)) ≡ made_stamp c ms) [
      | true ↦ cond-false _ _ _ off
      | false ↦ skip_made c st (suc i) ps b k ms off
    ]

-- makers of a step that counts
top_made : (c : Counted) (st : Step) (i : ℕ) (ps : List RowPart) (b k : ℕ) (ms : List Made) → c st.by st.undo ≡ true → is_named ps b k ≡ true → made_stamp c (made_by st i ps b k ms) ≡ Some (record { by = st.by; undo = st.undo })
top_made c st i [] b k ms on h = absurd (true≢false (sym h))
top_made c st i (p ∷ ps) b k ms on h =
    (elim (is_place p.dba p.slot b k) as (λ v. (v || is_named ps b k) ≡ true → made_stamp c (cond v (record { by = st.by; undo = st.undo; part = part_addr st.undo i; old = p.old } ∷ ms) (made_by st (suc i) ps b k ms)) ≡ Some (record { by = st.by; undo = st.undo })) [
      | true ↦ λ e. cond-true _ _ _ on
      | false ↦ λ e. top_made c st (suc i) ps b k ms on e
    ]) h

-- without what is taken back

stamp_without : (c : Counted) (a : UndoAddr) (ms : List Made) → made_stamp c (without a ms) ≡ made_stamp (but c a) ms
stamp_without c a [] = refl
stamp_without c a (m ∷ ms) =
    elim (is_addr m.undo a) as (λ w. made_stamp c (cond (not w) (m ∷ without a ms) (without a ms)) ≡ cond (c m.by m.undo && not w) (Some (record { by = m.by; undo = m.undo })) (made_stamp (but c a) ms)) [
      | true ↦ stamp_without c a ms ∙ sym (cond-false _ _ _ (and_right (c m.by m.undo) false refl))
      | false ↦ elim (c m.by m.undo) as (λ z. cond z (Some (record { by = m.by; undo = m.undo })) (made_stamp c (without a ms)) ≡ cond (z && true) (Some (record { by = m.by; undo = m.undo })) (made_stamp (but c a) ms)) [ true ↦ refl | false ↦ stamp_without c a ms ]
    ]

steps_without : (c : Counted) (a : UndoAddr) (ss : List Step) (n : ℕ) → step_stamp c (without_step a ss) n ≡ step_stamp (but c a) ss n
steps_without c a [] n = refl
steps_without c a (s ∷ ss) n =
    elim (is_addr s.undo a) as (λ w. step_stamp c (cond (not w) (s ∷ without_step a ss) (without_step a ss)) n ≡ cond ((c s.by s.undo && not w) && eqb s.row n) (Some (record { by = s.by; undo = s.undo })) (step_stamp (but c a) ss n)) [
      | true ↦ steps_without c a ss n ∙ sym (cond-false _ _ _ (and_left (c s.by s.undo && false) (eqb s.row n) (and_right (c s.by s.undo) false refl)))
      | false ↦ elim (c s.by s.undo) as (λ z. cond (z && eqb s.row n) (Some (record { by = s.by; undo = s.undo })) (step_stamp c (without_step a ss) n) ≡ cond ((z && true) && eqb s.row n) (Some (record { by = s.by; undo = s.undo })) (step_stamp (but c a) ss n)) [
        | true ↦ ap (cond (eqb s.row n) (Some (record { by = s.by; undo = s.undo }))) (steps_without c a ss n)
        | false ↦ steps_without c a ss n
      ]
    ]

abbrev StampedAfter : List Record → Effect → Counted → ℕ → ℕ → ℕ → List ℕ → Type 0
StampedAfter R ef c b k n bytes =
    row_in (first_counted c (changed_image ef b k (image R b k)) (changed_makers ef b k (makers R b k))) ≡ Some (n, bytes)
    → made_stamp c (changed_makers ef b k (makers R b k)) ≡ step_stamp c (standing_steps ef (standing R)) n

formats_stamped : (R : List Record) (d : ℕ) (c : Counted) (b k n : ℕ) (bytes : List ℕ) → Stamped R c b k n bytes → StampedAfter R (Formats d) c b k n bytes
formats_stamped R d c b k n bytes s e =
    elim (cases_Bool (eqb d b)) [
      | inl y ↦
          let gone : row_in (first_counted c (changed_image (Formats d) b k (image R b k)) (changed_makers (Formats d) b k (makers R b k))) ≡ None = rw y refl in
          absurd (no_row n bytes _ gone e)
      | inr z ↦
          let stays = effect_stays R c b k (Formats d) z in
          let same : changed_makers (Formats d) b k (makers R b k) ≡ makers R b k = cond-false _ _ _ z in
          ap (made_stamp c) same ∙ s (sym stays ∙ e)
    ]

-- a step: by what is found after it
adds_stamped : (sh : Shape) (R : List Record) (st : Step) (c : Counted) (b k n : ℕ) (bytes : List ℕ) → EffectFits R (Adds st) → (seen c R b k ≡ Some (n, bytes) → made_stamp c (makers R b k) ≡ step_stamp c (standing R) n)
    → (row_in (first_counted c (changed_image (Adds st) b k (image R b k)) (changed_makers (Adds st) b k (makers R b k))) ≡ Some (n, bytes) → located c (st ∷ standing R) n ≡ Some (b, k, bytes))
    → StampedAfter R (Adds st) c b k n bytes
adds_stamped sh R st c b k n bytes f s found e =
    let ss = standing R in
    elim (cases_Bool (c st.by st.undo)) [
      | inr off ↦
          let stays = effect_stays R c b k (Adds st) (off, f.old) in
          let skips : step_stamp c (st ∷ ss) n ≡ step_stamp c ss n = cond-false _ _ _ (and_left (c st.by st.undo) (eqb st.row n) off) in
          skip_made c st 0 st.parts b k (makers R b k) off ∙ s (sym stays ∙ e) ∙ sym skips
      | inl on ↦ elim (cases_Bool (is_named st.parts b k)) [
        | inl y ↦
            let w = head_named st 0 st.parts b k (makers R b k) y in
            let written : row_in (first_counted c (changed_image (Adds st) b k (image R b k)) (changed_makers (Adds st) b k (makers R b k))) ≡ row_in (placed_in (written st.parts) b k (image R b k)) =
            ap row_in (ap (first_counted c (placed_in (written st.parts) b k (image R b k))) w.list ∙ cond-true (c w.made.by w.made.undo) _ _ (ap₂ c w.by_is w.undo_is ∙ on)) in
            let r = f.new_rows b k (image R b k) (n, bytes) y (sym written ∙ e) in
            top_made c st 0 st.parts b k (makers R b k) on y ∙ sym (cond-true _ _ _ (and_from (c st.by st.undo) (eqb st.row n) on (eq-eqb st.row n (sym r.0))))
        | inr z ↦
            elim (cases_Bool (eqb st.row n)) [
              | inl q ↦
                  let here : place_of st.parts ≡ Some (b, k, bytes) = sym (cond-true _ _ _ (and_from (c st.by st.undo) (eqb st.row n) on q)) ∙ found e in
                  absurd (true≢false (sym (f.place b k bytes (image R b k) here).0 ∙ z))
              | inr q ↦
                  let off_slot : row_in (first_counted c (placed_in (written st.parts) b k (image R b k)) (made_by st 0 st.parts b k (makers R b k))) ≡ seen c R b k =
                  ap₂ (λ i ms. row_in (first_counted c i ms)) (new_left st.parts b k (image R b k) z) (off_named st 0 st.parts b k (makers R b k) z) in
                  let skips : step_stamp c (st ∷ ss) n ≡ step_stamp c ss n = cond-false _ _ _ (and_right (c st.by st.undo) (eqb st.row n) q) in
                  ap (made_stamp c) (off_named st 0 st.parts b k (makers R b k) z) ∙ s (sym off_slot ∙ e) ∙ sym skips
            ]
      ]
    ]
  where
    new_left : (ps : List RowPart) (b k : ℕ) (i : Slot) → is_named ps b k ≡ false → placed_in (written ps) b k i ≡ i
    new_left [] b k i z = refl
    new_left (p ∷ ps) b k i z = elim (cases_Bool (is_place p.dba p.slot b k)) [ inl y ↦ absurd (true≢false (sym (ap (λ v. v || is_named ps b k) y) ∙ z)) | inr m ↦ cond-false _ _ _ m ∙ new_left ps b k i (sym (ap (λ v. v || is_named ps b k) m) ∙ z) ]

takes_back_stamped : (R : List Record) (body : BackRecord) (c : Counted) (b k n : ℕ) (bytes : List ℕ) → BackFits R body → Held (is_active R) (txn_count R) (standing R) (makers R)
    → ((d : Counted) → IsClosed d (is_active R) (standing R) → Stamped R d b k n bytes)
    → IsClosed c (is_active R) (without_step body.undo (standing R)) → StampedAfter R (TakesBack body) c b k n bytes
takes_back_stamped R body c b k n bytes f h s closed e =
    let ss = standing R in let a = body.undo in let v = body.txn in
    let t : Tops a v ss = subst (λ x. Tops x v ss) (sym f.undo) (tops ss v f.step h.distinct f.newest) in
    let once = s (but c a) (closed_but c (is_active R) a v ss f.active t closed) in
    let o = own_newest ss v f.step f.newest in
    let whole : OnTop (f.step ∷ o.0) (makers R) = subst (λ us. OnTop us (makers R)) o.1 (h.top v f.active) in
    let off : but c a f.step.by f.step.undo ≡ false = and_right (c f.step.by f.step.undo) _ (ap not (ap (is_addr f.step.undo) f.undo ∙ addr_self f.step.undo)) in
    let stays = ap row_in (counted_but c a (placed_in (restored body.parts) b k (image R b k)) (makers R b k)) ∙ effect_stays R (but c a) b k (TakesBack body) (f.step, off, whole.0, f.undo, f.restores) in
    stamp_without c a (makers R b k) ∙ once (sym stays ∙ e) ∙ sym (steps_without c a ss n)

effect_stamped : (sh : Shape) (R : List Record) (ef : Effect) (c : Counted) (b k n : ℕ) (bytes : List ℕ) → EffectFits R ef → Held (is_active R) (txn_count R) (standing R) (makers R)
    → ((d : Counted) → IsClosed d (is_active R) (standing R) → Stamped R d b k n bytes)
    → IsClosed c (is_active R) (standing_steps ef (standing R))
    → (row_in (first_counted c (changed_image ef b k (image R b k)) (changed_makers ef b k (makers R b k))) ≡ Some (n, bytes) → located c (standing_steps ef (standing R)) n ≡ Some (b, k, bytes))
    → StampedAfter R ef c b k n bytes
effect_stamped sh R Still c b k n bytes f h s closed found e = s c closed e
effect_stamped sh R (Formats d) c b k n bytes f h s closed found e = formats_stamped R d c b k n bytes (s c closed) e
effect_stamped sh R (Adds st) c b k n bytes f h s closed found e = adds_stamped sh R st c b k n bytes f (s c closed.2) found e
effect_stamped sh R (TakesBack body) c b k n bytes f h s closed found e = takes_back_stamped R body c b k n bytes f h s closed e
effect_stamped sh R (Cleans d cs) c b k n bytes f h s closed found e = s c closed (sym (effect_stays R c b k (Cleans d cs) tt) ∙ e)

pub stamped : (sh : Shape) (R : List Record) → IsFit sh R → (c : Counted) → IsClosed c (is_active R) (standing R) → (b k n : ℕ) (bytes : List ℕ) → Stamped R c b k n bytes
stamped sh [] h c closed b k n bytes = λ e. absurd (no_row n bytes _ refl e)
stamped sh (r ∷ R) h c closed b k n bytes =
    let g = good sh R h.0 in
    let t = turn sh R r h.2.kind in
    let after = effect_held R (effect_of r) h.1 g.held in
    effect_stamped sh R (effect_of r) c b k n bytes h.1 g.held (λ d x. stamped sh R h.0 d x b k n bytes) (closed_turn R r c (standing (r ∷ R)) t after.begun closed) (((good sh (r ∷ R) h).spread c closed b k n bytes).found)
