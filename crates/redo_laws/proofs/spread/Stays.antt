-- The row that a slot gives stays where an effect that doesn't count is added.
use Rattle.std.proofs.Common.{◌≡◌, ℕ, zero, suc, Bool, true, false, cond, eqb, List, [], ◌∷◌, Option, Some, None, refl, sym, ◌∙◌, ap, ap₂, eqb-true}
use Rattle.seg_words.proofs.Lemmas.{cond-false, and_parts}
use Rattle.seg_words.specs.Types.{Slot, UndoAddr, Writer, as_told, number_of_writer, clean_slot}
use Rattle.redo_model.specs.Records.{Record, RowPart}
use Rattle.redo_model.specs.Model.{Step, Effect, written, restored, part_addr, is_place, placed_in, changed_image, image, Made, made_by, without, changed_makers, makers, first_counted, row_in, taken_back}
use Rattle.redo_model.specs.Effects.{Still, Formats, Adds, TakesBack, Cleans}
use Rattle.redo_laws.proofs.steps.Facts.{StatesOld, seen}

-- the parts of a step lie on top of each slot that they name, and nowhere else
abbrev pub IsOnTop : List Record → Step → Type 0
IsOnTop R st = (b k : ℕ) → makers R b k ≡ made_by st 0 st.parts b k (without st.undo (makers R b k))

pub same_counted : (c d : Writer → UndoAddr → Bool) (i : Slot) (ms : List Made) → ((w : Writer) (a : UndoAddr) → c w a ≡ d w a) → first_counted c i ms ≡ first_counted d i ms
same_counted c d i [] h = refl
same_counted c d i (m ∷ ms) h = ap₂ (λ v j. cond v i j) (h m.by m.undo) (same_counted c d m.old ms h)

-- a step that doesn't count, on top of the image that it replaced
pub writes_stay : (c : Writer → UndoAddr → Bool) (R : List Record) (st : Step) (i : ℕ) (ps : List RowPart) (b k : ℕ) (ms : List Made) → c st.by st.undo ≡ false → StatesOld R ps → first_counted c (placed_in (written ps) b k (image R b k)) (made_by st i ps b k ms) ≡ first_counted c (image R b k) ms
writes_stay c R st i [] b k ms off old = refl
writes_stay c R st i (p ∷ ps) b k ms off old =
    (elim (is_place p.dba p.slot b k) as (λ v. is_place p.dba p.slot b k ≡ v → first_counted c (cond v p.new (placed_in (written ps) b k (image R b k))) (cond v (record { by = st.by; undo = st.undo; part = part_addr st.undo i; old = p.old } ∷ ms) (made_by st (suc i) ps b k ms)) ≡ first_counted c (image R b k) ms) [
      | true ↦ λ e. let q = and_parts (eqb p.dba b) (eqb p.slot k) e in
          cond-false _ _ _ off ∙ ap (λ j. first_counted c j ms) (old.0 ∙ ap₂ (image R) (eqb-true p.dba b q.0) (eqb-true p.slot k q.1))
      | false ↦ λ _. writes_stay c R st (suc i) ps b k ms off old.1
    ]) refl

-- what is taken back didn't count
pub restores_stay : (c : Writer → UndoAddr → Bool) (i : Slot) (st : Step) (n : ℕ) (ps : List RowPart) (b k : ℕ) (ms : List Made) → c st.by st.undo ≡ false → first_counted c (placed_in (restored (taken_back ps)) b k i) ms ≡ first_counted c i (made_by st n ps b k ms)
restores_stay c i st n [] b k ms off = refl
restores_stay c i st n (p ∷ ps) b k ms off =
    elim (is_place p.dba p.slot b k) as (λ v. first_counted c (cond v p.old (placed_in (restored (taken_back ps)) b k i)) ms ≡ first_counted c i (cond v (record { by = st.by; undo = st.undo; part = part_addr st.undo n; old = p.old } ∷ ms) (made_by st (suc n) ps b k ms))) [
      | true ↦ sym (cond-false _ _ _ off)
      | false ↦ restores_stay c i st (suc n) ps b k ms off
    ]

-- an image with the same row gives the same row
pub same_row : (c : Writer → UndoAddr → Bool) (i j : Slot) (ms : List Made) → row_in i ≡ row_in j → row_in (first_counted c i ms) ≡ row_in (first_counted c j ms)
same_row c i j [] h = h
same_row c i j (m ∷ ms) h = elim (c m.by m.undo) as (λ v. row_in (cond v i (first_counted c m.old ms)) ≡ row_in (cond v j (first_counted c m.old ms))) [ true ↦ h | false ↦ refl ]

committed_row : (i : Slot) (n : Option ℕ) → row_in (as_told i n) ≡ row_in i
committed_row i None = refl
committed_row i (Some zero) = refl
committed_row i (Some (suc n)) = refl

pub clean_row : (cs : List (ℕ × ℕ)) (i : Slot) → row_in (clean_slot cs i) ≡ row_in i
clean_row cs i = committed_row i (number_of_writer cs i.writer)

-- what the kind of record has to give for each effect
abbrev pub MayStay : List Record → (Writer → UndoAddr → Bool) → ℕ → ℕ → Effect → Type 0
MayStay R c b k Still = Unit {0}
MayStay R c b k (Formats d) = eqb d b ≡ false
MayStay R c b k (Adds st) = (c st.by st.undo ≡ false) × StatesOld R st.parts
MayStay R c b k (TakesBack body) = (st : Step) × (c st.by st.undo ≡ false) × IsOnTop R st × (body.undo ≡ st.undo) × (body.parts ≡ taken_back st.parts)
MayStay R c b k (Cleans d cs) = Unit {0}

pub effect_stays : (R : List Record) (c : Writer → UndoAddr → Bool) (b k : ℕ) (ef : Effect) → MayStay R c b k ef → row_in (first_counted c (changed_image ef b k (image R b k)) (changed_makers ef b k (makers R b k))) ≡ seen c R b k
effect_stays R c b k Still h = refl
effect_stays R c b k (Formats d) h = rw h refl
effect_stays R c b k (Adds st) h = ap row_in (writes_stay c R st 0 st.parts b k (makers R b k) h.0 h.1)
effect_stays R c b k (TakesBack body) h =
    let ms = without body.undo (makers R b k) in
    let lies : makers R b k ≡ made_by h.0 0 h.0.parts b k ms = h.2 b k ∙ ap (λ a. made_by h.0 0 h.0.parts b k (without a (makers R b k))) (sym h.3) in
    ap row_in (ap (λ ps. first_counted c (placed_in (restored ps) b k (image R b k)) ms) h.4 ∙ restores_stay c (image R b k) h.0 0 h.0.parts b k ms h.1 ∙ ap (first_counted c (image R b k)) (sym lies))
effect_stays R c b k (Cleans d cs) h = elim (eqb d b) as (λ v. row_in (first_counted c (cond v (clean_slot cs (image R b k)) (image R b k)) (makers R b k)) ≡ seen c R b k) [ true ↦ same_row c _ _ (makers R b k) (clean_row cs (image R b k)) | false ↦ refl ]
