-- The images of a slot after a step and after a taking back, and that every record names a table that is there.
use Rattle.std.proofs.Common.{◌≡◌, ℕ, suc, ◌≤◌, true, false, cond, ◌||◌, eqb, List, [], ◌∷◌, map, Option, Some, None, refl, sym, ◌∙◌, ap, ap₂, subst, arith, le_trans, le_refl, eqb-true, true≢false}
use Rattle.seg_words.proofs.Lemmas.{and_parts}
use Rattle.seg_words.specs.Types.{Shape, Slot}
use Rattle.redo_model.specs.Records.{Record, RowPart, BackRecord, Table, Insert, Update, Migrate, Return, Delete, Move, Back}
use Rattle.redo_model.specs.Model.{Step, Effect, effect_of, written, restored, part_addr, txn_count, is_active, is_by, standing_steps, standing, newest_of, is_place, placed_in, changed_image, image, Made, made_by, without, changed_makers, makers, taken_back, IsKindAllowed, AreAllowed, images, IsTable, table_count}
use Rattle.redo_model.specs.Effects.{Still, Formats, Adds, TakesBack, Cleans}
use Rattle.redo_laws.proofs.lists.Every.{Every, every-map, every-filter}
use Rattle.redo_laws.proofs.steps.OnTop.{is_named, off_named, OnTop}
use Rattle.redo_laws.proofs.steps.Facts.{StatesOld, BackFits, EffectFits}
use Rattle.redo_laws.specs.Added.{names_slot, ImagesAdded, ImagesBack, ImagesAfter, ImagesAfterSteps}
use Rattle.redo_laws.specs.Tables.{RecordsNameTables, table_of}
use Rattle.redo_laws.proofs.steps.Adding.{named}
use Rattle.redo_laws.proofs.steps.Held.{Held, own_newest}
use Rattle.redo_laws.proofs.spread.Spread.{good}
use Rattle.redo_laws.proofs.homes.Homes.{new_left, old_left}
use Rattle.redo_laws.proofs.spread.Whole.{record_fits, whole}

abbrev olds : List Made → List Slot
olds ms = map (λ (m : Made). m.old) ms

names_same : (ps : List RowPart) (b k : ℕ) → names_slot ps b k ≡ is_named ps b k
names_same [] b k = refl
names_same (p ∷ ps) b k = ap (λ v. is_place p.dba p.slot b k || v) (names_same ps b k)

-- what a step puts over the image that it states
olds_made : (R : List Record) (st : Step) (i : ℕ) (ps : List RowPart) (b k : ℕ) (ms : List Made) → StatesOld R ps → is_named ps b k ≡ true → olds (made_by st i ps b k ms) ≡ image R b k ∷ olds ms
olds_made R st i [] b k ms o h = absurd (true≢false (sym h))
olds_made R st i (p ∷ ps) b k ms o h =
    (elim (is_place p.dba p.slot b k) as (λ v. is_place p.dba p.slot b k ≡ v → (v || is_named ps b k) ≡ true → olds (cond v (record { by = st.by; undo = st.undo; part = part_addr st.undo i; old = p.old } ∷ ms) (made_by st (suc i) ps b k ms)) ≡ image R b k ∷ olds ms) [
      | true ↦ λ e x. let q = and_parts (eqb p.dba b) (eqb p.slot k) e in ap (λ (y : Slot). y ∷ olds ms) (o.0 ∙ ap₂ (image R) (eqb-true p.dba b q.0) (eqb-true p.slot k q.1))
      | false ↦ λ e x. olds_made R st (suc i) ps b k ms o.1 x
    ]) refl h

images_left : (i j : Slot) (ms ns : List Made) → i ≡ j → ms ≡ ns → ◌≡◌ {A = List Slot} (i ∷ olds ms) (j ∷ olds ns)
images_left i j ms ns e f = ap₂ (λ (x : Slot) (xs : List Made). x ∷ olds xs) e f

added : (R : List Record) (r : Record) (st : Step) (b k : ℕ) → StatesOld R st.parts
    → images (r ∷ R) b k ≡ placed_in (written st.parts) b k (image R b k) ∷ olds (made_by st 0 st.parts b k (makers R b k)) → ImagesAdded R r st b k
added R r st b k o e = record {
  named = λ n. e ∙ ap (λ (xs : List Slot). placed_in (written st.parts) b k (image R b k) ∷ xs) (olds_made R st 0 st.parts b k (makers R b k) o (sym (names_same st.parts b k) ∙ n));
  left = λ n. let m : is_named st.parts b k ≡ false = sym (names_same st.parts b k) ∙ n in e ∙ images_left _ _ _ _ (new_left st.parts b k (image R b k) m) (off_named st 0 st.parts b k (makers R b k) m);
}

-- the image that a taking back uncovers, over those below
back_made : (st : Step) (i : ℕ) (ps : List RowPart) (b k : ℕ) (im : Slot) (ms : List Made) → is_named ps b k ≡ true → olds (made_by st i ps b k ms) ≡ placed_in (restored (taken_back ps)) b k im ∷ olds ms
back_made st i [] b k im ms h = absurd (true≢false (sym h))
back_made st i (p ∷ ps) b k im ms h =
    (elim (is_place p.dba p.slot b k) as (λ v. (v || is_named ps b k) ≡ true → olds (cond v (record { by = st.by; undo = st.undo; part = part_addr st.undo i; old = p.old } ∷ ms) (made_by st (suc i) ps b k ms)) ≡ cond v p.old (placed_in (restored (taken_back ps)) b k im) ∷ olds ms) [
      | true ↦ λ x. refl
      | false ↦ λ x. back_made st (suc i) ps b k im ms x
    ]) h

same_step : (x y : Step) → ◌≡◌ {A = Option Step} (Some x) (Some y) → x ≡ y
same_step x y e = cc

backed : (R : List Record) (r : Record) (t : BackRecord) (b k : ℕ) → BackFits R t → Held (is_active R) (txn_count R) (standing R) (makers R)
    → images (r ∷ R) b k ≡ placed_in (restored t.parts) b k (image R b k) ∷ olds (without t.undo (makers R b k)) → (st : Step) → newest_of (standing R) t.txn ≡ Some st → ImagesBack R r st b k
backed R r t b k f h e st n =
    let s = f.step in
    let o = own_newest (standing R) t.txn s f.newest in
    let top : OnTop (s ∷ o.0) (makers R) = subst (λ us. OnTop us (makers R)) o.1 (h.top t.txn f.active) in
    let lies : makers R b k ≡ made_by s 0 s.parts b k (without t.undo (makers R b k)) = top.0 b k ∙ ap (λ z. made_by s 0 s.parts b k (without z (makers R b k))) (sym f.undo) in
    let after : images (r ∷ R) b k ≡ placed_in (restored (taken_back s.parts)) b k (image R b k) ∷ olds (without t.undo (makers R b k)) = e ∙ ap (λ ps. placed_in (restored ps) b k (image R b k) ∷ olds (without t.undo (makers R b k))) f.restores in
    let mine : ImagesBack R r s b k = record {
      named = λ x. ap (λ (xs : List Slot). image R b k ∷ xs) (ap olds lies ∙ back_made s 0 s.parts b k (image R b k) (without t.undo (makers R b k)) (sym (names_same s.parts b k) ∙ x) ∙ sym after);
      left = λ x. let m : is_named s.parts b k ≡ false = sym (names_same s.parts b k) ∙ x in
          after ∙ images_left _ _ _ _ (old_left s.parts b k (image R b k) m) (sym (lies ∙ off_named s 0 s.parts b k (without t.undo (makers R b k)) m));
    } in
    subst (λ z. ImagesBack R r z b k) (same_step s st (sym f.newest ∙ n)) mine

images_of : (sh : Shape) (R : List Record) (r : Record) (ef : Effect) (b k : ℕ) → EffectFits R ef → Held (is_active R) (txn_count R) (standing R) (makers R)
    → images (r ∷ R) b k ≡ changed_image ef b k (image R b k) ∷ olds (changed_makers ef b k (makers R b k)) → ImagesAfter ef R r b k
images_of sh R r Still b k f h e = tt
images_of sh R r (Formats d) b k f h e = tt
images_of sh R r (Adds st) b k f h e = added R r st b k f.old e
images_of sh R r (TakesBack t) b k f h e = backed R r t b k f h e
images_of sh R r (Cleans d cs) b k f h e = tt

pub images_after_steps : ImagesAfterSteps
images_after_steps sh R r b k h = images_of sh R r (effect_of r) b k (record_fits sh R r h).effect (good sh R (whole sh R h.0).fit).held refl

-- tables that are there

tables_more : (R : List Record) (r : Record) → table_count R ≤ table_count (r ∷ R)
tables_more R (Table t) = omega arith
tables_more R _ = le_refl (table_count R)

table_stays : (R : List Record) (r : Record) (o : ℕ) → IsTable R o → IsTable (r ∷ R) o
table_stays R r o t = record { least = t.least; most = le_trans t.most (tables_more R r) }

abbrev StepTables : List Record → List Step → Type 0
StepTables R ss = Every (λ (s : Step). IsTable R s.obj) ss

tables_later : (R : List Record) (r : Record) (ss : List Step) → StepTables R ss → StepTables (r ∷ R) ss
tables_later R r ss h = every-map _ _ ss (λ s x. table_stays R r s.obj x) h

abbrev EffectTable : List Record → Effect → Type 0
EffectTable R (Adds st) = IsTable R st.obj
EffectTable R _ = Unit {0}

effect_table : (sh : Shape) (R : List Record) (r : Record) → IsKindAllowed sh R r → EffectTable R (effect_of r)
effect_table sh R (Insert w) a = named sh R (Insert w) w.obj a refl
effect_table sh R (Update w) a = named sh R (Update w) w.obj a refl
effect_table sh R (Migrate w) a = named sh R (Migrate w) w.obj a refl
effect_table sh R (Return w) a = named sh R (Return w) w.obj a refl
effect_table sh R (Delete w) a = named sh R (Delete w) w.obj a refl
effect_table sh R (Move m) a = named sh R (Move m) m.obj a refl
effect_table sh R _ a = tt

tables_effect : (R : List Record) (ef : Effect) (ss : List Step) → EffectTable R ef → StepTables R ss → StepTables R (standing_steps ef ss)
tables_effect R Still ss f h = h
tables_effect R (Formats d) ss f h = h
tables_effect R (Adds st) ss f h = (f, h)
tables_effect R (TakesBack t) ss f h = every-filter _ _ ss h
tables_effect R (Cleans d cs) ss f h = h

step_tables : (sh : Shape) (R : List Record) → AreAllowed sh R → StepTables R (standing R)
step_tables sh [] h = tt
step_tables sh (r ∷ R) h = tables_later R r (standing (r ∷ R)) (tables_effect R (effect_of r) (standing R) (effect_table sh R r h.1.kind) (step_tables sh R h.0))

newest_table : (R : List Record) (ss : List Step) (u : ℕ) (st : Step) → newest_of ss u ≡ Some st → StepTables R ss → IsTable R st.obj
newest_table R [] u st e h = absurd (let x : ◌≡◌ {A = Option Step} None (Some st) = e in cc)
newest_table R (s ∷ ss) u st e h =
    (elim (is_by s.by u) as (λ v. cond v (Some s) (newest_of ss u) ≡ Some st → IsTable R st.obj) [
      | true ↦ λ f. let same : s ≡ st = cc in subst (λ (z : Step). IsTable R z.obj) same h.0
      | false ↦ λ f. newest_table R ss u st f h.1
    ]) e

one_table : (sh : Shape) (R : List Record) (r : Record) (o : ℕ) → AreAllowed sh R → IsKindAllowed sh R r → table_of r ≡ Some o → IsTable R o
one_table sh R (Back k) o h a e =
    let t = newest_table R (standing R) k.txn a.step a.newest (step_tables sh R h) in
    let same : k.obj ≡ o = (let x : ◌≡◌ {A = Option ℕ} (Some k.obj) (Some o) = e in cc) in
    subst (IsTable R) (sym a.obj ∙ same) t
one_table sh R r o h a e = named sh R r o a e

pub records_name_tables : RecordsNameTables
records_name_tables sh R r o h e = one_table sh R r o h.0 h.1.kind e
