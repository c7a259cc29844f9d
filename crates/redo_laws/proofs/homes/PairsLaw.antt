-- Heads and bodies name each other in a lawful list.
use Rattle.std.proofs.Common.{◌≡◌, ℕ, zero, suc, Bool, true, false, cond, not, eqb, List, [], ◌∷◌, Option, Some, None, refl, sym, ◌∙◌, ap, subst, inl, inr, eqb-true, true≢false, eq-eqb}
use Rattle.seg_words.proofs.Lemmas.{cond-true, cases_Bool, and_from, and_right, or_left, or_right}
use Rattle.seg_words.specs.Types.{Shape, Kind, Empty, Row, Head, Body, Slot, is_empty, number_of_writer, as_told, clean_slot}
use Rattle.redo_model.specs.Records.{Record, RowPart, BackRecord, FormatBlock}
use Rattle.redo_model.specs.Model.{Step, Effect, effect_of, written, restored, part_addr, txn_count, is_active, is_addr, without_step, standing_steps, standing, is_place, placed_in, changed_image, image, Made, made_by, without, changed_makers, makers, first_counted, taken_back, IsKindAllowed, AreAllowed}
use Rattle.redo_model.specs.Effects.{Still, Formats, Adds, TakesBack, Cleans}
use Rattle.redo_laws.proofs.lists.Every.{Every, every-map}
use Rattle.redo_laws.proofs.steps.OnTop.{is_named, addr_self, OnTop}
use Rattle.redo_laws.proofs.steps.Facts.{Counted, StepFits, BackFits, EffectFits, IsClosed}
use Rattle.redo_laws.specs.Homes.{Names, HeadsNameBodies}
use Rattle.redo_laws.proofs.numbers.Known.{turn}
use Rattle.redo_laws.proofs.steps.Held.{Held, own_newest, Tops, tops, effect_held}
use Rattle.redo_laws.proofs.spread.Spread.{good, head_settled, but, closed_but, counted_but, closed_turn, head_over}
use Rattle.redo_laws.proofs.spread.Stays.{writes_stay, restores_stay}
use Rattle.redo_laws.proofs.space.Places.{format_first}
use Rattle.redo_laws.proofs.spread.Fitting.{Whole, all, closed_all, all_first}
use Rattle.redo_laws.proofs.spread.Whole.{record_fits, whole}
use Rattle.redo_laws.proofs.homes.Pairs.{Ties, Paired, is_tied, Loose, Like, like_same, like_eq, like_paired, loose_change, IsNow, KeepsPairs, EffectPairs, pairs_of}

-- the images that a choice of what counts gives
abbrev pub chosen : Counted → List Record → ℕ → ℕ → Slot
chosen c R b k = first_counted c (image R b k) (makers R b k)

abbrev pub PairsIn : List Record → Type 0
PairsIn R = (c : Counted) → IsClosed c (is_active R) (standing R) → Paired (chosen c R)

-- after an effect
abbrev chosen_after : Counted → List Record → Effect → ℕ → ℕ → Slot
chosen_after c R ef b k = first_counted c (changed_image ef b k (image R b k)) (changed_makers ef b k (makers R b k))

like_counted : (c : Counted) (i j : Slot) (ms : List Made) → Like i j → Like (first_counted c i ms) (first_counted c j ms)
like_counted c i j [] h = h
like_counted c i j (m ∷ ms) h = elim (c m.by m.undo) as (λ v. Like (cond v i (first_counted c m.old ms)) (cond v j (first_counted c m.old ms))) [ true ↦ h | false ↦ like_same (first_counted c m.old ms) ]

-- a step that counts lies over what counted before
counted_new : (c : Counted) (st : Step) (i : ℕ) (ps : List RowPart) (b k : ℕ) (im : Slot) (ms : List Made) → c st.by st.undo ≡ true → first_counted c (placed_in (written ps) b k im) (made_by st i ps b k ms) ≡ placed_in (written ps) b k (first_counted c im ms)
counted_new c st i [] b k im ms on = refl
counted_new c st i (p ∷ ps) b k im ms on =
    elim (is_place p.dba p.slot b k) as (λ v. first_counted c (cond v p.new (placed_in (written ps) b k im)) (cond v (record { by = st.by; undo = st.undo; part = part_addr st.undo i; old = p.old } ∷ ms) (made_by st (suc i) ps b k ms)) ≡ cond v p.new (placed_in (written ps) b k (first_counted c im ms))) [
      | true ↦ cond-true (c st.by st.undo) _ _ on
      | false ↦ counted_new c st (suc i) ps b k im ms on
    ]

each_named : (ps : List RowPart) → Every (λ (p : RowPart). is_named ps p.dba p.slot ≡ true) ps
each_named [] = tt
each_named (p ∷ ps) = (
  or_left _ _ (and_from (eqb p.dba p.dba) (eqb p.slot p.slot) (eq-eqb p.dba p.dba refl) (eq-eqb p.slot p.slot refl)),
  every-map _ _ ps (λ q h. or_right (is_place p.dba p.slot q.dba q.slot) _ h) (each_named ps),
)

pairs_adds : (R : List Record) (st : Step) (c : Counted) → StepFits R st → KeepsPairs R st.parts → Held (is_active R) (txn_count R) (standing R) (makers R) → PairsIn R → IsClosed c (is_active R) (st ∷ standing R) → Paired (chosen_after c R (Adds st))
pairs_adds R st c f keeps h pairs closed =
    elim (cases_Bool (c st.by st.undo)) [
      | inr off ↦ like_paired (chosen c R) (chosen_after c R (Adds st)) (λ b k. like_eq _ _ (sym (writes_stay c R st 0 st.parts b k (makers R b k) off f.old))) (pairs c closed.2)
      | inl on ↦
          let now : IsNow R (chosen c R) st.parts = every-map _ _ st.parts
          (λ p n. head_over c (is_active R) (standing R) st.by (image R p.dba p.slot) (makers R p.dba p.slot) (h.stand p.dba p.slot) closed.2 (closed.1 on) (f.slots_free p.dba p.slot n)) (each_named st.parts) in
          like_paired _ (chosen_after c R (Adds st)) (λ b k. like_eq _ _ (sym (counted_new c st 0 st.parts b k (image R b k) (makers R b k) on))) (keeps (chosen c R) now (pairs c closed.2))
    ]

pairs_back : (R : List Record) (t : BackRecord) (c : Counted) → BackFits R t → Held (is_active R) (txn_count R) (standing R) (makers R) → PairsIn R → IsClosed c (is_active R) (without_step t.undo (standing R)) → Paired (chosen_after c R (TakesBack t))
pairs_back R t c f h pairs closed =
    let ss = standing R in
    let a = t.undo in
    let tp : Tops a t.txn ss = subst (λ x. Tops x t.txn ss) (sym f.undo) (tops ss t.txn f.step h.distinct f.newest) in
    let was = pairs (but c a) (closed_but c (is_active R) a t.txn ss f.active tp closed) in
    let o = own_newest ss t.txn f.step f.newest in
    let top : OnTop (f.step ∷ o.0) (makers R) = subst (λ us. OnTop us (makers R)) o.1 (h.top t.txn f.active) in
    let off : but c a f.step.by f.step.undo ≡ false = and_right (c f.step.by f.step.undo) _ (ap not (ap (is_addr f.step.undo) f.undo ∙ addr_self f.step.undo)) in
    let lies : (b k : ℕ) → makers R b k ≡ made_by f.step 0 f.step.parts b k (without a (makers R b k)) = λ b k. top.0 b k ∙ ap (λ z. made_by f.step 0 f.step.parts b k (without z (makers R b k))) (sym f.undo) in
    like_paired (chosen (but c a) R) (chosen_after c R (TakesBack t)) (λ b k. like_eq _ _
    (ap (first_counted (but c a) (image R b k)) (lies b k)
    ∙ sym (restores_stay (but c a) (image R b k) f.step 0 f.step.parts b k (without a (makers R b k)) off)
    ∙ sym (counted_but c a (placed_in (restored (taken_back f.step.parts)) b k (image R b k)) (makers R b k))
    ∙ ap (λ ps. first_counted c (placed_in (restored ps) b k (image R b k)) (without a (makers R b k))) (sym f.restores))) was

head_loose : (c : Counted) (active : ℕ → Bool) (ss : List Step) (i : Slot) (ms : List Made) → first_counted c i ms ≡ i → is_empty i.kind ≡ true → Loose (first_counted c i ms)
head_loose c active ss i ms e h = ap (λ (x : Slot). is_tied x.kind) e ∙ go i.kind h
  where
    go : (k : Kind) → is_empty k ≡ true → is_tied k ≡ false
    go Empty e = refl
    go Row e = absurd (true≢false (sym e))
    go Head e = absurd (true≢false (sym e))
    go Body e = absurd (true≢false (sym e))

told_like : (i : Slot) (o : Option ℕ) → Like i (as_told i o)
told_like i None = like_same i
told_like i (Some zero) = record { kind = refl; row = refl; link = refl }
told_like i (Some (suc c)) = record { kind = refl; row = refl; link = refl }

clean_like : (cs : List (ℕ × ℕ)) (i : Slot) → Like i (clean_slot cs i)
clean_like cs i = told_like i (number_of_writer cs i.writer)

pairs_effect : (sh : Shape) (R : List Record) (ef : Effect) (c : Counted) → EffectFits R ef → EffectPairs R ef → (((d : ℕ) → ef ≡ Formats d → (k : ℕ) → is_empty (image R d k).kind ≡ true)) → Held (is_active R) (txn_count R) (standing R) (makers R) → PairsIn R → IsClosed c (is_active R) (standing_steps ef (standing R)) → Paired (chosen_after c R ef)
pairs_effect sh R Still c f x g h p closed = p c closed
pairs_effect sh R (Formats d) c f x g h p closed =
    loose_change (chosen c R) (chosen_after c R (Formats d)) (λ b k. elim (cases_Bool (eqb d b)) [
      | inl y ↦ inr (
        subst (λ z. Loose (chosen c R z k)) (eqb-true d b y) (head_loose c (is_active R) (standing R) (image R d k) (makers R d k) (head_settled c (is_active R) (standing R) (image R d k) (makers R d k) (h.stand d k) closed (f k).1) (g d refl k)),
        rw y refl,
      )
      | inr n ↦ inl (rw n refl)
    ]) (p c closed)
pairs_effect sh R (Adds st) c f x g h p closed = pairs_adds R st c f x h p closed
pairs_effect sh R (TakesBack t) c f x g h p closed = pairs_back R t c f h p closed
pairs_effect sh R (Cleans d cs) c f x g h p closed =
    like_paired (chosen c R) (chosen_after c R (Cleans d cs)) (λ b k. elim (eqb d b) as (λ v. Like (first_counted c (image R b k) (makers R b k)) (first_counted c (cond v (clean_slot cs (image R b k)) (image R b k)) (makers R b k))) [
      | true ↦ like_counted c (image R b k) (clean_slot cs (image R b k)) (makers R b k) (clean_like cs (image R b k))
      | false ↦ like_same _
    ]) (p c closed)

abbrev IsFormats : Effect → Type 0
IsFormats (Formats d) = Unit {0}
IsFormats _ = ⊥

formats_block : (sh : Shape) (R : List Record) (r : Record) → IsKindAllowed sh R r → Whole sh R → (d : ℕ) → effect_of r ≡ Formats d → (k : ℕ) → is_empty (image R d k).kind ≡ true
formats_block sh R (FormatBlock f) a w d e k =
    let same : f.dba ≡ d = (let x : Formats f.dba ≡ Formats d = e in cc) in
    subst (λ b. is_empty (image R b k).kind ≡ true) same (elim (w.homes f.dba) [
      | inl l ↦ absurd (true≢false (sym l.here.2 ∙ (format_first sh R f a).1))
      | inr x ↦ (x.vacant k).empty
    ])
formats_block sh R _ a w d e k = absurd (subst IsFormats (sym e) tt)

formats_empty : (sh : Shape) (R : List Record) (r : Record) → AreAllowed sh (r ∷ R) → (d : ℕ) → effect_of r ≡ Formats d → (k : ℕ) → is_empty (image R d k).kind ≡ true
formats_empty sh R r h = formats_block sh R r h.1.kind (whole sh R h.0)

pairs : (sh : Shape) (R : List Record) → AreAllowed sh R → PairsIn R
pairs sh [] h c closed = λ b k. record { head = λ e. absurd (let x : Empty ≡ Head = e in cc); body = λ e. absurd (let x : Empty ≡ Body = e in cc) }
pairs sh (r ∷ R) h c closed =
    let w = whole sh R h.0 in
    let f = record_fits sh R r h in
    let held = (good sh R w.fit).held in
    let after = effect_held R (effect_of r) f.effect held in
    pairs_effect sh R (effect_of r) c f.effect (pairs_of sh R r h.1.kind) (formats_empty sh R r h) held (pairs sh R h.0) (closed_turn R r c (standing (r ∷ R)) (turn sh R r h.1.kind) after.begun closed)

names : (R : List Record) (I : ℕ → ℕ → Slot) (o : Kind) (b k : ℕ) → ((c l : ℕ) → I c l ≡ image R c l) → Ties I o b k → Names R o b k
names R I o b k e t = record {
  block = t.block;
  slot = t.slot;
  link = ap (λ (i : Slot). i.link) (sym (e b k)) ∙ t.link;
  kind = ap (λ (i : Slot). i.kind) (sym (e t.block t.slot)) ∙ t.kind;
  row = ap (λ (i : Slot). i.row) (sym (e t.block t.slot)) ∙ t.row ∙ ap (λ (i : Slot). i.row) (e b k);
  back = ap (λ (i : Slot). i.link) (sym (e t.block t.slot)) ∙ t.back;
}

pub heads_name_bodies : HeadsNameBodies
heads_name_bodies sh R b k h =
    let p = pairs sh R h all (closed_all (is_active R) (standing R)) b k in
    let now : (c l : ℕ) → chosen all R c l ≡ image R c l = λ c l. all_first (image R c l) (makers R c l) in
    record {
      head = λ e. names R (chosen all R) Body b k now (p.head (ap (λ (i : Slot). i.kind) (now b k) ∙ e));
      body = λ e. names R (chosen all R) Head b k now (p.body (ap (λ (i : Slot). i.kind) (now b k) ∙ e));
    }
