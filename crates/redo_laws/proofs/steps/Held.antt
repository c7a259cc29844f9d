-- What every list keeps in which each effect fits.
use Rattle.std.proofs.Common.{◌≡◌, ℕ, suc, Bool, true, false, cond, not, eqb, List, [], ◌∷◌, Option, Some, None, filter, refl, sym, ◌∙◌, ap, subst, ◌⊎◌, inl, inr, eqb-true, true≢false, eq-eqb}
use Rattle.seg_words.proofs.Lemmas.{eqb-false, cases_Bool}
use Rattle.seg_words.specs.Types.{UndoAddr, Writer, By, At}
use Rattle.redo_model.specs.Records.{Record, RowPart}
use Rattle.redo_model.specs.Model.{Step, Effect, part_addr, txn_count, is_active, is_addr, is_by, without_step, standing_steps, standing, newest_of, is_place, Made, made_by, without, changed_makers, makers}
use Rattle.redo_model.specs.Effects.{Still, Formats, Adds, TakesBack, Cleans}
use Rattle.redo_laws.specs.Economy.{EachStep}
use Rattle.redo_laws.proofs.lists.Every.{Every, every-map, every-filter, filter-all, filter-swap}
use Rattle.redo_laws.proofs.steps.OnTop.{addr_self, addr_same, without_own, off_none, OnTop, on_top_same, on_top_adds, on_top_without, on_top_formats}
use Rattle.redo_laws.proofs.steps.Facts.{MayOver, HeadOver, BegunBy, HeadSettled, EffectFits}

abbrev pub Distinct : List Step → Type 0
Distinct [] = Unit {0}
Distinct (st ∷ ss) = Every (λ (s : Step). is_addr s.undo st.undo ≡ false) ss × Distinct ss

abbrev pub Stands : List Step → Writer → UndoAddr → Type 0
Stands [] w a = ⊥
Stands (s ∷ ss) w a = ((s.by ≡ w) × (s.undo ≡ a)) ⊎ Stands ss w a

abbrev pub own : ℕ → List Step → List Step
own u ss = filter (λ (s : Step). is_by s.by u) ss

-- of the active, how many began, the steps that stand, and the makers of each slot
pub record Held (active : ℕ → Bool) (n : ℕ) (ss : List Step) (ms : ℕ → ℕ → List Made) : Type 0 where
  pub begun : Every (λ (s : Step). BegunBy n s.by) ss
  pub distinct : Distinct ss
  pub stand : (b k : ℕ) → Every (λ (m : Made). Stands ss m.by m.undo) (ms b k)
  pub top : (u : ℕ) → active u ≡ true → OnTop (own u ss) ms

pub by_is : (w : Writer) (u : ℕ) → is_by w u ≡ true → w ≡ By u
by_is (By v) u h = ap By (eqb-true v u h)
by_is (At m) u h = absurd (true≢false (sym h))

is_by_self : (w : Writer) (u : ℕ) → w ≡ By u → is_by w u ≡ true
is_by_self w u e = subst (λ x. is_by x u ≡ true) (sym e) (eq-eqb u u refl)

every-own : (u : ℕ) (P : Step → Type 0) (ss : List Step) → Every P ss → Every (λ (s : Step). (s.by ≡ By u) × P s) (own u ss)
every-own u P [] h = tt
every-own u P (s ∷ ss) h =
    (elim (is_by s.by u) as (λ v. is_by s.by u ≡ v → Every (λ (s : Step). (s.by ≡ By u) × P s) (cond v (s ∷ own u ss) (own u ss))) [
      | true ↦ λ e. ((by_is s.by u e, h.0), every-own u P ss h.1)
      | false ↦ λ _. every-own u P ss h.1
    ]) refl

every-true : (ss : List Step) → Every (λ (s : Step). Unit {0}) ss
every-true [] = tt
every-true (s ∷ ss) = (tt, every-true ss)

stands_apart : (ss : List Step) (w : Writer) (x a : UndoAddr) → Stands ss w x → Every (λ (s : Step). is_addr s.undo a ≡ false) ss → is_addr x a ≡ false
stands_apart [] w x a h f = absurd h
stands_apart (s ∷ ss) w x a h f = elim h [ inl y ↦ subst (λ z. is_addr z a ≡ false) y.1 f.0 | inr z ↦ stands_apart ss w x a z f.1 ]

made_stand : (ss : List Step) (st : Step) (i : ℕ) (ps : List RowPart) (b k : ℕ) (ms : List Made) → Every (λ (m : Made). Stands ss m.by m.undo) ms → Every (λ (m : Made). Stands (st ∷ ss) m.by m.undo) (made_by st i ps b k ms)
made_stand ss st i [] b k ms h = every-map _ _ ms (λ m x. inr x) h
made_stand ss st i (p ∷ ps) b k ms h =
    elim (is_place p.dba p.slot b k) as (λ v. Every (λ (m : Made). Stands (st ∷ ss) m.by m.undo) (cond v (record { by = st.by; undo = st.undo; part = part_addr st.undo i; old = p.old } ∷ ms) (made_by st (suc i) ps b k ms))) [
      | true ↦ (inl (refl, refl), every-map _ _ ms (λ m x. inr x) h)
      | false ↦ made_stand ss st (suc i) ps b k ms h
    ]

pub distinct_filter : (f : Step → Bool) (ss : List Step) → Distinct ss → Distinct (filter f ss)
distinct_filter f [] h = tt
distinct_filter f (s ∷ ss) h = elim (f s) as (λ v. Distinct (cond v (s ∷ filter f ss) (filter f ss))) [ true ↦ (every-filter _ f ss h.0, distinct_filter f ss h.1) | false ↦ distinct_filter f ss h.1 ]

stands_without : (ss : List Step) (w : Writer) (x a : UndoAddr) → is_addr x a ≡ false → Stands ss w x → Stands (without_step a ss) w x
stands_without [] w x a n h = h
stands_without (s ∷ ss) w x a n h =
    (elim (is_addr s.undo a) as (λ v. is_addr s.undo a ≡ v → Stands (cond (not v) (s ∷ without_step a ss) (without_step a ss)) w x) [
      | true ↦ λ e. elim h [ inl y ↦ absurd (true≢false (sym e ∙ ap (λ z. is_addr z a) y.1 ∙ n)) | inr z ↦ stands_without ss w x a n z ]
      | false ↦ λ e. elim h [ inl y ↦ inl y | inr z ↦ inr (stands_without ss w x a n z) ]
    ]) refl

makers_without : (ss : List Step) (a : UndoAddr) (ms : List Made) → Every (λ (m : Made). Stands ss m.by m.undo) ms → Every (λ (m : Made). Stands (without_step a ss) m.by m.undo) (without a ms)
makers_without ss a [] h = tt
makers_without ss a (m ∷ ms) h =
    (elim (is_addr m.undo a) as (λ v. is_addr m.undo a ≡ v → Every (λ (m : Made). Stands (without_step a ss) m.by m.undo) (cond (not v) (m ∷ without a ms) (without a ms))) [
      | true ↦ λ _. makers_without ss a ms h.1
      | false ↦ λ e. (stands_without ss m.by m.undo a e h.0, makers_without ss a ms h.1)
    ]) refl

-- the newest step of a transaction

pub own_newest : (ss : List Step) (u : ℕ) (st : Step) → newest_of ss u ≡ Some st → (us : List Step) × (own u ss ≡ st ∷ us)
own_newest [] u st h = absurd (let x : ◌≡◌ {A = Option Step} None (Some st) = h in cc)
own_newest (x ∷ ss) u st h =
    (elim (is_by x.by u) as (λ v. cond v (Some x) (newest_of ss u) ≡ Some st → (us : List Step) × (cond v (x ∷ own u ss) (own u ss) ≡ st ∷ us)) [
      | true ↦ λ e. let same : x ≡ st = cc in (own u ss, ap (λ y. y ∷ own u ss) same)
      | false ↦ λ e. own_newest ss u st e
    ]) h

newest_every : (P : Step → Type 0) (ss : List Step) (u : ℕ) (st : Step) → newest_of ss u ≡ Some st → Every P ss → P st
newest_every P [] u st h f = absurd (let x : ◌≡◌ {A = Option Step} None (Some st) = h in cc)
newest_every P (x ∷ ss) u st h f =
    (elim (is_by x.by u) as (λ v. cond v (Some x) (newest_of ss u) ≡ Some st → P st) [
      | true ↦ λ e. let same : x ≡ st = cc in subst P same f.0
      | false ↦ λ e. newest_every P ss u st e f.1
    ]) h

-- its undo address is its own, and no later step of the transaction is newer
abbrev pub Tops : UndoAddr → ℕ → List Step → Type 0
Tops a v [] = Unit {0}
Tops a v (s ∷ ss) = (is_addr s.undo a ≡ true → is_by s.by v ≡ true) × (is_by s.by v ≡ true → Every (λ (x : Step). is_addr x.undo a ≡ false) ss) × Tops a v ss

tops_none : (a : UndoAddr) (v : ℕ) (ss : List Step) → Every (λ (x : Step). is_addr x.undo a ≡ false) ss → Tops a v ss
tops_none a v [] h = tt
tops_none a v (s ∷ ss) h = (λ e. absurd (true≢false (sym e ∙ h.0)), λ _. h.1, tops_none a v ss h.1)

pub tops : (ss : List Step) (v : ℕ) (st : Step) → Distinct ss → newest_of ss v ≡ Some st → Tops st.undo v ss
tops [] v st d h = tt
tops (x ∷ ss) v st d h =
    (elim (is_by x.by v) as (λ w. is_by x.by v ≡ w → cond w (Some x) (newest_of ss v) ≡ Some st → Tops st.undo v (x ∷ ss)) [
      | true ↦ λ i e. let same : x ≡ st = cc in
          let rest : Every (λ (y : Step). is_addr y.undo st.undo ≡ false) ss = subst (λ (z : Step). Every (λ (y : Step). is_addr y.undo z.undo ≡ false) ss) same d.0 in
          (λ _. i, λ _. rest, tops_none st.undo v ss rest)
      | false ↦ λ i e. (
        (λ same. absurd (true≢false (sym (addr_self x.undo) ∙ ap (λ z. is_addr z x.undo) (addr_same x.undo st.undo same) ∙ newest_every (λ (y : Step). is_addr y.undo x.undo ≡ false) ss v st e d.0))),
        (λ j. absurd (true≢false (sym j ∙ i))),
        tops ss v st d.1 e,
      )
    ]) refl h

pub others_own : (a : UndoAddr) (v u : ℕ) (ss : List Step) → (u ≡ v → ⊥) → Tops a v ss → Every (λ (s : Step). is_addr s.undo a ≡ false) (own u ss)
others_own a v u [] ne h = tt
others_own a v u (s ∷ ss) ne h =
    (elim (is_by s.by u) as (λ w. is_by s.by u ≡ w → Every (λ (s : Step). is_addr s.undo a ≡ false) (cond w (s ∷ own u ss) (own u ss))) [
      | true ↦ λ e. (elim (cases_Bool (is_addr s.undo a)) [ inl y ↦ absurd (ne (let p = by_is s.by u e in let q = by_is s.by v (h.0 y) in let r : By u ≡ By v = sym p ∙ q in cc)) | inr f ↦ f ], others_own a v u ss ne h.2)
      | false ↦ λ _. others_own a v u ss ne h.2
    ]) refl

-- each effect keeps it
pub effect_held : (R : List Record) (ef : Effect) → EffectFits R ef → Held (is_active R) (txn_count R) (standing R) (makers R) → Held (is_active R) (txn_count R) (standing_steps ef (standing R)) (λ b k. changed_makers ef b k (makers R b k))
effect_held R Still f h = h
effect_held R (Cleans d cs) f h = h
effect_held R (Formats d) f h = record {
  begun = h.begun;
  distinct = h.distinct;
  stand = λ b k. elim (eqb d b) as (λ v. Every (λ (m : Made). Stands (standing R) m.by m.undo) (cond v [] (makers R b k))) [ true ↦ tt | false ↦ h.stand b k ];
  top = λ u on. on_top_formats (own u (standing R)) u d (makers R) (every-map _ _ _ (λ s x. x.0) (every-own u _ (standing R) (every-true (standing R))))
      (λ k m rest e by. let s : HeadSettled (is_active R) (m ∷ rest) = subst (HeadSettled (is_active R)) e (f k).1 in true≢false (sym on ∙ s u by)) (h.top u on);
}
effect_held R (Adds st) f h =
    let ss = standing R in let a = st.undo in
    let off : (b k : ℕ) → without a (makers R b k) ≡ makers R b k = λ b k. off_none a (makers R b k) (every-map _ _ _ (λ m x. stands_apart ss m.by m.undo a x f.fresh) (h.stand b k)) in
    let back : (b k : ℕ) → without a (made_by st 0 st.parts b k (makers R b k)) ≡ makers R b k = λ b k. without_own st 0 st.parts b k (makers R b k) ∙ off b k in
    record {
      begun = (f.begun, h.begun);
      distinct = (f.fresh, h.distinct);
      stand = λ b k. made_stand ss st 0 st.parts b k (makers R b k) (h.stand b k);
      top = λ u on. (elim (is_by st.by u) as (λ v. is_by st.by u ≡ v → OnTop (cond v (st ∷ own u ss) (own u ss)) (λ b k. made_by st 0 st.parts b k (makers R b k))) [
        | true ↦ λ _. (λ b k. ap (made_by st 0 st.parts b k) (sym (back b k)), on_top_same (own u ss) (makers R) _ (λ b k. sym (back b k)) (h.top u on))
        | false ↦ λ e. on_top_adds (own u ss) u st (makers R) (every-own u _ ss f.fresh)
            (λ b k m rest n eq by. let s : HeadOver (is_active R) st.by (m ∷ rest) = subst (HeadOver (is_active R) st.by) eq (f.slots_free b k n) in
            let o : MayOver (is_active R) st.by (By u) = subst (MayOver (is_active R) st.by) by s in
            true≢false (sym (is_by_self st.by u (o on)) ∙ e)) (h.top u on)
      ]) refl;
    }
effect_held R (TakesBack body) f h =
    let ss = standing R in let a = body.undo in let v = body.txn in
    let t : Tops a v ss = subst (λ x. Tops x v ss) (sym f.undo) (tops ss v f.step h.distinct f.newest) in
    record {
      begun = every-filter _ _ ss h.begun;
      distinct = distinct_filter _ ss h.distinct;
      stand = λ b k. makers_without ss a (makers R b k) (h.stand b k);
      top = λ u on. subst (λ us. OnTop us (λ b k. without a (makers R b k))) (filter-swap _ _ ss) (elim (cases_Bool (eqb u v)) [
        | inl y ↦
            let o = own_newest ss v f.step f.newest in
            let mine : own u ss ≡ f.step ∷ o.0 = ap (λ x. own x ss) (eqb-true u v y) ∙ o.1 in
            let d : Distinct (f.step ∷ o.0) = subst Distinct mine (distinct_filter _ ss h.distinct) in
            let tail : without_step a (own u ss) ≡ o.0 = ap (without_step a) mine ∙ ap (λ x. without_step x (f.step ∷ o.0)) f.undo ∙ rw (addr_self f.step.undo) (filter-all _ o.0 (every-map _ _ o.0 (λ s x. ap not x) d.0)) in
            let whole : OnTop (f.step ∷ o.0) (makers R) = subst (λ us. OnTop us (makers R)) mine (h.top u on) in
            subst (λ us. OnTop us (λ b k. without a (makers R b k))) (sym tail) (on_top_same o.0 _ _ (λ b k. ap (λ x. without x (makers R b k)) (sym f.undo)) whole.1)
        | inr n ↦
            let others = others_own a v u ss (eqb-false u v n) t in
            subst (λ us. OnTop us (λ b k. without a (makers R b k))) (sym (filter-all _ (own u ss) (every-map _ _ _ (λ s x. ap not x) others))) (on_top_without (own u ss) a (makers R) others (h.top u on))
      ]);
    }

-- of the newest step of a transaction

pub newest_has : (P : Step → Type 0) (ss : List Step) (t : ℕ) (st : Step) → newest_of ss t ≡ Some st → Every P ss → P st
newest_has P [] t st e h = absurd (let x : ◌≡◌ {A = Option Step} None (Some st) = e in cc)
newest_has P (s ∷ ss) t st e h =
    (elim (is_by s.by t) as (λ v. cond v (Some s) (newest_of ss t) ≡ Some st → P st) [
      | true ↦ λ f. let same : s ≡ st = cc in subst P same h.0
      | false ↦ λ f. newest_has P ss t st f h.1
    ]) e

pub newest_each : (P : Step → Type 0) (ss : List Step) (t : ℕ) (st : Step) → newest_of ss t ≡ Some st → EachStep P ss → P st
newest_each P [] t st e h = absurd (let x : ◌≡◌ {A = Option Step} None (Some st) = e in cc)
newest_each P (s ∷ ss) t st e h =
    (elim (is_by s.by t) as (λ v. cond v (Some s) (newest_of ss t) ≡ Some st → P st) [
      | true ↦ λ f. let same : s ≡ st = cc in subst P same h.0
      | false ↦ λ f. newest_each P ss t st f h.1
    ]) e

pub newest_is_by : (ss : List Step) (t : ℕ) (st : Step) → newest_of ss t ≡ Some st → st.by ≡ By t
newest_is_by [] t st e = absurd (let x : ◌≡◌ {A = Option Step} None (Some st) = e in cc)
newest_is_by (s ∷ ss) t st e =
    (elim (is_by s.by t) as (λ v. is_by s.by t ≡ v → cond v (Some s) (newest_of ss t) ≡ Some st → st.by ≡ By t) [
      | true ↦ λ y f. let same : s ≡ st = cc in subst (λ (x : Step). x.by ≡ By t) same (by_is s.by t y)
      | false ↦ λ y f. newest_is_by ss t st f
    ]) refl e
