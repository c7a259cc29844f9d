-- A fact of images by the block in which they stand: where each new image of an allowed record has it, so has every image of
-- every slot, and every old image that a standing record states.
use Rattle.std.proofs.Common.{◌≡◌, ℕ, true, false, cond, eqb, List, [], ◌∷◌, refl, sym, subst, eqb-true}
use Rattle.seg_words.proofs.Lemmas.{and_parts}
use Rattle.seg_words.specs.Types.{Shape, Slot, new_slot, clean_slot}
use Rattle.redo_model.specs.Records.{Record, RowPart, BackPart}
use Rattle.redo_model.specs.Model.{Step, Effect, effect_of, Placed, written, restored, standing_steps, standing, is_place, placed_in, changed_image, image, taken_back, AreAllowed}
use Rattle.redo_model.specs.Effects.{Still, Formats, Adds, TakesBack, Cleans}
use Rattle.redo_laws.proofs.lists.Every.{Every, every-map, every-filter}
use Rattle.redo_laws.proofs.steps.Facts.{StatesOld, BackFits, EffectFits}
use Rattle.redo_laws.proofs.steps.Held.{newest_has}
use Rattle.redo_laws.proofs.spread.Whole.{record_fits}

-- a part states the image that stands in its slot
abbrev pub StatesIts : List Record → RowPart → Type 0
StatesIts R p = p.old ≡ image R p.dba p.slot

pub states_each : (R : List Record) (ps : List RowPart) → StatesOld R ps → Every (StatesIts R) ps
states_each R [] h = tt
states_each R (p ∷ ps) h = (h.0, states_each R ps h.1)

pub states_old : (R : List Record) (ps : List RowPart) → Every (StatesIts R) ps → StatesOld R ps
states_old R [] h = tt
states_old R (p ∷ ps) h = (h.0, states_old R ps h.1)

-- a fact of the parts of a record is one of those of its Back
pub each_taken : (P : ℕ → ℕ → Slot → Type 0) (ps : List RowPart) → Every (λ (p : RowPart). P p.dba p.slot p.old) ps → Every (λ (q : BackPart). P q.dba q.slot q.new) (taken_back ps)
each_taken P [] h = tt
each_taken P (p ∷ ps) h = (h.0, each_taken P ps h.1)

abbrev pub ImageFact : Type 1
ImageFact = ℕ → Slot → Type 0

-- a new slot has it, and a Clean leaves it
pub record IsKept (P : ImageFact) : Type 0 where
  pub fresh : (b : ℕ) → P b new_slot
  pub cleaned : (b : ℕ) (cs : List (ℕ × ℕ)) (i : Slot) → P b i → P b (clean_slot cs i)

abbrev pub NewHave : ImageFact → List RowPart → Type 0
NewHave P ps = Every (λ (p : RowPart). P p.dba p.new) ps

abbrev pub OldHave : ImageFact → List RowPart → Type 0
OldHave P ps = Every (λ (p : RowPart). P p.dba p.old) ps

-- what an effect puts into slots has it
abbrev pub EffectPuts : ImageFact → Effect → Type 0
EffectPuts P (Adds st) = NewHave P st.parts × OldHave P st.parts
EffectPuts P (TakesBack k) = Every (λ (q : BackPart). P q.dba q.new) k.parts
EffectPuts P _ = Unit {0}

pub record AllHave (P : ImageFact) (R : List Record) : Type 0 where
  pub images : (b k : ℕ) → P b (image R b k)
  pub steps : Every (λ (st : Step). OldHave P st.parts) (standing R)

placed_have : (P : ImageFact) (ps : List Placed) (b k : ℕ) (i : Slot) → Every (λ (p : Placed). P p.dba p.image) ps → P b i → P b (placed_in ps b k i)
placed_have P [] b k i h j = j
placed_have P (p ∷ ps) b k i h j =
    (elim (is_place p.dba p.slot b k) as (λ v. is_place p.dba p.slot b k ≡ v → P b (cond v p.image (placed_in ps b k i))) [
      | true ↦ λ e. subst (λ d. P d p.image) (eqb-true p.dba b (and_parts (eqb p.dba b) (eqb p.slot k) e).0) h.0
      | false ↦ λ e. placed_have P ps b k i h.1 j
    ]) refl

each_written : (P : ImageFact) (ps : List RowPart) → NewHave P ps → Every (λ (p : Placed). P p.dba p.image) (written ps)
each_written P [] h = tt
each_written P (p ∷ ps) h = (h.0, each_written P ps h.1)

each_restored : (P : ImageFact) (qs : List BackPart) → Every (λ (q : BackPart). P q.dba q.new) qs → Every (λ (p : Placed). P p.dba p.image) (restored qs)
each_restored P [] h = tt
each_restored P (q ∷ qs) h = (h.0, each_restored P qs h.1)

image_has : (P : ImageFact) (e : Effect) (b k : ℕ) (i : Slot) → IsKept P → EffectPuts P e → P b i → P b (changed_image e b k i)
image_has P Still b k i c h j = j
image_has P (Formats d) b k i c h j = elim (eqb d b) as (λ v. P b (cond v new_slot i)) [ true ↦ c.fresh b | false ↦ j ]
image_has P (Adds st) b k i c h j = placed_have P (written st.parts) b k i (each_written P st.parts h.0) j
image_has P (TakesBack t) b k i c h j = placed_have P (restored t.parts) b k i (each_restored P t.parts h) j
image_has P (Cleans d cs) b k i c h j = elim (eqb d b) as (λ v. P b (cond v (clean_slot cs i) i)) [ true ↦ c.cleaned b cs i j | false ↦ j ]

steps_have : (P : ImageFact) (e : Effect) (ss : List Step) → EffectPuts P e → Every (λ (st : Step). OldHave P st.parts) ss → Every (λ (st : Step). OldHave P st.parts) (standing_steps e ss)
steps_have P Still ss h k = k
steps_have P (Formats d) ss h k = k
steps_have P (Adds st) ss h k = (h.1, k)
steps_have P (TakesBack t) ss h k = every-filter _ _ ss k
steps_have P (Cleans d cs) ss h k = k

-- each allowed record's new images have it, where those before it have
abbrev pub Puts : Shape → ImageFact → Type 0
Puts sh P = (R : List Record) (r : Record) (st : Step) → AreAllowed sh (r ∷ R) → effect_of r ≡ Adds st → AllHave P R → NewHave P st.parts

pub effect_puts : (sh : Shape) (P : ImageFact) (R : List Record) (r : Record) (e : Effect) → Puts sh P → AreAllowed sh (r ∷ R) → effect_of r ≡ e → AllHave P R → EffectPuts P e
effect_puts sh P R r Still n h f w = tt
effect_puts sh P R r (Formats d) n h f w = tt
effect_puts sh P R r (Adds st) n h f w =
    let x : EffectFits R (Adds st) = subst (EffectFits R) f (record_fits sh R r h).effect in (
      n R r st h f w,
      every-map (StatesIts R) (λ (p : RowPart). P p.dba p.old) st.parts (λ p y. subst (P p.dba) (sym y) (w.images p.dba p.slot)) (states_each R st.parts x.old),
    )
effect_puts sh P R r (TakesBack t) n h f w =
    let b : BackFits R t = subst (EffectFits R) f (record_fits sh R r h).effect in
    subst (λ (qs : List BackPart). Every (λ (q : BackPart). P q.dba q.new) qs) (sym b.restores)
    (each_taken (λ d k i. P d i) b.step.parts (newest_has (λ (st : Step). OldHave P st.parts) (standing R) t.txn b.step b.newest w.steps))
effect_puts sh P R r (Cleans d cs) n h f w = tt

pub all_have : (sh : Shape) (P : ImageFact) → IsKept P → Puts sh P → (R : List Record) → AreAllowed sh R → AllHave P R
all_have sh P c n [] h = record { images = λ b k. c.fresh b; steps = tt }
all_have sh P c n (r ∷ R) h =
    let w = all_have sh P c n R h.0 in
    let e = effect_puts sh P R r (effect_of r) n h refl w in
    record { images = λ b k. image_has P (effect_of r) b k (image R b k) c e (w.images b k); steps = steps_have P (effect_of r) (standing R) e w.steps }
