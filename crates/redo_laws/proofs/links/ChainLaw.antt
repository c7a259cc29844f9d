-- The images of a slot are a chain through undo.
use Rattle.std.proofs.Common.{◌≡◌, ℕ, suc, Bool, true, false, cond, not, eqb, List, [], ◌∷◌, map, filter, refl, sym, ◌∙◌, ap, inl, inr, eqb-true, true≢false}
use Rattle.seg_words.proofs.Lemmas.{and_parts}
use Rattle.seg_words.specs.Types.{Slot, UndoAddr, Writer}
use Rattle.redo_model.specs.Records.{Record, RowPart}
use Rattle.redo_model.specs.Model.{Step, Effect, effect_of, part_addr, txn_count, is_active, is_addr, without_step, standing_steps, standing, is_place, image, Made, made_by, without, changed_makers, makers, needed_on}
use Rattle.redo_model.specs.Effects.{Still, Formats, Adds, TakesBack, Cleans}
use Rattle.redo_laws.specs.Chain.{IsChain, IsStatedIn, IsStated, EachMade, followed, IsAmong, SlotsAreChains}
use Rattle.redo_laws.proofs.links.Links.{Linked}
use Rattle.redo_laws.proofs.spread.Whole.{whole}

chain_of : (active : ℕ → Bool) (n : ℕ) (ss : List Step) (i : Slot) (ms : List Made) → Linked active n ss i ms → IsChain i ms
chain_of active n ss i [] h = h.undo
chain_of active n ss i (m ∷ ms) h = (h.0.undo, chain_of active n ss m.old ms h.1)

made_map : (P Q : Made → Type 0) (ms : List Made) → ((m : Made) → P m → Q m) → EachMade P ms → EachMade Q ms
made_map P Q [] f h = tt
made_map P Q (m ∷ ms) f h = (f m h.0, made_map P Q ms f h.1)

-- what a step does to a slot it states

stated_adds : (st : Step) (ss : List Step) (i : ℕ) (ps : List RowPart) (b k : ℕ) (ms : List Made) → ((m : Made) → IsStatedIn st i ps b k m → IsStatedIn st 0 st.parts b k m) → EachMade (IsStated ss b k) ms → EachMade (IsStated (st ∷ ss) b k) (made_by st i ps b k ms)
stated_adds st ss i [] b k ms f h = made_map (IsStated ss b k) (IsStated (st ∷ ss) b k) ms (λ m x. inr x) h
stated_adds st ss i (p ∷ ps) b k ms f h =
    (elim (is_place p.dba p.slot b k) as (λ v. is_place p.dba p.slot b k ≡ v → EachMade (IsStated (st ∷ ss) b k) (cond v (record { by = st.by; undo = st.undo; part = part_addr st.undo i; old = p.old } ∷ ms) (made_by st (suc i) ps b k ms))) [
      | true ↦ λ e. let q = and_parts (eqb p.dba b) (eqb p.slot k) e in
          (inl (refl, refl, f (record { by = st.by; undo = st.undo; part = part_addr st.undo i; old = p.old }) (inl (eqb-true p.dba b q.0, eqb-true p.slot k q.1, refl, refl))), made_map (IsStated ss b k) (IsStated (st ∷ ss) b k) ms (λ m x. inr x) h)
      | false ↦ λ e. stated_adds st ss (suc i) ps b k ms (λ m x. f m (inr x)) h
    ]) refl

stated_other : (ss : List Step) (a : UndoAddr) (b k : ℕ) (m : Made) → is_addr m.undo a ≡ false → IsStated ss b k m → IsStated (without_step a ss) b k m
stated_other [] a b k m n h = h
stated_other (s ∷ ss) a b k m n h =
    (elim (is_addr s.undo a) as (λ v. is_addr s.undo a ≡ v → IsStated (cond (not v) (s ∷ without_step a ss) (without_step a ss)) b k m) [
      | true ↦ λ e. elim h [ inl y ↦ absurd (true≢false (sym e ∙ ap (λ z. is_addr z a) y.1 ∙ n)) | inr z ↦ stated_other ss a b k m n z ]
      | false ↦ λ e. elim h [ inl y ↦ inl y | inr z ↦ inr (stated_other ss a b k m n z) ]
    ]) refl

stated_without : (ss : List Step) (a : UndoAddr) (b k : ℕ) (ms : List Made) → EachMade (IsStated ss b k) ms → EachMade (IsStated (without_step a ss) b k) (without a ms)
stated_without ss a b k [] h = tt
stated_without ss a b k (m ∷ ms) h =
    (elim (is_addr m.undo a) as (λ v. is_addr m.undo a ≡ v → EachMade (IsStated (without_step a ss) b k) (cond (not v) (m ∷ without a ms) (without a ms))) [
      | true ↦ λ e. stated_without ss a b k ms h.1
      | false ↦ λ e. (stated_other ss a b k m e h.0, stated_without ss a b k ms h.1)
    ]) refl

stated_effect : (ef : Effect) (ss : List Step) (b k : ℕ) (ms : List Made) → EachMade (IsStated ss b k) ms → EachMade (IsStated (standing_steps ef ss) b k) (changed_makers ef b k ms)
stated_effect Still ss b k ms h = h
stated_effect (Formats d) ss b k ms h = elim (eqb d b) as (λ v. EachMade (IsStated ss b k) (cond v [] ms)) [ true ↦ tt | false ↦ h ]
stated_effect (Adds st) ss b k ms h = stated_adds st ss 0 st.parts b k ms (λ m x. x) h
stated_effect (TakesBack t) ss b k ms h = stated_without ss t.undo b k ms h
stated_effect (Cleans d cs) ss b k ms h = h

stated : (R : List Record) (b k : ℕ) → EachMade (IsStated (standing R) b k) (makers R b k)
stated [] b k = tt
stated (r ∷ R) b k = stated_effect (effect_of r) (standing R) b k (makers R b k) (stated R b k)

-- what is followed is needed
followed_needed : (c : Writer → UndoAddr → Bool) (ms : List Made) (a : UndoAddr) → IsAmong a (followed c ms) → IsAmong a (needed_on c ms)
followed_needed c [] a h = h
followed_needed c (m ∷ ms) a h =
    (elim (c m.by m.undo) as (λ v. IsAmong a (cond v [] (m.part ∷ followed c ms)) → IsAmong a (map (λ (x : Made). x.part) (cond (not v) (m ∷ filter (λ (x : Made). not (c x.by x.undo)) ms) (filter (λ (x : Made). not (c x.by x.undo)) ms)))) [
      | true ↦ λ x. absurd x
      | false ↦ λ x. elim x [ inl y ↦ inl y | inr z ↦ inr (followed_needed c ms a z) ]
    ]) h

pub slots_are_chains : SlotsAreChains
slots_are_chains sh R b k h = record {
  chain = chain_of (is_active R) (txn_count R) (standing R) (image R b k) (makers R b k) ((whole sh R h).links b k);
  stated = stated R b k;
  needed = λ c a x. followed_needed c (makers R b k) a x;
}
