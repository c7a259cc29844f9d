-- What is passed over at all commits is there.
use Rattle.std.proofs.Common.{◌≡◌, ℕ, Bool, true, false, cond, not, List, [], ◌∷◌, map, filter, refl, sym, ◌∙◌, ap, subst, inl, inr}
use Rattle.seg_words.specs.Types.{UndoAddr}
use Rattle.redo_model.specs.Records.{Record}
use Rattle.redo_model.specs.Model.{Step, standing, is_reused, needed_on, Made, makers, counts}
use Rattle.redo_laws.specs.Chain.{EachMade, IsAmong, IsStated}
use Rattle.redo_laws.specs.Economy.{EachStep, IsKept}
use Rattle.redo_laws.proofs.links.ChainLaw.{slots_are_chains}
use Rattle.redo_laws.proofs.undo.EconomyLaw.{undo_is_enough}
use Rattle.redo_laws.proofs.lists.Every.{Every}
use Rattle.redo_laws.proofs.spread.Views.{Settled, ready}
use Rattle.redo_laws.proofs.spread.Whole.{whole}
use Rattle.version_laws.specs.Types.{NowIsReached}
use Rattle.version_laws.proofs.Falling.{stated_in}
use Rattle.version_laws.proofs.NewestLaw.{by_active}

stated_kept : (R : List Record) (s t : ℕ) (ss : List Step) (b k : ℕ) (m : Made) → Every (λ (x : Step). Settled R s x.by) ss → EachStep (IsKept R) ss → IsStated ss b k m → counts R s t m.by ≡ false → is_reused R m.part ≡ false
stated_kept R s t [] b k m f g h off = absurd h
stated_kept R s t (x ∷ ss) b k m f g h off = elim h [
  | inl y ↦
      let r = stated_in x 0 x.parts b k m y.2 in
      let v = by_active R s t x.by f.0 (ap (counts R s t) y.0 ∙ off) in
      subst (λ (a : UndoAddr). is_reused R a ≡ false) (sym r.1) (g.0 v.txn r.0 v.by_is v.active)
  | inr z ↦ stated_kept R s t ss b k m f.1 g.1 z off
]

abbrev Rest : List Record → ℕ → ℕ → Made → List Made → Bool → List UndoAddr
Rest R s t m ms v = map (λ (x : Made). x.part) (cond (not v) (m ∷ filter (λ (x : Made). not (counts R s t x.by)) ms) (filter (λ (x : Made). not (counts R s t x.by)) ms))

among : (R : List Record) (s t b k : ℕ) (a : UndoAddr) (ms : List Made) → Every (λ (x : Step). Settled R s x.by) (standing R) → EachStep (IsKept R) (standing R) → EachMade (IsStated (standing R) b k) ms → IsAmong a (needed_on (λ w u. counts R s t w) ms) → is_reused R a ≡ false
among R s t b k a [] f g h i = absurd i
among R s t b k a (m ∷ ms) f g h i =
    (elim (counts R s t m.by) as (λ v. counts R s t m.by ≡ v → IsAmong a (needed_on (λ w u. counts R s t w) (m ∷ ms)) → is_reused R a ≡ false) [
      | true ↦ λ e j. among R s t b k a ms f g h.1 (subst (λ v. IsAmong a (Rest R s t m ms v)) e j)
      | false ↦ λ e j. elim (subst (λ v. IsAmong a (Rest R s t m ms v)) e j) [
        | inl y ↦ subst (λ (x : UndoAddr). is_reused R x ≡ false) y (stated_kept R s t (standing R) b k m f g h.0 e)
        | inr z ↦ among R s t b k a ms f g h.1 z
      ]
    ]) refl i

pub now_is_reached : NowIsReached
now_is_reached sh R b k s t a h l on i = among R s t b k a (makers R b k) ((ready sh R (whole sh R h).fit).settled s l) (undo_is_enough sh R h).kept (slots_are_chains sh R b k h).stated i
