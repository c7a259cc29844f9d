-- What the answers of an update and of a delete mean, and what of a place tells them.
use Rattle.std.proofs.Common.{◌≡◌, ◌≢◌, ◌⊎◌, ℕ, true, false, cond, not, ◌&&◌, eqb, List, [], ◌∷◌, length, MatchOption, Option, Some, None, refl, sym, ◌∙◌, ap, ap₂, subst, inl, inr, ne_eqb}
use Rattle.seg_words.proofs.Lemmas.{cases_Bool, cond-true, cond-false, and_from, and_parts, eqb-false, not-true}
use Rattle.seg_words.specs.Types.{Shape, Rowid, Writer, By, At}
use Rattle.redo_model.specs.Records.{Record}
use Rattle.redo_model.specs.Model.{Step, is_active, standing, newest_on, IsFreeFor, number_or_zero, AreAllowed}
use Rattle.scan_laws.specs.Changes.{changed_above}
use Rattle.change_laws.specs.Drafts.{Change, change_size, Stand, Whole, Apart}
use Rattle.change_laws.specs.Spots.{Spot, Here, Next, Full, spot_for}
use Rattle.change_laws.specs.Ready.{lacks_entry, first_lacking, Path, InPlace, ToHead, ToOther, fits_at, path_of}
use Rattle.change_laws.specs.Causes.{IsBusy}
use Rattle.change_laws.specs.Looks.{IsFreeNow, IsBusyNow}
use Rattle.change_laws.specs.Answers.{keeper_of, keeper_in, keeper, change_by, by_spot, by_change, by_lack, by_keeper, IsPast, Means, AnswersMean, BlocksAreNeeded, PlacesAnswer}
use Rattle.change_laws.proofs.SpotLaw.{full_is_told}
use Rattle.change_laws.proofs.CauseLaw.{lack_is_no_slot}
use Rattle.change_laws.proofs.LookLaw.{places_show, released_are_changed, unchanged_shown}

-- who keeps a row

same_number : (a b : ℕ) → ◌≡◌ {A = Option ℕ} (Some a) (Some b) → a ≡ b
same_number a b e = cc

no_number : (a : ℕ) → ◌≡◌ {A = Option ℕ} None (Some a) → ⊥
no_number a e = cc

record Keeps (R : List Record) (t u : ℕ) (w : Writer) : Type 0 where
  by_is : w ≡ By u
  active : is_active R u ≡ true
  other : u ≢ t

keeps : (R : List Record) (t u : ℕ) (w : Writer) → keeper_of R t w ≡ Some u → Keeps R t u w
keeps R t u (At c) e = absurd (no_number u e)
keeps R t u (By v) e = elim (cases_Bool (is_active R v && not (eqb v t))) [
  | inl y ↦
      let same : v ≡ u = same_number v u (sym (cond-true _ _ _ y) ∙ e) in
      let both = and_parts (is_active R v) (not (eqb v t)) y in
      record { by_is = ap (λ x. By x) same; active = ap (is_active R) (sym same) ∙ both.0; other = λ z. eqb-false v t (not-true (eqb v t) both.1) (same ∙ z) }
  | inr f ↦ absurd (no_number u (sym (cond-false _ _ _ f) ∙ e))
]

busy_in : (R : List Record) (own : Option ℕ) (n u : ℕ) (o : Option Step) → newest_on (standing R) n ≡ o → keeper_in R (number_or_zero own) o ≡ Some u → IsBusy R own n u
busy_in R own n u None q e = absurd (no_number u e)
busy_in R own n u (Some st) q e = let k = keeps R (number_or_zero own) u st.by e in record { step = st; newest = q; by_is = k.by_is; active = k.active; other = k.other }

busy_kept : (R : List Record) (own : Option ℕ) (n u : ℕ) → IsBusy R own n u → keeper R own n ≡ Some u
busy_kept R own n u b =
    let t = number_or_zero own in
    ap (keeper_in R t) b.newest ∙ ap (keeper_of R t) b.by_is ∙ cond-true _ _ _ (and_from (is_active R u) (not (eqb u t)) b.active (ap not (ne_eqb u t b.other)))

-- a row that may be changed has no keeper

free_kept : (R : List Record) (t : ℕ) (w : Writer) (u : ℕ) → IsFreeFor R t w → keeper_of R t w ≡ Some u → ⊥
free_kept R t w u f e = let k = keeps R t u w e in k.other (subst (IsFreeFor R t) k.by_is f k.active)

free_in : (R : List Record) (t : ℕ) (o : Option Step) → MatchOption o (Unit {0}) (λ st. IsFreeFor R t st.by) → (k : Option ℕ) → keeper_in R t o ≡ k → keeper_in R t o ≡ None
free_in R t None f k e = refl
free_in R t (Some st) f None e = e
free_in R t (Some st) f (Some u) e = absurd (free_kept R t st.by u f e)

free_has_none : (R : List Record) (own : Option ℕ) (o n : ℕ) (p : Rowid) (start : ℕ) → IsFreeNow R own o n p start → keeper R own n ≡ None
free_has_none R own o n p start x = free_in R (number_or_zero own) (newest_on (standing R) n) x.write.free (keeper R own n) refl

-- what the answers mean

first_lacks : (R : List Record) (own : Option ℕ) (bs : List ℕ) (b : ℕ) → first_lacking R own bs ≡ Some b → lacks_entry R own b ≡ true
first_lacks R own [] b e = absurd (no_number b e)
first_lacks R own (c ∷ bs) b e =
    (elim (lacks_entry R own c) as (λ v. lacks_entry R own c ≡ v → cond v (Some c) (first_lacking R own bs) ≡ Some b → lacks_entry R own b ≡ true) [
      | true ↦ λ y f. ap (lacks_entry R own) (sym (same_number c b f)) ∙ y
      | false ↦ λ y f. first_lacks R own bs b f
    ]) refl e

spot_means : (sh : Shape) (R : List Record) (own : Option ℕ) (o n : ℕ) (p : Rowid) (start : ℕ) (bs : List ℕ) (len : ℕ) (change : Option Change) (c : Change) (s : Spot) → IsPast R own o n p start bs → change ≡ Some c → spot_for sh R (change_size R c) ≡ s
    → Means sh R own o n p start bs len change (by_spot c s)
spot_means sh R own o n p start bs len change c (Here a) x q e = record { past = x; change_is = q; not_full = λ hs f. let z : Here a ≡ Full hs = sym e ∙ f in cc }
spot_means sh R own o n p start bs len change c (Next r) x q e = record { past = x; change_is = q; not_full = λ hs f. let z : Next r ≡ Full hs = sym e ∙ f in cc }
spot_means sh R own o n p start bs len change c (Full hs) x q e = record { past = x; made = c; change_is = q; full = full_is_told sh R (change_size R c) hs e }

change_means : (sh : Shape) (R : List Record) (own : Option ℕ) (o n : ℕ) (p : Rowid) (start : ℕ) (bs : List ℕ) (len : ℕ) (change c : Option Change) → IsPast R own o n p start bs → change ≡ c → Means sh R own o n p start bs len change (by_change sh R len c)
change_means sh R own o n p start bs len change None x q = record { past = x; none = q; length_is = refl }
change_means sh R own o n p start bs len change (Some c) x q = spot_means sh R own o n p start bs len change c (spot_for sh R (change_size R c)) x q refl

lack_means : (sh : Shape) (R : List Record) (own : Option ℕ) (o n : ℕ) (p : Rowid) (start : ℕ) (bs : List ℕ) (len : ℕ) (change : Option Change) (l : Option ℕ) → AreAllowed sh R → IsFreeNow R own o n p start → first_lacking R own bs ≡ l
    → Means sh R own o n p start bs len change (by_lack R l (by_change sh R len change))
lack_means sh R own o n p start bs len change None h x q = change_means sh R own o n p start bs len change change (record { free = x; entries = q }) refl
lack_means sh R own o n p start bs len change (Some b) h x q = record { free = x; block = b; first = q; no_slot = (lack_is_no_slot sh R own b h).lacks (first_lacks R own bs b q) }

keeper_means : (sh : Shape) (R : List Record) (own : Option ℕ) (o n : ℕ) (p : Rowid) (start : ℕ) (bs : List ℕ) (len : ℕ) (change : Option Change) (k : Option ℕ) → AreAllowed sh R → IsFreeNow R own o n p start ⊎ IsBusyNow R own o n p start → keeper R own n ≡ k
    → Means sh R own o n p start bs len change (by_keeper k (by_lack R (first_lacking R own bs) (by_change sh R len change)))
keeper_means sh R own o n p start bs len change None h (inl x) q = lack_means sh R own o n p start bs len change (first_lacking R own bs) h x refl
keeper_means sh R own o n p start bs len change None h (inr x) q = absurd (no_number x.txn (sym q ∙ busy_kept R own n x.txn x.busy))
keeper_means sh R own o n p start bs len change (Some u) h (inl x) q = absurd (no_number u (sym (free_has_none R own o n p start x) ∙ q))
keeper_means sh R own o n p start bs len change (Some u) h (inr x) q = record { unchanged = x.unchanged; was = x.was; there = x.there; busy = busy_in R own n u (newest_on (standing R) n) refl q }

pub answers_mean : AnswersMean
answers_mean sh R own o n p born undo start bs len change h on f = elim (cases_Bool (changed_above R start n)) [
  | inl y ↦ subst (Means sh R own o n p start bs len change) (sym (cond-true _ _ _ y)) (record { changed = y; now = refl })
  | inr z ↦ subst (Means sh R own o n p start bs len change) (sym (cond-false _ _ _ z)) (keeper_means sh R own o n p start bs len change (keeper R own n) h (unchanged_shown sh R own o n p born undo start h on f z) refl)
]

-- when a block is needed

in_place_has : (R : List Record) (o n : ℕ) (x : Stand) (bytes : List ℕ) (to : Option ℕ) → ◌≡◌ {A = Option Change} (change_by R o n x bytes to InPlace) None → ⊥
in_place_has R o n x bytes to e = cc

none_given : (R : List Record) (o n : ℕ) (x : Stand) (bytes : List ℕ) (to : Option ℕ) → change_by R o n x bytes to ToOther ≡ None → to ≡ None
none_given R o n x bytes None e = refl
none_given R o n x bytes (Some b) e = cc

needed_by : (R : List Record) (own : Option ℕ) (o n : ℕ) (x : Stand) (bytes : List ℕ) (to : Option ℕ) → change_by R o n x bytes to (path_of R own x (length bytes)) ≡ None → (path_of R own x (length bytes) ≡ ToOther) × (to ≡ None)
needed_by R own o n (Whole p) bytes to h =
    (elim (fits_at R own p (length bytes)) as (λ v. change_by R o n (Whole p) bytes to (cond v InPlace ToOther) ≡ None → (cond v InPlace ToOther ≡ ToOther) × (to ≡ None)) [
      | true ↦ λ e. absurd (in_place_has R o n (Whole p) bytes to e)
      | false ↦ λ e. (refl, none_given R o n (Whole p) bytes to e)
    ]) h
needed_by R own o n (Apart head body) bytes to h =
    (elim (fits_at R own body (length bytes)) as (λ u. change_by R o n (Apart head body) bytes to (cond u InPlace (cond (fits_at R own head (length bytes)) ToHead ToOther)) ≡ None → (cond u InPlace (cond (fits_at R own head (length bytes)) ToHead ToOther) ≡ ToOther) × (to ≡ None)) [
      | true ↦ λ e. absurd (in_place_has R o n (Apart head body) bytes to e)
      | false ↦ λ e. (elim (fits_at R own head (length bytes)) as (λ v. change_by R o n (Apart head body) bytes to (cond v ToHead ToOther) ≡ None → (cond v ToHead ToOther ≡ ToOther) × (to ≡ None)) [
        | true ↦ λ g. absurd (at_head g)
        | false ↦ λ g. (refl, none_given R o n (Apart head body) bytes to g)
      ]) e
    ]) h
  where
    at_head : ◌≡◌ {A = Option Change} (change_by R o n (Apart head body) bytes to ToHead) None → ⊥
    at_head e = cc

pub blocks_are_needed : BlocksAreNeeded
blocks_are_needed R own o n x bytes to = record {
  needed = needed_by R own o n x bytes to;
  needs = λ e f. ap₂ (λ (t : Option ℕ) (w : Path). change_by R o n x bytes t w) f e;
}

-- what of a place tells the answer

same_writer : (u v : ℕ) → By u ≡ By v → u ≡ v
same_writer u v e = cc

pub places_answer : PlacesAnswer
places_answer sh R own o n p born undo start bs len change h on f = record {
  released = λ e. cond-true _ _ _ (released_are_changed sh R own o n p born undo start h on f e).changed;
  changed = λ i e. cond-true _ _ _ ((places_show sh R own o n p born undo start h on f i).changed e).changed;
  busy = λ i e g u w.
      let x = (places_show sh R own o n p born undo start h on f i).busy e g in
      let k : keeper R own n ≡ Some u = busy_kept R own n x.txn x.busy ∙ ap (λ v. Some v) (same_writer x.txn u (sym x.writer ∙ w)) in
      cond-false _ _ _ x.unchanged ∙ ap (λ k. by_keeper k (by_lack R (first_lacking R own bs) (by_change sh R len change))) k;
  free = λ i e g.
      let x = (places_show sh R own o n p born undo start h on f i).free e g in
      cond-false _ _ _ x.unchanged ∙ ap (λ k. by_keeper k (by_lack R (first_lacking R own bs) (by_change sh R len change))) (free_has_none R own o n p start x);
}
