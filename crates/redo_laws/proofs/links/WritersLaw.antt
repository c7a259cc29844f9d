-- What writers tell of whether their images count.
use Rattle.std.proofs.Common.{◌≡◌, ◌⊎◌, ℕ, zero, suc, ◌≤◌, Bool, true, false, cond, not, ◌&&◌, ◌||◌, eqb, ltb, leb, List, [], ◌∷◌, Option, Some, None, refl, sym, ◌∙◌, ap, ap₂, subst, arith, inl, inr, le_trans, true≢false, eqb-true, ne_eqb, eq-eqb, le-leb}
use Rattle.seg_words.proofs.Lemmas.{cases_Bool, and_parts, and_left, or_cases, or_right}
use Rattle.seg_words.specs.Types.{Shape, Slot, UndoAddr, Writer, By, At, new_slot, number_of, number_of_writer, as_told, clean_slot}
use Rattle.redo_model.specs.Records.{Record, Begin, Commit, Ended, Clean, RowPart}
use Rattle.redo_model.specs.Model.{Step, Effect, effect_of, written, restored, part_addr, commit_count, txn_count, is_active, has_begun, commit_number, is_committed_by, has_rolled_back, is_forgotten, is_by, standing_steps, standing, newest_of, is_place, placed_in, changed_image, image, Made, made_by, without, changed_makers, makers, counts, number_or_zero, stated_number, taken_back, IsKindAllowed, AreAllowed}
use Rattle.redo_model.specs.Effects.{Still, Formats, Adds, TakesBack, Cleans}
use Rattle.redo_laws.specs.Chain.{EachMade}
use Rattle.redo_laws.specs.Views.{IsOpen}
use Rattle.redo_laws.specs.Writers.{EachTells, TxnTells, WritersAreTold}
use Rattle.redo_laws.proofs.lists.Every.{Every, every-filter}
use Rattle.redo_laws.proofs.steps.OnTop.{OnTop}
use Rattle.redo_laws.proofs.steps.Facts.{StatesOld, EffectFits}
use Rattle.redo_laws.proofs.allowed.Basics.{EffectBasics, basics}
use Rattle.redo_laws.proofs.numbers.Known.{known}
use Rattle.redo_laws.proofs.steps.Held.{Held, Stands, own_newest}
use Rattle.redo_laws.proofs.spread.Spread.{good}
use Rattle.redo_laws.proofs.links.Links.{ImagesOf, LinksFit}
use Rattle.redo_laws.proofs.numbers.TxnTable.{txn_table, forgotten_have_passed}
use Rattle.redo_laws.proofs.spread.Whole.{whole, record_fits}

-- the writer of an image is its maker, or the number of its maker's commit

abbrev Says : (ℕ → Option ℕ) → Writer → Writer → Type 0
Says number w v = (w ≡ v) ⊎ ((u : ℕ) × (c : ℕ) × (v ≡ By u) × (w ≡ At c) × (number u ≡ Some c))

abbrev AllSay : (ℕ → Option ℕ) → Slot → List Made → Type 0
AllSay number i [] = Unit {0}
AllSay number i (m ∷ ms) = Says number i.writer m.by × AllSay number m.old ms

say_more : (f g : ℕ → Option ℕ) (i : Slot) (ms : List Made) → ((u c : ℕ) → f u ≡ Some c → g u ≡ Some c) → AllSay f i ms → AllSay g i ms
say_more f g i [] h x = tt
say_more f g i (m ∷ ms) h x = (elim x.0 [ inl y ↦ inl y | inr z ↦ inr (z.0, z.1, z.2, z.3, h z.0 z.1 z.4) ], say_more f g m.old ms h x.1)

say_adds : (R : List Record) (f : ℕ → Option ℕ) (st : Step) (i : ℕ) (ps : List RowPart) (b k : ℕ) (ms : List Made) → StatesOld R ps → ImagesOf R st i ps → AllSay f (image R b k) ms → AllSay f (placed_in (written ps) b k (image R b k)) (made_by st i ps b k ms)
say_adds R f st i [] b k ms old im h = h
say_adds R f st i (p ∷ ps) b k ms old im h =
    (elim (is_place p.dba p.slot b k) as (λ v. is_place p.dba p.slot b k ≡ v → AllSay f (cond v p.new (placed_in (written ps) b k (image R b k))) (cond v (record { by = st.by; undo = st.undo; part = part_addr st.undo i; old = p.old } ∷ ms) (made_by st (suc i) ps b k ms))) [
      | true ↦ λ e.
          let q = and_parts (eqb p.dba b) (eqb p.slot k) e in
          let same : image R b k ≡ p.old = sym (old.0 ∙ ap₂ (image R) (eqb-true p.dba b q.0) (eqb-true p.slot k q.1)) in
          (inl im.0.writer, subst (λ j. AllSay f j ms) same h)
      | false ↦ λ e. say_adds R f st (suc i) ps b k ms old.1 im.1 h
    ]) refl

say_back : (f : ℕ → Option ℕ) (st : Step) (i : ℕ) (ps : List RowPart) (b k : ℕ) (im : Slot) (ms : List Made) → AllSay f im (made_by st i ps b k ms) → AllSay f (placed_in (restored (taken_back ps)) b k im) ms
say_back f st i [] b k im ms h = h
say_back f st i (p ∷ ps) b k im ms h =
    (elim (is_place p.dba p.slot b k) as (λ v. AllSay f im (cond v (record { by = st.by; undo = st.undo; part = part_addr st.undo i; old = p.old } ∷ ms) (made_by st (suc i) ps b k ms)) → AllSay f (cond v p.old (placed_in (restored (taken_back ps)) b k im)) ms) [
      | true ↦ λ x. x.1
      | false ↦ λ x. say_back f st (suc i) ps b k im ms x
    ]) h

abbrev TellsNumbers : (ℕ → Option ℕ) → List (ℕ × ℕ) → Type 0
TellsNumbers f cs = (t c : ℕ) → number_of cs t ≡ Some (suc c) → f t ≡ Some (suc c)

say_told : (f : ℕ → Option ℕ) (cs : List (ℕ × ℕ)) (i : Slot) (v : Writer) → TellsNumbers f cs → Says f i.writer v → Says f (clean_slot cs i).writer v
say_told f cs i v h x = by i.writer refl
  where
    told : (t : ℕ) → i.writer ≡ By t → (o : Option ℕ) → number_of cs t ≡ o → Says f (as_told i o).writer v
    told t e None g = x
    told t e (Some zero) g = x
    told t e (Some (suc c)) g = inr (t, suc c, maker x, refl, h t c g)
      where
        maker : Says f i.writer v → v ≡ By t
        maker (inl same) = sym same ∙ e
        maker (inr y) = absurd (let z : By t ≡ At y.1 = sym e ∙ y.3 in cc)

    by : (w : Writer) → i.writer ≡ w → Says f (clean_slot cs i).writer v
    by (By t) e = subst (λ o. Says f (as_told i o).writer v) (sym (ap (number_of_writer cs) e)) (told t e (number_of cs t) refl)
    by (At c) e = subst (λ o. Says f (as_told i o).writer v) (sym (ap (number_of_writer cs) e)) x

say_clean : (f : ℕ → Option ℕ) (cs : List (ℕ × ℕ)) (i : Slot) (ms : List Made) → TellsNumbers f cs → AllSay f i ms → AllSay f (clean_slot cs i) ms
say_clean f cs i [] h x = tt
say_clean f cs i (m ∷ ms) h x = (say_told f cs i m.by h x.0, x.1)

abbrev EffectTells : (ℕ → Option ℕ) → Effect → Type 0
EffectTells f (Cleans d cs) = TellsNumbers f cs
EffectTells f _ = Unit {0}

say_effect : (R : List Record) (f : ℕ → Option ℕ) (ef : Effect) → EffectFits R ef → LinksFit R ef → EffectTells f ef → Held (is_active R) (txn_count R) (standing R) (makers R)
    → ((b k : ℕ) → AllSay f (image R b k) (makers R b k)) → (b k : ℕ) → AllSay f (changed_image ef b k (image R b k)) (changed_makers ef b k (makers R b k))
say_effect R f Still e l n h x b k = x b k
say_effect R f (Formats d) e l n h x b k = elim (eqb d b) as (λ v. AllSay f (cond v new_slot (image R b k)) (cond v [] (makers R b k))) [ true ↦ tt | false ↦ x b k ]
say_effect R f (Adds st) e l n h x b k = say_adds R f st 0 st.parts b k (makers R b k) l.0 l.1 (x b k)
say_effect R f (TakesBack t) e l n h x b k =
    let a = t.undo in
    let o = own_newest (standing R) t.txn e.step e.newest in
    let top : OnTop (e.step ∷ o.0) (makers R) = subst (λ us. OnTop us (makers R)) o.1 (h.top t.txn e.active) in
    let lies : makers R b k ≡ made_by e.step 0 e.step.parts b k (without a (makers R b k)) = top.0 b k ∙ ap (λ z. made_by e.step 0 e.step.parts b k (without z (makers R b k))) (sym e.undo) in
    subst (λ ps. AllSay f (placed_in (restored ps) b k (image R b k)) (without a (makers R b k))) (sym e.restores)
    (say_back f e.step 0 e.step.parts b k (image R b k) (without a (makers R b k)) (subst (λ ms. AllSay f (image R b k) ms) lies (x b k)))
say_effect R f (Cleans d cs) e l n h x b k =
    elim (eqb d b) as (λ v. AllSay f (cond v (clean_slot cs (image R b k)) (image R b k)) (makers R b k)) [ true ↦ say_clean f cs (image R b k) (makers R b k) n (x b k) | false ↦ x b k ]

-- the numbers that a Clean states are those of commits
stated_is : (R : List Record) (t c : ℕ) → stated_number R t ≡ suc c → commit_number R t ≡ Some (suc c)
stated_is R t c e =
    (elim (is_forgotten R t) as (λ v. cond v 0 (number_or_zero (commit_number R t)) ≡ suc c → commit_number R t ≡ Some (suc c)) [
      | true ↦ λ g. absurd (let z : 0 ≡ suc c = g in cc)
      | false ↦ λ g. go (commit_number R t) refl g
    ]) e
  where
    go : (o : Option ℕ) → commit_number R t ≡ o → number_or_zero o ≡ suc c → commit_number R t ≡ Some (suc c)
    go None f g = absurd (let z : 0 ≡ suc c = g in cc)
    go (Some d) f g = f ∙ ap (λ (x : ℕ). Some x) g

tells_of : (sh : Shape) (R : List Record) (r : Record) → IsKindAllowed sh R r → EffectTells (commit_number R) (effect_of r)
tells_of sh R (Clean c) a = λ t k e. stated_is R t k (sym (a.each t (suc k) e).number)
tells_of sh R _ a = tt

number_stays : (sh : Shape) (R : List Record) (r : Record) → AreAllowed sh (r ∷ R) → (u c : ℕ) → commit_number R u ≡ Some c → commit_number (r ∷ R) u ≡ Some c
number_stays sh R (Commit k) h u c e =
    (elim (eqb k.txn u) as (λ v. eqb k.txn u ≡ v → cond v (Some (suc (commit_count R))) (commit_number R u) ≡ Some c) [
      | true ↦ λ y. absurd (true≢false (sym h.1.kind.active ∙ ap (is_active R) (eqb-true k.txn u y) ∙ ((txn_table sh R h.0).done u c e).0))
      | false ↦ λ y. e
    ]) refl
number_stays sh R _ h u c e = e

all_say : (sh : Shape) (R : List Record) → AreAllowed sh R → (b k : ℕ) → AllSay (commit_number R) (image R b k) (makers R b k)
all_say sh [] h b k = tt
all_say sh (r ∷ R) h b k =
    let f = record_fits sh R r h in
    let w = whole sh R h.0 in
    say_more (commit_number R) (commit_number (r ∷ R)) (image (r ∷ R) b k) (makers (r ∷ R) b k) (number_stays sh R r h)
    (say_effect R (commit_number R) (effect_of r) f.effect f.links (tells_of sh R r h.1.kind) (good sh R w.fit).held (all_say sh R h.0) b k)

-- commits

abbrev among : Option ℕ → ℕ → Bool
among None s = false
among (Some c) s = leb c s

committed_is : (sh : Shape) (R : List Record) (s u : ℕ) → AreAllowed sh R → is_committed_by R s u ≡ among (commit_number R u) s
committed_is sh [] s u h = refl
committed_is sh (Commit k ∷ R) s u h =
    (elim (eqb k.txn u) as (λ v. eqb k.txn u ≡ v → ((v && ltb (commit_count R) s) || is_committed_by R s u) ≡ among (cond v (Some (suc (commit_count R))) (commit_number R u)) s) [
      | true ↦ λ y. or_none (ltb (commit_count R) s) (is_committed_by R s u) ((known sh R s u h.0).open' (subst (λ x. is_active R x ≡ true) (eqb-true k.txn u y) h.1.kind.active))
      | false ↦ λ y. committed_is sh R s u h.0
    ]) refl
  where
    or_none : (x y : Bool) → y ≡ false → (x || y) ≡ x
    or_none true y e = refl
    or_none false y e = e
committed_is sh (_ ∷ R) s u h = committed_is sh R s u h.0

begun_positive : (sh : Shape) (R : List Record) (u : ℕ) → AreAllowed sh R → has_begun R u ≡ true → 1 ≤ u
begun_positive sh [] u h b = absurd (true≢false (sym b))
begun_positive sh (Begin g ∷ R) u h b = elim (or_cases (eqb g.txn u) (has_begun R u) b) [
  | inl y ↦ (let n = h.1.kind.number in let e = eqb-true g.txn u y in omega (arith, n, e))
  | inr z ↦ begun_positive sh R u h.0 z
]
begun_positive sh (_ ∷ R) u h b = begun_positive sh R u h.0 b

-- one that was rolled back is not active, and none of its steps stands

back_done : (sh : Shape) (R : List Record) (u : ℕ) → AreAllowed sh R → has_rolled_back R u ≡ true → (is_active R u ≡ false) × (has_begun R u ≡ true)
back_done sh [] u h b = absurd (true≢false (sym b))
back_done sh (Begin g ∷ R) u h b =
    let q = back_done sh R u h.0 b in
    let most = (txn_table sh R h.0).most u q.1 in
    let n = h.1.kind.number in
    let other : eqb g.txn u ≡ false = ne_eqb g.txn u (λ e. absurd (omega (arith, most, n, e))) in
    (ap (λ v. v || is_active R u) other ∙ q.0, or_right (eqb g.txn u) _ q.1)
back_done sh (Commit k ∷ R) u h b = let q = back_done sh R u h.0 b in (and_false (not (eqb k.txn u)) (is_active R u) q.0, q.1)
  where
    and_false : (x y : Bool) → y ≡ false → (x && y) ≡ false
    and_false true y e = e
    and_false false y e = refl
back_done sh (Ended x ∷ R) u h b = elim (cases_Bool (eqb x.txn u)) [
  | inl y ↦ (and_left _ _ (ap not y), subst (λ n. has_begun R n ≡ true) (eqb-true x.txn u y) ((txn_table sh R h.0).begun x.txn h.1.kind.active))
  | inr n ↦ let q = back_done sh R u h.0 (elim (or_cases (eqb x.txn u) (has_rolled_back R u) b) [ inl y ↦ absurd (true≢false (sym y ∙ n)) | inr z ↦ z ]) in (ap (λ v. not v && is_active R u) n ∙ q.0, q.1)
]
back_done sh (_ ∷ R) u h b = back_done sh R u h.0 b

abbrev IsLive : List Record → Step → Type 0
IsLive R st = (u : ℕ) → st.by ≡ By u → has_rolled_back R u ≡ false

active_live : (sh : Shape) (R : List Record) (u : ℕ) → AreAllowed sh R → is_active R u ≡ true → has_rolled_back R u ≡ false
active_live sh R u h on = elim (cases_Bool (has_rolled_back R u)) [ inl y ↦ absurd (true≢false (sym on ∙ (back_done sh R u h y).0)) | inr n ↦ n ]

none_newest : (ss : List Step) (t : ℕ) → newest_of ss t ≡ None → Every (λ (st : Step). is_by st.by t ≡ false) ss
none_newest [] t e = tt
none_newest (st ∷ ss) t e =
    (elim (is_by st.by t) as (λ v. is_by st.by t ≡ v → cond v (Some st) (newest_of ss t) ≡ None → Every (λ (x : Step). is_by x.by t ≡ false) (st ∷ ss)) [
      | true ↦ λ y f. absurd (let z : ◌≡◌ {A = Option Step} (Some st) None = f in cc)
      | false ↦ λ y f. (y, none_newest ss t f)
    ]) refl e

ended_live : (R : List Record) (t : ℕ) (ss : List Step) → Every (λ (st : Step). is_by st.by t ≡ false) ss → Every (IsLive R) ss → Every (λ st. (u : ℕ) → st.by ≡ By u → (eqb t u || has_rolled_back R u) ≡ false) ss
ended_live R t [] n h = tt
ended_live R t (st ∷ ss) n h = ((λ u e. ap (λ v. v || has_rolled_back R u) (ne_eqb t u (λ s. true≢false (sym (ap (λ w. is_by w t) e ∙ eq-eqb u t (sym s)) ∙ n.0))) ∙ h.0 u e), ended_live R t ss n.1 h.1)

live_effect : (sh : Shape) (R : List Record) (e : Effect) → AreAllowed sh R → EffectBasics R e → Every (IsLive R) (standing R) → Every (IsLive R) (standing_steps e (standing R))
live_effect sh R Still a b h = h
live_effect sh R (Formats d) a b h = h
live_effect sh R (Adds st) a b h = ((λ u e. active_live sh R u a (b.live u e)), h)
live_effect sh R (TakesBack t) a b h = every-filter _ _ (standing R) h
live_effect sh R (Cleans d cs) a b h = h

all_live : (sh : Shape) (R : List Record) → AreAllowed sh R → Every (IsLive R) (standing R)
all_live sh [] h = tt
all_live sh (r ∷ R) h = go r h.1.kind (live_effect sh R (effect_of r) h.0 (basics sh R r h.1.kind) (all_live sh R h.0))
  where
    go : (r : Record) → IsKindAllowed sh R r → Every (IsLive R) (standing (r ∷ R)) → Every (IsLive (r ∷ R)) (standing (r ∷ R))
    go (Ended x) a l = ended_live R x.txn (standing R) (none_newest (standing R) x.txn a.none_left) l
    go _ a l = l

stands_live : (R : List Record) (ss : List Step) (w : Writer) (a : UndoAddr) (u : ℕ) → Every (IsLive R) ss → Stands ss w a → w ≡ By u → has_rolled_back R u ≡ false
stands_live R [] w a u h s e = absurd s
stands_live R (st ∷ ss) w a u h s e = elim s [ inl y ↦ h.0 u (y.0 ∙ e) | inr z ↦ stands_live R ss w a u h.1 z e ]

-- what is told

or_true : (x : Bool) → (x || true) ≡ true
or_true true = refl
or_true false = refl

or_false : (x : Bool) → (x || false) ≡ x
or_false true = refl
or_false false = refl

not_own : (sh : Shape) (R : List Record) (t u c : ℕ) → AreAllowed sh R → IsOpen R t → commit_number R u ≡ Some c → eqb u t ≡ false
not_own sh R t u c h open' e = ne_eqb u t (λ s. other s open')
  where
    other : u ≡ t → IsOpen R t → ⊥
    other s (inl z) = let p = begun_positive sh R u h ((txn_table sh R h).done u c e).1 in omega (arith, p, s, z)
    other s (inr on) = true≢false (sym on ∙ ap (is_active R) (sym s) ∙ ((txn_table sh R h).done u c e).0)

committed_counts : (sh : Shape) (R : List Record) (s t u c : ℕ) → AreAllowed sh R → IsOpen R t → commit_number R u ≡ Some c → counts R s t (By u) ≡ leb c s
committed_counts sh R s t u c h open' e = ap (λ v. v || is_committed_by R s u) (not_own sh R t u c h open' e) ∙ committed_is sh R s u h ∙ ap (λ o. among o s) e

txn_tells : (sh : Shape) (R : List Record) (s t u : ℕ) → AreAllowed sh R → IsOpen R t → has_rolled_back R u ≡ false → TxnTells R s t u
txn_tells sh R s t u h open' live = record {
  active = λ on. ap (λ v. eqb u t || v) ((known sh R s u h).open' on) ∙ or_false (eqb u t);
  committed = λ c e. committed_counts sh R s t u c h open' e;
  forgotten = λ f l.
      let p = forgotten_have_passed sh R u h f in
      elim p.fate [
        | inl y ↦ committed_counts sh R s t u y.0 h open' y.1 ∙ le-leb y.0 s (le_trans (p.low y.0 y.1) l)
        | inr b ↦ absurd (true≢false (sym b ∙ live))
      ];
  not_back = live;
}

tells_at : (sh : Shape) (R : List Record) (s t c : ℕ) (w v : Writer) → AreAllowed sh R → IsOpen R t → Says (commit_number R) w v → w ≡ At c → counts R s t v ≡ leb c s
tells_at sh R s t c w v h open' (inl same) e = ap (counts R s t) (sym same ∙ e)
tells_at sh R s t c w v h open' (inr y) e =
    let same : y.1 ≡ c = (let z : At y.1 ≡ At c = sym y.3 ∙ e in cc) in
    ap (counts R s t) y.2 ∙ committed_counts sh R s t y.0 c h open' (y.4 ∙ ap (λ (n : ℕ). Some n) same)

tells_by : (f : ℕ → Option ℕ) (w v : Writer) (u : ℕ) → Says f w v → w ≡ By u → v ≡ By u
tells_by f w v u (inl same) e = sym same ∙ e
tells_by f w v u (inr y) e = absurd (let z : By u ≡ At y.1 = sym e ∙ y.3 in cc)

each_tells : (sh : Shape) (R : List Record) (s t : ℕ) (i : Slot) (ms : List Made) → AreAllowed sh R → IsOpen R t → AllSay (commit_number R) i ms → EachTells R s t i ms
each_tells sh R s t i [] h open' x = tt
each_tells sh R s t i (m ∷ ms) h open' x = (record { at = λ c e. tells_at sh R s t c i.writer m.by h open' x.0 e; by = λ u e. tells_by (commit_number R) i.writer m.by u x.0 e }, each_tells sh R s t m.old ms h open' x.1)

each_txn : (sh : Shape) (R : List Record) (s t : ℕ) (ms : List Made) → AreAllowed sh R → IsOpen R t → Every (λ (m : Made). Stands (standing R) m.by m.undo) ms → EachMade (λ m. (u : ℕ) → m.by ≡ By u → TxnTells R s t u) ms
each_txn sh R s t [] h open' x = tt
each_txn sh R s t (m ∷ ms) h open' x = ((λ u e. txn_tells sh R s t u h open' (stands_live R (standing R) m.by m.undo u (all_live sh R h) x.0 e)), each_txn sh R s t ms h open' x.1)

pub writers_are_told : WritersAreTold
writers_are_told sh R s t b k h open' = record {
  images = each_tells sh R s t (image R b k) (makers R b k) h open' (all_say sh R h b k);
  txns = each_txn sh R s t (makers R b k) h open' ((good sh R (whole sh R h).fit).held.stand b k);
}
