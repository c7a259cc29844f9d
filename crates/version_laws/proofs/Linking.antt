-- Steps of a transaction are linked.
use Rattle.std.proofs.Common.{◌≡◌, ◌⊎◌, ℕ, Bool, true, false, cond, not, List, [], ◌∷◌, Option, Some, None, refl, sym, ◌∙◌, ap, subst, inl, inr, true≢false, eqb-true, eq-eqb}
use Rattle.seg_words.proofs.Lemmas.{cases_Bool, cond-true, cond-false}
use Rattle.seg_words.specs.Types.{Shape, UndoAddr, Writer, By, At}
use Rattle.redo_model.specs.Records.{Record, Insert, Update, Migrate, Return, Delete, Back, Move, RowBody}
use Rattle.redo_model.specs.Model.{Step, Effect, effect_of, row_step, is_by, is_addr, standing, newest_of, undo_of_step, without_step, MayChange, place_of_undo, MigrateAllowed, DeleteAllowed, IsKindAllowed, AreAllowed}
use Rattle.redo_model.specs.Effects.{Adds}
use Rattle.redo_model.specs.AllowedRows.{migrates_plain, migrates_again, deletes_plain, deletes_migrated}
use Rattle.redo_laws.specs.Economy.{EachStep, HaveOwnUndo}
use Rattle.redo_laws.proofs.undo.EconomyLaw.{undo_is_enough}
use Rattle.redo_laws.proofs.steps.OnTop.{addr_self, addr_same}
use Rattle.version_laws.specs.Types.{StatesNext, AreLinked, PreviousIsNext}

-- a new step

abbrev EffectLinks : List Record → Effect → Type 0
EffectLinks R (Adds st) = StatesNext st (standing R)
EffectLinks R _ = Unit {0}

by_same : (t u : ℕ) → By t ≡ By u → t ≡ u
by_same t u e = cc

of_row : (R : List Record) (w : RowBody) (d : Bool) → MayChange R w → StatesNext (row_step w d) (standing R)
of_row R w d m = λ t e. m.previous ∙ ap (λ u. place_of_undo (undo_of_step (newest_of (standing R) u))) (by_same w.txn t e)

migrates : (sh : Shape) (R : List Record) (w : RowBody) → MigrateAllowed sh R w → MayChange R w
migrates sh R w (migrates_plain a) = a.change.change
migrates sh R w (migrates_again a) = a.change.change

deletes : (sh : Shape) (R : List Record) (w : RowBody) → DeleteAllowed sh R w → MayChange R w
deletes sh R w (deletes_plain a) = a.change.change
deletes sh R w (deletes_migrated a) = a.change.change

new_links : (sh : Shape) (R : List Record) (r : Record) → IsKindAllowed sh R r → EffectLinks R (effect_of r)
new_links sh R (Insert w) a = of_row R w false a.change
new_links sh R (Update w) a = of_row R w false a.change.change
new_links sh R (Migrate w) a = of_row R w false (migrates sh R w a)
new_links sh R (Return w) a = of_row R w false a.change.change
new_links sh R (Delete w) a = of_row R w true (deletes sh R w a)
new_links sh R (Move m) a = λ t e. absurd (let z : At m.number ≡ By t = e in cc)
new_links sh R _ a = tt

-- the newest step of t is taken out

not_both : (w : Writer) (t u : ℕ) → is_by w t ≡ true → is_by w u ≡ true → t ≡ u
not_both (By v) t u e f = sym (eqb-true v t e) ∙ eqb-true v u f
not_both (At c) t u e f = absurd (true≢false (sym e))

is_by_self : (w : Writer) (t : ℕ) → w ≡ By t → is_by w t ≡ true
is_by_self w t e = subst (λ x. is_by x t ≡ true) (sym e) (eq-eqb t t refl)

none_without : (a : UndoAddr) (ss : List Step) → EachStep (λ x. is_addr x.undo a ≡ false) ss → without_step a ss ≡ ss
none_without a [] h = refl
none_without a (s ∷ ss) h = cond-true _ _ _ (ap not h.0) ∙ ap (λ (xs : List Step). s ∷ xs) (none_without a ss h.1)

apart : (xs : List Step) (s : Step) (t : ℕ) (st : Step) → newest_of xs t ≡ Some st → EachStep (λ x. is_addr x.undo s.undo ≡ false) xs → is_addr s.undo st.undo ≡ true → ⊥
apart [] s t st g d k = let z : ◌≡◌ {A = Option Step} None (Some st) = g in cc
apart (x ∷ xs) s t st g d k = elim (cases_Bool (is_by x.by t)) [
  | inl y ↦
      let z : ◌≡◌ {A = Option Step} (Some x) (Some st) = sym (cond-true _ _ _ y) ∙ g in
      let same : x ≡ st = cc in
      true≢false (sym (subst (λ (b : UndoAddr). is_addr b s.undo ≡ true) (addr_same s.undo st.undo k ∙ ap (λ (q : Step). q.undo) (sym same)) (addr_self s.undo)) ∙ d.0)
  | inr f ↦ apart xs s t st (sym (cond-false _ _ _ f) ∙ g) d.1 k
]

twice : (v : Bool) → not v ≡ false → v ≡ true
twice true k = refl
twice false k = absurd (true≢false k)

-- another transaction's newest step stays
other_newest : (ss : List Step) (t u : ℕ) (st : Step) → newest_of ss t ≡ Some st → HaveOwnUndo ss → (t ≡ u → ⊥) → newest_of (without_step st.undo ss) u ≡ newest_of ss u
other_newest [] t u st e h n = refl
other_newest (s ∷ ss) t u st e h n = elim (cases_Bool (is_by s.by t)) [
  | inl y ↦
      let z : ◌≡◌ {A = Option Step} (Some s) (Some st) = sym (cond-true _ _ _ y) ∙ e in
      let same : s ≡ st = cc in
      let gone : without_step st.undo (s ∷ ss) ≡ ss = cond-false _ _ _ (ap not (subst (λ (x : Step). is_addr s.undo x.undo ≡ true) same (addr_self s.undo))) ∙ none_without st.undo ss (subst (λ (x : Step). EachStep (λ y. is_addr y.undo x.undo ≡ false) ss) same h.0) in
      ap (λ (xs : List Step). newest_of xs u) gone ∙ sym (cond-false _ _ _ (other s.by y (cases_Bool (is_by s.by u))))
  | inr f ↦ below (λ g. other_newest ss t u st g h.1 n) (sym (cond-false _ _ _ f) ∙ e)
]
  where
    other : (w : Writer) → is_by w t ≡ true → (is_by w u ≡ true) ⊎ (is_by w u ≡ false) → is_by w u ≡ false
    other w y (inl x) = absurd (n (not_both w t u y x))
    other w y (inr x) = x

    below : (newest_of ss t ≡ Some st → newest_of (without_step st.undo ss) u ≡ newest_of ss u) → newest_of ss t ≡ Some st → newest_of (without_step st.undo (s ∷ ss)) u ≡ newest_of (s ∷ ss) u
    below again g =
        let ih = again g in
        (elim (not (is_addr s.undo st.undo)) as (λ v. not (is_addr s.undo st.undo) ≡ v → newest_of (cond v (s ∷ without_step st.undo ss) (without_step st.undo ss)) u ≡ newest_of (s ∷ ss) u) [
          | true ↦ λ k. ap (λ (o : Option Step). cond (is_by s.by u) (Some s) o) ih
          | false ↦ λ k. absurd (apart ss s t st g h.0 (twice (is_addr s.undo st.undo) k))
        ]) refl

linked_without : (ss : List Step) (t : ℕ) (st : Step) → newest_of ss t ≡ Some st → HaveOwnUndo ss → AreLinked ss → AreLinked (without_step st.undo ss)
linked_without [] t st e h l = tt
linked_without (s ∷ ss) t st e h l = elim (cases_Bool (is_by s.by t)) [
  | inl y ↦
      let z : ◌≡◌ {A = Option Step} (Some s) (Some st) = sym (cond-true _ _ _ y) ∙ e in
      let same : s ≡ st = cc in
      let gone : without_step st.undo (s ∷ ss) ≡ ss = cond-false _ _ _ (ap not (subst (λ (x : Step). is_addr s.undo x.undo ≡ true) same (addr_self s.undo))) ∙ none_without st.undo ss (subst (λ (x : Step). EachStep (λ y. is_addr y.undo x.undo ≡ false) ss) same h.0) in
      subst (λ (xs : List Step). AreLinked xs) (sym gone) l.1
  | inr f ↦ below (λ g. linked_without ss t st g h.1 l.1) f (sym (cond-false _ _ _ f) ∙ e)
]
  where
    below : (newest_of ss t ≡ Some st → AreLinked (without_step st.undo ss)) → is_by s.by t ≡ false → newest_of ss t ≡ Some st → AreLinked (without_step st.undo (s ∷ ss))
    below again f g = elim (not (is_addr s.undo st.undo)) as (λ v. AreLinked (cond v (s ∷ without_step st.undo ss) (without_step st.undo ss))) [
      | true ↦ ((λ u e. l.0 u e ∙ ap (λ (o : Option Step). place_of_undo (undo_of_step o)) (sym (other_newest ss t u st g h.1 (λ q. true≢false (sym (is_by_self s.by u e) ∙ ap (is_by s.by) (sym q) ∙ f))))), again g)
      | false ↦ again g
    ]

linked_effect : (sh : Shape) (R : List Record) (r : Record) → AreAllowed sh R → IsKindAllowed sh R r → AreLinked (standing R) → AreLinked (standing (r ∷ R))
linked_effect sh R (Back k) al a l = subst (λ (x : UndoAddr). AreLinked (without_step x (standing R))) (sym a.undo) (linked_without (standing R) k.txn a.step a.newest (undo_is_enough sh R al).distinct l)
linked_effect sh R (Insert w) al a l = (new_links sh R (Insert w) a, l)
linked_effect sh R (Update w) al a l = (new_links sh R (Update w) a, l)
linked_effect sh R (Migrate w) al a l = (new_links sh R (Migrate w) a, l)
linked_effect sh R (Return w) al a l = (new_links sh R (Return w) a, l)
linked_effect sh R (Delete w) al a l = (new_links sh R (Delete w) a, l)
linked_effect sh R (Move m) al a l = (new_links sh R (Move m) a, l)
linked_effect sh R _ al a l = l

pub previous_is_next : PreviousIsNext
previous_is_next sh [] h = tt
previous_is_next sh (r ∷ R) h = linked_effect sh R r h.0 h.1.kind (previous_is_next sh R h.0)
