-- The view at all commits, by the steps that stand.
use Rattle.std.proofs.Common.{◌≡◌, ℕ, suc, ◌<◌, ◌≤◌, Bool, true, false, cond, not, ◌&&◌, ◌||◌, eqb, leb, List, [], ◌∷◌, Option, Some, None, filter, refl, sym, ◌∙◌, ap, ap₂, subst, arith, ◌⊎◌, inl, inr, le_trans, eqb-true, ne_eqb, true≢false, eq-eqb, lt-ltb, le-leb}
use Rattle.seg_words.proofs.Lemmas.{eqb-false, cond-true, cond-false, cases_Bool, and_parts, and_from, and_left, and_right, or_parts, or_right}
use Rattle.seg_words.specs.Types.{Shape, UndoAddr, Writer, By, At}
use Rattle.redo_model.specs.Records.{Record, Begin, Insert, Update, Migrate, Return, Delete, Commit, Back, Ended, Move, BeginRecord, CommitRecord, EndedRecord}
use Rattle.redo_model.specs.Model.{Step, Effect, effect_of, commit_count, txn_count, is_active, is_committed_by, is_addr, is_by, all_steps, steps, without_step, standing_steps, standing, newest_of, newest_on, is_backed, outcome, changed, table_at, view, counts, IsKindAllowed, AreAllowed, row_step}
use Rattle.redo_model.specs.Effects.{Still, Formats, Adds, TakesBack, Cleans}
use Rattle.redo_laws.proofs.lists.Every.{Every, every-map, every-filter, filter-all, filter-swap}
use Rattle.redo_laws.proofs.steps.Facts.{Counted, MayOver, BegunBy, EffectFits, IsFit, newest_outcome}
use Rattle.redo_laws.proofs.numbers.Known.{known, Turn, turn}
use Rattle.redo_laws.proofs.numbers.Ordinals.{move_number}
use Rattle.redo_laws.proofs.steps.Held.{Distinct, own, Tops, tops, others_own, effect_held}
use Rattle.redo_laws.proofs.spread.Spread.{Good, good, by_of, tops_by}

-- no newer step on a row than that of an active transaction, but its own
abbrev pub RowLock : (ℕ → Bool) → List Step → Type 0
RowLock active [] = Unit {0}
RowLock active (x ∷ ss) = Every (λ (s : Step). s.row ≡ x.row → MayOver active x.by s.by) ss × RowLock active ss

-- what isn't by t leaves what was there
changed_none : (ss : List Step) (o t n : ℕ) (d : Option (List ℕ)) → Every (λ (s : Step). s.row ≡ n → is_by s.by t ≡ false) ss → changed ss o t n d ≡ d
changed_none [] o t n d h = refl
changed_none (s ∷ ss) o t n d h =
    elim (cases_Bool (is_by s.by t && (eqb s.obj o && eqb s.row n))) [
      | inl y ↦
          let p = and_parts (is_by s.by t) (eqb s.obj o && eqb s.row n) y in
          let q = and_parts (eqb s.obj o) (eqb s.row n) p.1 in
          absurd (true≢false (sym p.0 ∙ h.0 (eqb-true s.row n q.1)))
      | inr f ↦ cond-false _ _ _ f ∙ changed_none ss o t n d h.1
    ]

by_self : (w : Writer) (u : ℕ) → w ≡ By u → is_by w u ≡ true
by_self w u e = subst (λ x. is_by x u ≡ true) (sym e) (eq-eqb u u refl)

-- the changes of an active transaction lie over those of the others that count
layered : (active : ℕ → Bool) (ss : List Step) (o t n : ℕ) (d : Writer → Bool) → RowLock active ss → active t ≡ true → changed ss o t n (newest_outcome (λ w a. d w) ss o n) ≡ newest_outcome (λ w a. is_by w t || d w) ss o n
layered active [] o t n d lock on = refl
layered active (x ∷ ss) o t n d lock on =
    elim (cases_Bool (eqb x.obj o && eqb x.row n)) [
      | inr f ↦ simp (f, and_right) (layered active ss o t n d lock.1 on)
      | inl y ↦ elim (cases_Bool (is_by x.by t)) [
        | inl p ↦ simp (y, p)
        | inr p ↦ elim (cases_Bool (d x.by)) [
          | inl q ↦ simp (y, p, q) (changed_none ss o t n (outcome x) (under y p))
          | inr q ↦ simp (y, p, q) (layered active ss o t n d lock.1 on)
        ]
      ]
    ]
  where
    under : (eqb x.obj o && eqb x.row n) ≡ true → is_by x.by t ≡ false → Every (λ (s : Step). s.row ≡ n → is_by s.by t ≡ false) ss
    under y p = every-map _ _ ss (λ s h row. elim (cases_Bool (is_by s.by t)) [
      | inl z ↦
          let o : MayOver active x.by (By t) = subst (MayOver active x.by) (by_of s.by t z) (h (row ∙ sym (eqb-true x.row n (and_parts (eqb x.obj o) (eqb x.row n) y).1))) in
          absurd (true≢false (sym (by_self x.by t (o on)) ∙ p))
      | inr z ↦ z
    ]) lock.0

-- only the writers that are met matter
same_newest : (c d : Counted) (ss : List Step) (o n : ℕ) → Every (λ (s : Step). c s.by s.undo ≡ d s.by s.undo) ss → newest_outcome c ss o n ≡ newest_outcome d ss o n
same_newest c d [] o n h = refl
same_newest c d (s ∷ ss) o n h = ap₂ (λ v x. cond (v && (eqb s.obj o && eqb s.row n)) (outcome s) x) h.0 (same_newest c d ss o n h.1)

-- a step that doesn't count may go
newest_without : (c : Counted) (a : UndoAddr) (ss : List Step) (o n : ℕ) → Every (λ (s : Step). is_addr s.undo a ≡ true → c s.by s.undo ≡ false) ss → newest_outcome c (without_step a ss) o n ≡ newest_outcome c ss o n
newest_without c a [] o n h = refl
newest_without c a (s ∷ ss) o n h =
    elim (cases_Bool (is_addr s.undo a)) [
      | inl y ↦ let off = h.0 y in simp (y, off) (newest_without c a ss o n h.1)
      | inr f ↦ simp f (ap (cond (c s.by s.undo && (eqb s.obj o && eqb s.row n)) (outcome s)) (newest_without c a ss o n h.1))
    ]

-- the newest step on a row decides, where it counts
newest_decides : (c : Counted) (ss : List Step) (o n : ℕ) (last : Step) → newest_on ss n ≡ Some last → c last.by last.undo ≡ true → eqb last.obj o ≡ true → newest_outcome c ss o n ≡ outcome last
newest_decides c [] o n last h y p = absurd (let x : ◌≡◌ {A = Option Step} None (Some last) = h in cc)
newest_decides c (x ∷ ss) o n last h y p =
    (elim (eqb x.row n) as (λ v. cond v (Some x) (newest_on ss n) ≡ Some last → cond (c x.by x.undo && (eqb x.obj o && v)) (outcome x) (newest_outcome c ss o n) ≡ outcome last) [
      | true ↦ λ e. let same : last ≡ x = cc in subst (λ (s : Step). c s.by s.undo ≡ true → eqb s.obj o ≡ true → cond (c x.by x.undo && (eqb x.obj o && true)) (outcome x) (newest_outcome c ss o n) ≡ outcome s) (sym same) (λ y' p'. simp (y', p')) y p
      | false ↦ λ e. simp and_right (newest_decides c ss o n last e y p)
    ]) h

-- what the first s commits made
abbrev done : List Record → ℕ → Writer → Bool
done R s (By u) = is_committed_by R s u
done R s (At m) = leb m s

-- each step that stands is by one that is active or counts
abbrev pub Settled : List Record → ℕ → Writer → Type 0
Settled R s (By u) = (is_active R u ≡ true) ⊎ (is_committed_by R s u ≡ true)
Settled R s (At m) = leb m s ≡ true

pub over_trans : (active : ℕ → Bool) (w v z : Writer) → MayOver active w v → MayOver active v z → MayOver active w z
over_trans active w v (By u) a b = λ on. let o : MayOver active w (By u) = subst (MayOver active w) (b on) a in o on
over_trans active w v (At m) a b = tt

pub lock_over : (active : ℕ → Bool) (w : Writer) (n : ℕ) (ss : List Step) → RowLock active ss → ((last : Step) → newest_on ss n ≡ Some last → MayOver active w last.by) → Every (λ (s : Step). s.row ≡ n → MayOver active w s.by) ss
lock_over active w n [] lock h = tt
lock_over active w n (x ∷ ss) lock h =
    (elim (eqb x.row n) as (λ v. eqb x.row n ≡ v → ((last : Step) → cond v (Some x) (newest_on ss n) ≡ Some last → MayOver active w last.by) → Every (λ (s : Step). s.row ≡ n → MayOver active w s.by) (x ∷ ss)) [
      | true ↦ λ e k. let o = k x refl in ((λ _. o), every-map _ _ ss (λ s f row. over_trans active w x.by s.by o (f (row ∙ sym (eqb-true x.row n e)))) lock.0)
      | false ↦ λ e k. ((λ row. absurd (eqb-false x.row n e row)), lock_over active w n ss lock.1 k)
    ]) refl h

lock_filter : (active : ℕ → Bool) (f : Step → Bool) (ss : List Step) → RowLock active ss → RowLock active (filter f ss)
lock_filter active f [] h = tt
lock_filter active f (s ∷ ss) h = elim (f s) as (λ v. RowLock active (cond v (s ∷ filter f ss) (filter f ss))) [ true ↦ (every-filter _ f ss h.0, lock_filter active f ss h.1) | false ↦ lock_filter active f ss h.1 ]

effect_lock : (R : List Record) (ef : Effect) → EffectFits R ef → RowLock (is_active R) (standing R) → RowLock (is_active R) (standing_steps ef (standing R))
effect_lock R Still f h = h
effect_lock R (Formats d) f h = h
effect_lock R (Adds st) f h = (lock_over (is_active R) st.by st.row (standing R) h f.row_free, h)
effect_lock R (TakesBack body) f h = lock_filter (is_active R) _ (standing R) h
effect_lock R (Cleans d cs) f h = h

over_turn : (R : List Record) (r : Record) (w v : Writer) → Turn R r → BegunBy (txn_count R) v → MayOver (is_active R) w v → MayOver (is_active (r ∷ R)) w v
over_turn R r w (By u) t b o = λ on. elim (t.live u on) [ inl y ↦ o y | inr l ↦ absurd (omega (arith, b)) ]
over_turn R r w (At m) t b o = tt

every-both : (P Q S : Step → Type 0) (ss : List Step) → ((s : Step) → P s → Q s → S s) → Every P ss → Every Q ss → Every S ss
every-both P Q S [] f p q = tt
every-both P Q S (s ∷ ss) f p q = (f s p.0 q.0, every-both P Q S ss f p.1 q.1)

lock_turn : (R : List Record) (r : Record) (ss : List Step) → Turn R r → Every (λ (s : Step). BegunBy (txn_count R) s.by) ss → RowLock (is_active R) ss → RowLock (is_active (r ∷ R)) ss
lock_turn R r [] t b h = tt
lock_turn R r (x ∷ ss) t b h = (every-both _ _ _ ss (λ s p q row. over_turn R r x.by s.by t p (q row)) b.1 h.0, lock_turn R r ss t b.1 h.1)

none_by : (ss : List Step) (t : ℕ) → newest_of ss t ≡ None → Every (λ (s : Step). is_by s.by t ≡ false) ss
none_by [] t h = tt
none_by (s ∷ ss) t h =
    (elim (is_by s.by t) as (λ v. is_by s.by t ≡ v → cond v (Some s) (newest_of ss t) ≡ None → Every (λ (s : Step). is_by s.by t ≡ false) (s ∷ ss)) [
      | true ↦ λ i e. cc
      | false ↦ λ i e. (i, none_by ss t e)
    ]) refl h

commit_settles : (R : List Record) (c : CommitRecord) (s : ℕ) (w : Writer) → commit_count R < s → Settled R s w → Settled (Commit c ∷ R) s w
commit_settles R c s (By u) l h =
    elim (cases_Bool (eqb c.txn u)) [
      | inl y ↦ let e = lt-ltb (commit_count R) s l in inr (simp (y, e))
      | inr n ↦ elim h [ inl on ↦ inl (simp (n, on)) | inr in' ↦ inr (simp (n, in')) ]
    ]
commit_settles R c s (At m) l h = h

begin_settles : (R : List Record) (g : BeginRecord) (s : ℕ) (w : Writer) → Settled R s w → Settled (Begin g ∷ R) s w
begin_settles R g s (By u) h = elim h [ inl on ↦ inl (or_right (eqb g.txn u) (is_active R u) on) | inr in' ↦ inr in' ]
begin_settles R g s (At m) h = h

end_settles : (R : List Record) (e : EndedRecord) (s : ℕ) (w : Writer) → is_by w e.txn ≡ false → Settled R s w → Settled (Ended e ∷ R) s w
end_settles R e s (By u) ne h =
    elim h [
      | inl on ↦ let n : eqb e.txn u ≡ false = ne_eqb e.txn u (λ x. eqb-false u e.txn ne (sym x)) in inl (simp (n, on))
      | inr in' ↦ inr in'
    ]
end_settles R e s (At m) ne h = h

settled_step : (sh : Shape) (R : List Record) (r : Record) (s : ℕ) → EffectFits R (effect_of r) → IsKindAllowed sh R r → commit_count (r ∷ R) ≤ s → Every (λ (x : Step). Settled R s x.by) (standing R) → Every (λ (x : Step). Settled (r ∷ R) s x.by) (standing (r ∷ R))
settled_step sh R (Commit c) s f a l h = every-map _ _ _ (λ x y. commit_settles R c s x.by l y) h
settled_step sh R (Begin g) s f a l h = every-map _ _ _ (λ x y. begin_settles R g s x.by y) h
settled_step sh R (Ended e) s f a l h = every-both _ _ _ (standing R) (λ x y z. end_settles R e s x.by y z) (none_by (standing R) e.txn a.none_left) h
settled_step sh R (Back k) s f a l h = every-filter _ _ (standing R) h
settled_step sh R (Insert w) s f a l h = (inl (f.live w.txn refl), h)
settled_step sh R (Update w) s f a l h = (inl (f.live w.txn refl), h)
settled_step sh R (Migrate w) s f a l h = (inl (f.live w.txn refl), h)
settled_step sh R (Return w) s f a l h = (inl (f.live w.txn refl), h)
settled_step sh R (Delete w) s f a l h = (inl (f.live w.txn refl), h)
settled_step sh R (Move m) s f a l h = (le-leb m.number s (let e : m.number ≡ suc (commit_count R) = move_number sh R m a in omega arith), h)
settled_step sh R _ s f a l h = h

-- a transaction of which nothing is taken back
abbrev IsNoBack : Effect → Type 0
IsNoBack (TakesBack body) = ⊥
IsNoBack _ = Unit {0}

whole_other : (u : ℕ) (ef : Effect) (ss ts : List Step) → IsNoBack ef → own u ss ≡ own u ts → own u (all_steps ef ss) ≡ own u (standing_steps ef ts)
whole_other u (Adds st) ss ts f h = ap (λ us. cond (is_by st.by u) (st ∷ us) us) h
whole_other u (TakesBack body) ss ts f h = absurd f
whole_other u _ ss ts f h = h

whole_step : (R : List Record) (r : Record) (u : ℕ) → EffectFits R (effect_of r) → Distinct (standing R) → is_backed (r ∷ R) u ≡ false → (is_backed R u ≡ false → own u (steps R) ≡ own u (standing R)) → own u (steps (r ∷ R)) ≡ own u (standing (r ∷ R))
whole_step R (Back k) u f d b h =
    let p = or_parts (eqb k.txn u) (is_backed R u) b in
    let a = k.undo in
    let t : Tops a k.txn (standing R) = subst (λ x. Tops x k.txn (standing R)) (sym f.undo) (tops (standing R) k.txn f.step d f.newest) in
    let others = others_own a k.txn u (standing R) (λ e. eqb-false k.txn u p.0 (sym e)) t in
    h p.1 ∙ sym (filter-all _ (own u (standing R)) (every-map _ _ _ (λ s x. ap not x) others)) ∙ filter-swap _ _ (standing R)
whole_step R (Insert w) u f d b h = whole_other u (effect_of (Insert w)) (steps R) (standing R) tt (h b)
whole_step R (Update w) u f d b h = whole_other u (effect_of (Update w)) (steps R) (standing R) tt (h b)
whole_step R (Migrate w) u f d b h = whole_other u (effect_of (Migrate w)) (steps R) (standing R) tt (h b)
whole_step R (Return w) u f d b h = whole_other u (effect_of (Return w)) (steps R) (standing R) tt (h b)
whole_step R (Delete w) u f d b h = whole_other u (effect_of (Delete w)) (steps R) (standing R) tt (h b)
whole_step R (Move m) u f d b h = whole_other u (effect_of (Move m)) (steps R) (standing R) tt (h b)
whole_step R _ u f d b h = h b

changed_own : (ss : List Step) (o t n : ℕ) (d : Option (List ℕ)) → changed (own t ss) o t n d ≡ changed ss o t n d
changed_own [] o t n d = refl
changed_own (s ∷ ss) o t n d =
    elim (cases_Bool (is_by s.by t)) [
      | inl y ↦ simp y (ap (cond (eqb s.obj o && eqb s.row n) (outcome s)) (changed_own ss o t n d))
      | inr f ↦ simp f (changed_own ss o t n d)
    ]

-- tables

abbrev TableIs : List Record → ℕ → ℕ → ℕ → Type 0
TableIs R o s n = table_at R o s n ≡ newest_outcome (λ w a. done R s w) (standing R) o n

adds_table : (sh : Shape) (R : List Record) (s u : ℕ) (st : Step) (o n : ℕ) → AreAllowed sh R → st.by ≡ By u → is_active R u ≡ true → newest_outcome (λ w a. done R s w) (st ∷ standing R) o n ≡ newest_outcome (λ w a. done R s w) (standing R) o n
adds_table sh R s u st o n l by on =
    let off : done R s st.by ≡ false = ap (done R s) by ∙ (known sh R s u l).open' on in
    cond-false _ _ _ (and_left (done R s st.by) (eqb st.obj o && eqb st.row n) off)

-- what the others do: the writers of an effect are an active transaction's
done_commit : (R : List Record) (c : CommitRecord) (s : ℕ) (w : Writer) → commit_count R < s → done (Commit c ∷ R) s w ≡ (is_by w c.txn || done R s w)
done_commit R c s (By u) l =
    elim (cases_Bool (eqb c.txn u)) [
      | inl y ↦ let e = lt-ltb (commit_count R) s l in let z : eqb u c.txn ≡ true = eq-eqb u c.txn (sym (eqb-true c.txn u y)) in simp (y, e, z)
      | inr n ↦ let z : eqb u c.txn ≡ false = ne_eqb u c.txn (λ x. eqb-false c.txn u n (sym x)) in simp (n, z)
    ]
done_commit R c s (At m) l = refl

every-of : (P : Step → Type 0) (ss : List Step) → ((s : Step) → P s) → Every P ss
every-of P [] f = tt
every-of P (s ∷ ss) f = (f s, every-of P ss f)

table_step : (sh : Shape) (R : List Record) (r : Record) (s o n : ℕ) → AreAllowed sh R → EffectFits R (effect_of r) → IsKindAllowed sh R r → commit_count (r ∷ R) ≤ s
    → RowLock (is_active R) (standing R) → Distinct (standing R) → Every (λ (x : Step). Settled R s x.by) (standing R)
    → ((u : ℕ) → is_backed R u ≡ false → own u (steps R) ≡ own u (standing R))
    → TableIs R o s n → TableIs (r ∷ R) o s n
table_step sh R (Commit c) s o n law f a l lock d settled whole h =
    cond-true _ _ _ (lt-ltb (commit_count R) s l)
    ∙ sym (changed_own (steps R) o c.txn n (table_at R o s n))
    ∙ ap (λ us. changed us o c.txn n (table_at R o s n)) (whole c.txn a.whole)
    ∙ changed_own (standing R) o c.txn n (table_at R o s n)
    ∙ ap (changed (standing R) o c.txn n) h
    ∙ layered (is_active R) (standing R) o c.txn n (done R s) lock a.active
    ∙ sym (same_newest (λ w b. done (Commit c ∷ R) s w) (λ w b. is_by w c.txn || done R s w) (standing R) o n (every-of _ (standing R) (λ x. done_commit R c s x.by l)))
table_step sh R (Back k) s o n law f a l lock d settled whole h =
    h ∙ sym (newest_without (λ w b. done R s w) k.undo (standing R) o n (every-map _ _ _ (λ x by same. ap (done R s) (by_of x.by k.txn (by same)) ∙ (known sh R s k.txn law).open' f.active)
    (tops_by k.undo k.txn (standing R) (subst (λ x. Tops x k.txn (standing R)) (sym f.undo) (tops (standing R) k.txn f.step d f.newest)))))
table_step sh R (Insert w) s o n law f a l lock d settled whole h = h ∙ sym (adds_table sh R s w.txn (row_step w false) o n law refl (f.live w.txn refl))
table_step sh R (Update w) s o n law f a l lock d settled whole h = h ∙ sym (adds_table sh R s w.txn (row_step w false) o n law refl (f.live w.txn refl))
table_step sh R (Migrate w) s o n law f a l lock d settled whole h = h ∙ sym (adds_table sh R s w.txn (row_step w false) o n law refl (f.live w.txn refl))
table_step sh R (Return w) s o n law f a l lock d settled whole h = h ∙ sym (adds_table sh R s w.txn (row_step w false) o n law refl (f.live w.txn refl))
table_step sh R (Delete w) s o n law f a l lock d settled whole h = h ∙ sym (adds_table sh R s w.txn (row_step w true) o n law refl (f.live w.txn refl))
table_step sh R (Move m) s o n law f a l lock d settled whole h =
    let k = f.kept m.number refl in
    let counts' : leb m.number s ≡ true = le-leb m.number s (let e : m.number ≡ suc (commit_count R) = k.number in omega arith) in
    elim (cases_Bool (eqb m.obj o && eqb m.row n)) [
      | inr z ↦ simp (z, and_right) h
      | inl y ↦
          let p = and_parts (eqb m.obj o) (eqb m.row n) y in
          let here : newest_on (standing R) n ≡ Some k.last = ap (newest_on (standing R)) (sym (eqb-true m.row n p.1)) ∙ k.newest in
          let obj : eqb k.last.obj o ≡ true = ap (λ x. eqb x o) k.obj ∙ p.0 in
          let on : done R s k.last.by ≡ true = last_done R s m.number k.last (newest_has (standing R) n k.last here settled) (f.row_free k.last k.newest) in
          h ∙ newest_decides (λ w b. done R s w) (standing R) o n k.last here on obj ∙ sym k.same ∙ sym (cond-true _ _ _ (and_from (leb m.number s) _ counts' y))
    ]
  where
    newest_has : (ss : List Step) (n : ℕ) (last : Step) → newest_on ss n ≡ Some last → Every (λ (x : Step). Settled R s x.by) ss → Settled R s last.by
    newest_has [] n last e h = absurd (let x : ◌≡◌ {A = Option Step} None (Some last) = e in cc)
    newest_has (x ∷ ss) n last e h =
        (elim (eqb x.row n) as (λ v. cond v (Some x) (newest_on ss n) ≡ Some last → Settled R s last.by) [
          | true ↦ λ e. let same : x ≡ last = cc in subst (λ (z : Step). Settled R s z.by) same h.0
          | false ↦ λ e. newest_has ss n last e h.1
        ]) e

    last_done : (R : List Record) (s k : ℕ) (last : Step) → Settled R s last.by → MayOver (is_active R) (At k) last.by → done R s last.by ≡ true
    last_done R s k last h o = go last.by h o
      where
        go : (w : Writer) → Settled R s w → MayOver (is_active R) (At k) w → done R s w ≡ true
        go (By u) h o = elim h [ inl on ↦ absurd (let x : At k ≡ By u = o on in cc) | inr in' ↦ in' ]
        go (At j) h o = h
table_step sh R _ s o n law f a l lock d settled whole h = h

pub record Ready (R : List Record) : Type 0 where
  pub lawful : Good R
  pub lock : RowLock (is_active R) (standing R)
  pub settled : (s : ℕ) → commit_count R ≤ s → Every (λ (x : Step). Settled R s x.by) (standing R)
  pub whole : (u : ℕ) → is_backed R u ≡ false → own u (steps R) ≡ own u (standing R)
  pub table : (s o n : ℕ) → commit_count R ≤ s → TableIs R o s n

pub fit_lawful : (sh : Shape) (R : List Record) → IsFit sh R → AreAllowed sh R
fit_lawful sh [] h = tt
fit_lawful sh (r ∷ R) h = (fit_lawful sh R h.0, h.2)

commits_more : (R : List Record) (r : Record) → commit_count R ≤ commit_count (r ∷ R)
commits_more R (Commit c) = omega arith
commits_more R (Move m) = omega arith
commits_more R _ = omega arith

pub ready : (sh : Shape) (R : List Record) → IsFit sh R → Ready R
ready sh [] h = record { lawful = good sh [] h; lock = tt; settled = λ s l. tt; whole = λ u b. refl; table = λ s o n l. refl }
ready sh (r ∷ R) h =
    let g = ready sh R h.0 in
    let t = turn sh R r h.2.kind in
    let held = g.lawful.held in
    let less : (s : ℕ) → commit_count (r ∷ R) ≤ s → commit_count R ≤ s = λ s l. le_trans (commits_more R r) l in
    record {
      lawful = good sh (r ∷ R) h;
      lock = lock_turn R r (standing (r ∷ R)) t (effect_held R (effect_of r) h.1 held).begun (effect_lock R (effect_of r) h.1 g.lock);
      settled = λ s l. settled_step sh R r s h.1 h.2.kind l (g.settled s (less s l));
      whole = λ u b. whole_step R r u h.1 held.distinct b (g.whole u);
      table = λ s o n l. table_step sh R r s o n (fit_lawful sh R h.0) h.1 h.2.kind l g.lock held.distinct (g.settled s (less s l)) g.whole (g.table s o n (less s l));
    }

counts_by : (R : List Record) (s t : ℕ) (w : Writer) → (is_by w t || done R s w) ≡ counts R s t w
counts_by R s t (By u) = refl
counts_by R s t (At m) = refl

-- transactions are numbered from 1
active_from_one : (sh : Shape) (R : List Record) (t : ℕ) → AreAllowed sh R → is_active R t ≡ true → 1 ≤ t
active_from_one sh [] t h on = absurd (true≢false (sym on))
active_from_one sh (r ∷ R) t h on = elim ((turn sh R r h.1.kind).live t on) [ inl y ↦ active_from_one sh R t h.0 y | inr l ↦ omega arith ]

-- none of the steps is by 0
abbrev pub NoneByZero : List Step → Type 0
NoneByZero ss = Every (λ (s : Step). is_by s.by 0 ≡ false) ss

live_not_zero : (sh : Shape) (R : List Record) (w : Writer) → AreAllowed sh R → ((u : ℕ) → w ≡ By u → is_active R u ≡ true) → is_by w 0 ≡ false
live_not_zero sh R (At m) h f = refl
live_not_zero sh R (By u) h f = ne_eqb u 0 (λ e. let l = active_from_one sh R u h (f u refl) in omega arith)

effect_not_zero : (sh : Shape) (R : List Record) (ef : Effect) → AreAllowed sh R → EffectFits R ef → NoneByZero (standing R) → NoneByZero (standing_steps ef (standing R))
effect_not_zero sh R Still h f z = z
effect_not_zero sh R (Formats d) h f z = z
effect_not_zero sh R (Adds st) h f z = (live_not_zero sh R st.by h f.live, z)
effect_not_zero sh R (TakesBack k) h f z = every-filter _ _ (standing R) z
effect_not_zero sh R (Cleans d cs) h f z = z

pub none_by_zero : (sh : Shape) (R : List Record) → IsFit sh R → NoneByZero (standing R)
none_by_zero sh [] h = tt
none_by_zero sh (r ∷ R) h = effect_not_zero sh R (effect_of r) (fit_lawful sh R h.0) h.1 (none_by_zero sh R h.0)

-- without a transaction a view is the table
pub view_of_none : (sh : Shape) (R : List Record) (o s n : ℕ) → IsFit sh R → view R o s 0 n ≡ table_at R o s n
view_of_none sh R o s n h = changed_none (standing R) o 0 n (table_at R o s n) (every-map _ _ (standing R) (λ x z row. z) (none_by_zero sh R h))

-- an active transaction, or none
abbrev pub IsOpen : List Record → ℕ → Type 0
IsOpen R t = (t ≡ 0) ⊎ (is_active R t ≡ true)

pub view_is_newest : (sh : Shape) (R : List Record) (o s t n : ℕ) → IsFit sh R → commit_count R ≤ s → IsOpen R t → view R o s t n ≡ newest_outcome (λ w a. counts R s t w) (standing R) o n
view_is_newest sh R o s t n h l (inr on) =
    let g = ready sh R h in
    ap (changed (standing R) o t n) (g.table s o n l)
    ∙ layered (is_active R) (standing R) o t n (done R s) g.lock on
    ∙ same_newest (λ w a. is_by w t || done R s w) (λ w a. counts R s t w) (standing R) o n (every-of _ (standing R) (λ x. counts_by R s t x.by))
view_is_newest sh R o s t n h l (inl e) =
    let g = ready sh R h in
    let zero_case : view R o s 0 n ≡ newest_outcome (λ w a. counts R s 0 w) (standing R) o n =
    view_of_none sh R o s n h ∙ g.table s o n l
    ∙ same_newest (λ w a. done R s w) (λ w a. counts R s 0 w) (standing R) o n (every-map _ _ (standing R) (λ x z. ap (λ v. v || done R s x.by) (sym z) ∙ counts_by R s 0 x.by) (none_by_zero sh R h)) in
    subst (λ u. view R o s u n ≡ newest_outcome (λ w a. counts R s u w) (standing R) o n) (sym e) zero_case
