-- Who owns a record, as the history grows.
use Rattle.std.proofs.Common.{◌≡◌, ℕ, suc, ◌+◌, ◌≤◌, ◌<◌, true, false, cond, ◌&&◌, eqb, leb, ltb, List, [], ◌∷◌, length, Option, Some, None, refl, sym, ◌∙◌, ap, subst, le_trans, le_refl, eqb-true, leb-true, le-leb, le-ltb, lt-ltb}
use Rattle.seg_words.proofs.Lemmas.{cond-false, cond-true, lt-leb}
use Rattle.seg_words.specs.Types.{Shape}
use Rattle.redo_model.specs.Records.{Record}
use Rattle.script_text.specs.declared.statement.Statement.{Statement}
use Rattle.history_text.specs.declared.entry.Entry.{Entry}
use Rattle.history_model.specs.declared.history.Start.{Start}
use Rattle.history_model.specs.declared.history.Kept.{Kept}
use Rattle.history_model.specs.declared.history.HistoryItem.{HistoryItem}
use Rattle.history_model.specs.declared.history.HistoryItem.TheVariants as item
use Rattle.history_model.specs.History.{IsSession, reached, Task, task_of, under_way, owner}
use Rattle.history_model.specs.Legal.{AreTold}
use Rattle.history_laws.specs.Keeping.{IsUnderWay, WaysAreKnown, entries_hold, way_holds, holders, OwnersAreOne}

pub none_some : {A : Type 0} (x : A) (P : Type 0) → ◌≡◌ {A = Option A} None (Some x) → P
none_some x P e = absurd cc

pub same_some : {A : Type 0} (x y : A) → ◌≡◌ {A = Option A} (Some x) (Some y) → x ≡ y
same_some x y e = cc

-- what is under way owns all from its beginning on
pub owner_way : (T : List HistoryItem) (w n : ℕ) (task : Task) → under_way T w ≡ Some task → task.begins ≤ n → owner T w n ≡ Some task
owner_way [] w n task h l = none_some task _ h
owner_way (item.Started s ∷ T) w n task h l =
    (elim (eqb s.session w) as (λ v. cond v (Some (task_of s T)) (under_way T w) ≡ Some task → cond (v && leb s.begins n) (Some (task_of s T)) (owner T w n) ≡ Some task) [
      | true ↦ λ e. cond-true _ _ _ (le-leb s.begins n (subst (λ (x : Task). x.begins ≤ n) (sym (same_some (task_of s T) task e)) l)) ∙ e
      | false ↦ λ e. owner_way T w n task e l
    ]) h
owner_way (item.Told x k ∷ T) w n task h l =
    (elim (eqb x.session w) as (λ v. cond v None (under_way T w) ≡ Some task → cond (v && leb x.begins n) (cond (ltb n x.ends) (under_way T w) None) (owner T w n) ≡ Some task) [
      | true ↦ λ e. none_some task _ e
      | false ↦ λ e. owner_way T w n task e l
    ]) h

-- a start leaves the owners of what was added before it
pub start_same : (T : List HistoryItem) (s : Start) (w n : ℕ) → n < s.begins → owner (item.Started s ∷ T) w n ≡ owner T w n
start_same T s w n l =
    elim (eqb s.session w) as (λ v. cond (v && leb s.begins n) (Some (task_of s T)) (owner T w n) ≡ owner T w n) [
      | true ↦ cond-false _ _ _ (lt-leb s.begins n l)
      | false ↦ refl
    ]

-- an entry leaves those of what was added before its end
pub entry_same : (T : List HistoryItem) (e : Entry) (k : Kept) (task : Task) (w n : ℕ) → under_way T e.session ≡ Some task → e.begins ≡ task.begins → n < e.ends → owner (item.Told e k ∷ T) w n ≡ owner T w n
entry_same T e k task w n u b l =
    (elim (eqb e.session w) as (λ v. eqb e.session w ≡ v → cond (v && leb e.begins n) (cond (ltb n e.ends) (under_way T w) None) (owner T w n) ≡ owner T w n) [
      | true ↦ λ y.
          let mine : under_way T w ≡ Some task = subst (λ z. under_way T z ≡ Some task) (eqb-true e.session w y) u in
          (elim (leb e.begins n) as (λ v. leb e.begins n ≡ v → cond v (cond (ltb n e.ends) (under_way T w) None) (owner T w n) ≡ owner T w n) [
            | true ↦ λ f. cond-true _ _ _ (lt-ltb n e.ends l) ∙ (mine ∙ sym (owner_way T w n task mine (subst (λ m. m ≤ n) b (leb-true e.begins n f))))
            | false ↦ λ f. refl
          ]) refl
      | false ↦ λ y. refl
    ]) refl

-- what owns the next record is under way
pub owner_under : (sh : Shape) (scripts : List (List Statement)) (from : ℕ) (R : List Record) (T : List HistoryItem) (v n : ℕ) (task : Task) → AreTold sh scripts from R T → reached from T ≤ n → owner T v n ≡ Some task → under_way T v ≡ Some task
owner_under sh scripts from R [] v n task h l e = none_some task _ e
owner_under sh scripts from R (item.Started s ∷ T) v n task h l e =
    (elim (eqb s.session v) as (λ b. cond (b && leb s.begins n) (Some (task_of s T)) (owner T v n) ≡ Some task → cond b (Some (task_of s T)) (under_way T v) ≡ Some task) [
      | true ↦ λ f. sym (cond-true _ _ _ (le-leb s.begins n l)) ∙ f
      | false ↦ λ f. owner_under sh scripts from R T v n task h.1 (le_trans h.0.order l) f
    ]) e
owner_under sh scripts from R (item.Told x k ∷ T) v n task h l e =
    (elim (eqb x.session v) as (λ b. cond (b && leb x.begins n) (cond (ltb n x.ends) (under_way T v) None) (owner T v n) ≡ Some task → cond b None (under_way T v) ≡ Some task) [
      | true ↦ λ f. none_some task _ (sym (cond-true _ _ _ (le-leb x.begins n (le_trans h.0.grows l)) ∙ cond-false _ _ _ (le-ltb n x.ends l)) ∙ f)
      | false ↦ λ f. owner_under sh scripts from R T v n task h.1 (le_trans h.0.order l) f
    ]) e

-- what is under way

from_reached : (sh : Shape) (scripts : List (List Statement)) (from : ℕ) (R : List Record) (T : List HistoryItem) → AreTold sh scripts from R T → from ≤ reached from T
from_reached sh scripts from R [] h = le_refl from
from_reached sh scripts from R (item.Started s ∷ T) h = le_trans (from_reached sh scripts from R T h.1) h.0.order
from_reached sh scripts from R (item.Told e k ∷ T) h = le_trans (from_reached sh scripts from R T h.1) h.0.order

pub reached_within : (sh : Shape) (scripts : List (List Statement)) (from : ℕ) (R : List Record) (T : List HistoryItem) → from ≤ length R → AreTold sh scripts from R T → reached from T ≤ length R
reached_within sh scripts from R [] l h = l
reached_within sh scripts from R (item.Started s ∷ T) l h = h.0.within
reached_within sh scripts from R (item.Told e k ∷ T) l h = h.0.within

pub ways_are_known : WaysAreKnown
ways_are_known sh scripts from R [] w task h e = none_some task _ e
ways_are_known sh scripts from R (item.Started s ∷ T) w task h e =
    (elim (eqb s.session w) as (λ b. eqb s.session w ≡ b → cond b (Some (task_of s T)) (under_way T w) ≡ Some task → IsUnderWay sh scripts from R (item.Started s ∷ T) w task) [
      | true ↦ λ y f. subst (λ (x : Task). IsUnderWay sh scripts from R (item.Started s ∷ T) w x) (same_some (task_of s T) task f) (record {
        session = subst (IsSession scripts) (eqb-true s.session w y) h.0.session;
        from_found = le_trans (from_reached sh scripts from R T h.1) h.0.order;
        within = h.0.within;
        past = h.1;
      })
      | false ↦ λ y f. let u = ways_are_known sh scripts from R T w task h.1 f in record { session = u.session; from_found = u.from_found; within = u.within; past = u.past }
    ]) refl e
ways_are_known sh scripts from R (item.Told x k ∷ T) w task h e =
    (elim (eqb x.session w) as (λ b. cond b None (under_way T w) ≡ Some task → IsUnderWay sh scripts from R (item.Told x k ∷ T) w task) [
      | true ↦ λ f. none_some task _ f
      | false ↦ λ f. let u = ways_are_known sh scripts from R T w task h.1 f in record { session = u.session; from_found = u.from_found; within = u.within; past = u.past }
    ]) e

-- one owner

-- past the newest start or entry no entry holds a record
none_past : (sh : Shape) (scripts : List (List Statement)) (from : ℕ) (R : List Record) (T : List HistoryItem) (w n : ℕ) → AreTold sh scripts from R T → reached from T ≤ n → entries_hold T w n ≡ 0
none_past sh scripts from R [] w n h l = refl
none_past sh scripts from R (item.Started s ∷ T) w n h l = none_past sh scripts from R T w n h.1 (le_trans h.0.order l)
none_past sh scripts from R (item.Told e k ∷ T) w n h l =
    let rest : entries_hold T w n ≡ 0 = none_past sh scripts from R T w n h.1 (le_trans h.0.order l) in
    let off : ltb n e.ends ≡ false = le-ltb n e.ends l in
    elim (eqb e.session w) as (λ v. cond (v && (leb e.begins n && ltb n e.ends)) (suc (entries_hold T w n)) (entries_hold T w n) ≡ 0) [
      | true ↦ elim (leb e.begins n) as (λ v. cond (v && ltb n e.ends) (suc (entries_hold T w n)) (entries_hold T w n) ≡ 0) [
        | true ↦ cond-false _ _ _ off ∙ rest
        | false ↦ rest
      ]
      | false ↦ rest
    ]

-- from the beginning of what is under way on no entry of its session does
none_under : (sh : Shape) (scripts : List (List Statement)) (from : ℕ) (R : List Record) (T : List HistoryItem) (w n : ℕ) (task : Task) → AreTold sh scripts from R T → under_way T w ≡ Some task → task.begins ≤ n → entries_hold T w n ≡ 0
none_under sh scripts from R [] w n task h u l = refl
none_under sh scripts from R (item.Started s ∷ T) w n task h u l =
    (elim (eqb s.session w) as (λ v. cond v (Some (task_of s T)) (under_way T w) ≡ Some task → entries_hold T w n ≡ 0) [
      | true ↦ λ e. none_past sh scripts from R T w n h.1 (le_trans h.0.order (subst (λ (x : Task). x.begins ≤ n) (sym (same_some (task_of s T) task e)) l))
      | false ↦ λ e. none_under sh scripts from R T w n task h.1 e l
    ]) u
none_under sh scripts from R (item.Told x k ∷ T) w n task h u l =
    (elim (eqb x.session w) as (λ v. cond v None (under_way T w) ≡ Some task → cond (v && (leb x.begins n && ltb n x.ends)) (suc (entries_hold T w n)) (entries_hold T w n) ≡ 0) [
      | true ↦ λ e. none_some task _ e
      | false ↦ λ e. none_under sh scripts from R T w n task h.1 e l
    ]) u

pub owners_are_one : OwnersAreOne
owners_are_one sh scripts from R [] w n task h o = none_some task _ o
owners_are_one sh scripts from R (item.Started s ∷ T) w n task h o =
    (elim (eqb s.session w) as (λ v. eqb s.session w ≡ v → cond (v && leb s.begins n) (Some (task_of s T)) (owner T w n) ≡ Some task → way_holds (cond v (Some (task_of s T)) (under_way T w)) n + entries_hold T w n ≡ 1) [
      | true ↦ λ y f.
          (elim (leb s.begins n) as (λ v. leb s.begins n ≡ v → cond v (Some (task_of s T)) (owner T w n) ≡ Some task → cond v 1 0 + entries_hold T w n ≡ 1) [
            | true ↦ λ z g. ap (λ k. 1 + k) (none_past sh scripts from R T w n h.1 (le_trans h.0.order (leb-true s.begins n z)))
            | false ↦ λ z g.
                let idle : under_way T w ≡ None = subst (λ k. under_way T k ≡ None) (eqb-true s.session w y) h.0.idle in
                ap (λ x. way_holds x n + entries_hold T w n) (sym idle) ∙ owners_are_one sh scripts from R T w n task h.1 g
          ]) refl f
      | false ↦ λ y f. owners_are_one sh scripts from R T w n task h.1 f
    ]) refl o
owners_are_one sh scripts from R (item.Told e k ∷ T) w n task h o =
    (elim (eqb e.session w) as (λ v. eqb e.session w ≡ v → cond (v && leb e.begins n) (cond (ltb n e.ends) (under_way T w) None) (owner T w n) ≡ Some task
    → way_holds (cond v None (under_way T w)) n + cond (v && (leb e.begins n && ltb n e.ends)) (suc (entries_hold T w n)) (entries_hold T w n) ≡ 1) [
      | true ↦ λ y f. entered (λ g. owners_are_one sh scripts from R T w n task h.1 g) y f
      | false ↦ λ y f. owners_are_one sh scripts from R T w n task h.1 f
    ]) refl o
  where
    way : eqb e.session w ≡ true → under_way T w ≡ Some h.0.task
    way y = subst (λ k. under_way T k ≡ Some h.0.task) (eqb-true e.session w y) h.0.started

    entered : (owner T w n ≡ Some task → holders T w n ≡ 1) → eqb e.session w ≡ true → cond (leb e.begins n) (cond (ltb n e.ends) (under_way T w) None) (owner T w n) ≡ Some task → 0 + cond (leb e.begins n && ltb n e.ends) (suc (entries_hold T w n)) (entries_hold T w n) ≡ 1
    entered rec y f =
        (elim (leb e.begins n) as (λ v. leb e.begins n ≡ v → cond v (cond (ltb n e.ends) (under_way T w) None) (owner T w n) ≡ Some task → 0 + cond (v && ltb n e.ends) (suc (entries_hold T w n)) (entries_hold T w n) ≡ 1) [
          | true ↦ λ z g.
              let none : entries_hold T w n ≡ 0 = none_under sh scripts from R T w n h.0.task h.1 (way y) (subst (λ m. m ≤ n) h.0.begins (leb-true e.begins n z)) in
              (elim (ltb n e.ends) as (λ v. cond v (under_way T w) None ≡ Some task → 0 + cond v (suc (entries_hold T w n)) (entries_hold T w n) ≡ 1) [
                | true ↦ λ k. ap (λ x. 0 + suc x) none
                | false ↦ λ k. none_some task _ k
              ]) g
          | false ↦ λ z g.
              let one : holders T w n ≡ 1 = rec g in
              let off : leb h.0.task.begins n ≡ false = subst (λ m. leb m n ≡ false) h.0.begins z in
              (let no : way_holds (under_way T w) n ≡ 0 = ap (λ x. way_holds x n) (way y) ∙ ap (λ v. cond v 1 0) off in
              ap (λ k. k + entries_hold T w n) (sym no) ∙ one)
        ]) refl f
