-- Who changes a row, by the transaction table and by the list.
use Rattle.std.proofs.Common.{◌≡◌, ℕ, suc, ◌<◌, ◌^◌, true, false, cond, List, length, Option, Some, None, refl, sym, ◌∙◌, ap, arith, inl, inr, true≢false}
use Rattle.seg_words.specs.Types.{Shape, UndoAddr}
use Rattle.redo_model.specs.Records.{Record}
use Rattle.redo_model.specs.Model.{is_active, user_of, commit_number, entry_of, place_of_undo, number_or_zero, state_of_user, state_when_over, TakesEntry, IsTable, AreAllowed, IsLawful}
use Rattle.redo_model.specs.AllowedTransactions.{Unused, InUse, Committed, RolledBack, takes_unused, takes_rolled_back, takes_committed}
use Rattle.txn_block.specs.declared.entry.Outcome.TheVariants.{Active}
use Rattle.txn_block.specs.Entries as table
use Rattle.txn_block.specs.Types.{TxnTable, TakesNext}
use Rattle.version_laws.specs.Types.{HoldsTable, entry_used_by, outcome_when_over}
use Rattle.version_laws.proofs.TableLaw.{undo_is, entry_is}
use Rattle.open_laws.proofs.BeginsLaw.{few_are_active}
use Rattle.end_laws.proofs.Begins.{takes_next}
use Rattle.change_laws.proofs.ReadyLaw.{entered}
use Rattle.row_change.specs.declared.actor.Actor.{Actor}
use Rattle.row_change.specs.Acting.{MayAct, txn_of, old_actor, ActsAnew, Acts, actor_at, open_actor, BeginsBy, IsFull}
use Rattle.row_change.proofs.Numbered.{Fewer, fewer}

same_actor : (x y : Actor) → ◌≡◌ {A = Option Actor} (Some x) (Some y) → x ≡ y
same_actor x y e = cc

open_is : (sh : Shape) (R : List Record) (q : TxnTable) (t : ℕ) → AreAllowed sh R → HoldsTable R q → is_active R t ≡ true → open_actor q t ≡ Some (old_actor R t)
open_is sh R q t h k on =
    ap (actor_at q t) (entry_is sh R q t h k on ∙ entered sh R t h on)
    ∙ ap (λ (u : Option UndoAddr). some (record { txn = t; entry = number_or_zero (entry_of R t); previous = place_of_undo u; begin = None })) (undo_is sh R q t h k on)
  where
    some : Actor → Option Actor
    some x = Some x

anew : (R : List Record) (q : TxnTable) (who : ℕ) (a : Actor) → HoldsTable R q → BeginsBy q who a → ActsAnew R who a
anew R q who a k b = record {
  entry = b.entry;
  control = b.control;
  takes = takes_next R q b.entry b.control k b.takes;
  is = b.is ∙ ap (λ n. begins_with (suc n)) k.last_txn;
}
  where
    begins_with : ℕ → Actor
    begins_with n = record { txn = n; entry = b.entry; previous = None; begin = Some (record { txn = n; session = who; entry = b.entry; control = b.control }) }

-- an entry that the table says is active is in use
in_use : (R : List Record) (o : Option ℕ) → table.is_active (entry_used_by R o) ≡ true → state_of_user R o ≡ InUse
in_use R None e = absurd (true≢false (sym e))
in_use R (Some t) e =
    (elim (is_active R t) as (λ v. table.has_active (cond v Active (outcome_when_over (commit_number R t))) ≡ true → cond v InUse (state_when_over (commit_number R t)) ≡ InUse) [
      | true ↦ λ x. refl
      | false ↦ λ x. over (commit_number R t) x
    ]) e
  where
    over : (o : Option ℕ) → table.has_active (outcome_when_over o) ≡ true → state_when_over o ≡ InUse
    over None x = absurd (true≢false (sym x))
    over (Some c) x = absurd (true≢false (sym x))

used_at : (R : List Record) (q : TxnTable) (i : ℕ) → HoldsTable R q → TakesNext q.entries q.control None → i < 96 → state_of_user R (user_of R i) ≡ InUse
used_at R q i k f l = in_use R (user_of R i) (ap table.is_active (sym (k.entries i l)) ∙ f i (let c = k.count in omega (arith, c, l)))

-- a session can always begin a transaction
never_full : (sh : Shape) (R : List Record) (q : TxnTable) → AreAllowed sh R → HoldsTable R q → Fewer R → IsFull q → ⊥
never_full sh R q h k w (inl l) = let n = w.txns in let e = k.last_txn in omega (arith, l, n, e)
never_full sh R q h k w (inr f) = let x = (few_are_active sh R h).take in go x.entry x.control x.takes
  where
    go : (i c : ℕ) → TakesEntry R i c → ⊥
    go i c (takes_unused a) = let z : Unused ≡ InUse = sym a.unused ∙ used_at R q i k f a.within in cc
    go i c (takes_rolled_back a) = let z : RolledBack ≡ InUse = sym a.rolled_back ∙ used_at R q i k f a.within in cc
    go i c (takes_committed a) = let z : Committed c ≡ InUse = sym a.committed ∙ used_at R q i k f a.within in cc

-- what was found by the table
pub acts : (sh : Shape) (R : List Record) (q : TxnTable) (who : ℕ) (own : Option ℕ) (a : Actor) → IsLawful sh R → HoldsTable R q → MayAct R who own
    → ((t : ℕ) → own ≡ Some t → ◌≡◌ {A = Option Actor} (Some a) (open_actor q t)) → (own ≡ None → BeginsBy q who a) → Acts R who own a
acts sh R q who None a l k m old begins = anew R q who a k (begins refl)
acts sh R q who (Some t) a l k m old begins = same_actor a (old_actor R t) (old t refl ∙ open_is sh R q t l.allowed k m)

pub acts_found : (sh : Shape) (R : List Record) (o : ℕ) (q : TxnTable) (who : ℕ) (own : Option ℕ) → IsLawful sh R → length R < 2 ^ 64 → IsTable R o → HoldsTable R q → MayAct R who own
    → ((t : ℕ) → own ≡ Some t → ◌≡◌ {A = Option Actor} None (open_actor q t)) → (own ≡ None → IsFull q) → ⊥
acts_found sh R o q who None l few t k m old full = never_full sh R q l.allowed k (fewer R o t few) (full refl)
acts_found sh R o q who (Some t) l few i k m old full = (let z : ◌≡◌ {A = Option Actor} None (Some (old_actor R t)) = old t refl ∙ open_is sh R q t l.allowed k m in cc)

-- the transaction of an actor
pub acts_as : (R : List Record) (who : ℕ) (own : Option ℕ) (a : Actor) → Acts R who own a → a.txn ≡ txn_of R own
acts_as R who None a h = ap (λ (x : Actor). x.txn) h.is
acts_as R who (Some t) a h = ap (λ (x : Actor). x.txn) h
