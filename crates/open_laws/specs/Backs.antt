-- Each active transaction can be taken back, whatever else is active: the next record of its rollback is allowed, takes one of
-- its steps away and leaves those of all others. So rollbacks, one after the other, leave none active.
use Rattle.std.specs.Prelude.{◌≡◌, ◌≢◌, ℕ, true, not, ◌&&◌, eqb, List, ◌∷◌, Some, None, filter}
use Rattle.seg_words.specs.Types.{Shape}
use Rattle.redo_model.specs.Records.{Record, Back, Ended, BackRecord, EndedRecord}
use Rattle.redo_model.specs.Model.{Step, is_active, is_by, standing, newest_of, AreAllowed, IsAllowed, IsLawful}

-- a transaction's standing steps, newest first
abbrev pub own_steps : List Record → ℕ → List Step
own_steps R t = filter (λ (st : Step). is_by st.by t) (standing R)

-- the next record of the rollback of t: a Back of its newest standing step, or an Ended where none is left
pub data RollbackGoesOn (sh : Shape) (R : List Record) (t : ℕ) : Type 0 where
  backs : (k : BackRecord) (st : Step) → newest_of (standing R) t ≡ Some st → k.txn ≡ t → k.undo ≡ st.undo → IsAllowed sh R (Back k) → RollbackGoesOn sh R t
  ends : (e : EndedRecord) → newest_of (standing R) t ≡ None → e.txn ≡ t → IsAllowed sh R (Ended e) → RollbackGoesOn sh R t

abbrev pub RollbacksGoOn : Type 0
RollbacksGoOn = (sh : Shape) (R : List Record) (t : ℕ) → IsLawful sh R → is_active R t ≡ true → RollbackGoesOn sh R t

-- a Back takes the newest step of its transaction, and leaves who is active and the steps of the others
pub record BackTakes (R : List Record) (k : BackRecord) : Type 0 where
  pub step : Step
  pub newest : newest_of (standing R) k.txn ≡ Some step
  pub own : own_steps R k.txn ≡ step ∷ own_steps (Back k ∷ R) k.txn
  pub others : (u : ℕ) → u ≢ k.txn → own_steps (Back k ∷ R) u ≡ own_steps R u
  pub active : (u : ℕ) → is_active (Back k ∷ R) u ≡ is_active R u

abbrev pub BacksTakeOne : Type 0
BacksTakeOne = (sh : Shape) (R : List Record) (k : BackRecord) → AreAllowed sh (Back k ∷ R) → BackTakes R k

-- an Ended ends its transaction alone, and leaves all steps
pub record EndedEnds (R : List Record) (e : EndedRecord) : Type 0 where
  pub active : (u : ℕ) → is_active (Ended e ∷ R) u ≡ (not (eqb e.txn u) && is_active R u)
  pub steps : (u : ℕ) → own_steps (Ended e ∷ R) u ≡ own_steps R u

abbrev pub EndedEndsOne : Type 0
EndedEndsOne = (R : List Record) (e : EndedRecord) → EndedEnds R e
