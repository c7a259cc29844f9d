-- Calls on a store one after the other, of which some add records.
use Rattle.std.proofs.Common.{◌≡◌, List, None, ◌∙◌, le_trans}
use Rattle.std.specs.Prelude.{Ok}
use Rattle.disk_model.specs.Crash.{Meaning}
use Rattle.redo_model.specs.Records.{Record}
use Rattle.store_core.specs.Store.{Held, HasList, SameLoan}
use Rattle.store_core.specs.Causes.{HasCause}
use Rattle.store_core.proofs.Lookups.{looked_same}

-- nothing was done to an unspent store
pub cause_none : {D T : Type 0} (meaning : Meaning D) (a : Held D) (x : T) → a.fault ≡ None → HasCause {T = T} meaning a a (Ok x)
cause_none meaning a x n = (looked_same meaning a x n).cause

pub loan_none : {D : Type 0} (meaning : Meaning D) (a : Held D) → a.fault ≡ None → SameLoan meaning a a
loan_none meaning a n = (looked_same {T = Unit {0}} meaning a tt n).loan

-- a call after one that may have added records
pub loan_after : {D : Type 0} (meaning : Meaning D) (a b c : Held D) (more : List Record → List Record) → ((R : List Record) → HasList meaning R a → HasList meaning (more R) b) → SameLoan meaning a b → SameLoan meaning b c → SameLoan meaning a c
loan_after meaning a b c more list p q = record {
  loan = q.loan ∙ p.loan;
  first = q.first ∙ p.first;
  shape = q.shape ∙ p.shape;
  told = (λ h. p.told.0 (q.told.0 h), λ h. q.told.1 (p.told.1 h));
  time = λ R h. le_trans (p.time R h) (q.time (more R) (list R h));
  faults = le_trans p.faults q.faults;
  reads = q.reads ∙ p.reads;
}
