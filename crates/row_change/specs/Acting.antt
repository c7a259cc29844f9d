-- Who changes a row: the active transaction of a session, or one that begins with the change.
use Rattle.std.specs.Prelude.{◌≡◌, ◌⊎◌, ℕ, suc, ◌≤◌, ◌-◌, ◌^◌, true, List, position, Option, Some, None}
use Rattle.redo_model.specs.Records.{Record}
use Rattle.redo_model.specs.Model.{txn_count, is_active, entry_of, last_undo, place_of_undo, number_or_zero, TakesEntry}
use Rattle.txn_block.specs.Types.{TxnTable, TakesNext, names, last_undo_in}
use Rattle.end_laws.specs.Types.{MayBegin}
use Rattle.version_laws.specs.Types.{begin_of}
use Rattle.row_change.specs.declared.actor.Actor.{Actor}

-- own is an active transaction, or the session may begin one
abbrev pub MayAct : List Record → ℕ → Option ℕ → Type 0
MayAct R who None = MayBegin R who
MayAct R who (Some t) = is_active R t ≡ true

-- the transaction that changes the row
abbrev pub txn_of : List Record → Option ℕ → ℕ
txn_of R None = suc (txn_count R)
txn_of R (Some t) = t

-- ---- by the list

abbrev pub old_actor : List Record → ℕ → Actor
old_actor R t = record { txn = t; entry = number_or_zero (entry_of R t); previous = place_of_undo (last_undo R t); begin = None }

abbrev pub new_actor : List Record → ℕ → ℕ → ℕ → Actor
new_actor R who entry control = record { txn = suc (txn_count R); entry = entry; previous = None; begin = Some (begin_of R who entry control) }

-- it begins, with the entry and the control number that a Begin takes
pub record ActsAnew (R : List Record) (who : ℕ) (a : Actor) : Type 0 where
  pub entry : ℕ
  pub control : ℕ
  pub takes : TakesEntry R entry control
  pub is : a ≡ new_actor R who entry control

abbrev pub Acts : List Record → ℕ → Option ℕ → Actor → Type 0
Acts R who None a = ActsAnew R who a
Acts R who (Some t) a = a ≡ old_actor R t

-- ---- by the transaction table

abbrev pub actor_at : TxnTable → ℕ → Option ℕ → Option Actor
actor_at q t None = None
actor_at q t (Some i) = Some (record { txn = t; entry = i; previous = place_of_undo (last_undo_in q.entries t); begin = None })

abbrev pub open_actor : TxnTable → ℕ → Option Actor
open_actor q t = actor_at q t (position (names t) q.entries)

pub record BeginsBy (q : TxnTable) (who : ℕ) (a : Actor) : Type 0 where
  pub entry : ℕ
  pub control : ℕ
  pub takes : TakesNext q.entries q.control (Some (entry, control))
  pub is : a ≡ record { txn = suc q.last_txn; entry = entry; previous = None; begin = Some (record { txn = suc q.last_txn; session = who; entry = entry; control = control }) }

-- no transaction can begin: there is no greater number, or each entry is that of an active transaction
abbrev pub IsFull : TxnTable → Type 0
IsFull q = (2 ^ 64 - 1 ≤ q.last_txn) ⊎ TakesNext q.entries q.control None
