-- Undo pages and the transaction table, as a store lends them: calls that add no record, one after the other.
use Rattle.std.specs.Prelude.{◌≡◌, List, Option, Some, None, Ok, Err, ℕ}
use Rattle.std.proofs.Common.{◌∙◌}
use Rattle.seg_words.specs.Types.{Shape}
use Rattle.disk_model.specs.Crash.{Meaning}
use Rattle.txn_block.specs.Tables.{TxnTable}
use Rattle.undo_block.specs.UndoPage.{UndoPage}
use Rattle.redo_model.specs.Records.{Record}
use Rattle.page_set.specs.declared.page.Page.{Page}
use Rattle.page_set.specs.declared.page.Page.TheVariants.{Zero, Txns, Undo}
use Rattle.store_laws.specs.Kinds.{new_table}
use Rattle.pool_store.specs.Store.{Held, IsTrue}
use Rattle.pool_store.specs.Causes.{HasLooked}
use Rattle.pool_store.specs.declared.fault.StoreFault.{StoreFault}

-- a page of undo
abbrev pub undo_of : Page → Option UndoPage
undo_of (Undo u) = Some u
undo_of _ = None

-- the transaction table: a new one before it was first written
abbrev pub table_of : Page → Option TxnTable
table_of (Zero d) = Some new_table
table_of (Txns t) = Some t
table_of _ = None

-- a true store of this shape, with these records, that has kept no fault
pub record IsWorking {D : Type 0} (meaning : Meaning D) (sh : Shape) (R : List Record) (s : Held D) : Type 0 where
  pub list : IsTrue meaning R s
  pub shape_is : s.shape ≡ sh
  pub unspent : s.fault ≡ None

-- calls that went well
pub data Looks {D : Type 0} (meaning : Meaning D) (a : Held D) : Held D → Type 0 where
  looks_none : Looks meaning a a
  looks_more : {b c : Held D} → Looks meaning a b → HasLooked {T = Unit {0}} meaning b c (Ok tt) → Looks meaning a c

-- and one more that failed
pub record LooksAndFails {D : Type 0} (meaning : Meaning D) (a c : Held D) (f : StoreFault) : Type 0 where
  pub before : Held D
  pub looks : Looks meaning a before
  pub fails : HasLooked {T = Unit {0}} meaning before c (Err f)

pub looks_on : {D : Type 0} (meaning : Meaning D) (a b c : Held D) → Looks meaning a b → Looks meaning b c → Looks meaning a c
looks_on meaning a b c p looks_none = p
looks_on meaning a b c p (looks_more {b = x} q h) = looks_more (looks_on meaning a b x p q) h

pub fails_on : {D : Type 0} (meaning : Meaning D) (a b c : Held D) (f : StoreFault) → Looks meaning a b → LooksAndFails meaning b c f → LooksAndFails meaning a c f
fails_on meaning a b c f p q = record { before = q.before; looks = looks_on meaning a b q.before p q.looks; fails = q.fails }

pub looks_work : {D : Type 0} (meaning : Meaning D) (sh : Shape) (R : List Record) (a b : Held D) → Looks meaning a b → IsWorking meaning sh R a → IsWorking meaning sh R b
looks_work meaning sh R a b looks_none w = w
looks_work meaning sh R a b (looks_more {b = x} q h) w =
    let v = looks_work meaning sh R a x q w in
    record { list = h.stays_true R v.list; shape_is = h.loan.shape ∙ v.shape_is; unspent = h.cause.kept v.unspent }
