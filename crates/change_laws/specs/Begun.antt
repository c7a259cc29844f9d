-- What was found of a list for a transaction that has not begun holds after its Begin, for the transaction: what blocks take
-- and have for it, where undo goes, how an update goes, what it sees. So all is tried before the Begin is written, and a
-- refusal writes nothing. And a Reuse leaves the record that was drafted before it.
use Rattle.std.specs.Prelude.{◌≡◌, ℕ, suc, true, List, ◌∷◌, Some, None}
use Rattle.seg_words.specs.Types.{Shape, Rowid, UndoAddr, Open, New, next_room}
use Rattle.redo_model.specs.Records.{Record, Begin, Reuse, BeginRecord, ReuseRecord}
use Rattle.redo_model.specs.Model.{txn_count, is_active, ended_in, entry_of, last_undo, image, view, takes_row, fits_in, undo_holder, next_slot, IsAllowed, AreAllowed, IsLawful}
use Rattle.change_laws.specs.Drafts.{as_record, new_body, Change, entry_by, change_size, record_of, insert_of, update_of, migrate_of, Stand}
use Rattle.change_laws.specs.Spots.{spot_for}
use Rattle.change_laws.specs.Allowed.{LawfulAt}
use Rattle.change_laws.specs.Causes.{IsBusy}
use Rattle.change_laws.specs.Ready.{IsReady, first_lacking, path_of, updated_blocks, MayInsert, MayUpdate, MayReturn, MayMigrate, MayDelete}

pub record BlockBegun (R : List Record) (g : BeginRecord) (b : ℕ) : Type 0 where
  pub entry : entry_by (Begin g ∷ R) (Some g.txn) b ≡ entry_by R None b
  pub entry_before : entry_by R (Some g.txn) b ≡ entry_by R None b
  pub slot : next_slot (Begin g ∷ R) b ≡ next_slot R b
  pub fits : (k len : ℕ) → fits_in (Begin g ∷ R) b k len (Open g.txn) ≡ fits_in R b k len New
  pub takes : (pctfree len : ℕ) → takes_row (Begin g ∷ R) pctfree b len (Open g.txn) ≡ takes_row R pctfree b len New
  pub room : (k len : ℕ) → next_room (ended_in (Begin g ∷ R)) (image R b k) len ≡ next_room (ended_in R) (image R b k) len
  pub holder : undo_holder (Begin g ∷ R) b ≡ undo_holder R b

pub record ListBegun (sh : Shape) (R : List Record) (g : BeginRecord) : Type 0 where
  pub active : is_active (Begin g ∷ R) g.txn ≡ true
  pub entry : entry_of (Begin g ∷ R) g.txn ≡ Some g.entry
  pub previous : last_undo (Begin g ∷ R) g.txn ≡ None
  pub blocks : (b : ℕ) → BlockBegun R g b
  pub spot : (need : ℕ) → spot_for sh (Begin g ∷ R) need ≡ spot_for sh R need
  pub view : (o s n : ℕ) → view (Begin g ∷ R) o s g.txn n ≡ view R o s 0 n
  pub path : (x : Stand) (len : ℕ) → path_of (Begin g ∷ R) (Some g.txn) x len ≡ path_of R None x len
  pub updated : (x : Stand) (len : ℕ) → updated_blocks (Begin g ∷ R) (Some g.txn) x len ≡ updated_blocks R None x len
  pub lacking : (bs : List ℕ) → first_lacking (Begin g ∷ R) (Some g.txn) bs ≡ first_lacking R None bs
  pub busy : (n u : ℕ) → IsBusy R None n u → IsBusy (Begin g ∷ R) (Some g.txn) n u
  pub size : (c : Change) → change_size (Begin g ∷ R) c ≡ change_size R c
  pub drafted : (a : UndoAddr) (c : Change) → record_of (Begin g ∷ R) g.txn a c ≡ as_record c.kind (new_body R g a c)
  pub insert : (o b : ℕ) (bytes : List ℕ) → insert_of (Begin g ∷ R) o b bytes ≡ insert_of R o b bytes
  pub update : (o n : ℕ) (x : Stand) (bytes : List ℕ) → update_of (Begin g ∷ R) o n x bytes ≡ update_of R o n x bytes
  pub migrate : (o n : ℕ) (x : Stand) (b : ℕ) (bytes : List ℕ) → migrate_of (Begin g ∷ R) o n x b bytes ≡ migrate_of R o n x b bytes

abbrev pub BeginsLeave : Type 0
BeginsLeave = (sh : Shape) (R : List Record) (g : BeginRecord) → AreAllowed sh R → g.txn ≡ suc (txn_count R) → ListBegun sh R g

-- what may be done by a transaction that has not begun may be done by it after its Begin
pub record MaysBegun (sh : Shape) (R : List Record) (g : BeginRecord) : Type 0 where
  pub insert : (o b : ℕ) (bytes : List ℕ) → MayInsert sh R None o b bytes → MayInsert sh (Begin g ∷ R) (Some g.txn) o b bytes
  pub update : (o n : ℕ) (x : Stand) (bytes : List ℕ) → MayUpdate R None o n x bytes → MayUpdate (Begin g ∷ R) (Some g.txn) o n x bytes
  pub migrate : (o n : ℕ) (x : Stand) (b : ℕ) (bytes : List ℕ) → MayMigrate sh R None o n x b bytes → MayMigrate sh (Begin g ∷ R) (Some g.txn) o n x b bytes
  pub return' : (o n : ℕ) (head body : Rowid) (bytes : List ℕ) → MayReturn R None o n head body bytes → MayReturn (Begin g ∷ R) (Some g.txn) o n head body bytes
  pub delete : (o n : ℕ) (x : Stand) → MayDelete R None o n x → MayDelete (Begin g ∷ R) (Some g.txn) o n x

abbrev pub BeginsKeepMays : Type 0
BeginsKeepMays = (sh : Shape) (R : List Record) (g : BeginRecord) → AreAllowed sh R → g.txn ≡ suc (txn_count R) → MaysBegun sh R g

-- the record that is drafted before a Reuse is the one that is added after it; this is so in every list
pub record ReuseLeaves (R : List Record) (q : ReuseRecord) : Type 0 where
  pub drafted : (t : ℕ) (a : UndoAddr) (c : Change) → record_of (Reuse q ∷ R) t a c ≡ record_of R t a c
  pub size : (c : Change) → change_size (Reuse q ∷ R) c ≡ change_size R c

abbrev pub ReusesLeave : Type 0
ReusesLeave = (R : List Record) (q : ReuseRecord) → ReuseLeaves R q

-- so the records of a change that begins its transaction are lawful: its undo goes where it was found to go before the Begin
abbrev pub BegunChangesAreLawful : Type 0
BegunChangesAreLawful =
    (sh : Shape) (R : List Record) (g : BeginRecord) (c : Change) → IsLawful sh R → IsAllowed sh R (Begin g) → IsReady sh (Begin g ∷ R) g.txn c → LawfulAt sh (Begin g ∷ R) g.txn c (spot_for sh R (change_size R c))
