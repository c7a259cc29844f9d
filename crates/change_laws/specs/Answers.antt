-- What an update or a delete of a row answers. The causes stand in one order, each only where none before it does: the row has
-- changed, it is busy, a block that must be changed has no list entry, another block is needed, undo is full. A row is updated
-- in place where it fits, else goes back to its head where it fits there, else to another block, whole (Oracle Database
-- Concepts, "Chained and Migrated Rows"); the order of the causes is this engine's own.
use Rattle.std.specs.Prelude.{◌≡◌, ◌≢◌, ℕ, false, cond, not, ◌&&◌, eqb, List, ◌∷◌, length, Option, Some, None}
use Rattle.seg_words.specs.Types.{Shape, Rowid, UndoAddr, Writer, By, At}
use Rattle.redo_model.specs.Records.{Record, Begin, BeginRecord}
use Rattle.redo_model.specs.Model.{Step, commit_count, is_active, standing, newest_on, view, image, Takes, IsRowBlock, pctfree_of, IsRowSize, number_or_zero, AreAllowed, IsLawful}
use Rattle.scan_laws.specs.Changes.{changed_above}
use Rattle.change_laws.specs.Drafts.{Change, taker_of, change_size, insert_of, update_of, migrate_of, return_of, delete_of, Stand, Whole, Apart}
use Rattle.change_laws.specs.Spots.{Spot, Here, Next, Full, spot_for, list_with, IsFull}
use Rattle.change_laws.specs.Ready.{IsOwn, IsReady, first_lacking, blocks_at, Path, InPlace, ToHead, ToOther, path_of, updated_blocks, MayInsert, IsOtherThan}
use Rattle.change_laws.specs.Causes.{IsBusy, IsChanged, txns_of, IsNoSlot}
use Rattle.change_laws.specs.Looks.{stand_in, now_at, IsBornAt, WasFound, IsFreeNow}

-- a change that is made, or why none is: the number of commits, the transaction that keeps the row, whom the list entries name,
-- the length for which a block is needed, the other undo blocks with their holders
pub data Answer : Type 0 where
  Makes : Change → Answer
  RowChanged : ℕ → Answer
  RowBusy : ℕ → Answer
  EntriesTaken : List ℕ → Answer
  BlockNeeded : ℕ → Answer
  UndoSpent : List (ℕ × ℕ) → Answer

-- the active transaction other than own that made the newest standing record of row n
abbrev pub keeper_of : List Record → ℕ → Writer → Option ℕ
keeper_of R t (By u) = cond (is_active R u && not (eqb u t)) (Some u) None
keeper_of R t (At c) = None

abbrev pub keeper_in : List Record → ℕ → Option Step → Option ℕ
keeper_in R t None = None
keeper_in R t (Some st) = keeper_of R t st.by

abbrev pub keeper : List Record → Option ℕ → ℕ → Option ℕ
keeper R own n = keeper_in R (number_or_zero own) (newest_on (standing R) n)

-- the change of an update by its way; none where it goes to another block and none is given
abbrev pub change_to_head : ℕ → ℕ → Stand → List ℕ → Option Change
change_to_head o n (Whole p) bytes = None
change_to_head o n (Apart head body) bytes = Some (return_of o n head body bytes)

abbrev pub change_to_block : List Record → ℕ → ℕ → Stand → List ℕ → Option ℕ → Option Change
change_to_block R o n x bytes None = None
change_to_block R o n x bytes (Some b) = Some (migrate_of R o n x b bytes)

abbrev pub change_by : List Record → ℕ → ℕ → Stand → List ℕ → Option ℕ → Path → Option Change
change_by R o n x bytes to InPlace = Some (update_of R o n x bytes)
change_by R o n x bytes to ToHead = change_to_head o n x bytes
change_by R o n x bytes to ToOther = change_to_block R o n x bytes to

-- the answer of a row that stands free, has the list entries, and whose undo goes there
abbrev pub by_spot : Change → Spot → Answer
by_spot c (Here a) = Makes c
by_spot c (Next q) = Makes c
by_spot c (Full hs) = UndoSpent hs

abbrev pub by_change : Shape → List Record → ℕ → Option Change → Answer
by_change sh R len None = BlockNeeded len
by_change sh R len (Some c) = by_spot c (spot_for sh R (change_size R c))

abbrev pub by_lack : List Record → Option ℕ → Answer → Answer
by_lack R None a = a
by_lack R (Some b) a = EntriesTaken (txns_of R b)

abbrev pub by_keeper : Option ℕ → Answer → Answer
by_keeper None a = a
by_keeper (Some u) a = RowBusy u

-- the answer for row n, found when there were start commits: these blocks must be changed, by this change, if there is one
abbrev pub answer_of : Shape → List Record → Option ℕ → ℕ → ℕ → List ℕ → ℕ → Option Change → Answer
answer_of sh R own n start bs len change = cond (changed_above R start n) (RowChanged (commit_count R)) (by_keeper (keeper R own n) (by_lack R (first_lacking R own bs) (by_change sh R len change)))

abbrev pub stand_at : List Record → Rowid → Stand
stand_at R p = stand_in (image R p.dba p.slot) p

-- of an update of row n of table o, found at p, with a block for a migration where one is given
abbrev pub update_answer : Shape → List Record → Option ℕ → ℕ → ℕ → Rowid → ℕ → List ℕ → Option ℕ → Answer
update_answer sh R own o n p start bytes to =
    answer_of sh R own n start (updated_blocks R own (stand_at R p) (length bytes)) (length bytes) (change_by R o n (stand_at R p) bytes to (path_of R own (stand_at R p) (length bytes)))

-- of a delete
abbrev pub delete_answer : Shape → List Record → Option ℕ → ℕ → ℕ → Rowid → ℕ → Answer
delete_answer sh R own o n p start = answer_of sh R own n start (blocks_at (stand_at R p)) 0 (Some (delete_of o n (stand_at R p)))

-- of an insert into block b: no cause but full undo
abbrev pub insert_answer : Shape → List Record → ℕ → ℕ → List ℕ → Answer
insert_answer sh R o b bytes = by_change sh R 0 (Some (insert_of R o b bytes))

-- What each answer means.

-- the row is in the view at all commits and didn't change, but is busy
pub record MeansBusy (R : List Record) (own : Option ℕ) (o n start u : ℕ) : Type 0 where
  pub unchanged : changed_above R start n ≡ false
  pub was : List ℕ
  pub there : view R o (commit_count R) (number_or_zero own) n ≡ Some was
  pub busy : IsBusy R own n u

-- it may be changed, but the first of the blocks without a list entry can't have one
pub record MeansTaken (R : List Record) (own : Option ℕ) (o n : ℕ) (p : Rowid) (start : ℕ) (bs txns : List ℕ) : Type 0 where
  pub free : IsFreeNow R own o n p start
  pub block : ℕ
  pub first : first_lacking R own bs ≡ Some block
  pub no_slot : IsNoSlot R own block txns

-- it may be changed, and all the blocks have list entries
pub record IsPast (R : List Record) (own : Option ℕ) (o n : ℕ) (p : Rowid) (start : ℕ) (bs : List ℕ) : Type 0 where
  pub free : IsFreeNow R own o n p start
  pub entries : first_lacking R own bs ≡ None

pub record MeansNeeded (R : List Record) (own : Option ℕ) (o n : ℕ) (p : Rowid) (start : ℕ) (bs : List ℕ) (len : ℕ) (change : Option Change) (needed : ℕ) : Type 0 where
  pub past : IsPast R own o n p start bs
  pub none : change ≡ None
  pub length_is : needed ≡ len

pub record MeansSpent (sh : Shape) (R : List Record) (own : Option ℕ) (o n : ℕ) (p : Rowid) (start : ℕ) (bs : List ℕ) (change : Option Change) (hs : List (ℕ × ℕ)) : Type 0 where
  pub past : IsPast R own o n p start bs
  pub made : Change
  pub change_is : change ≡ Some made
  pub full : IsFull sh R (change_size R made) hs

pub record MeansMade (sh : Shape) (R : List Record) (own : Option ℕ) (o n : ℕ) (p : Rowid) (start : ℕ) (bs : List ℕ) (change : Option Change) (made : Change) : Type 0 where
  pub past : IsPast R own o n p start bs
  pub change_is : change ≡ Some made
  pub not_full : (hs : List (ℕ × ℕ)) → spot_for sh R (change_size R made) ≡ Full hs → ⊥

abbrev pub Means : Shape → List Record → Option ℕ → ℕ → ℕ → Rowid → ℕ → List ℕ → ℕ → Option Change → Answer → Type 0
Means sh R own o n p start bs len change (Makes c) = MeansMade sh R own o n p start bs change c
Means sh R own o n p start bs len change (RowChanged s) = IsChanged R start n s
Means sh R own o n p start bs len change (RowBusy u) = MeansBusy R own o n start u
Means sh R own o n p start bs len change (EntriesTaken ts) = MeansTaken R own o n p start bs ts
Means sh R own o n p start bs len change (BlockNeeded l) = MeansNeeded R own o n p start bs len change l
Means sh R own o n p start bs len change (UndoSpent hs) = MeansSpent sh R own o n p start bs change hs

abbrev pub AnswersMean : Type 0
AnswersMean =
    (sh : Shape) (R : List Record) (own : Option ℕ) (o n : ℕ) (p : Rowid) (born : ℕ) (undo : UndoAddr) (start : ℕ) (bs : List ℕ) (len : ℕ) (change : Option Change) → AreAllowed sh R → IsOwn R own → WasFound sh R own o n p born undo start
    → Means sh R own o n p start bs len change (answer_of sh R own n start bs len change)

-- an update has no change exactly where it goes to another block and none is given
pub record NeedMeans (R : List Record) (own : Option ℕ) (o n : ℕ) (x : Stand) (bytes : List ℕ) (to : Option ℕ) : Type 0 where
  pub needed : change_by R o n x bytes to (path_of R own x (length bytes)) ≡ None → (path_of R own x (length bytes) ≡ ToOther) × (to ≡ None)
  pub needs : path_of R own x (length bytes) ≡ ToOther → to ≡ None → change_by R o n x bytes to (path_of R own x (length bytes)) ≡ None

abbrev pub BlocksAreNeeded : Type 0
BlocksAreNeeded = (R : List Record) (own : Option ℕ) (o n : ℕ) (x : Stand) (bytes : List ℕ) (to : Option ℕ) → NeedMeans R own o n x bytes to

-- What is seen of the place tells the answer.
pub record PlaceAnswers (sh : Shape) (R : List Record) (own : Option ℕ) (o n : ℕ) (p : Rowid) (born : ℕ) (undo : UndoAddr) (start : ℕ) (bs : List ℕ) (len : ℕ) (change : Option Change) : Type 0 where
  pub released : (IsBornAt sh R o p.dba born → ⊥) → answer_of sh R own n start bs len change ≡ RowChanged (commit_count R)
  pub changed : IsBornAt sh R o p.dba born → (now_at R own p).undo ≢ Some undo → answer_of sh R own n start bs len change ≡ RowChanged (commit_count R)
  pub busy : IsBornAt sh R o p.dba born → (now_at R own p).undo ≡ Some undo → (image R p.dba p.slot).undo ≢ Some undo → (u : ℕ) → (image R p.dba p.slot).writer ≡ By u → answer_of sh R own n start bs len change ≡ RowBusy u
  pub free : IsBornAt sh R o p.dba born → (now_at R own p).undo ≡ Some undo → (image R p.dba p.slot).undo ≡ Some undo → answer_of sh R own n start bs len change ≡ by_lack R (first_lacking R own bs) (by_change sh R len change)

abbrev pub PlacesAnswer : Type 0
PlacesAnswer =
    (sh : Shape) (R : List Record) (own : Option ℕ) (o n : ℕ) (p : Rowid) (born : ℕ) (undo : UndoAddr) (start : ℕ) (bs : List ℕ) (len : ℕ) (change : Option Change) → AreAllowed sh R → IsOwn R own → WasFound sh R own o n p born undo start
    → PlaceAnswers sh R own o n p born undo start bs len change

-- What follows where a change is made.

-- the block that is given for a migration is a row block of the table that takes the row, and none of the row's own
pub record IsTarget (sh : Shape) (R : List Record) (own : Option ℕ) (o : ℕ) (x : Stand) (len b : ℕ) : Type 0 where
  pub here : IsRowBlock sh R o b
  pub takes : Takes R (pctfree_of R o) b len (taker_of own)
  pub other : IsOtherThan x b

abbrev pub MayBeTarget : Shape → List Record → Option ℕ → ℕ → Stand → ℕ → Option ℕ → Type 0
MayBeTarget sh R own o x len None = Unit {0}
MayBeTarget sh R own o x len (Some b) = IsTarget sh R own o x len b

-- t may make the change, and the list with it is lawful
pub record MadeBy (sh : Shape) (R : List Record) (t : ℕ) (c : Change) : Type 0 where
  pub ready : IsReady sh R t c
  pub list : List Record
  pub list_is : list_with sh R t c ≡ Some list
  pub lawful : IsLawful sh list

-- so may own, or the transaction that begins with it
abbrev pub MadeFor : Shape → List Record → Option ℕ → Change → Type 0
MadeFor sh R None c = (g : BeginRecord) → IsLawful sh (Begin g ∷ R) → MadeBy sh (Begin g ∷ R) g.txn c
MadeFor sh R (Some t) c = MadeBy sh R t c

abbrev pub UpdatesAreMade : Type 0
UpdatesAreMade =
    (sh : Shape) (R : List Record) (own : Option ℕ) (o n : ℕ) (p : Rowid) (born : ℕ) (undo : UndoAddr) (start : ℕ) (bytes : List ℕ) (to : Option ℕ) (c : Change) → IsLawful sh R → IsOwn R own → WasFound sh R own o n p born undo start → IsRowSize bytes
    → MayBeTarget sh R own o (stand_at R p) (length bytes) to → update_answer sh R own o n p start bytes to ≡ Makes c → MadeFor sh R own c

abbrev pub DeletesAreMade : Type 0
DeletesAreMade =
    (sh : Shape) (R : List Record) (own : Option ℕ) (o n : ℕ) (p : Rowid) (born : ℕ) (undo : UndoAddr) (start : ℕ) (c : Change) → IsLawful sh R → IsOwn R own → WasFound sh R own o n p born undo start
    → delete_answer sh R own o n p start ≡ Makes c → MadeFor sh R own c

-- so an insert that may be made is made, or undo is full for it
abbrev pub InsertMeans : Shape → List Record → Option ℕ → Change → Answer → Type 0
InsertMeans sh R own c (Makes made) = (made ≡ c) × MadeFor sh R own c
InsertMeans sh R own c (UndoSpent hs) = IsFull sh R (change_size R c) hs
InsertMeans sh R own c (RowChanged s) = ⊥
InsertMeans sh R own c (RowBusy u) = ⊥
InsertMeans sh R own c (EntriesTaken ts) = ⊥
InsertMeans sh R own c (BlockNeeded l) = ⊥

abbrev pub InsertsAreMade : Type 0
InsertsAreMade = (sh : Shape) (R : List Record) (own : Option ℕ) (o b : ℕ) (bytes : List ℕ) → IsLawful sh R → MayInsert sh R own o b bytes → InsertMeans sh R own (insert_of R o b bytes) (insert_answer sh R o b bytes)
