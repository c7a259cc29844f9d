-- What a place that was found earlier shows now.
use Rattle.std.specs.Prelude.{◌≡◌, ◌≢◌, ℕ, ◌<◌, ◌≤◌, Bool, true, false, List, length, slice_index_or, Option, Some, None}
use Rattle.seg_words.specs.Types.{Shape, Slot, Rowid, UndoAddr, By, new_slot}
use Rattle.redo_model.specs.Records.{Record}
use Rattle.redo_model.specs.Model.{image, extents_of, index_of}
use Rattle.scan_laws.specs.Changes.{changed_above}
use Rattle.page_set.specs.declared.page.Page.{Page}
use Rattle.page_set.specs.declared.page.Page.TheVariants.{Rows}
use Rattle.change_laws.specs.Types.{Answer, Change, RowBusy, RowChanged, answer_of, by_change, by_lack, first_lacking, now_at, row_now, IsBornAt, IsFreeNow}
use Rattle.row_change.specs.declared.place.Place.{Place}
use Rattle.row_change.specs.declared.looking.Front.{Front}
use Rattle.row_change.specs.declared.looking.Look.{Look}
use Rattle.row_change.specs.declared.looking.Look.TheVariants.{Changed, Busy, Free}

-- ---- the block

-- the index of the extent of table o in which block b stands
pub record IsIndexOf (sh : Shape) (R : List Record) (o b index : ℕ) : Type 0 where
  pub is : index ≡ index_of sh (extents_of R o) b
  pub there : index < length (extents_of R o)

abbrev pub StandsIn : Shape → List Record → ℕ → ℕ → Option ℕ → Type 0
StandsIn sh R o b None = length (extents_of R o) ≤ index_of sh (extents_of R o) b
StandsIn sh R o b (Some index) = IsIndexOf sh R o b index

-- whether an extent of table o with this incarnation has block b
abbrev pub Belongs : Shape → List Record → ℕ → ℕ → ℕ → Bool → Type 0
Belongs sh R o b born true = IsBornAt sh R o b born
Belongs sh R o b born false = IsBornAt sh R o b born → ⊥

-- the incarnation of the extent of table o that has block b, where one has it
abbrev pub BornTold : Shape → List Record → ℕ → ℕ → Option ℕ → Type 0
BornTold sh R o b None = (born : ℕ) → IsBornAt sh R o b born → ⊥
BornTold sh R o b (Some born) = IsBornAt sh R o b born

-- ---- the version

-- no version that holds a row has this undo address at p
abbrev pub SeesOther : List Record → Option ℕ → Rowid → UndoAddr → Type 0
SeesOther R own p undo = (n : ℕ) (bytes : List ℕ) → row_now R own p ≡ Some (n, bytes) → (now_at R own p).undo ≡ Some undo → ⊥

-- whether the version that own sees at p has it
abbrev pub Keeps : List Record → Option ℕ → Rowid → UndoAddr → Bool → Type 0
Keeps R own p undo true = (now_at R own p).undo ≡ Some undo
Keeps R own p undo false = SeesOther R own p undo

-- row n is still where it was found
pub record IsStill (sh : Shape) (R : List Record) (own : Option ℕ) (o n : ℕ) (p : Place) : Type 0 where
  pub born : IsBornAt sh R o p.at.dba p.born
  pub kept : (now_at R own p.at).undo ≡ Some p.undo

-- or a commit or a move changed it since
abbrev pub IsThere : Shape → List Record → Option ℕ → ℕ → ℕ → Place → Bool → Type 0
IsThere sh R own o n p true = IsStill sh R own o n p
IsThere sh R own o n p false = changed_above R p.start n ≡ true

-- ---- the newest image

abbrev pub front_of : Slot → Front
front_of i = record { kind = i.kind; writer = i.writer; undo = i.undo; row = i.row; link = i.link }

abbrev pub front_in : ℕ → Page → Option Front
front_in k (Rows rows) = Some (front_of (slice_index_or rows.block.slots k new_slot))
front_in k _ = None

-- what it tells of a row that is still where it was found
abbrev pub FrontTells : Front → UndoAddr → Look → Type 0
FrontTells f undo (Free x) = (x ≡ f) × (f.undo ≡ Some undo)
FrontTells f undo (Busy u) = (f.undo ≢ Some undo) × (f.writer ≡ By u)
FrontTells f undo (Changed s) = ⊥

pub record NotTold (f : Front) (undo : UndoAddr) : Type 0 where
  pub other : f.undo ≢ Some undo
  pub no_txn : (u : ℕ) → f.writer ≡ By u → ⊥

-- ---- the answer

-- row n stands there free, and what a change of it answers is not told by the place
pub record IsFreeAt (sh : Shape) (R : List Record) (own : Option ℕ) (o n : ℕ) (p : Place) (f : Front) : Type 0 where
  pub born : IsBornAt sh R o p.at.dba p.born
  pub front : f ≡ front_of (image R p.at.dba p.at.slot)
  pub free : IsFreeNow R own o n p.at p.start
  pub answer : (bs : List ℕ) (len : ℕ) (change : Option Change) → answer_of sh R own n p.start bs len change ≡ by_lack R (first_lacking R own bs) (by_change sh R len change)

-- whatever the change, it answers this
abbrev pub AlwaysAnswers : Shape → List Record → Option ℕ → ℕ → Place → Answer → Type 0
AlwaysAnswers sh R own n p a = (bs : List ℕ) (len : ℕ) (change : Option Change) → answer_of sh R own n p.start bs len change ≡ a

abbrev pub LookMeans : Shape → List Record → Option ℕ → ℕ → ℕ → Place → Look → Type 0
LookMeans sh R own o n p (Changed s) = AlwaysAnswers sh R own n p (RowChanged s)
LookMeans sh R own o n p (Busy u) = AlwaysAnswers sh R own n p (RowBusy u)
LookMeans sh R own o n p (Free f) = IsFreeAt sh R own o n p f
