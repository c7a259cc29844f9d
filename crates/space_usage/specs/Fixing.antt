-- What setting the kept class of a block does to a true store. Oracle: DBMS_REPAIR.SEGMENT_FIX_STATUS.
use Rattle.std.specs.Prelude.{◌≡◌, ℕ, ◌<◌, ◌≤◌, Bool, true, false, cond, leb, List, length, Option, Some, None, Result, Ok, Err}
use Rattle.seg_words.specs.Types.{Class as BlockClass, Shape, class_from}
use Rattle.disk_model.specs.Crash.{Meaning}
use Rattle.redo_model.specs.Records.{Record}
use Rattle.redo_model.specs.Model.{extents_of, index_of, IsRowBlock}
use Rattle.usage_laws.specs.Types.{ruled_class}
use Rattle.segment_read.specs.declared.segment.Segment.{Segment}
use Rattle.segment_read.specs.Segments.{IsSegment}
use Rattle.store_core.specs.Store.{Held}
use Rattle.store_core.specs.Causes.{IsSoundFault}
use Rattle.store_core.specs.declared.fault.StoreFault.{StoreFault}
use Rattle.space_usage.specs.declared.fault.FixFault.{FixFault}
use Rattle.space_usage.specs.declared.fault.FixFault.TheVariants as faults
use Rattle.space_usage.specs.Keeping.{with_kept}
use Rattle.space_usage.specs.Settles.{Stands}

-- the class of a value, 1 to 5
abbrev pub class_of_value : ℕ → Option BlockClass
class_of_value v = cond (leb 1 v) (cond (leb v 5) (class_from v) None) None

-- the class that is to be kept: the given one, or else the block's own
abbrev pub IsWanted : List Record → ℕ → ℕ → Option ℕ → BlockClass → Type 0
IsWanted R o b None c = c ≡ ruled_class R o b
IsWanted R o b (Some v) c = class_of_value v ≡ Some c

-- it is kept, by a Class where it wasn't
pub record IsKept {D : Type 0} (meaning : Meaning D) (sh : Shape) (R : List Record) (o b : ℕ) (value : Option ℕ) (old new : Held D) (c : BlockClass) : Type 0 where
  pub here : IsRowBlock sh R o b
  pub wanted : IsWanted R o b value c
  pub stands : Stands meaning R (with_kept sh R o b c) old new

pub record HasNoBlock {D : Type 0} (meaning : Meaning D) (sh : Shape) (R : List Record) (o b : ℕ) (old new : Held D) (d : ℕ) : Type 0 where
  pub block : d ≡ b
  pub no_row_block : IsRowBlock sh R o b → ⊥
  pub stands : Stands meaning R R old new

pub record HasBadValue {D : Type 0} (meaning : Meaning D) (sh : Shape) (R : List Record) (o b : ℕ) (value : Option ℕ) (old new : Held D) (v : ℕ) : Type 0 where
  pub here : IsRowBlock sh R o b
  pub is : value ≡ Some v
  pub no_class : class_of_value v ≡ None
  pub stands : Stands meaning R R old new

pub record HasFailed {D : Type 0} (meaning : Meaning D) (R : List Record) (old new : Held D) (f : StoreFault) : Type 0 where
  pub sound : old.fault ≡ None → IsSoundFault f
  pub stands : Stands meaning R R old new

abbrev pub IsFixed : {D : Type 0} → Meaning D → Shape → List Record → ℕ → ℕ → Option ℕ → Held D → Held D → Result BlockClass FixFault → Type 0
IsFixed meaning sh R o b value old new (Ok c) = IsKept meaning sh R o b value old new c
IsFixed meaning sh R o b value old new (Err (faults.NotDataBlock d)) = HasNoBlock meaning sh R o b old new d
IsFixed meaning sh R o b value old new (Err (faults.BadValue v)) = HasBadValue meaning sh R o b value old new v
IsFixed meaning sh R o b value old new (Err (faults.Store f)) = HasFailed meaning R old new f

-- what of an answer is the store's: a call that is refused went well
abbrev pub store_part : Result BlockClass FixFault → Result (Unit {0}) StoreFault
store_part (Ok c) = Ok tt
store_part (Err (faults.NotDataBlock d)) = Ok tt
store_part (Err (faults.BadValue v)) = Ok tt
store_part (Err (faults.Store f)) = Err f

-- ---- whether the block is there

-- the index of the block's extent, where the table has it
abbrev pub IndexTold : Shape → List Record → ℕ → ℕ → Option ℕ → Type 0
IndexTold sh R o b None = length (extents_of R o) ≤ index_of sh (extents_of R o) b
IndexTold sh R o b (Some i) = (i ≡ index_of sh (extents_of R o) b) × (i < length (extents_of R o))

pub record RowTold (sh : Shape) (R : List Record) (o b : ℕ) (y : Bool) : Type 0 where
  pub yes : y ≡ true → IsRowBlock sh R o b
  pub no_row_block : y ≡ false → IsRowBlock sh R o b → ⊥

-- the table's segment, where the block is there
abbrev pub SegmentTold : Shape → List Record → ℕ → ℕ → Option Segment → Type 0
SegmentTold sh R o b None = IsRowBlock sh R o b → ⊥
SegmentTold sh R o b (Some g) = IsRowBlock sh R o b × IsSegment sh R o g
