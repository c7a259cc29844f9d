-- What the events of a statement add to the records, told by the statement alone: whose table is free of other sessions' shrinks
-- is said apart. This engine's own.
use Rattle.std.specs.Prelude.{◌≡◌, ◌⊎◌, ℕ, List, ◌∷◌, Option}
use Rattle.seg_words.specs.Types.{Shape}
use Rattle.redo_record.specs.declared.record.Record.TheVariants as made
use Rattle.redo_model.specs.Records.{Record}
use Rattle.script_text.specs.declared.statement.Statement.{Statement}
use Rattle.history_model.specs.declared.history.HistoryItem.{HistoryItem}
use Rattle.history_model.specs.Makes.{Makes}
use Rattle.history_model.specs.Legal.{StatesClass, IsCleaning}

-- the statement makes the record, or it is one that another record calls for or that settles a block
abbrev pub MayDo : Shape → List (List Statement) → List HistoryItem → ℕ → Option Statement → List Record → Record → Type 0
MayDo sh scripts past w st R (made.Class k) = StatesClass R k ⊎ Makes sh scripts past w st R (made.Class k)
MayDo sh scripts past w st R (made.Clean c) = IsCleaning R c
MayDo sh scripts past w st R (made.Reuse q) = Unit {0}
MayDo sh scripts past w st R (made.Extend e) = (e.index ≡ 0) ⊎ Makes sh scripts past w st R (made.Extend e)
MayDo sh scripts past w st R r = Makes sh scripts past w st R r

-- R is Q with such records, whether the event came to its end or not
pub data IsDoneBy (sh : Shape) (scripts : List (List Statement)) (past : List HistoryItem) (w : ℕ) (st : Option Statement) (Q : List Record) : List Record → Type 0 where
  done_none : IsDoneBy sh scripts past w st Q Q
  done_one : {R : List Record} (r : Record) → IsDoneBy sh scripts past w st Q R → MayDo sh scripts past w st R r → IsDoneBy sh scripts past w st Q (r ∷ R)

-- a record that settles a block, of nobody's statement
abbrev pub MayTidy : List Record → Record → Type 0
MayTidy R (made.Class k) = StatesClass R k
MayTidy R (made.Clean c) = IsCleaning R c
MayTidy R r = ⊥

pub data IsTidied (Q : List Record) : List Record → Type 0 where
  tidy_none : IsTidied Q Q
  tidy_one : {R : List Record} (r : Record) → IsTidied Q R → MayTidy R r → IsTidied Q (r ∷ R)
