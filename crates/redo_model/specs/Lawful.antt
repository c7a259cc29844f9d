-- A lawful list: each record is allowed after those before it, and no Table and no Reuse is left without the record that
-- it calls for. This engine's own.
use Rattle.std.specs.Prelude.{◌≡◌, ℕ, Bool, true, false, List, [], ◌∷◌}
use Rattle.seg_words.specs.Types.{Shape}
use Rattle.redo_model.specs.Records.{Record, Table, Movement, Extend, FormatBlock, Class, Advance, Lower, Begin, Reuse, Insert, Update, Migrate, Return, Delete, Commit, Back, Ended, Move, Clean}
use Rattle.redo_model.specs.Effects.{Effect, Adds, effect_of}
use Rattle.redo_model.specs.Undo.{IsUndoFull}
use Rattle.redo_model.specs.AllowedTables.{TableAllowed, MovementAllowed, ExtendAllowed, FormatAllowed, ClassAllowed, AdvanceAllowed, LowerAllowed}
use Rattle.redo_model.specs.AllowedTransactions.{BeginAllowed, ReuseAllowed, CommitAllowed, EndedAllowed, CleanAllowed}
use Rattle.redo_model.specs.AllowedRows.{InsertAllowed, UpdateAllowed, MigrateAllowed, ReturnAllowed, DeleteAllowed, BackAllowed}
use Rattle.redo_model.specs.AllowedMoves.{MoveAllowed}

-- the first Extend of table o
abbrev pub IsFirstExtend : ℕ → Record → Type 0
IsFirstExtend o (Extend e) = (e.obj ≡ o) × (e.index ≡ 0)
IsFirstExtend o _ = ⊥

-- its parts don't fit in the undo block that was current in R
abbrev pub IsOverflow : List Record → Effect → Type 0
IsOverflow R (Adds st) = IsUndoFull R st.parts
IsOverflow R _ = ⊥

-- the record that the newest one of the list calls for: after a Table its first Extend, after a Reuse a row record or a
-- Move that needs it
abbrev pub IsCalledFor : List Record → Record → Type 0
IsCalledFor [] r = Unit {0}
IsCalledFor (Table t ∷ R) r = IsFirstExtend t.obj r
IsCalledFor (Reuse q ∷ R) r = IsOverflow R (effect_of r)
IsCalledFor (_ ∷ R) r = Unit {0}

abbrev pub IsKindAllowed : Shape → List Record → Record → Type 0
IsKindAllowed sh R (Table t) = TableAllowed sh R t
IsKindAllowed sh R (Movement m) = MovementAllowed sh R m
IsKindAllowed sh R (Extend e) = ExtendAllowed sh R e
IsKindAllowed sh R (FormatBlock f) = FormatAllowed sh R f
IsKindAllowed sh R (Class k) = ClassAllowed sh R k
IsKindAllowed sh R (Advance a) = AdvanceAllowed sh R a
IsKindAllowed sh R (Lower l) = LowerAllowed sh R l
IsKindAllowed sh R (Begin g) = BeginAllowed R g
IsKindAllowed sh R (Reuse q) = ReuseAllowed sh R q
IsKindAllowed sh R (Insert w) = InsertAllowed sh R w
IsKindAllowed sh R (Update w) = UpdateAllowed sh R w
IsKindAllowed sh R (Migrate w) = MigrateAllowed sh R w
IsKindAllowed sh R (Return w) = ReturnAllowed sh R w
IsKindAllowed sh R (Delete w) = DeleteAllowed sh R w
IsKindAllowed sh R (Commit c) = CommitAllowed R c
IsKindAllowed sh R (Back k) = BackAllowed R k
IsKindAllowed sh R (Ended e) = EndedAllowed R e
IsKindAllowed sh R (Move m) = MoveAllowed sh R m
IsKindAllowed sh R (Clean c) = CleanAllowed sh R c

-- the record may follow the records R
pub record IsAllowed (sh : Shape) (R : List Record) (r : Record) : Type 0 where
  pub called_for : IsCalledFor R r
  pub kind : IsKindAllowed sh R r

-- each record is allowed after those before it
abbrev pub AreAllowed : Shape → List Record → Type 0
AreAllowed sh [] = Unit {0}
AreAllowed sh (r ∷ R) = AreAllowed sh R × IsAllowed sh R r

-- the newest record calls for no other
abbrev pub is_whole : List Record → Bool
is_whole [] = true
is_whole (Table t ∷ R) = false
is_whole (Reuse q ∷ R) = false
is_whole (_ ∷ R) = true

pub record IsLawful (sh : Shape) (R : List Record) : Type 0 where
  pub allowed : AreAllowed sh R
  pub whole : is_whole R ≡ true
