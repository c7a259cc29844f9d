-- What each row record and Move states of its undo, its writer and its parts, whatever its kind.
use Rattle.std.proofs.Common.{◌≡◌, ℕ, suc, ◌≤◌, Bool, true, false, List, ◌∷◌, length, sym, ◌∙◌, subst, arith}
use Rattle.seg_words.specs.Types.{Shape, By, At}
use Rattle.redo_model.specs.Records.{Record, Insert, Update, Migrate, Return, Delete, Move, RowPart, RowBody, MoveRecord}
use Rattle.redo_model.specs.Model.{Step, Effect, effect_of, row_step, move_step, commit_count, is_active, StatesUndo, MayChange, MigrateAllowed, DeleteAllowed, MayMove, MoveAllowed, IsKindAllowed}
use Rattle.redo_model.specs.Effects.{Adds}
use Rattle.redo_model.specs.AllowedRows.{migrates_plain, migrates_again, deletes_plain, deletes_migrated}
use Rattle.redo_model.specs.AllowedMoves.{moves_plain, moves_to_body, moves_migrated}

pub record Basics (R : List Record) (st : Step) : Type 0 where
  pub undo : StatesUndo R st.undo st.parts
  pub least : 1 ≤ length st.parts
  pub live : (u : ℕ) → st.by ≡ By u → is_active R u ≡ true
  pub number : (m : ℕ) → st.by ≡ At m → m ≡ suc (commit_count R)

abbrev pub EffectBasics : List Record → Effect → Type 0
EffectBasics R (Adds st) = Basics R st
EffectBasics R _ = Unit {0}

by_row : (t u : ℕ) → By t ≡ By u → t ≡ u
by_row t u e = cc

not_at : (P : Type 0) (t m : ℕ) → By t ≡ At m → P
not_at P t m e = absurd cc

at_same : (m n : ℕ) → At m ≡ At n → m ≡ n
at_same m n e = cc

not_by : (P : Type 0) (m u : ℕ) → At m ≡ By u → P
not_by P m u e = absurd cc

of_row : (R : List Record) (w : RowBody) (d : Bool) → MayChange R w → 1 ≤ length w.parts → Basics R (row_step w d)
of_row R w d c l = record {
  undo = c.undo;
  least = l;
  live = λ u e. subst (λ v. is_active R v ≡ true) (by_row w.txn u e) c.active;
  number = λ m e. not_at (m ≡ suc (commit_count R)) w.txn m e;
}

of_move : (R : List Record) (m : MoveRecord) → MayMove R m → 1 ≤ length m.parts → Basics R (move_step m)
of_move R m c l = record {
  undo = c.undo;
  least = l;
  live = λ u e. not_by (is_active R u ≡ true) m.number u e;
  number = λ n e. sym (at_same m.number n e) ∙ c.number;
}

some_parts : (ps : List RowPart) (p : RowPart) (qs : List RowPart) → ps ≡ p ∷ qs → 1 ≤ length ps
some_parts ps p qs e = subst (λ (xs : List RowPart). 1 ≤ length xs) (sym e) (omega arith)

migrate_basics : (sh : Shape) (R : List Record) (w : RowBody) → MigrateAllowed sh R w → Basics R (row_step w false)
migrate_basics sh R w (migrates_plain m) = of_row R w false m.change.change (some_parts _ _ _ m.parts)
migrate_basics sh R w (migrates_again m) = of_row R w false m.change.change (some_parts _ _ _ m.parts)

delete_basics : (sh : Shape) (R : List Record) (w : RowBody) → DeleteAllowed sh R w → Basics R (row_step w true)
delete_basics sh R w (deletes_plain m) = of_row R w true m.change.change (some_parts _ _ _ m.parts)
delete_basics sh R w (deletes_migrated m) = of_row R w true m.change.change (some_parts _ _ _ m.parts)

pub move_may : (sh : Shape) (R : List Record) (m : MoveRecord) → MoveAllowed sh R m → MayMove R m
move_may sh R m (moves_plain a) = a.move
move_may sh R m (moves_to_body a) = a.move
move_may sh R m (moves_migrated a) = a.move

move_basics : (sh : Shape) (R : List Record) (m : MoveRecord) → MoveAllowed sh R m → Basics R (move_step m)
move_basics sh R m (moves_plain a) = of_move R m a.move (some_parts _ _ _ a.parts)
move_basics sh R m (moves_to_body a) = of_move R m a.move (some_parts _ _ _ a.parts)
move_basics sh R m (moves_migrated a) = of_move R m a.move (some_parts _ _ _ a.parts)

pub basics : (sh : Shape) (R : List Record) (r : Record) → IsKindAllowed sh R r → EffectBasics R (effect_of r)
basics sh R (Insert w) a = of_row R w false a.change (some_parts _ _ _ a.parts)
basics sh R (Update w) a = of_row R w false a.change.change (some_parts _ _ _ a.parts)
basics sh R (Migrate w) a = migrate_basics sh R w a
basics sh R (Return w) a = of_row R w false a.change.change (some_parts _ _ _ a.parts)
basics sh R (Delete w) a = delete_basics sh R w a
basics sh R (Move m) a = move_basics sh R m a
basics sh R _ a = tt
