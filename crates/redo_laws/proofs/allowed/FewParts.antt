-- A row record and a Move have at most three parts.
use Rattle.std.proofs.Common.{◌≡◌, ℕ, ◌≤◌, List, [], ◌∷◌, length, sym, subst, arith}
use Rattle.seg_words.specs.Types.{Shape}
use Rattle.redo_model.specs.Records.{Record, Insert, Update, Migrate, Return, Delete, Move, RowPart, RowBody, MoveRecord}
use Rattle.redo_model.specs.Model.{Effect, effect_of, MigrateAllowed, DeleteAllowed, MoveAllowed, IsKindAllowed}
use Rattle.redo_model.specs.Effects.{Adds}
use Rattle.redo_model.specs.AllowedRows.{migrates_plain, migrates_again, deletes_plain, deletes_migrated}
use Rattle.redo_model.specs.AllowedMoves.{moves_plain, moves_to_body, moves_migrated}

abbrev pub EffectFew : Effect → Type 0
EffectFew (Adds st) = length st.parts ≤ 3
EffectFew _ = Unit {0}

one : (ps : List RowPart) (p : RowPart) → ps ≡ p ∷ [] → length ps ≤ 3
one ps p e = subst (λ (xs : List RowPart). length xs ≤ 3) (sym e) (omega arith)

two : (ps : List RowPart) (p q : RowPart) → ps ≡ p ∷ q ∷ [] → length ps ≤ 3
two ps p q e = subst (λ (xs : List RowPart). length xs ≤ 3) (sym e) (omega arith)

three : (ps : List RowPart) (p q r : RowPart) → ps ≡ p ∷ q ∷ r ∷ [] → length ps ≤ 3
three ps p q r e = subst (λ (xs : List RowPart). length xs ≤ 3) (sym e) (omega arith)

migrate_few : (sh : Shape) (R : List Record) (w : RowBody) → MigrateAllowed sh R w → length w.parts ≤ 3
migrate_few sh R w (migrates_plain m) = two _ _ _ m.parts
migrate_few sh R w (migrates_again m) = three _ _ _ _ m.parts

delete_few : (sh : Shape) (R : List Record) (w : RowBody) → DeleteAllowed sh R w → length w.parts ≤ 3
delete_few sh R w (deletes_plain m) = one _ _ m.parts
delete_few sh R w (deletes_migrated m) = two _ _ _ m.parts

move_few : (sh : Shape) (R : List Record) (m : MoveRecord) → MoveAllowed sh R m → length m.parts ≤ 3
move_few sh R m (moves_plain a) = two _ _ _ a.parts
move_few sh R m (moves_to_body a) = two _ _ _ a.parts
move_few sh R m (moves_migrated a) = three _ _ _ _ a.parts

pub few : (sh : Shape) (R : List Record) (r : Record) → IsKindAllowed sh R r → EffectFew (effect_of r)
few sh R (Insert w) a = one _ _ a.parts
few sh R (Update w) a = one _ _ a.parts
few sh R (Migrate w) a = migrate_few sh R w a
few sh R (Return w) a = two _ _ _ a.parts
few sh R (Delete w) a = delete_few sh R w a
few sh R (Move m) a = move_few sh R m a
few sh R _ a = tt
