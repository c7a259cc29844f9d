-- A fact of images that rows and emptied slots have wherever they stand: what is left of the records that change a row is
-- what an Update and a Migrate put.
use Rattle.std.proofs.Common.{◌≡◌, ℕ, true, false, List, refl, sym, subst}
use Rattle.seg_words.specs.Types.{Shape, Empty, Row, Slot}
use Rattle.redo_model.specs.Records.{Record, Insert, Update, Migrate, Return, Delete, Move, RowBody, MoveRecord}
use Rattle.redo_model.specs.Model.{Step, row_step, move_step, InsertAllowed, UpdateAllowed, MigrateAllowed, ReturnAllowed, DeleteAllowed, MoveAllowed}
use Rattle.redo_model.specs.Effects.{Adds}
use Rattle.redo_model.specs.AllowedRows.{deletes_plain, deletes_migrated}
use Rattle.redo_model.specs.AllowedMoves.{moves_plain, moves_to_body, moves_migrated}
use Rattle.redo_laws.proofs.steps.ImageFacts.{ImageFact, NewHave, AllHave, Puts}

pub record NewImages (sh : Shape) (P : ImageFact) : Type 0 where
  pub rows : (b : ℕ) (i : Slot) → i.kind ≡ Row → P b i
  pub emptied : (b : ℕ) (i : Slot) → i.kind ≡ Empty → P b i
  pub updates : (R : List Record) (w : RowBody) → UpdateAllowed sh R w → AllHave P R → NewHave P w.parts
  pub migrates : (R : List Record) (w : RowBody) → MigrateAllowed sh R w → NewHave P w.parts

inserts : (sh : Shape) (P : ImageFact) (R : List Record) (w : RowBody) → NewImages sh P → InsertAllowed sh R w → NewHave P w.parts
inserts sh P R w n a = subst (NewHave P) (sym a.parts) (n.rows _ _ refl, tt)

returns : (sh : Shape) (P : ImageFact) (R : List Record) (w : RowBody) → NewImages sh P → ReturnAllowed sh R w → NewHave P w.parts
returns sh P R w n a = subst (NewHave P) (sym a.parts) (n.rows _ _ refl, (n.emptied _ _ refl, tt))

deletes : (sh : Shape) (P : ImageFact) (R : List Record) (w : RowBody) → NewImages sh P → DeleteAllowed sh R w → NewHave P w.parts
deletes sh P R w n (deletes_plain a) = subst (NewHave P) (sym a.parts) (n.emptied _ _ refl, tt)
deletes sh P R w n (deletes_migrated a) = subst (NewHave P) (sym a.parts) (n.emptied _ _ refl, (n.emptied _ _ refl, tt))

moves : (sh : Shape) (P : ImageFact) (R : List Record) (m : MoveRecord) → NewImages sh P → MoveAllowed sh R m → NewHave P m.parts
moves sh P R m n (moves_plain a) = subst (NewHave P) (sym a.parts) (n.emptied _ _ refl, (n.rows _ _ refl, tt))
moves sh P R m n (moves_to_body a) = subst (NewHave P) (sym a.parts) (n.emptied _ _ refl, (n.rows _ _ refl, tt))
moves sh P R m n (moves_migrated a) = subst (NewHave P) (sym a.parts) (n.emptied _ _ refl, (n.emptied _ _ refl, (n.rows _ _ refl, tt)))

same_step : (s t : Step) → Adds s ≡ Adds t → s ≡ t
same_step s t e = cc

pub of_step : (P : ImageFact) (s t : Step) → Adds s ≡ Adds t → NewHave P s.parts → NewHave P t.parts
of_step P s t e h = subst (λ (x : Step). NewHave P x.parts) (same_step s t e) h

pub new_images : (sh : Shape) (P : ImageFact) → NewImages sh P → Puts sh P
new_images sh P n R (Insert w) st h e a = of_step P (row_step w false) st e (inserts sh P R w n h.1.kind)
new_images sh P n R (Update w) st h e a = of_step P (row_step w false) st e (n.updates R w h.1.kind a)
new_images sh P n R (Migrate w) st h e a = of_step P (row_step w false) st e (n.migrates R w h.1.kind)
new_images sh P n R (Return w) st h e a = of_step P (row_step w false) st e (returns sh P R w n h.1.kind)
new_images sh P n R (Delete w) st h e a = of_step P (row_step w true) st e (deletes sh P R w n h.1.kind)
new_images sh P n R (Move m) st h e a = of_step P (move_step m) st e (moves sh P R m n h.1.kind)
new_images sh P n R _ st h e a = absurd cc
