-- A step is one of the list's cursor: the Move that it adds names the slot to which the cursor has come.
use Rattle.std.proofs.Common.{◌≡◌, ℕ, suc, Bool, true, false, ◌||◌, eqb, List, ◌∷◌, Option, Some, None, refl, sym, ◌∙◌, ap, eq-eqb}
use Rattle.seg_words.proofs.Lemmas.{or_left, or_right, and_from}
use Rattle.seg_words.specs.Types.{Shape, Kind, Empty, Row, Head, Body, Rowid, UndoAddr, writer_has_ended}
use Rattle.redo_model.specs.Records.{Record, Move, Reuse}
use Rattle.redo_model.specs.Model.{at_place, commit_count, ended_in, image, is_place}
use Rattle.redo_laws.specs.Added.{names_slot}
use Rattle.change_laws.specs.Types.{Fill, Spot, Here, Next, Full, fills_size, free_place, spot_for, undo_start}
use Rattle.shrink_laws.specs.declared.skip.Skip.{Skip}
use Rattle.shrink_laws.specs.Stops.{row_image}
use Rattle.shrink_laws.specs.Cursor.{Finds, StepMoves}
use Rattle.shrink_move.specs.declared.next.Next.TheVariants.{Bottom, Skips, NoFit, ToBody, ToBlock}
use Rattle.shrink_move.specs.Follows.{StepsFollow}
use Rattle.shrink_move.specs.MoveLaws.{block_fills, body_fills}
use Rattle.shrink_move.specs.Moves.{list_moved, move_of, moved_at, moved_parts, row_stand, to_block_fills}

self_place : (b k : ℕ) → is_place b k b k ≡ true
self_place b k = and_from (eqb b b) (eqb k k) (eq-eqb b b refl) (eq-eqb k k refl)

-- whatever stands in the slot, it is among those that are emptied
block_names : (S : List Record) (number : ℕ) (a : UndoAddr) (d k n : ℕ) (kind : Kind) (link : Option Rowid) (target : Rowid) (bytes : List ℕ) → names_slot (moved_parts S number a 0 (to_block_fills n (row_stand kind link (at_place d k)) target bytes)) d k ≡ true
block_names S number a d k n Empty link target bytes = or_left (is_place d k d k) _ (self_place d k)
block_names S number a d k n Row link target bytes = or_left (is_place d k d k) _ (self_place d k)
block_names S number a d k n Head None target bytes = or_left (is_place d k d k) _ (self_place d k)
block_names S number a d k n Head (Some p) target bytes = or_left (is_place d k d k) _ (self_place d k)
block_names S number a d k n Body None target bytes = or_left (is_place d k d k) _ (self_place d k)
block_names S number a d k n Body (Some p) target bytes = or_right (is_place p.dba p.slot d k) _ (or_left (is_place d k d k) _ (self_place d k))

same_list : (x y : List Record) → ◌≡◌ {A = Option (List Record)} (Some x) (Some y) → x ≡ y
same_list x y e = cc

no_list : {P : Type 0} (x : List Record) → ◌≡◌ {A = Option (List Record)} None (Some x) → P
no_list x e = absurd cc

follows : (sh : Shape) (R next : List Record) (o n : ℕ) (skips : List Skip) (cursor place d k : ℕ) (gs : List Fill) (s : Spot) → Finds sh R o skips cursor place d k → writer_has_ended (ended_in R) (row_image R d k).writer ≡ true
    → ((S : List Record) (number : ℕ) (a : UndoAddr) → names_slot (moved_parts S number a 0 gs) d k ≡ true) → moved_at R o n gs s ≡ Some next → StepMoves sh R next o skips cursor place d k
follows sh R next o n skips cursor place d k gs (Here a) f over names e = record {
  finds = f;
  over = over;
  between = R;
  reuse = None;
  may = refl;
  move = move_of R o n a gs;
  table = refl;
  names = names R (suc (commit_count R)) a;
  adds = same_list next (Move (move_of R o n a gs) ∷ R) (sym e);
}
follows sh R next o n skips cursor place d k gs (Next q) f over names e = record {
  finds = f;
  over = over;
  between = Reuse q ∷ R;
  reuse = Some q;
  may = refl;
  move = move_of (Reuse q ∷ R) o n (undo_start q) gs;
  table = refl;
  names = names (Reuse q ∷ R) (suc (commit_count (Reuse q ∷ R))) (undo_start q);
  adds = same_list next (Move (move_of (Reuse q ∷ R) o n (undo_start q) gs) ∷ Reuse q ∷ R) (sym e);
}
follows sh R next o n skips cursor place d k gs (Full hs) f over names e = no_list next e

pub steps_follow : StepsFollow
steps_follow sh R next o skips cursor Bottom w e = w
steps_follow sh R next o skips cursor (Skips x t) w e = w
steps_follow sh R next o skips cursor (NoFit x) w e = w
steps_follow sh R next o skips cursor (ToBody x body) w e =
    let gs = body_fills R x.at.dba x.at.slot body in
    follows sh R next o (image R x.at.dba x.at.slot).row skips cursor x.place x.at.dba x.at.slot gs (spot_for sh R (fills_size R gs)) w.finds w.over
    (λ S number a. or_left (is_place x.at.dba x.at.slot x.at.dba x.at.slot) _ (self_place x.at.dba x.at.slot)) e
steps_follow sh R next o skips cursor (ToBlock x target) w e =
    let i = image R x.at.dba x.at.slot in
    let gs = block_fills R x.at.dba x.at.slot target in
    follows sh R next o i.row skips cursor x.place x.at.dba x.at.slot gs (spot_for sh R (fills_size R gs)) w.finds w.over
    (λ S number a. block_names S number a x.at.dba x.at.slot i.row i.kind i.link (free_place R target) (row_image R x.at.dba x.at.slot).bytes) e
