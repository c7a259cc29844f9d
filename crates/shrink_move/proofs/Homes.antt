-- Where the slots of a row that is moved stand, and what becomes of them.
use Rattle.std.proofs.Common.{◌≡◌, ℕ, false, List, take, Option, Some, None, refl, sym, ◌∙◌, ap, subst}
use Rattle.seg_words.proofs.Lemmas.{and_parts}
use Rattle.seg_words.specs.Types.{Shape, Slot, Kind, Empty, Row, Head, Body, Rowid, Shrink, is_empty}
use Rattle.redo_model.specs.Records.{Record}
use Rattle.redo_model.specs.Model.{AreAllowed, IsTable, at_place, data_blocks, first_taker, image, is_formatted, pctfree_of, takes_row}
use Rattle.redo_laws.specs.Homes.{Names, row_table}
use Rattle.redo_laws.proofs.allowed.AllKinds.{found_in}
use Rattle.redo_laws.proofs.homes.PairsLaw.{heads_name_bodies}
use Rattle.redo_laws.proofs.space.Places.{contains_in, in_take}
use Rattle.space_laws.proofs.MarksLaw.{formatted_are_under_mark}
use Rattle.change_laws.specs.Types.{Stand, Whole, Apart, free_place, holder_of}
use Rattle.shrink_laws.specs.declared.skip.Skip.{Skip}
use Rattle.shrink_laws.specs.Stops.{IsFull, holder, linked, row_image}
use Rattle.shrink_move.specs.declared.draft.Moving.{Moving}
use Rattle.shrink_move.specs.declared.outline.Outline.{Outline}
use Rattle.shrink_move.specs.Asked.{outline_of}
use Rattle.shrink_move.specs.Drafting.{FillsAre, HasRows, IsMoving, fill_list}
use Rattle.shrink_move.specs.Filling.{AreAtHome}
use Rattle.shrink_move.specs.MoveLaws.{block_fills, body_fills}
use Rattle.shrink_move.specs.Moves.{row_stand, to_block_fills, to_body_fills}
use Rattle.shrink_move.specs.Nexts.{GoesToBody}
use Rattle.shrink_move.specs.Walks.{is_taker}
use Rattle.shrink_move.proofs.Opening.{row_home}

-- ---- blocks that hold rows

home_of : (sh : Shape) (R : List Record) (b k : ℕ) → AreAllowed sh R → IsFull R b k → HasRows sh R b
home_of sh R b k h f = record { table = row_table R (image R b k).row; home = row_home sh R b k h f }

rowid_inside : (p q : Rowid) → ◌≡◌ {A = Option Rowid} (Some p) (Some q) → p ≡ q
rowid_inside p q e = cc

-- the other slot of a migrated row
other_home : (sh : Shape) (R : List Record) (other : Kind) (d k : ℕ) (p : Rowid) → AreAllowed sh R → is_empty other ≡ false → Names R other d k → (image R d k).link ≡ Some p → HasRows sh R p.dba
other_home sh R other d k p h e n l =
    let same : at_place n.block n.slot ≡ p = rowid_inside (at_place n.block n.slot) p (sym n.link ∙ l) in
    subst (λ (x : Rowid). HasRows sh R x.dba) same (home_of sh R n.block n.slot h (ap is_empty n.kind ∙ e))

home_by : (sh : Shape) (R : List Record) (d k : ℕ) (kind : Kind) (link : Option Rowid) → AreAllowed sh R → IsFull R d k → (image R d k).kind ≡ kind → (image R d k).link ≡ link → AreAtHome sh R (row_stand kind link (at_place d k))
home_by sh R d k Empty link h f e l = home_of sh R d k h f
home_by sh R d k Row link h f e l = home_of sh R d k h f
home_by sh R d k Head None h f e l = home_of sh R d k h f
home_by sh R d k Head (Some p) h f e l = (home_of sh R d k h f, other_home sh R Body d k p h refl ((heads_name_bodies sh R d k h).head e) l)
home_by sh R d k Body None h f e l = home_of sh R d k h f
home_by sh R d k Body (Some p) h f e l = (other_home sh R Head d k p h refl ((heads_name_bodies sh R d k h).body e) l, home_of sh R d k h f)

stand_by : (R : List Record) (d k : ℕ) (own : Outline) (x : Stand) → own ≡ outline_of (image R d k) → x ≡ row_stand own.kind own.link (at_place d k) → x ≡ row_stand (image R d k).kind (image R d k).link (at_place d k)
stand_by R d k own x e s = s ∙ ap (λ (y : Outline). row_stand y.kind y.link (at_place d k)) e

pub stand_home : (sh : Shape) (R : List Record) (d k : ℕ) (own : Outline) (x : Stand) → AreAllowed sh R → IsFull R d k → own ≡ outline_of (image R d k) → x ≡ row_stand own.kind own.link (at_place d k) → AreAtHome sh R x
stand_home sh R d k own x h f e s = subst (AreAtHome sh R) (sym (stand_by R d k own x e s)) (home_by sh R d k (image R d k).kind (image R d k).link h f refl refl)

-- the first block that takes a row
pub target_home : (sh : Shape) (R : List Record) (o n len b : ℕ) → AreAllowed sh R → IsTable R o → first_taker sh R o n len ≡ Some b → HasRows sh R b
target_home sh R o n len b h t e =
    let r = found_in (λ c. is_taker sh R o len c) (take n (data_blocks sh R o)) b e in
    record { table = o; home = formatted_are_under_mark sh R o b h t (contains_in (data_blocks sh R o) b (in_take b n (data_blocks sh R o) r.0)) (and_parts (is_formatted sh R b) (takes_row R (pctfree_of R o) b len Shrink) r.1).0 }

pub head_home : (sh : Shape) (R : List Record) (o : ℕ) (skips : List Skip) (cursor place d k : ℕ) (body : Rowid) → AreAllowed sh R → GoesToBody sh R o skips cursor place d k body → HasRows sh R d
head_home sh R o skips cursor place d k body h w = home_of sh R d k h w.finds.full

pub body_home : (sh : Shape) (R : List Record) (o : ℕ) (skips : List Skip) (cursor place d k : ℕ) (body : Rowid) → AreAllowed sh R → GoesToBody sh R o skips cursor place d k body → HasRows sh R body.dba
body_home sh R o skips cursor place d k body h w = other_home sh R Body d k body h refl ((heads_name_bodies sh R d k h).head w.head) w.link

-- ---- what becomes of them

held : (R : List Record) (d k : ℕ) (kind : Kind) (link : Option Rowid) → (image R d k).link ≡ link → holder R kind (image R d k) ≡ image R (holder_of (row_stand kind link (at_place d k))).dba (holder_of (row_stand kind link (at_place d k))).slot
held R d k Empty link e = refl
held R d k Row link e = refl
held R d k Head None e = ap (λ (l : Option Rowid). linked R l (image R d k)) e
held R d k Head (Some p) e = ap (λ (l : Option Rowid). linked R l (image R d k)) e
held R d k Body None e = refl
held R d k Body (Some p) e = refl

row_held : (R : List Record) (d k : ℕ) → row_image R d k ≡ image R (holder_of (row_stand (image R d k).kind (image R d k).link (at_place d k))).dba (holder_of (row_stand (image R d k).kind (image R d k).link (at_place d k))).slot
row_held R d k = held R d k (image R d k).kind (image R d k).link refl

pub block_moving : (R : List Record) (d k target : ℕ) (own : Outline) (x : Stand) (m : Moving) → own ≡ outline_of (image R d k) → x ≡ row_stand own.kind own.link (at_place d k) → IsMoving R m own.row (to_block_fills own.row x (free_place R target) (image R (holder_of x).dba (holder_of x).slot).bytes) → IsMoving R m (image R d k).row (block_fills R d k target)
block_moving R d k target own x m e s h =
    let row : own.row ≡ (image R d k).row = ap (λ (y : Outline). y.row) e in
    let stand = row_stand (image R d k).kind (image R d k).link (at_place d k) in
    let fills : to_block_fills own.row x (free_place R target) (image R (holder_of x).dba (holder_of x).slot).bytes ≡ block_fills R d k target =
    ap (λ n. to_block_fills n x (free_place R target) (image R (holder_of x).dba (holder_of x).slot).bytes) row
    ∙ ap (λ (y : Stand). to_block_fills (image R d k).row y (free_place R target) (image R (holder_of y).dba (holder_of y).slot).bytes) (stand_by R d k own x e s)
    ∙ ap (λ (i : Slot). to_block_fills (image R d k).row stand (free_place R target) i.bytes) (sym (row_held R d k)) in
    record { row = h.row ∙ row; fills = subst (FillsAre R (fill_list m.fills)) fills h.fills }

pub body_moving : (R : List Record) (d k : ℕ) (body : Rowid) (own : Outline) (m : Moving) → own ≡ outline_of (image R d k) → (image R d k).kind ≡ Head → (image R d k).link ≡ Some body → IsMoving R m own.row (to_body_fills own.row (at_place d k) body (image R body.dba body.slot).bytes) → IsMoving R m (image R d k).row (body_fills R d k body)
body_moving R d k body own m e kind link h =
    let row : own.row ≡ (image R d k).row = ap (λ (y : Outline). y.row) e in
    let same : row_image R d k ≡ image R body.dba body.slot = ap (λ (y : Kind). holder R y (image R d k)) kind ∙ ap (λ (l : Option Rowid). linked R l (image R d k)) link in
    let fills : to_body_fills own.row (at_place d k) body (image R body.dba body.slot).bytes ≡ body_fills R d k body =
    ap (λ n. to_body_fills n (at_place d k) body (image R body.dba body.slot).bytes) row
    ∙ ap (λ (i : Slot). to_body_fills (image R d k).row (at_place d k) body i.bytes) (sym same) in
    record { row = h.row ∙ row; fills = subst (FillsAre R (fill_list m.fills)) fills h.fills }
