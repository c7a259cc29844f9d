-- What an update puts where.
use Rattle.std.proofs.Common.{◌≡◌, ℕ, List, Option, sym, ap, ap₂, subst}
use Rattle.seg_words.specs.Types.{Shape, Rowid}
use Rattle.redo_model.specs.Records.{Record}
use Rattle.redo_model.specs.Model.{image, at_place, with_bytes, IsRowBlock}
use Rattle.change_laws.specs.Types.{Fill, Stand, Whole, Apart, fill, holder_of}
use Rattle.row_change.specs.declared.replaced.Replaced.{Replaced}
use Rattle.row_change.specs.declared.draft.Fill.{Fill as Told}
use Rattle.row_change.specs.declared.looking.Front.{Front}
use Rattle.row_change.specs.Drafting.{FillIs}
use Rattle.row_change.specs.Filling.{again}
use Rattle.row_change.specs.Looking.{front_of}
use Rattle.row_change.specs.Standing.{AreAtHome}

-- the slot of a fill
pub slot_of : (R : List Record) (own : Option ℕ) (f : Told) (g : Fill) → FillIs R own f g → at_place f.dba f.replaced.slot ≡ g.at
slot_of R own f g h = ap₂ at_place h.dba (ap (λ (r : Replaced). r.slot) h.replaced)

-- a slot with other bytes
pub in_place : (R : List Record) (own : Option ℕ) (f : Told) (p h : Rowid) (x : Front) (bytes : List ℕ) → h ≡ p → x ≡ front_of (image R p.dba p.slot) → FillIs R own f (fill p (again x bytes)) → FillIs R own f (fill h (with_bytes (image R h.dba h.slot) bytes))
in_place R own f p h x bytes e q i =
    subst (λ (z : Rowid). FillIs R own f (fill z (with_bytes (image R z.dba z.slot) bytes))) (sym e)
    (subst (λ (y : Front). FillIs R own f (fill p (again y bytes))) q i)

-- the block of the slot that holds the row
pub holder_home : (sh : Shape) (R : List Record) (o : ℕ) (x : Stand) (p : Rowid) → AreAtHome sh R o x → holder_of x ≡ p → IsRowBlock sh R o p.dba
holder_home sh R o (Whole q) p h e = subst (λ (z : Rowid). IsRowBlock sh R o z.dba) e h
holder_home sh R o (Apart head body) p h e = subst (λ (z : Rowid). IsRowBlock sh R o z.dba) e h.1
