-- Where undo goes, by how the current undo block is used.
use Rattle.std.proofs.Common.{◌≡◌, ℕ, suc, ◌+◌, true, false, not, ltb, find, List, [], Option, Some, None, sym, ◌∙◌, ap}
use Rattle.std.specs.Prelude.{Result, Ok, Err, IfOk}
use Rattle.seg_words.proofs.Lemmas.{cond-true, cond-false}
use Rattle.seg_words.specs.Types.{Shape}
use Rattle.store_core.specs.declared.fault.StoreFault.{StoreFault}
use Rattle.redo_model.specs.Records.{Record, ReuseRecord}
use Rattle.redo_model.specs.Model.{current_undo, has_holder, next_undo, ring_after, undo_sequence, undo_used}
use Rattle.change_laws.specs.Types.{Spot, Here, Next, reuse_of, spot_by, spot_for, spot_past, undo_end}
use Rattle.row_change.specs.declared.ring.UndoState.{UndoState}
use Rattle.row_change.specs.declared.spot.Spot.{Spot as Told}
use Rattle.row_change.specs.Spots.{UsedAs, spot_behind, told_spot}

-- the spot that is answered is the same one
pub spot_ok : (r : Result Told StoreFault) (x y : Spot) → x ≡ y → IfOk r (λ s. told_spot s ≡ x) → IfOk r (λ s. told_spot s ≡ y)
spot_ok (Ok s) x y e h = h ∙ e
spot_ok (Err f) x y e h = tt

-- the first use of all
pub first_spot : (sh : Shape) (R : List Record) (need : ℕ) → current_undo R ≡ None → Next (reuse_of R 37) ≡ spot_for sh R need
first_spot sh R need e = ap (λ (o : Option ℕ). spot_past R o []) (sym first) ∙ ap (spot_by sh R need) (sym e)
  where
    first : next_undo sh R ≡ Some 37
    first = ap (λ (o : Option ℕ). elim o as (λ x. Option ℕ) [ None ↦ Some 37 | Some v ↦ find (λ b. not (has_holder R b)) (ring_after sh v) ]) e

used_is : (R : List Record) (u : ℕ) (s : UndoState) → UsedAs R u s → s.used ≡ undo_used R u
used_is R u s h = ap (λ (x : UndoState). x.used) h

-- it doesn't fit in the current block
pub beside_next : (sh : Shape) (R : List Record) (u need : ℕ) (s : UndoState) → UsedAs R u s → ltb 4032 (s.used + need) ≡ true → spot_behind sh R u ≡ spot_by sh R need (Some u)
beside_next sh R u need s h l = (let e = used_is R u s h in sym (cond-true _ (spot_behind sh R u) (Here (undo_end R u)) (ap (λ n. ltb 4032 (n + need)) (sym e) ∙ l)))

-- it fits
pub beside_here : (sh : Shape) (R : List Record) (u need : ℕ) (s : UndoState) → UsedAs R u s → ltb 4032 (s.used + need) ≡ false → Here (record { block = u; seq = s.sequence; nth = s.count }) ≡ spot_by sh R need (Some u)
beside_here sh R u need s h l =
    let e = used_is R u s h in
    ap (λ (x : UndoState). Here (record { block = u; seq = x.sequence; nth = x.count })) h ∙ sym (cond-false _ (spot_behind sh R u) (Here (undo_end R u)) (ap (λ n. ltb 4032 (n + need)) (sym e) ∙ l))

pub next_to : (R : List Record) (block n m : ℕ) → n ≡ suc m → m ≡ undo_sequence R block → ◌≡◌ {A = ReuseRecord} (record { block = block; sequence = n }) (reuse_of R block)
next_to R block n m e f = ap (uses block) (e ∙ ap (λ k. suc k) f)
  where
    uses : ℕ → ℕ → ReuseRecord
    uses b k = record { block = b; sequence = k }
