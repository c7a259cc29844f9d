-- What the pages of a true store answer to the questions of a change.
use Rattle.std.proofs.Common.{◌≡◌, ℕ, zero, suc, ◌+◌, ◌<◌, ◌≤◌, Bool, true, false, cond, not, ltb, nat_lt, ◌||◌, List, [], length, get_or, Option, Some, None, refl, sym, ◌∙◌, ap, ap₂, arith, lt-ltb, le-ltb, ne_eqb}
use Rattle.std.specs.Prelude.{sum_by}
use Rattle.seg_words.proofs.Lemmas.{and_from, cond-false}
use Rattle.seg_words.specs.Types.{Shape, Slot, Block, new_slot, entry_for, next_room, is_shape}
use Rattle.redo_model.specs.Records.{Record}
use Rattle.redo_model.specs.Model.{ended_in, image, block_of, at_place, undo_parts, undo_used, undo_sequence, number_or_zero, data_blocks, high_mark, under_high, IsRowBlock, IsLawful, least_active, Undone}
use Rattle.redo_model.proofs.Bridge.{image_is}
use Rattle.redo_laws.proofs.numbers.Bounds.{limits, data_bound}
use Rattle.redo_laws.proofs.space.Places.{in_contains, in_take}
use Rattle.redo_laws.proofs.room.RoomLaw.{blocks_have_room}
use Rattle.txn_block.specs.Types.{TxnTable}
use Rattle.undo_block.specs.Types.{used_by, holder_of}
use Rattle.version_laws.specs.Types.{HoldsTable, IsInRing, ended_by, begin_of}
use Rattle.version_laws.proofs.TableLaw.{tables_tell}
use Rattle.change_laws.specs.Types.{entry_by, fill}
use Rattle.change_laws.proofs.BegunLaw.{begins_leave}
use Rattle.change_laws.proofs.ShowLaw.{undo_pages_show}
use Rattle.store_laws.specs.Kinds.{HasRowPage, HasUndo}
use Rattle.store_laws.proofs.KindsLaw.{undo_stands, rows_stand}
use Rattle.page_set.specs.declared.page.Page.{Page}
use Rattle.page_set.specs.Folded.{page_of}
use Rattle.store_core.specs.Store.{has_page}
use Rattle.row_change.specs.declared.replaced.Replaced.{Replaced}
use Rattle.row_change.specs.declared.ring.UndoState.{UndoState}
use Rattle.row_change.specs.Acting.{txn_of}
use Rattle.row_change.specs.declared.draft.Content.{Content as Filling}
use Rattle.row_change.specs.Drafting.{FillIs, place_or, replaced_of, told_content}
use Rattle.row_change.specs.Reading.{slot_or, replaced_at, replaced_in, state_in}
use Rattle.row_change.specs.Spots.{state_of}
use Rattle.row_change.proofs.Unused.{no_parts, ring_zero}

-- ---- blocks that have pages

or_true : (a b : Bool) → b ≡ true → (a || b) ≡ true
or_true true b e = refl
or_true false b e = e

far_there : (sh : Shape) (d : ℕ) → 37 ≤ d → d < sh.blocks → has_page sh d ≡ true
far_there sh d f t = and_from _ _ (and_from _ _ (lt-ltb d sh.blocks t) (ap not (ne_eqb d 0 (λ z. absurd (omega (arith, z, f)))))) (or_true (nat_lt d 4) (nat_lt 36 d) (lt-ltb 36 d (omega (arith, f))))

pub ring_there : (sh : Shape) (u : ℕ) → is_shape sh ≡ true → IsInRing sh u → has_page sh u ≡ true
ring_there sh u s i = let l = (limits sh s).all in let f = i.from in let t = i.to in far_there sh u f (omega (arith, l, t))

pub rows_there : (sh : Shape) (R : List Record) (o b : ℕ) → is_shape sh ≡ true → IsLawful sh R → IsRowBlock sh R o b → has_page sh b ≡ true
rows_there sh R o b s h x =
    let c = x.here in
    let k = data_bound sh R o b h.allowed (in_take b (high_mark R o) (data_blocks sh R o) (in_contains (under_high sh R o) b c.0 c.1 c.2)) in
    far_there sh b k.0 k.1

-- ---- row blocks

pub entry_of_txn : (sh : Shape) (R : List Record) (own : Option ℕ) (b : ℕ) → IsLawful sh R → entry_for (ended_in R) (block_of R b) (txn_of R own) ≡ entry_by R own b
entry_of_txn sh R (Some t) b h = refl
entry_of_txn sh R None b h = ((begins_leave sh R (begin_of R 1 0 0) h.allowed refl).blocks b).entry_before

slot_same : (R : List Record) (b : ℕ) (k : Option ℕ) → slot_or (ended_in R) (block_of R b) k ≡ place_or R b k
slot_same R b None = refl
slot_same R b (Some k) = refl

abbrev replaced_with : ℕ → ℕ → ℕ → Slot → Replaced
replaced_with k entry room old = record { slot = k; entry = entry; room = room; size = 64 + length old.bytes; old = old }

pub replaced_given : (sh : Shape) (R : List Record) (q : TxnTable) (own : Option ℕ) (o b : ℕ) (k : Option ℕ) (len : ℕ) → is_shape sh ≡ true → IsLawful sh R → HoldsTable R q → IsRowBlock sh R o b
    → replaced_in q (txn_of R own) k len (page_of sh R b) ≡ Some (replaced_of R own b (place_or R b k) len)
replaced_given sh R q own o b k len s h t x =
    let p : HasRowPage sh R b = rows_stand sh R o b s h x in
    let e : ended_by q ≡ ended_in R = (tables_tell sh R q h.allowed t).ended in
    let u = txn_of R own in
    let i = place_or R b k in
    let old : get_or (block_of R b).slots i new_slot ≡ image R b i = image_is R b i in
    let entry : entry_for (ended_in R) (block_of R b) u ≡ entry_by R own b = entry_of_txn sh R own b h in
    let short = (blocks_have_room sh R b h.allowed).rows i in
    ap (λ (y : Page). replaced_in q u k len y) p.page
    ∙ ap₂ (λ (f : ℕ → Bool) (y : Block). replaced_at f y u (slot_or f y k) len) e p.holds.block
    ∙ ap (λ j. replaced_at (ended_in R) (block_of R b) u j len) (slot_same R b k)
    ∙ ap (λ (y : Slot). cond (ltb 1800 (length y.bytes)) None (some (replaced_with i (number_or_zero (entry_for (ended_in R) (block_of R b) u)) (next_room (ended_in R) y len) y))) old
    ∙ ap (λ (n : Option ℕ). cond (ltb 1800 (length (image R b i).bytes)) None (some (replaced_with i (number_or_zero n) (next_room (ended_in R) (image R b i) len) (image R b i)))) entry
    ∙ cond-false _ _ _ (le-ltb 1800 (length (image R b i).bytes) short)
  where
    some : Replaced → Option Replaced
    some y = Some y

-- ---- undo blocks

abbrev some_state : UndoState → Option UndoState
some_state x = Some x

state_by : (sh : Shape) (R : List Record) (q : TxnTable) (u n : ℕ) → is_shape sh ≡ true → IsLawful sh R → HoldsTable R q → IsInRing sh u → undo_sequence R u ≡ n → state_in q (page_of sh R u) ≡ Some (state_of R u)
state_by sh R q u zero s h t i e =
    let z = ring_zero sh R u s h.allowed i.from i.to e in
    let none : undo_parts R u ≡ [] = no_parts sh R u h.allowed e in
    ap (λ (y : Page). state_in q y) z.1
    ∙ ap (λ n. some_state (record { sequence = n; count = 0; used = 0; holder = None })) (sym e)
    ∙ ap (λ (ps : List Undone). some_state (record { sequence = undo_sequence R u; count = length ps; used = sum ps; holder = least_active R ps })) (sym none)
  where
    sum : List Undone → ℕ
    sum ps = sum_by (λ (p : Undone). p.size) ps
state_by sh R q u (suc n) s h t i e =
    let k : HasUndo sh R u = undo_stands sh R u s h.allowed (record { ring = i; used = omega (arith, e) }) in
    let x = undo_pages_show sh R u k.undo h.allowed k.holds in
    let f : ended_by q ≡ ended_in R = (tables_tell sh R q h.allowed t).ended in
    ap (λ (y : Page). state_in q y) k.page
    ∙ ap (λ m. some_state (record { sequence = m; count = length k.undo.parts; used = used_by k.undo.parts; holder = holder_of (ended_by q) k.undo.parts })) x.sequence
    ∙ ap (λ m. some_state (record { sequence = undo_sequence R u; count = m; used = used_by k.undo.parts; holder = holder_of (ended_by q) k.undo.parts })) x.count
    ∙ ap (λ m. some_state (record { sequence = undo_sequence R u; count = length (undo_parts R u); used = m; holder = holder_of (ended_by q) k.undo.parts })) x.used
    ∙ ap (λ (m : Option ℕ). some_state (record { sequence = undo_sequence R u; count = length (undo_parts R u); used = undo_used R u; holder = m })) (ap (λ (g : ℕ → Bool). holder_of g k.undo.parts) f ∙ x.holder)

pub state_given : (sh : Shape) (R : List Record) (q : TxnTable) (u : ℕ) → is_shape sh ≡ true → IsLawful sh R → HoldsTable R q → IsInRing sh u → state_in q (page_of sh R u) ≡ Some (state_of R u)
state_given sh R q u s h t i = state_by sh R q u (undo_sequence R u) s h t i refl

same_state : (x y : UndoState) → ◌≡◌ {A = Option UndoState} (Some x) (Some y) → x ≡ y
same_state x y e = cc

pub state_is : (sh : Shape) (R : List Record) (q : TxnTable) (u : ℕ) (x : UndoState) → is_shape sh ≡ true → IsLawful sh R → HoldsTable R q → IsInRing sh u → state_in q (page_of sh R u) ≡ Some x → x ≡ state_of R u
state_is sh R q u x s h t i e = same_state x (state_of R u) (sym e ∙ state_given sh R q u s h t i)

same_replaced : (x y : Replaced) → ◌≡◌ {A = Option Replaced} (Some x) (Some y) → x ≡ y
same_replaced x y e = cc

pub replaced_is : (sh : Shape) (R : List Record) (q : TxnTable) (own : Option ℕ) (o b : ℕ) (k : Option ℕ) (len t : ℕ) (x : Replaced) → is_shape sh ≡ true → IsLawful sh R → HoldsTable R q → IsRowBlock sh R o b → t ≡ txn_of R own
    → replaced_in q t k len (page_of sh R b) ≡ Some x → x ≡ replaced_of R own b (place_or R b k) len
replaced_is sh R q own o b k len t x s h h' r e f = same_replaced x _ (sym f ∙ ap (λ u. replaced_in q u k len (page_of sh R b)) e ∙ replaced_given sh R q own o b k len s h h' r)

pub replaced_found : (sh : Shape) (R : List Record) (q : TxnTable) (own : Option ℕ) (o b : ℕ) (k : Option ℕ) (len t : ℕ) → is_shape sh ≡ true → IsLawful sh R → HoldsTable R q → IsRowBlock sh R o b → t ≡ txn_of R own
    → replaced_in q t k len (page_of sh R b) ≡ Some (replaced_of R own b (place_or R b k) len)
replaced_found sh R q own o b k len t s h h' r e = ap (λ u. replaced_in q u k len (page_of sh R b)) e ∙ replaced_given sh R q own o b k len s h h' r

-- what was read of a row block is what a fill writes over
pub fill_is : (sh : Shape) (R : List Record) (q : TxnTable) (own : Option ℕ) (o b : ℕ) (k : Option ℕ) (len t : ℕ) (x : Replaced) (c : Filling) → len ≡ length c.bytes → is_shape sh ≡ true → IsLawful sh R → HoldsTable R q → IsRowBlock sh R o b → t ≡ txn_of R own
    → replaced_in q t k len (page_of sh R b) ≡ Some x → FillIs R own (record { dba = b; replaced = x; content = c }) (fill (at_place b (place_or R b k)) (told_content c))
fill_is sh R q own o b k len t x c l s h h' r e f = record { dba = refl; replaced = replaced_is sh R q own o b k len t x s h h' r e f ∙ ap (λ n. replaced_of R own b (place_or R b k) n) l; content = refl }
