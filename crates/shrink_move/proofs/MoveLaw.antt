-- The Move of a row is allowed, wherever its undo goes.
use Rattle.std.proofs.Common.{◌≡◌, ◌⊎◌, ℕ, zero, suc, ◌+◌, ◌<◌, ◌≤◌, Bool, true, false, cond, not, eqb, leb, List, [], ◌∷◌, length, slice_get, Option, Some, None, refl, sym, ◌∙◌, ap, ap₂, subst, arith, inl, inr, true≢false, eq-eqb, eqb-true, leb-true, leb-false}
use Rattle.seg_words.proofs.Lemmas.{cases_Bool, and_parts}
use Rattle.seg_words.specs.Types.{Shape, Slot, Kind, Empty, Row, Head, Body, Rowid, UndoAddr, BLOCK_ROOM, LONGEST_ROW, UNDO_PART_SIZE, as_told, is_empty, number_of_writer, position_or_len, writer_has_ended}
use Rattle.redo_model.specs.Records.{Record, Insert, Update, Migrate, Return, Delete, Move, Reuse, Table, RowPart, ReuseRecord}
use Rattle.redo_model.specs.Model.{Step, row_step, move_step, AreAllowed, HasMovement, IsCalledFor, IsLawful, IsMigrated, IsRowBlock, IsTable, MayMove, MoveAllowed, StatesUndo, at_place, commit_count, data_blocks, ended_in, first_taker, image, is_whole, next_slot, parts_size, position}
use Rattle.redo_model.specs.AllowedMoves.{moves_plain, moves_to_body, moves_migrated}
use Rattle.redo_laws.specs.Apart.{AreDistinct}
use Rattle.redo_laws.proofs.allowed.AllKinds.{shape_of}
use Rattle.redo_laws.proofs.allowed.Shapes.{AllPut, target_reusable}
use Rattle.redo_laws.proofs.homes.PairsLaw.{heads_name_bodies}
use Rattle.redo_laws.proofs.room.RoomLaw.{blocks_have_room}
use Rattle.redo_laws.proofs.space.ApartLaw.{extents_are_apart}
use Rattle.redo_laws.proofs.space.Places.{contains_in, segments}
use Rattle.redo_laws.proofs.steps.ImageFacts.{IsKept, NewHave, Puts, all_have}
use Rattle.redo_laws.proofs.steps.NewImages.{of_step}
use Rattle.space_laws.proofs.MarksLaw.{formatted_are_under_mark}
use Rattle.change_laws.specs.Types.{Fill, Spot, Here, Next, Full, StatesAt, Stand, Whole, Apart, fills_size, free_place, spot_for, undo_start}
use Rattle.change_laws.proofs.RowRoom.{two_small, three_small}
use Rattle.change_laws.proofs.SpotLaw.{reuse_need, spots_state}
use Rattle.shrink_laws.specs.declared.skip.Skip.{Skip}
use Rattle.shrink_laws.specs.Stops.{IsAt, holder, linked, row_image}
use Rattle.shrink_laws.specs.Cursor.{Finds}
use Rattle.shrink_move.specs.Moves.{MovedAt, MoveReady, move_of, moved_part, moved_parts, row_stand, to_block_fills, to_body_fills}
use Rattle.shrink_move.specs.MoveLaws.{RowsMoveToBlocks, RowsMoveToBodies, block_fills, body_fills}
use Rattle.shrink_move.specs.Nexts.{GoesToBlock}
use Rattle.shrink_move.proofs.Placing.{at_in, at_within, block_inside, no_block}
use Rattle.shrink_move.proofs.Opening.{row_home}

-- ---- positions

abbrev place_in : List ℕ → ℕ → ℕ
place_in bs b = position_or_len (λ c. eqb c b) bs

first_place : (x b : ℕ) (bs : List ℕ) (v : Bool) → eqb x b ≡ v → place_in (x ∷ bs) b ≡ cond (not v) (1 + place_in bs b) 0
first_place x b bs v e = ap (λ w. cond (not w) (1 + place_in bs b) 0) e

-- a block stands at one position
place_is : (bs : List ℕ) (i b : ℕ) → AreDistinct bs → slice_get bs i ≡ Some b → place_in bs b ≡ i
place_is [] i b d h = no_block b h
place_is (x ∷ bs) zero b d h = first_place x b bs true (eq-eqb x b (block_inside x b h))
place_is (x ∷ bs) (suc i) b d h = elim (cases_Bool (eqb x b)) [
  | inl y ↦ absurd (d.0 (contains_in bs x (at_in bs i x (h ∙ ap (λ (z : ℕ). Some z) (sym (eqb-true x b y))))))
  | inr f ↦ first_place x b bs false f ∙ (let k = place_is bs i b d.1 h in let z : 1 + place_in bs b ≡ suc i = omega (arith, k) in z)
]

place_there : (bs : List ℕ) (b : ℕ) → place_in bs b < length bs → slice_get bs (place_in bs b) ≡ Some b
place_there [] b l = absurd (omega (arith, l))
place_there (x ∷ bs) b l = elim (cases_Bool (eqb x b)) [
  | inl y ↦ subst (λ n. slice_get (x ∷ bs) n ≡ Some b) (sym (first_place x b bs true y)) (ap (λ (z : ℕ). Some z) (eqb-true x b y))
  | inr f ↦
      let e = first_place x b bs false f in
      subst (λ n. slice_get (x ∷ bs) n ≡ Some b) (let z : suc (place_in bs b) ≡ place_in (x ∷ bs) b = omega (arith, e) in z) (place_there bs b (omega (arith, l, e)))
]

data_distinct : (sh : Shape) (R : List Record) (o : ℕ) → AreAllowed sh R → IsTable R o → AreDistinct (data_blocks sh R o)
data_distinct sh R o h t = (extents_are_apart sh R h).blocks.once o t

position_is : (sh : Shape) (R : List Record) (o i b : ℕ) → AreAllowed sh R → IsTable R o → IsAt sh R o i b → position sh R o b ≡ i
position_is sh R o i b h t at = place_is (data_blocks sh R o) i b (data_distinct sh R o h t) at

-- ---- wherever its undo goes

called : (R : List Record) (r : Record) → is_whole R ≡ true → IsCalledFor R r
called [] r h = tt
called (Table t ∷ R) r h = absurd (true≢false (sym h))
called (Reuse q ∷ R) r h = absurd (true≢false (sym h))
called (_ ∷ R) r h = tt

parts_need : (R : List Record) (number : ℕ) (a : UndoAddr) (i : ℕ) (fs : List Fill) → parts_size (moved_parts R number a i fs) ≡ fills_size R fs
parts_need R number a i [] = refl
parts_need R number a i (f ∷ fs) = ap (λ n. (UNDO_PART_SIZE + length (moved_part R number a i f).old.bytes) + n) (parts_need R number a (suc i) fs)

move_at : (sh : Shape) (R : List Record) (o n : ℕ) (fs : List Fill) (s : Spot) → IsLawful sh R → MoveReady sh R o n fs → StatesAt sh R (fills_size R fs) s → MovedAt sh R o n fs s
move_at sh R o n fs (Here a) l r x = record {
  allowed = (l.allowed, record { called_for = called R (Move (move_of R o n a fs)) l.whole; kind = r.now a (x (moved_parts R (suc (commit_count R)) a 0 fs) (parts_need R (suc (commit_count R)) a 0 fs)) });
  whole = refl;
}
move_at sh R o n fs (Next q) l r x =
    let m = move_of (Reuse q ∷ R) o n (undo_start q) fs in
    let size : parts_size m.parts ≡ fills_size R fs = parts_need (Reuse q ∷ R) (suc (commit_count (Reuse q ∷ R))) (undo_start q) 0 fs ∙ reuse_need R q fs in
    record {
      allowed = ((l.allowed, x.reuse), record { called_for = x.called m.parts size; kind = r.after q (undo_start q) (x.states m.parts size) });
      whole = refl;
    }
move_at sh R o n fs (Full hs) l r x = x

moves : (sh : Shape) (R : List Record) (o n : ℕ) (fs : List Fill) → IsLawful sh R → MoveReady sh R o n fs → MovedAt sh R o n fs (spot_for sh R (fills_size R fs))
moves sh R o n fs l r = move_at sh R o n fs (spot_for sh R (fills_size R fs)) l r (spots_state sh R (fills_size R fs) l r.small)

-- ---- what each kind of row needs

-- what stands in a list, whatever a Reuse changes
record Place (sh : Shape) (R : List Record) (o place d k : ℕ) : Type 0 where
  table : IsTable R o
  movement : HasMovement R o
  here : IsRowBlock sh R o d
  at : position sh R o d ≡ place
  over : writer_has_ended (ended_in R) (row_image R d k).writer ≡ true

place_of : (sh : Shape) (R : List Record) (o : ℕ) (skips : List Skip) (cursor place d k : ℕ) → AreAllowed sh R → IsTable R o → HasMovement R o → Finds sh R o skips cursor place d k → writer_has_ended (ended_in R) (row_image R d k).writer ≡ true → Place sh R o place d k
place_of sh R o skips cursor place d k h t m f over = record {
  table = t;
  movement = m;
  here = formatted_are_under_mark sh R o d h t (contains_in (data_blocks sh R o) d (at_in (data_blocks sh R o) place d f.here)) (row_home sh R d k h f.full).formatted;
  at = position_is sh R o place d h t f.here;
  over = over;
}

may : (R : List Record) (o n : ℕ) (a : UndoAddr) (fs : List Fill) → IsTable R o → HasMovement R o → StatesUndo R a (moved_parts R (suc (commit_count R)) a 0 fs) → MayMove R (move_of R o n a fs)
may R o n a fs t m u = record { table = t; movement = m; number = refl; undo = u }

first_at : (sh : Shape) (R : List Record) (o place d target : ℕ) (i j : Slot) → position sh R o d ≡ place → i ≡ j → first_taker sh R o place (length i.bytes) ≡ Some target → first_taker sh R o (position sh R o d) (length j.bytes) ≡ Some target
first_at sh R o place d target i j e s h = ap (λ n. first_taker sh R o n (length j.bytes)) e ∙ ap (λ (x : Slot). first_taker sh R o place (length x.bytes)) (sym s) ∙ h

over_at : (R : List Record) (i j : Slot) → i ≡ j → writer_has_ended (ended_in R) i.writer ≡ true → writer_has_ended (ended_in R) j.writer ≡ true
over_at R i j s h = ap (λ (x : Slot). writer_has_ended (ended_in R) x.writer) (sym s) ∙ h

own_of : (R : List Record) (d k : ℕ) (kind : Kind) → (image R d k).kind ≡ kind → row_image R d k ≡ holder R kind (image R d k)
own_of R d k kind e = ap (λ (x : Kind). holder R x (image R d k)) e

plain_now : (sh : Shape) (R : List Record) (o place d k target : ℕ) → Place sh R o place d k → (image R d k).kind ≡ Row → row_image R d k ≡ image R d k → first_taker sh R o place (length (row_image R d k).bytes) ≡ Some target → (a : UndoAddr)
    → StatesUndo R a (moved_parts R (suc (commit_count R)) a 0 (to_block_fills (image R d k).row (Whole (at_place d k)) (free_place R target) (image R d k).bytes)) → MoveAllowed sh R (move_of R o (image R d k).row a (to_block_fills (image R d k).row (Whole (at_place d k)) (free_place R target) (image R d k).bytes))
plain_now sh R o place d k target p kind same first a u = moves_plain (record {
  move = may R o (image R d k).row a (to_block_fills (image R d k).row (Whole (at_place d k)) (free_place R target) (image R d k).bytes) p.table p.movement u;
  block = d;
  slot = k;
  here = p.here;
  plain = record { kind = kind; row = refl };
  over = over_at R (row_image R d k) (image R d k) same p.over;
  target = target;
  first = first_at sh R o place d target (row_image R d k) (image R d k) p.at same first;
  parts = refl;
})

-- a migrated row, of which one slot is come to
migrated_now : (sh : Shape) (R : List Record) (o n place d k target : ℕ) (head body : Rowid) → Place sh R o place d k → IsMigrated R n head.dba head.slot body.dba body.slot → (d ≡ body.dba) ⊎ ((d ≡ head.dba) × (position sh R o head.dba ≤ position sh R o body.dba)) → row_image R d k ≡ image R body.dba body.slot
    → first_taker sh R o place (length (row_image R d k).bytes) ≡ Some target → (a : UndoAddr) → StatesUndo R a (moved_parts R (suc (commit_count R)) a 0 (to_block_fills n (Apart head body) (free_place R target) (image R body.dba body.slot).bytes))
    → MoveAllowed sh R (move_of R o n a (to_block_fills n (Apart head body) (free_place R target) (image R body.dba body.slot).bytes))
migrated_now sh R o n place d k target head body p m c same first a u = moves_migrated (record {
  move = may R o n a (to_block_fills n (Apart head body) (free_place R target) (image R body.dba body.slot).bytes) p.table p.movement u;
  head_block = head.dba;
  head_slot = head.slot;
  body_block = body.dba;
  body_slot = body.slot;
  cursor = d;
  cursor_is = c;
  here = p.here;
  migrated = m;
  over = over_at R (row_image R d k) (image R body.dba body.slot) same p.over;
  target = target;
  first = first_at sh R o place d target (row_image R d k) (image R body.dba body.slot) p.at same first;
  parts = refl;
})

to_body_now : (sh : Shape) (R : List Record) (o n place d k : ℕ) (body : Rowid) → Place sh R o place d k → IsMigrated R n d k body.dba body.slot → position sh R o body.dba < position sh R o d → row_image R d k ≡ image R body.dba body.slot
    → (a : UndoAddr) → StatesUndo R a (moved_parts R (suc (commit_count R)) a 0 (to_body_fills n (at_place d k) body (image R body.dba body.slot).bytes)) → MoveAllowed sh R (move_of R o n a (to_body_fills n (at_place d k) body (image R body.dba body.slot).bytes))
to_body_now sh R o n place d k body p m below same a u = moves_to_body (record {
  move = may R o n a (to_body_fills n (at_place d k) body (image R body.dba body.slot).bytes) p.table p.movement u;
  head_block = d;
  head_slot = k;
  body_block = body.dba;
  body_slot = body.slot;
  here = p.here;
  migrated = m;
  over = over_at R (row_image R d k) (image R body.dba body.slot) same p.over;
  below = below;
  parts = refl;
})

-- a Reuse leaves all of it

place_after : (sh : Shape) (R : List Record) (o place d k : ℕ) (q : ReuseRecord) → Place sh R o place d k → Place sh (Reuse q ∷ R) o place d k
place_after sh R o place d k q p = record {
  table = record { least = p.table.least; most = p.table.most };
  movement = p.movement;
  here = record { here = p.here.here; formatted = p.here.formatted };
  at = p.at;
  over = p.over;
}

migrated_after : (R : List Record) (n hb hs bb bs : ℕ) (q : ReuseRecord) → IsMigrated R n hb hs bb bs → IsMigrated (Reuse q ∷ R) n hb hs bb bs
migrated_after R n hb hs bb bs q m = record { head_kind = m.head_kind; head_row = m.head_row; head_link = m.head_link; body_kind = m.body_kind; body_row = m.body_row; body_link = m.body_link }

plain_ready : (sh : Shape) (R : List Record) (o place d k target : ℕ) → AreAllowed sh R → Place sh R o place d k → (image R d k).kind ≡ Row → row_image R d k ≡ image R d k → first_taker sh R o place (length (row_image R d k).bytes) ≡ Some target
    → MoveReady sh R o (image R d k).row (to_block_fills (image R d k).row (Whole (at_place d k)) (free_place R target) (image R d k).bytes)
plain_ready sh R o place d k target h p kind same first = record {
  small = two_small sh R (at_place d k) (free_place R target) h;
  now = λ a u. plain_now sh R o place d k target p kind same first a u;
  after = λ q a u. plain_now sh (Reuse q ∷ R) o place d k target (place_after sh R o place d k q p) kind same first a u;
}

migrated_ready : (sh : Shape) (R : List Record) (o n place d k target : ℕ) (head body : Rowid) → AreAllowed sh R → Place sh R o place d k → IsMigrated R n head.dba head.slot body.dba body.slot → (d ≡ body.dba) ⊎ ((d ≡ head.dba) × (position sh R o head.dba ≤ position sh R o body.dba)) → row_image R d k ≡ image R body.dba body.slot
    → first_taker sh R o place (length (row_image R d k).bytes) ≡ Some target → MoveReady sh R o n (to_block_fills n (Apart head body) (free_place R target) (image R body.dba body.slot).bytes)
migrated_ready sh R o n place d k target head body h p m c same first = record {
  small = three_small sh R head body target h;
  now = λ a u. migrated_now sh R o n place d k target head body p m c same first a u;
  after = λ q a u. migrated_now sh (Reuse q ∷ R) o n place d k target head body (place_after sh R o place d k q p) (migrated_after R n head.dba head.slot body.dba body.slot q m) c same first a u;
}

to_body_ready : (sh : Shape) (R : List Record) (o n place d k : ℕ) (body : Rowid) → AreAllowed sh R → Place sh R o place d k → IsMigrated R n d k body.dba body.slot → position sh R o body.dba < position sh R o d → row_image R d k ≡ image R body.dba body.slot
    → MoveReady sh R o n (to_body_fills n (at_place d k) body (image R body.dba body.slot).bytes)
to_body_ready sh R o n place d k body h p m below same = record {
  small = two_small sh R (at_place d k) body h;
  now = λ a u. to_body_now sh R o n place d k body p m below same a u;
  after = λ q a u. to_body_now sh (Reuse q ∷ R) o n place d k body (place_after sh R o place d k q p) (migrated_after R n d k body.dba body.slot q m) below same a u;
}

-- ---- the laws

moves_as : (sh : Shape) (R : List Record) (o n : ℕ) (fs gs : List Fill) → IsLawful sh R → fs ≡ gs → MoveReady sh R o n gs → MovedAt sh R o n fs (spot_for sh R (fills_size R fs))
moves_as sh R o n fs gs l e r = subst (λ (xs : List Fill). MovedAt sh R o n xs (spot_for sh R (fills_size R xs))) (sym e) (moves sh R o n gs l r)

as_stand : (R : List Record) (d k target : ℕ) (x : Stand) (i : Slot) → row_stand (image R d k).kind (image R d k).link (at_place d k) ≡ x → row_image R d k ≡ i → block_fills R d k target ≡ to_block_fills (image R d k).row x (free_place R target) i.bytes
as_stand R d k target x i e s = ap₂ (λ (y : Stand) (j : Slot). to_block_fills (image R d k).row y (free_place R target) j.bytes) e s

-- a head has its body, and a body its head
body_at : (sh : Shape) (R : List Record) (d k : ℕ) (p : Rowid) → AreAllowed sh R → (image R d k).kind ≡ Head → (image R d k).link ≡ Some p → IsMigrated R (image R d k).row d k p.dba p.slot
body_at sh R d k p h kind link =
    let n = (heads_name_bodies sh R d k h).head kind in
    let same : at_place n.block n.slot ≡ p = rowid_inside (at_place n.block n.slot) p (sym n.link ∙ link) in
    record {
      head_kind = kind;
      head_row = refl;
      head_link = link;
      body_kind = ap (λ (x : Rowid). (image R x.dba x.slot).kind) (sym same) ∙ n.kind;
      body_row = ap (λ (x : Rowid). (image R x.dba x.slot).row) (sym same) ∙ n.row;
      body_link = ap (λ (x : Rowid). (image R x.dba x.slot).link) (sym same) ∙ n.back;
    }
  where
    rowid_inside : (p q : Rowid) → ◌≡◌ {A = Option Rowid} (Some p) (Some q) → p ≡ q
    rowid_inside p q e = cc

held_by_body : (R : List Record) (d k : ℕ) (p : Rowid) → (image R d k).kind ≡ Head → (image R d k).link ≡ Some p → row_image R d k ≡ image R p.dba p.slot
held_by_body R d k p kind link = own_of R d k Head kind ∙ ap (λ (l : Option Rowid). linked R l (image R d k)) link

moves_row : (sh : Shape) (R : List Record) (o : ℕ) (skips : List Skip) (cursor place d k target : ℕ) → IsLawful sh R → Place sh R o place d k → GoesToBlock sh R o skips cursor place d k target → (image R d k).kind ≡ Row
    → MovedAt sh R o (image R d k).row (block_fills R d k target) (spot_for sh R (fills_size R (block_fills R d k target)))
moves_row sh R o skips cursor place d k target l p g kind =
    let same = own_of R d k Row kind in
    moves_as sh R o (image R d k).row (block_fills R d k target) (to_block_fills (image R d k).row (Whole (at_place d k)) (free_place R target) (image R d k).bytes) l
    (as_stand R d k target (Whole (at_place d k)) (image R d k) (ap (λ (x : Kind). row_stand x (image R d k).link (at_place d k)) kind) same)
    (plain_ready sh R o place d k target l.allowed p kind same g.first)

moves_body : (sh : Shape) (R : List Record) (o : ℕ) (skips : List Skip) (cursor place d k target : ℕ) → IsLawful sh R → Place sh R o place d k → GoesToBlock sh R o skips cursor place d k target → (image R d k).kind ≡ Body
    → MovedAt sh R o (image R d k).row (block_fills R d k target) (spot_for sh R (fills_size R (block_fills R d k target)))
moves_body sh R o skips cursor place d k target l p g kind =
    let n = (heads_name_bodies sh R d k l.allowed).body kind in
    let same = own_of R d k Body kind in
    let head = at_place n.block n.slot in
    let m : IsMigrated R (image R d k).row n.block n.slot d k = record { head_kind = n.kind; head_row = n.row; head_link = n.back; body_kind = kind; body_row = refl; body_link = n.link } in
    moves_as sh R o (image R d k).row (block_fills R d k target) (to_block_fills (image R d k).row (Apart head (at_place d k)) (free_place R target) (image R d k).bytes) l
    (as_stand R d k target (Apart head (at_place d k)) (image R d k) (ap₂ (λ (x : Kind) (y : Option Rowid). row_stand x y (at_place d k)) kind n.link) same)
    (migrated_ready sh R o (image R d k).row place d k target head (at_place d k) l.allowed p m (inl refl) same g.first)

moves_head : (sh : Shape) (R : List Record) (o : ℕ) (skips : List Skip) (cursor place d k target : ℕ) → IsLawful sh R → Place sh R o place d k → GoesToBlock sh R o skips cursor place d k target → (image R d k).kind ≡ Head
    → MovedAt sh R o (image R d k).row (block_fills R d k target) (spot_for sh R (fills_size R (block_fills R d k target)))
moves_head sh R o skips cursor place d k target l p g kind =
    let n = (heads_name_bodies sh R d k l.allowed).head kind in
    let body = at_place n.block n.slot in
    let same = held_by_body R d k body kind n.link in
    moves_as sh R o (image R d k).row (block_fills R d k target) (to_block_fills (image R d k).row (Apart (at_place d k) body) (free_place R target) (image R n.block n.slot).bytes) l
    (as_stand R d k target (Apart (at_place d k) body) (image R n.block n.slot) (ap₂ (λ (x : Kind) (y : Option Rowid). row_stand x y (at_place d k)) kind n.link) same)
    (migrated_ready sh R o (image R d k).row place d k target (at_place d k) body l.allowed p (body_at sh R d k body l.allowed kind n.link) (inr (refl, not_below)) same g.first)
  where
    not_below : position sh R o d ≤ position sh R o ((heads_name_bodies sh R d k l.allowed).head kind).block
    not_below =
        let n = (heads_name_bodies sh R d k l.allowed).head kind in
        elim (cases_Bool (leb (position sh R o d) (position sh R o n.block))) [
          | inl y ↦ leb-true _ _ y
          | inr f ↦
              let below = leb-false _ _ f in
              let at = p.at in
              let within = at_within (data_blocks sh R o) place d g.finds.here in
              absurd (g.not_down (record { head = kind; block = n.block; slot = n.slot; link = n.link; lower = position sh R o n.block; there = place_there (data_blocks sh R o) n.block (omega (arith, below, at, within)); below = omega (arith, below, at) }))
        ]

full_kinds : (sh : Shape) (R : List Record) (o : ℕ) (skips : List Skip) (cursor place d k target : ℕ) → IsLawful sh R → Place sh R o place d k → GoesToBlock sh R o skips cursor place d k target → (kind : Kind) → (image R d k).kind ≡ kind
    → MovedAt sh R o (image R d k).row (block_fills R d k target) (spot_for sh R (fills_size R (block_fills R d k target)))
full_kinds sh R o skips cursor place d k target l p g Empty e = absurd (true≢false (sym (ap is_empty e) ∙ g.finds.full))
full_kinds sh R o skips cursor place d k target l p g Row e = moves_row sh R o skips cursor place d k target l p g e
full_kinds sh R o skips cursor place d k target l p g Head e = moves_head sh R o skips cursor place d k target l p g e
full_kinds sh R o skips cursor place d k target l p g Body e = moves_body sh R o skips cursor place d k target l p g e

pub rows_move_to_blocks : RowsMoveToBlocks
rows_move_to_blocks sh R o skips cursor place d k target l t m g = full_kinds sh R o skips cursor place d k target l (place_of sh R o skips cursor place d k l.allowed t m g.finds g.over) g (image R d k).kind refl

pub rows_move_to_bodies : RowsMoveToBodies
rows_move_to_bodies sh R o skips cursor place d k body l t m g =
    let p = place_of sh R o skips cursor place d k l.allowed t m g.finds g.over in
    let same = held_by_body R d k body g.head g.link in
    let at = p.at in
    let there = position_is sh R o g.below.lower body.dba l.allowed t g.below.there in
    let lower = g.below.below in
    moves_as sh R o (image R d k).row (body_fills R d k body) (to_body_fills (image R d k).row (at_place d k) body (image R body.dba body.slot).bytes) l
    (ap (λ (i : Slot). to_body_fills (image R d k).row (at_place d k) body i.bytes) same)
    (to_body_ready sh R o (image R d k).row place d k body l.allowed p (body_at sh R d k body l.allowed g.head g.link) (omega (arith, at, there, lower)) same)
