-- A Move as it is drafted is the one of the list, so its plan leads to the list with it.
use Rattle.std.proofs.Common.{◌≡◌, ℕ, suc, ◌+◌, ◌-◌, ◌<◌, ◌≤◌, ◌^◌, Bool, true, false, cond, List, [], ◌∷◌, length, Option, Some, None, refl, sym, ◌∙◌, ap, ap₂, subst, arith}
use Rattle.seg_words.specs.Types.{Shape, Rowid, UndoAddr, At, UNDO_PART_SIZE}
use Rattle.redo_model.specs.Records.{Record, Commit, Move, Reuse, Table, RowPart, MoveRecord, ReuseRecord}
use Rattle.redo_model.specs.Model.{Content, IsLawful, IsTable, commit_count, image, image_with, part_addr, table_count}
use Rattle.change_laws.specs.Types.{Fill, Spot, Here, Next, Full, fills_size, spot_for, undo_start}
use Rattle.row_change.specs.declared.spot.Spot.{Spot as ToldSpot}
use Rattle.row_change.specs.declared.spot.Spot.TheVariants as told
use Rattle.row_change.specs.Drafting.{told_content}
use Rattle.row_change.specs.Spots.{told_spot}
use Rattle.shrink_move.specs.declared.standing.Standing.{Standing}
use Rattle.shrink_move.specs.declared.draft.Fill.{Fill as Told}
use Rattle.shrink_move.specs.declared.draft.Moving.{Moving}
use Rattle.shrink_move.specs.Drafting.{FillIs, FillsAre, IsMoving, PlanMade, PlanMeans, addition, blocks_of, drafted_blocks, drafted_move, drafted_part, drafted_parts, drafted_size, fill_list, planned, standing_of}
use Rattle.shrink_move.specs.Moves.{MovedAt, list_moved, move_of, moved_at, moved_part, moved_parts}

-- ---- sizes, parts and blocks

pub size_same : (R : List Record) (fs : List Told) (gs : List Fill) → FillsAre R fs gs → drafted_size fs ≡ fills_size R gs
size_same R [] [] h = refl
size_same R [] (g ∷ gs) h = absurd h
size_same R (f ∷ fs) [] h = absurd h
size_same R (f ∷ fs) (g ∷ gs) h = ap₂ (λ (m n : ℕ). (UNDO_PART_SIZE + m) + n) (ap (λ (s : Standing). s.len) h.0.standing) (size_same R fs gs h.1)

blocks_same : (R : List Record) (fs : List Told) (gs : List Fill) → FillsAre R fs gs → drafted_blocks fs ≡ blocks_of gs
blocks_same R [] [] h = refl
blocks_same R [] (g ∷ gs) h = absurd h
blocks_same R (f ∷ fs) [] h = absurd h
blocks_same R (f ∷ fs) (g ∷ gs) h = ap₂ (λ (b : ℕ) (bs : List ℕ). b ∷ bs) (ap (λ (s : Standing). s.dba) h.0.standing) (blocks_same R fs gs h.1)

abbrev part_with : ℕ → UndoAddr → Standing → Content → ℕ → RowPart
part_with number a s c room = record { dba = s.dba; slot = s.slot; entry = None; new = image_with c (At number) a room; old = s.old }

part_same : (R : List Record) (number : ℕ) (a : UndoAddr) (i : ℕ) (f : Told) (g : Fill) → FillIs R f g → drafted_part f number (part_addr a i) ≡ moved_part R number a i g
part_same R number a i f g h =
    ap (λ (s : Standing). part_with number (part_addr a i) s (told_content f.content) f.room) h.standing
    ∙ ap (λ (c : Content). part_with number (part_addr a i) (standing_of R g.at.dba g.at.slot) c f.room) h.content
    ∙ ap (λ n. part_with number (part_addr a i) (standing_of R g.at.dba g.at.slot) g.content n) h.room

parts_same : (R : List Record) (number : ℕ) (a : UndoAddr) (i : ℕ) (fs : List Told) (gs : List Fill) → FillsAre R fs gs → drafted_parts fs number a i ≡ moved_parts R number a i gs
parts_same R number a i [] [] h = refl
parts_same R number a i [] (g ∷ gs) h = absurd h
parts_same R number a i (f ∷ fs) [] h = absurd h
parts_same R number a i (f ∷ fs) (g ∷ gs) h = ap₂ (λ (p : RowPart) (ps : List RowPart). p ∷ ps) (part_same R number a i f g h.0) (parts_same R number a (suc i) fs gs h.1)

-- ---- the record

abbrev move_with : ℕ → ℕ → UndoAddr → ℕ → List RowPart → MoveRecord
move_with o n a number ps = record { obj = o; row = n; undo = a; number = number; parts = ps }

move_same : (R : List Record) (o n number : ℕ) (m : Moving) (a : UndoAddr) (gs : List Fill) → number ≡ suc (commit_count R) → IsMoving R m n gs → drafted_move o number m a ≡ move_of R o n a gs
move_same R o n number m a gs e i =
    ap (λ k. move_with o k a number (drafted_parts (fill_list m.fills) number a 0)) i.row
    ∙ ap (λ k. move_with o n a k (drafted_parts (fill_list m.fills) k a 0)) e
    ∙ ap (λ (ps : List RowPart). move_with o n a (suc (commit_count R)) ps) (parts_same R (suc (commit_count R)) a 0 (fill_list m.fills) gs i.fills)

-- a Reuse leaves what stands in the slots

fill_after : (R : List Record) (q : ReuseRecord) (f : Told) (g : Fill) → FillIs R f g → FillIs (Reuse q ∷ R) f g
fill_after R q f g h = record { standing = h.standing; content = h.content; room = h.room }

fills_after : (R : List Record) (q : ReuseRecord) (fs : List Told) (gs : List Fill) → FillsAre R fs gs → FillsAre (Reuse q ∷ R) fs gs
fills_after R q [] [] h = tt
fills_after R q [] (g ∷ gs) h = absurd h
fills_after R q (f ∷ fs) [] h = absurd h
fills_after R q (f ∷ fs) (g ∷ gs) h = (fill_after R q f g h.0, fills_after R q fs gs h.1)

moving_after : (R : List Record) (q : ReuseRecord) (m : Moving) (n : ℕ) (gs : List Fill) → IsMoving R m n gs → IsMoving (Reuse q ∷ R) m n gs
moving_after R q m n gs i = record { row = i.row; fills = fills_after R q (fill_list m.fills) gs i.fills }

-- ---- the plan

plan_here : (sh : Shape) (R : List Record) (o n number : ℕ) (m : Moving) (gs : List Fill) (a : UndoAddr) → number ≡ suc (commit_count R) → IsMoving R m n gs → Here a ≡ spot_for sh R (fills_size R gs) → MovedAt sh R o n gs (Here a) → PlanMade sh R o n gs (addition o number m a None)
plan_here sh R o n number m gs a e i s l =
    let same = move_same R o n number m a gs e i in
    record {
      list_is = ap (moved_at R o n gs) (sym s) ∙ ap (λ (x : MoveRecord). Some (Move x ∷ R)) (sym same);
      lawful = subst (λ (x : MoveRecord). IsLawful sh (Move x ∷ R)) (sym same) l;
      blocks = blocks_same R (fill_list m.fills) gs i.fills;
    }

plan_next : (sh : Shape) (R : List Record) (o n number : ℕ) (m : Moving) (gs : List Fill) (q : ReuseRecord) → number ≡ suc (commit_count R) → IsMoving R m n gs → Next q ≡ spot_for sh R (fills_size R gs) → MovedAt sh R o n gs (Next q) → PlanMade sh R o n gs (addition o number m (undo_start q) (Some q))
plan_next sh R o n number m gs q e i s l =
    let same = move_same (Reuse q ∷ R) o n number m (undo_start q) gs e (moving_after R q m n gs i) in
    record {
      list_is = ap (moved_at R o n gs) (sym s) ∙ ap (λ (x : MoveRecord). Some (Move x ∷ Reuse q ∷ R)) (sym same);
      lawful = subst (λ (x : MoveRecord). IsLawful sh (Move x ∷ Reuse q ∷ R)) (sym same) l;
      blocks = blocks_same R (fill_list m.fills) gs i.fills;
    }

pub plan_means : (sh : Shape) (R : List Record) (o n number : ℕ) (m : Moving) (gs : List Fill) (s : ToldSpot) → number ≡ suc (commit_count R) → IsMoving R m n gs → MovedAt sh R o n gs (spot_for sh R (fills_size R gs)) → told_spot s ≡ spot_for sh R (fills_size R gs) → PlanMeans sh R o n gs (planned o number m s)
plan_means sh R o n number m gs (told.Here a) e i l s = plan_here sh R o n number m gs a e i s (subst (MovedAt sh R o n gs) (sym s) l)
plan_means sh R o n number m gs (told.Next q) e i l s = plan_next sh R o n number m gs q e i s (subst (MovedAt sh R o n gs) (sym s) l)
plan_means sh R o n number m gs (told.Full hs) e i l s = sym s

-- ---- where a table is there, fewer than all commits are

tables_apart : (R : List Record) → table_count R + commit_count R ≤ length R
tables_apart [] = omega arith
tables_apart (Table t ∷ R) = let l = tables_apart R in omega (arith, l)
tables_apart (Commit c ∷ R) = let l = tables_apart R in omega (arith, l)
tables_apart (Move m ∷ R) = let l = tables_apart R in omega (arith, l)
tables_apart (_ ∷ R) = let l = tables_apart R in omega (arith, l)

pub numbers_left : (R : List Record) (o : ℕ) → IsTable R o → length R < 2 ^ 64 → commit_count R < 2 ^ 64 - 1
numbers_left R o t l = let a = t.least in let b = t.most in let c = tables_apart R in omega (arith, a, b, c, l)
