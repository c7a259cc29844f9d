-- How many blocks a record touches, kind by kind.
use Rattle.std.proofs.Common.{◌≡◌, ℕ, suc, ◌+◌, ◌≤◌, true, false, cond, List, [], ◌∷◌, ◌++◌, length, take, Option, Some, None, refl, sym, ap, subst, arith, true≢false, length-append}
use Rattle.seg_words.specs.Types.{Shape}
use Rattle.redo_model.specs.Records.{Record, Table, Movement, Extend, FormatBlock, Class, Advance, Lower, Begin, Reuse, Insert, Update, Migrate, Return, Delete, Commit, Back, Ended, Move, Clean, RowPart, RowBody, MoveRecord, BackRecord, LowerRecord}
use Rattle.redo_model.specs.Model.{Step, Effect, effect_of, is_by, newest_of, standing, standing_steps, taken_back, extents_of, all_l2, BackAllowed, LowerAllowed, MigrateAllowed, DeleteAllowed, MoveAllowed, IsKindAllowed, is_whole, IsFirstExtend, IsOverflow, IsCalledFor, AreAllowed}
use Rattle.redo_model.specs.Effects.{Still, Formats, Adds, TakesBack, Cleans}
use Rattle.redo_model.specs.AllowedRows.{migrates_plain, migrates_again, deletes_plain, deletes_migrated}
use Rattle.redo_model.specs.AllowedMoves.{moves_plain, moves_to_body, moves_migrated}
use Rattle.redo_laws.proofs.allowed.FewParts.{EffectFew, few}
use Rattle.redo_laws.proofs.lists.Every.{Every, every-filter}
use Rattle.page_model.specs.Types.{blocks_of, back_blocks}
use Rattle.page_set.specs.Among.{is_among}
use Rattle.page_set.specs.Folded.{touched_by_row, those, touched, with_block, with_all, touched_once}
use Rattle.frame_laws.specs.Touching.{most_blocks, RecordsTouchFew, PairsTouchFew}

-- ---- lists

block_few : (ds : List ℕ) (x : ℕ) → length (with_block ds x) ≤ suc (length ds)
block_few ds x = elim (is_among ds x) as (λ b. length (cond b ds (ds ++ x ∷ [])) ≤ suc (length ds)) [
  | true ↦ omega arith
  | false ↦ (let e = length-append ds (x ∷ []) in omega (arith, e))
]

all_few : (ds xs : List ℕ) → length (with_all ds xs) ≤ length ds + length xs
all_few ds [] = omega arith
all_few ds (x ∷ xs) = let a = all_few (with_block ds x) xs in let b = block_few ds x in omega (arith, a, b)

once_few : (sh : Shape) (r : Record) → length (touched_once sh r) ≤ length (touched sh r)
once_few sh r = let k = all_few [] (touched sh r) in omega (arith, k)

those_few : (os : List (Option ℕ)) → length (those os) ≤ length os
those_few [] = omega arith
those_few (None ∷ os) = let k = those_few os in omega (arith, k)
those_few (Some b ∷ os) = let k = those_few os in omega (arith, k)

blocks_long : (ps : List RowPart) → length (blocks_of ps) ≡ length ps
blocks_long [] = refl
blocks_long (p ∷ ps) = ap (λ (n : ℕ). suc n) (blocks_long ps)

back_long : (ps : List RowPart) → length (back_blocks (taken_back ps)) ≡ length ps
back_long [] = refl
back_long (p ∷ ps) = ap (λ (n : ℕ). suc n) (back_long ps)

-- ---- a step has at most three parts

abbrev StepFew : Step → Type 0
StepFew st = length st.parts ≤ 3

few_effect : (e : Effect) (ss : List Step) → EffectFew e → Every StepFew ss → Every StepFew (standing_steps e ss)
few_effect Still ss f k = k
few_effect (Formats d) ss f k = k
few_effect (Adds st) ss f k = (f, k)
few_effect (TakesBack t) ss f k = every-filter _ _ ss k
few_effect (Cleans d cs) ss f k = k

steps_few : (sh : Shape) (R : List Record) → AreAllowed sh R → Every StepFew (standing R)
steps_few sh [] h = tt
steps_few sh (r ∷ R) h = few_effect (effect_of r) (standing R) (few sh R r h.1.kind) (steps_few sh R h.0)

newest_few : (ss : List Step) (t : ℕ) (st : Step) → newest_of ss t ≡ Some st → Every StepFew ss → StepFew st
newest_few [] t st e h = absurd (let x : ◌≡◌ {A = Option Step} None (Some st) = e in cc)
newest_few (s ∷ ss) t st e h =
    (elim (is_by s.by t) as (λ v. cond v (Some s) (newest_of ss t) ≡ Some st → StepFew st) [
      | true ↦ λ f. let same : s ≡ st = cc in subst StepFew same h.0
      | false ↦ λ f. newest_few ss t st f h.1
    ]) e

-- ---- kind by kind

row_few : (w : RowBody) → length w.parts ≤ 3 → length (touched_by_row w) ≤ 5
row_few w f = let e = blocks_long w.parts in omega (arith, e, f)

moved_few : (sh : Shape) (m : MoveRecord) → length m.parts ≤ 3 → length (touched sh (Move m)) ≤ 4
moved_few sh m f = let e = blocks_long m.parts in omega (arith, e, f)

lower_few : (sh : Shape) (R : List Record) (l : LowerRecord) → LowerAllowed sh R l → length (touched sh (Lower l)) ≤ 6
lower_few sh R l a =
    let k : length (those (all_l2 sh (take l.kept (extents_of R l.obj)))) ≤ 3 = those_few (all_l2 sh (take l.kept (extents_of R l.obj))) in
    let n : length (those l.l2) ≤ 3 = subst (λ (os : List (Option ℕ)). length (those os) ≤ 3) (sym a.l2) k in
    omega (arith, n)

back_few : (sh : Shape) (R : List Record) (k : BackRecord) → AreAllowed sh R → BackAllowed R k → length (touched sh (Back k)) ≤ 4
back_few sh R k h a =
    let f = newest_few (standing R) k.txn a.step a.newest (steps_few sh R h) in
    let e = back_long a.step.parts in
    let n : length (back_blocks k.parts) ≤ 3 = subst (λ ps. length (back_blocks ps) ≤ 3) (sym a.parts) (omega (arith, e, f)) in
    omega (arith, n)

touched_few : (sh : Shape) (R : List Record) (r : Record) → AreAllowed sh R → IsKindAllowed sh R r → length (touched sh r) ≤ most_blocks r
touched_few sh R (Table t) h a = omega arith
touched_few sh R (Movement m) h a = omega arith
touched_few sh R (Extend e) h a = omega arith
touched_few sh R (FormatBlock f) h a = omega arith
touched_few sh R (Class k) h a = omega arith
touched_few sh R (Advance d) h a = omega arith
touched_few sh R (Lower l) h a = lower_few sh R l a
touched_few sh R (Begin g) h a = omega arith
touched_few sh R (Reuse q) h a = omega arith
touched_few sh R (Insert w) h a = row_few w (few sh R (Insert w) a)
touched_few sh R (Update w) h a = row_few w (few sh R (Update w) a)
touched_few sh R (Migrate w) h a = row_few w (few sh R (Migrate w) a)
touched_few sh R (Return w) h a = row_few w (few sh R (Return w) a)
touched_few sh R (Delete w) h a = row_few w (few sh R (Delete w) a)
touched_few sh R (Commit c) h a = omega arith
touched_few sh R (Back k) h a = back_few sh R k h a
touched_few sh R (Ended e) h a = omega arith
touched_few sh R (Move m) h a = moved_few sh m (few sh R (Move m) a)
touched_few sh R (Clean c) h a = omega arith

most_is : (r : Record) → most_blocks r ≤ 6
most_is (Table t) = omega arith
most_is (Movement m) = omega arith
most_is (Extend e) = omega arith
most_is (FormatBlock f) = omega arith
most_is (Class k) = omega arith
most_is (Advance d) = omega arith
most_is (Lower l) = omega arith
most_is (Begin g) = omega arith
most_is (Reuse q) = omega arith
most_is (Insert w) = omega arith
most_is (Update w) = omega arith
most_is (Migrate w) = omega arith
most_is (Return w) = omega arith
most_is (Delete w) = omega arith
most_is (Commit c) = omega arith
most_is (Back k) = omega arith
most_is (Ended e) = omega arith
most_is (Move m) = omega arith
most_is (Clean c) = omega arith

pub records_touch_few : RecordsTouchFew
records_touch_few sh R r h =
    let a = once_few sh r in
    let b = touched_few sh R r h.0 h.1.kind in
    let c = most_is r in
    record { kind = omega (arith, a, b); all = omega (arith, a, b, c); framed = omega (arith, a, b, c) }

-- ---- pairs

table_calls : (o : ℕ) (s : Record) → IsFirstExtend o s → 2 + most_blocks s ≤ 7
table_calls o (Extend e) c = omega arith
table_calls o _ c = absurd c

reuse_calls : (R : List Record) (s : Record) → IsOverflow R (effect_of s) → 2 + most_blocks s ≤ 7
reuse_calls R (Insert w) c = omega arith
reuse_calls R (Update w) c = omega arith
reuse_calls R (Migrate w) c = omega arith
reuse_calls R (Return w) c = omega arith
reuse_calls R (Delete w) c = omega arith
reuse_calls R (Move m) c = omega arith
reuse_calls R _ c = absurd c

calls : (R : List Record) (r s : Record) → is_whole (r ∷ R) ≡ false → IsCalledFor (r ∷ R) s → most_blocks r + most_blocks s ≤ 7
calls R (Table t) s w c = table_calls t.obj s c
calls R (Reuse q) s w c = reuse_calls R s c
calls R _ s w c = absurd (true≢false w)

pub pairs_touch_few : PairsTouchFew
pairs_touch_few sh R r s h =
    let both = length-append (touched_once sh r) (touched_once sh s) in
    let a = records_touch_few sh R r h.0 in
    let b = records_touch_few sh (r ∷ R) s h in
    let x = a.all in
    let y = b.all in
    let i = a.kind in
    let j = b.kind in
    record {
      all = omega (arith, both, x, y);
      called = λ w. (let c = calls R r s w h.1.called_for in omega (arith, both, i, j, c));
      framed = omega (arith, both, x, y);
    }
