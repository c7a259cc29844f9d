-- A shrink from its first event to its stop.
use Rattle.std.proofs.Common.{◌≡◌, ℕ, suc, ◌+◌, ◌*◌, ◌≤◌, Bool, true, cond, eqb, List, [], ◌∷◌, length, Option, Some, None, refl, sym, ◌∙◌, ap, subst, arith, le_trans, le_refl, eq-eqb}
use Rattle.seg_words.proofs.Lemmas.{or_left, cond-true}
use Rattle.seg_words.specs.Types.{Shape, writer_has_ended, UNDO_PART_SIZE}
use Rattle.redo_record.specs.declared.record.Record.TheVariants as made
use Rattle.redo_model.specs.Records.{Record, MoveRecord, ReuseRecord}
use Rattle.redo_model.specs.Model.{ended_in, table_named, HasMovement}
use Rattle.redo_laws.proofs.lists.Prefixes.{prefix_all}
use Rattle.redo_laws.specs.Added.{names_slot}
use Rattle.shrink_laws.specs.declared.skip.Skip.{Skip}
use Rattle.shrink_laws.specs.Stops.{row_image, is_skipped, SkipsStand}
use Rattle.shrink_laws.specs.Cursor.{CursorStands, Finds, skip_of}
use Rattle.shrink_laws.proofs.CursorLaw.{cursor_starts, cursor_stays, cursor_goes_down, skipping_keeps, moving_keeps, skips_are_kept}
use Rattle.script_text.specs.declared.statement.Statement.TheVariants as asked
use Rattle.history_model.specs.Spans.{Span}
use Rattle.history_model.specs.SoFar.{IsUnlowered}
use Rattle.history_model.specs.Stopping.{HasCome, MovedAt, AreMovedAt}
use Rattle.history_model.specs.Causes.{IsOnRow}
use Rattle.history_model.specs.ShrinkMeans.{move_count}
use Rattle.history_laws.specs.Working.{grown, later, MoveWork, ShrinkStands}
use Rattle.history_laws.specs.Shrinks.{begun_work, ShrinksBegin, ShrinksSkip, moved_work, ShrinksMove, CursorsCome, CursorsStop, CursorsPass, StopsAreRight, ShrinksAreSpent}
use Rattle.history_laws.proofs.Owned.{none_some, same_some}
use Rattle.history_laws.proofs.Stopping.{skipped_at_more, moved_at_once, moved_at_skip, all_told, told_by, unlowered_more}
use Rattle.history_laws.proofs.Passes.{idle_at_once, unlowered_at_once}
use Rattle.history_laws.proofs.RefusedLaw.{undo_full_is_refused}

pub shrinks_begin : ShrinksBegin
shrinks_begin sh x name o e t m = record {
  table = t;
  still = subst (λ (R : List Record). table_named R name ≡ Some o) (sym e) t;
  idle = idle_at_once x e;
  movement = subst (λ (R : List Record). HasMovement R o) (sym e) m;
  cursor = subst (λ (R : List Record). CursorStands sh x.begun R o [] (begun_work sh x.begun o).cursor) (sym e) (cursor_starts sh x.begun o);
  skipped = tt;
  skipped_at = tt;
  moved_at = subst (λ (R : List Record). AreMovedAt sh x.begun o [] R) (sym e) (moved_at_once sh x.begun o [] x.begun (le_refl (length x.begun)));
  unlowered = unlowered_at_once x o e;
  moves = ap (λ (R : List Record). move_count R o) e ∙ none_yet (move_count x.begun o);
}
  where
    none_yet : (n : ℕ) → n ≡ n + 0
    none_yet n = omega arith

pub cursors_come : CursorsCome
cursors_come sh B R o skips cursor place d j f h =
    let g = cursor_goes_down sh B R o skips cursor place f.down f.cleared h in
    record { here = f.here; not_first = f.not_first; within = le_trans f.down h.within; full = f.full; fresh = f.fresh; greater = f.greater; higher = λ i b k l m a e. g.above i b k l m a e }

pub shrinks_skip : ShrinksSkip
shrinks_skip sh x name k place d j t s h =
    let c = skipping_keeps sh x.begun x.ended k.obj k.skips k.cursor place d j t s h.cursor in
    record {
      table = h.table;
      still = h.still;
      idle = h.idle;
      movement = h.movement;
      cursor = c.cursor;
      skipped = c.told h.skipped;
      skipped_at = (
        record { order = told_by x.begun x.ended k.skips h.skipped; place = place; come = subst (λ (R : List Record). HasCome sh x.begun R k.obj k.skips place d j) (sym (prefix_all x.ended (length x.ended) (le_refl (length x.ended)))) (cursors_come sh x.begun x.ended k.obj k.skips k.cursor place d j s.finds h.cursor) },
        h.skipped_at,
      );
      moved_at = moved_at_skip sh x.begun k.obj (skip_of x.ended d j t) k.skips x.ended (le_refl (length x.ended)) h.moved_at;
      unlowered = h.unlowered;
      moves = h.moves;
    }

-- perhaps undo is reused
abbrev reused : Option ReuseRecord → List Record → List Record
reused q R = elim q [ None ↦ R | Some z ↦ made.Reuse z ∷ R ]

one_moved : (m : MoveRecord) (o n b k : ℕ) → m.obj ≡ o → n ≡ b + k → cond (eqb m.obj o) (suc n) n ≡ b + suc k
one_moved m o n b k e h = cond-true _ _ _ (eq-eqb m.obj o e) ∙ omega (arith, h)

-- the slot to which it had come, also after a Reuse
moved_from : (sh : Shape) (B R : List Record) (o : ℕ) (skips : List Skip) (cursor place d j : ℕ) (m : MoveRecord) (q : Option ReuseRecord) → Finds sh R o skips cursor place d j → writer_has_ended (ended_in R) (row_image R d j).writer ≡ true → names_slot m.parts d j ≡ true
    → CursorStands sh B R o skips cursor → MovedAt sh B (reused q R) o skips m
moved_from sh B R o skips cursor place d j m None f w n c = record { place = place; block = d; slot = j; come = cursors_come sh B R o skips cursor place d j f c; over = w; names = n }
moved_from sh B R o skips cursor place d j m (Some q) f w n c = record {
  place = place;
  block = d;
  slot = j;
  come = cursors_come sh B (made.Reuse q ∷ R) o skips cursor place d j (record { down = f.down; not_first = f.not_first; cleared = f.cleared; here = f.here; full = f.full; fresh = f.fresh; greater = f.greater }) (cursor_stays sh B R o skips cursor (made.Reuse q) refl c);
  over = w;
  names = n;
}

moved_now : (sh : Shape) (B R : List Record) (o : ℕ) (skips : List Skip) (m : MoveRecord) (q : Option ReuseRecord) → SkipsStand B R skips → MovedAt sh B (reused q R) o skips m → AreMovedAt sh B o skips R → AreMovedAt sh B o skips (made.Move m ∷ reused q R)
moved_now sh B R o skips m None s a h = (λ e l. subst (λ (z : List Skip). MovedAt sh B R o z m) (sym (all_told B R (length R) skips (le_refl (length R)) s)) a, h)
moved_now sh B R o skips m (Some q) s a h = (λ e l. subst (λ (z : List Skip). MovedAt sh B (made.Reuse q ∷ R) o z m) (sym (all_told B R (suc (length R)) skips (omega arith) s)) a, h)

shrink_moved : (sh : Shape) (x : Span) (name : List ℕ) (k : MoveWork) (place : ℕ) (m : MoveRecord) (q : Option ReuseRecord) → m.obj ≡ k.obj → MovedAt sh x.begun (reused q x.ended) k.obj k.skips m → CursorStands sh x.begun (made.Move m ∷ reused q x.ended) k.obj k.skips place → ShrinkStands sh x name k
    → ShrinkStands sh (later x (made.Move m ∷ reused q x.ended)) name (moved_work k place)
shrink_moved sh x name k place m None e a c h = record {
  table = h.table;
  still = h.still;
  idle = record { own = h.idle.own; rows = h.idle.rows; begins = h.idle.begins };
  movement = h.movement;
  cursor = c;
  skipped = skips_are_kept x.begun x.ended k.skips (made.Move m) h.skipped;
  skipped_at = skipped_at_more sh x.begun x.ended (made.Move m) k.obj k.skips h.skipped h.skipped_at;
  moved_at = moved_now sh x.begun x.ended k.obj k.skips m None h.skipped a h.moved_at;
  unlowered = unlowered_more x (made.Move m) k.obj h.cursor.longer refl h.unlowered;
  moves = one_moved m k.obj (move_count x.ended k.obj) (move_count x.begun k.obj) k.moved e h.moves;
}
shrink_moved sh x name k place m (Some q) e a c h =
    let kept = skips_are_kept x.begun x.ended k.skips (made.Reuse q) h.skipped in
    record {
      table = h.table;
      still = h.still;
      idle = record { own = h.idle.own; rows = h.idle.rows; begins = h.idle.begins };
      movement = h.movement;
      cursor = c;
      skipped = skips_are_kept x.begun (made.Reuse q ∷ x.ended) k.skips (made.Move m) kept;
      skipped_at = skipped_at_more sh x.begun (made.Reuse q ∷ x.ended) (made.Move m) k.obj k.skips kept (skipped_at_more sh x.begun x.ended (made.Reuse q) k.obj k.skips h.skipped h.skipped_at);
      moved_at = moved_now sh x.begun x.ended k.obj k.skips m (Some q) h.skipped a h.moved_at;
      unlowered = unlowered_more (grown x (made.Reuse q)) (made.Move m) k.obj (let l : length x.begun ≤ length x.ended = h.cursor.longer in omega (arith, l)) refl (unlowered_more x (made.Reuse q) k.obj h.cursor.longer refl h.unlowered);
      moves = one_moved m k.obj (move_count x.ended k.obj) (move_count x.begun k.obj) k.moved e h.moves;
    }

pub shrinks_move : ShrinksMove
shrinks_move sh x R name k place d j s h =
    let all : R ≡ made.Move s.move ∷ reused s.reuse x.ended = s.adds ∙ ap (λ (z : List Record). made.Move s.move ∷ z) s.may in
    let c : CursorStands sh x.begun R k.obj k.skips place = moving_keeps sh x.begun x.ended R k.obj k.skips k.cursor place d j s h.cursor in
    subst (λ (z : List Record). ShrinkStands sh (later x z) name (moved_work k place)) (sym all) (shrink_moved sh x name k place s.move s.reuse s.table (moved_from sh x.begun x.ended k.obj k.skips k.cursor place d j s.move s.reuse s.finds s.over s.names h.cursor) (subst (λ (z : List Record). CursorStands sh x.begun z k.obj k.skips place) all c) h)

-- the cursor

pub cursors_stop : CursorsStop
cursors_stop sh B R o skips cursor place at s h = record { place = place; come = cursors_come sh B R o skips cursor place at.dba at.slot s.finds h; over = s.over; not_down = s.not_down; none_takes = s.none_takes }

pub cursors_pass : CursorsPass
cursors_pass sh B R o skips cursor c h =
    let g = cursor_goes_down sh B R o skips cursor 0 (omega arith) c h in
    λ i b k l m a e. g.above i b k l m a e

pub stops_are_right : StopsAreRight
stops_are_right sh B R o skips = record {
  at = λ p s. record {
    place = s.place;
    here = s.come.here;
    not_first = s.come.not_first;
    movable = record { full = s.come.full; over = s.over };
    not_down = s.not_down;
    none_takes = s.none_takes;
    higher = λ i b k l m a e. s.come.higher i b k l m a e.full;
    greater = λ k l e. or_left (is_skipped skips p.dba k) _ (s.come.greater k l e.full);
  };
  bottom = λ s i b k l m a e. s i b k l m a e.full;
}

-- a shrink is about no row and looks for no block

no_target : (x : Span) (name : List ℕ) (compact : Bool) (o n : ℕ) → IsOnRow x (asked.Shrink name compact) o n → ⊥
no_target x name compact o n h = none_some h.target ⊥ h.targeted

pub shrinks_are_spent : ShrinksAreSpent
shrinks_are_spent sh x name compact k place d j hs f s h =
    undo_full_is_refused sh x (asked.Shrink name compact) hs (record { first = f; so_far = record { idle = h.idle; unlowered = λ o e. subst (λ z. IsUnlowered x z) (same_some k.obj o (sym h.table ∙ e)) h.unlowered } })
    (record {
      entry = record { row = record { there = λ n e. no_target x name compact e.obj n e.on; free = λ u e. no_target x name compact e.obj e.row e.on }; entries = λ ts e. no_target x name compact e.obj e.row e.on };
      block = λ q e. e.seeks;
    })
    (record {
      need = s.parts * UNDO_PART_SIZE + length (row_image x.ended d j).bytes;
      needs = record {
        obj = k.obj;
        table = h.table;
        unlowered = h.unlowered;
        skips = k.skips;
        skipped_so = h.skipped;
        skipped_at = h.skipped_at;
        moved_at = h.moved_at;
        place = place;
        block = d;
        slot = j;
        come = cursors_come sh x.begun x.ended k.obj k.skips k.cursor place d j s.finds h.cursor;
        over = s.over;
        goes = s.goes;
        parts = s.parts;
        parts_are = s.parts_are;
        size = refl;
      };
      full = s.full;
    })
