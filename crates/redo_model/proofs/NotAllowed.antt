-- What is not allowed, and why.
use Rattle.std.proofs.Common.{◌≡◌, ℕ, false, drop, Option, Some, None, refl, sym, ◌∙◌, ap, arith, lit<, lit≤, true≢false}
use Rattle.redo_model.specs.Records.{MoveRecord}
use Rattle.redo_model.specs.Model.{Step, has_movement, TakesEntry, MayChangeRow, MigrateAllowed, DeleteAllowed, MoveAllowed, standing, newest_of}
use Rattle.redo_model.specs.AllowedTransactions.{takes_unused, takes_rolled_back, takes_committed}
use Rattle.redo_model.specs.AllowedRows.{migrates_plain, migrates_again, deletes_plain, deletes_migrated}
use Rattle.redo_model.specs.AllowedMoves.{moves_plain, moves_to_body, moves_migrated}
use Rattle.redo_model.specs.Refused.{NotAllowed, beside, by_3}
use Rattle.seg_words.specs.Types.{UndoAddr}
use Rattle.redo_model.specs.Worked.{small, nine, three}

one_not_none : {A : Type 0} (x : A) → ◌≡◌ {A = Option A} (Some x) None → ⊥
one_not_none x e = cc

none_not_some : {A : Type 0} (x : A) → ◌≡◌ {A = Option A} None (Some x) → ⊥
none_not_some x e = cc

abbrev or_zero : Option ℕ → ℕ
or_zero None = 0
or_zero (Some n) = n

apart : (m n : ℕ) → (m ≡ n → ⊥) → ◌≡◌ {A = Option ℕ} (Some m) (Some n) → ⊥
apart m n f e = f (ap or_zero e)

-- entry 2 of the second transaction: entry 1 is unused
later_entry : TakesEntry nine 2 0 → ⊥
later_entry (takes_unused t) = true≢false (t.least 1 (lit< tt))
later_entry (takes_rolled_back t) = true≢false (t.no_unused 1 (lit< tt))
later_entry (takes_committed t) = true≢false (t.no_unused 1 (lit< tt))

-- row 1 is transaction 2's
over : MayChangeRow beside (by_3 1) → ⊥
over m = let e : ◌≡◌ {A = ℕ} 2 3 = m.free refl in omega (arith, e)

migrate_over : MigrateAllowed small beside (by_3 1) → ⊥
migrate_over (migrates_plain m) = over m.change
migrate_over (migrates_again m) = over m.change

delete_over : DeleteAllowed small beside (by_3 1) → ⊥
delete_over (deletes_plain m) = over m.change
delete_over (deletes_migrated m) = over m.change

moved_off : (m : MoveRecord) → has_movement nine m.obj ≡ false → MoveAllowed small nine m → ⊥
moved_off m f (moves_plain a) = true≢false (sym a.move.movement ∙ f)
moved_off m f (moves_to_body a) = true≢false (sym a.move.movement ∙ f)
moved_off m f (moves_migrated a) = true≢false (sym a.move.movement ∙ f)

abbrev nth_of : Option Step → ℕ
nth_of None = 0
nth_of (Some st) = st.undo.nth

-- the newest of the second run's inserts
newest_is : (st : Step) → newest_of (standing (drop 3 three)) 1 ≡ Some st → 2 ≡ st.undo.nth
newest_is st e = ap nth_of e

pub not_allowed : NotAllowed
not_allowed = record {
  table_of_a_name_that_is_there = λ a. one_not_none _ a.kind.new_name;
  movement_of_no_table = λ a. let e = a.kind.table.most in absurd (omega (arith, e));
  extend_past_the_least_free = λ a. true≢false (a.kind.extent.least 1 (lit≤ tt));
  extend_over_unformatted_blocks = λ a. one_not_none _ (a.kind.formatted (lit< tt));
  format_out_of_order = λ a. apart 44 45 (λ e. omega arith) a.kind.first;
  class_that_is_kept = λ a. true≢false a.kind.another;
  advance_past_unformatted_blocks = λ a. one_not_none _ a.kind.formatted;
  lower_of_nothing = λ a. let e = a.kind.not_none in absurd (omega (arith, e));
  begin_in_an_open_session = λ a. true≢false a.kind.none_open;
  begin_with_a_number_used_before = λ a. let e : ◌≡◌ {A = ℕ} 1 2 = a.kind.number in absurd (omega (arith, e));
  begin_with_a_later_entry = λ a. later_entry a.kind.entry;
  reuse_of_the_current_block = λ a. apart 38 37 (λ e. omega arith) a.kind.block.next;
  reuse_beside_room = λ a. true≢false a.called_for;
  insert_with_a_number_used_before = λ a. let e : ◌≡◌ {A = ℕ} 1 2 = a.kind.number in absurd (omega (arith, e));
  update_of_a_row_that_is_not_there = λ a. none_not_some _ a.kind.change.there;
  update_over_an_active_writer = λ a. over a.kind.change;
  migrate_over_an_active_writer = λ a. migrate_over a.kind;
  return_over_an_active_writer = λ a. over a.kind.change;
  delete_over_an_active_writer = λ a. delete_over a.kind;
  commit_after_a_back = λ a. true≢false a.kind.whole;
  commit_with_a_number_given_before = λ a. let e : ◌≡◌ {A = ℕ} 1 2 = a.kind.number in absurd (omega (arith, e));
  back_of_an_older_record = λ a. let k = a.kind in let e : ◌≡◌ {A = ℕ} 2 k.step.undo.nth = newest_is k.step k.newest in let f : ◌≡◌ {A = ℕ} 1 k.step.undo.nth = ap (λ (u : UndoAddr). u.nth) k.undo in absurd (omega (arith, e, f));
  ended_with_a_record_left = λ a. one_not_none _ a.kind.none_left;
  move_without_row_movement = λ a. moved_off _ refl a.kind;
  clean_of_an_active_transaction = λ a. true≢false (sym (a.kind.each 1 1 refl).ended);
}
