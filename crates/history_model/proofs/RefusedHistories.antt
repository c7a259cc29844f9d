-- Some small histories are not legal.
use Rattle.std.proofs.Common.{◌≡◌, ◌⊎◌, ℕ, ◌≤◌, true, false, List, [], ◌∷◌, length, map, Some, refl, sym, ◌∙◌, ap, subst, arith, inl, inr, true≢false}
use Rattle.redo_model.specs.Records.{Record}
use Rattle.redo_model.specs.Model.{prefix, view_rows}
use Rattle.redo_model.specs.Worked.{small, hello, table_t, movement_on, extend_by, nine}
use Rattle.redo_laws.specs.Since.{any_since}
use Rattle.shrink_laws.specs.Grown.{lowers}
use Rattle.script_text.specs.declared.statement.Statement.{Statement}
use Rattle.script_text.specs.declared.statement.Statement.TheVariants as asked
use Rattle.history_text.specs.declared.entry.Entry.{Entry}
use Rattle.history_text.specs.declared.outcome.Outcome.TheVariants as told
use Rattle.history_text.specs.declared.outcome.RowOut.{RowOut}
use Rattle.history_text.specs.declared.outcome.Stop.TheVariants.{Bottom}
use Rattle.history_text.specs.declared.refusal.Refusal.TheVariants as why
use Rattle.history_model.specs.declared.history.Kept.{Kept}
use Rattle.history_model.specs.declared.history.Kept.TheVariants as kept
use Rattle.history_model.specs.declared.history.HistoryItem.{HistoryItem}
use Rattle.history_model.specs.History.{Task, IsSession, statement_of, ordinal_of, under_way, owner}
use Rattle.history_model.specs.Spans.{Span, span_of, now_of}
use Rattle.history_model.specs.SoFar.{IsIdle}
use Rattle.history_model.specs.RowMeans.{CommitMeans}
use Rattle.history_model.specs.TableMeans.{row_out, ScanMeans}
use Rattle.history_model.specs.ShrinkMeans.{CompactMeans}
use Rattle.history_model.specs.Means.{RefusalMeans, Means}
use Rattle.history_model.specs.Legal.{EntryStands, IsMade, AreMade, made_none, made_one}
use Rattle.history_model.specs.Worked.{name_t, label_a, start_at, told_at, row_1, one_script, one_inserted, beside_scripts, moved_script, table_made, compact_script, lowering, HistoriesAreRefused}
use Rattle.history_model.proofs.Targets.{same_some}
use Rattle.history_model.proofs.OneHistory.{some_none, none_some}

-- a list isn't itself with a record added
longer : (r : Record) (Q : List Record) → Q ≡ r ∷ Q → ⊥
longer r Q e = let n = ap (λ (z : List Record). length z) e in omega (arith, n)

some_row : (x : RowOut) (xs : List RowOut) → x ∷ xs ≡ [] → ⊥
some_row x xs e = let n = ap (λ (z : List RowOut). length z) e in omega (arith, n)

-- what an entry means, by the statement that is under way
entry_means : (scripts : List (List Statement)) (R : List Record) (e : Entry) (k : Kept) (T : List HistoryItem) (task : Task) → under_way T e.session ≡ Some task → EntryStands small scripts 0 R e k T → Means small (span_of scripts R e.session task e.ends) (statement_of scripts e.session task.place) e.outcome k
entry_means scripts R e k T task u h = subst (λ (t : Task). Means small (span_of scripts R e.session t e.ends) (statement_of scripts e.session t.place) e.outcome k) (same_some h.task task (sym h.started ∙ u)) h.means

early_commit : CommitMeans (span_of one_script nine 1 (record { place = 2; begins = 7; past = one_inserted }) 7) 1 → ⊥
early_commit m = longer _ _ m.ends

wrong_scan : ScanMeans small (span_of beside_scripts (prefix nine 7) 2 (record { place = 0; begins = 7; past = one_inserted }) 7) name_t 0 (row_1 hello ∷ []) → ⊥
wrong_scan m = some_row _ _ m.each

wrong_cause : (past : List HistoryItem) → RefusalMeans small (span_of one_script nine 1 (record { place = 1; begins = 2; past = past }) 2) (asked.Insert name_t label_a hello) why.NoTable kept.Nothing → ⊥
wrong_cause past m = some_none _ m.cause

-- a movement was made, and refused: it isn't so at once
late_refusal : (past : List HistoryItem) → RefusalMeans small (span_of moved_script (movement_on ∷ prefix nine 7) 1 (record { place = 2; begins = 7; past = past }) 8) (asked.Movement name_t true) why.TransactionOpen kept.Nothing → ⊥
late_refusal past m = longer movement_on (prefix nine 7) (sym (m.at_once refl))

abbrev out_span : Span
out_span = span_of one_script nine 1 (record { place = 3; begins = 9; past = told_at 1 3 7 8 (told.Committed 1) ∷ start_at 1 7 ∷ one_inserted }) 9

left_out : ScanMeans small out_span name_t 1 [] → ⊥
left_out m = some_row _ _ (sym (subst (λ o. [] ≡ map row_out (view_rows nine o 1 0)) (sym (same_some 1 m.obj m.table)) m.each))

-- a Lower stands between its first event and its last
lowered : CompactMeans small (span_of compact_script (lowering ∷ extend_by 0 ∷ table_t 10 ∷ []) 1 (record { place = 1; begins = 2; past = table_made }) 3) name_t 0 0 Bottom [] 2 → ⊥
lowered m = true≢false (subst (λ o. any_since (lowers o) 2 (lowering ∷ extend_by 0 ∷ table_t 10 ∷ []) ≡ false) (sym (same_some 1 m.obj m.moves.table)) m.unlowered)

-- the newest of the records that were made
abbrev NewestMade : List (List Statement) → List HistoryItem → List Record → Type 0
NewestMade scripts T [] = Unit {0}
NewestMade scripts T (r ∷ R) = IsMade small scripts T R r

newest_made : (scripts : List (List Statement)) (T : List HistoryItem) (R0 R : List Record) → AreMade small scripts T R0 R → (R ≡ R0) ⊎ NewestMade scripts T R
newest_made scripts T R0 R made_none = inl refl
newest_made scripts T R0 S (made_one {R = R} r h m) = inr m

-- the only session is the first
only_session : (w : ℕ) → IsSession one_script w → w ≡ 1
only_session w s = let f = s.from in let t : w ≤ 1 = s.to in omega (arith, f, t)

of_nobody : (w : ℕ) (task : Task) → w ≡ 1 → owner table_made w 6 ≡ Some task → ⊥
of_nobody w task e h = none_some task (subst (λ v. owner table_made v 6 ≡ Some task) e h)

no_owner : NewestMade one_script table_made (prefix nine 7) → ⊥
no_owner b = of_nobody b.session b.to.task (only_session b.session b.to.session) b.to.owned

unmade : AreMade small one_script table_made [] (prefix nine 7) → ⊥
unmade h = elim (newest_made one_script table_made [] (prefix nine 7) h) [
  | inl e ↦ let n : 7 ≡ 0 = ap (λ (z : List Record). length z) e in omega (arith, n)
  | inr b ↦ no_owner b
]

-- the second statement is told as the first
told_again : (task : Task) → under_way (start_at 1 2 ∷ table_made) 1 ≡ Some task → Some 1 ≡ ordinal_of one_script 1 task.place → ⊥
told_again task u e =
    let same : record { place = 1; begins = 2; past = table_made } ≡ task = same_some (record { place = 1; begins = 2; past = table_made }) task u in
    let n : Some 1 ≡ Some 2 = e ∙ ap (λ (t : Task). ordinal_of one_script 1 t.place) (sym same) in
    let m : 1 ≡ 2 = same_some 1 2 n in
    omega (arith, m)

-- an insert under way has made its row
not_idle : IsIdle (now_of one_script (prefix nine 7) 1 (record { place = 1; begins = 2; past = table_made })) → ⊥
not_idle h = let n : 1 ≡ 0 = h.rows in omega (arith, n)

pub histories_are_refused : HistoriesAreRefused
histories_are_refused = record {
  commit_told_before_its_record = λ h. early_commit (entry_means one_script nine _ _ _ _ refl h.0);
  two_statements_under_way = λ h. some_none _ h.0.idle;
  uncommitted_row_shown = λ h. wrong_scan (entry_means beside_scripts (prefix nine 7) _ _ _ _ refl h.0).1;
  session_of_no_script = λ h. let l : 2 ≤ 1 = h.0.session.to in omega (arith, l);
  table_refused_beside_none = λ h. wrong_cause _ (entry_means one_script nine _ _ _ _ refl h.0);
  refused_with_its_work_done = λ h. late_refusal _ (entry_means moved_script (movement_on ∷ prefix nine 7) _ _ _ _ refl h.0);
  row_left_out = λ h. left_out (entry_means one_script nine _ _ _ _ refl h.0).1;
  entry_told_twice = λ h. none_some h.0.task h.0.started;
  statement_told_again = λ h. told_again h.0.task h.0.started h.0.ordinal;
  record_of_nobody = λ h. unmade h.made;
  row_made_and_not_told = λ moment h. not_idle (h.under 1 _ refl).so_far;
  lowered_by_a_compaction = λ h. lowered (entry_means compact_script (lowering ∷ extend_by 0 ∷ table_t 10 ∷ []) _ _ _ _ refl h.0).1;
}
