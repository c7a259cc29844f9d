-- The events of a statement that goes on.
use Rattle.std.proofs.Common.{◌≡◌, ℕ, suc, ◌≤◌, ◌<◌, true, false, List, [], ◌∷◌, length, Option, Some, None, refl, sym, ◌∙◌, ap, subst, arith, le_refl, eq-eqb}
use Rattle.seg_words.proofs.Lemmas.{cond-true}
use Rattle.seg_words.specs.Types.{Shape, is_shape}
use Rattle.redo_model.specs.Records.{Record}
use Rattle.redo_model.specs.Model.{commit_count, is_backed, IsTable, AreAllowed}
use Rattle.session_laws.specs.Sessions.{own_of, without_txn, IsOf}
use Rattle.mark_laws.specs.Drafts.{mark_record}
use Rattle.mark_laws.specs.Searches.{Sought, is_good, HasNone, find_of, SearchGives}
use Rattle.mark_laws.specs.declared.step.MarkStep.{MarkStep}
use Rattle.mark_laws.specs.declared.step.MarkStep.TheVariants as step
use Rattle.mark_laws.specs.declared.step.Found.TheVariants as found
use Rattle.mark_laws.proofs.SearchesLaw.{searches_mean}
use Rattle.script_text.specs.declared.statement.Statement.{Statement}
use Rattle.script_text.specs.declared.statement.Statement.TheVariants as asked
use Rattle.script_text.specs.declared.statement.Target.{Target}
use Rattle.history_model.specs.declared.history.HistoryItem.{HistoryItem}
use Rattle.history_model.specs.Spans.{Span}
use Rattle.history_model.specs.Causes.{sought_for, own_blocks}
use Rattle.history_model.specs.Makes.{InsertMoves, UpdateMoves, Makes}
use Rattle.history_laws.specs.Working.{grown, Work, Inserting, OnRow, WorkStands}
use Rattle.history_laws.specs.Acting.{InsertsMove, UpdatesMove, IsRowWork, MarksLeaveWork, RowsBegin, RowsAreFound, BacksBegin, BacksGo, BacksEnd}
use Rattle.history_laws.proofs.Frames.{records_leave_work}
use Rattle.history_laws.proofs.Passes.{idle_at_once}

-- ---- marks

none_good : (sh : Shape) (Q : List Record) (q : Sought) (hint : Option ℕ) (m : MarkStep) → is_shape sh ≡ true → AreAllowed sh Q → IsTable Q q.obj → find_of sh Q q hint ≡ Some (found.Mark m) → HasNone sh Q q.obj (is_good sh Q q)
none_good sh Q q hint m s a t f = (subst (SearchGives sh Q q hint) f (searches_mean sh Q q hint s a t).gives).none_good

insert_mark : (sh : Shape) (scripts : List (List Statement)) (past : List HistoryItem) (w : ℕ) (Q : List Record) (name label text : List ℕ) (o : ℕ) (m : MarkStep) → InsertMoves sh name text w Q o → Makes sh scripts past w (Some (asked.Insert name label text)) Q (mark_record sh Q o m)
insert_mark sh scripts past w Q name label text o (step.Format b) h = h
insert_mark sh scripts past w Q name label text o step.Advance h = h
insert_mark sh scripts past w Q name label text o (step.Extend x) h = h

pub inserts_move : InsertsMove
inserts_move sh scripts past w Q name label text o hint m s a t n f = insert_mark sh scripts past w Q name label text o m (record { table = n; none = none_good sh Q (sought_for (own_of Q w) o (length text) []) hint m s a t f })

update_mark : (sh : Shape) (scripts : List (List Statement)) (past : List HistoryItem) (w : ℕ) (Q : List Record) (name : List ℕ) (target : Target) (text : List ℕ) (o : ℕ) (m : MarkStep) → UpdateMoves sh scripts past name target text w Q o
    → Makes sh scripts past w (Some (asked.Update name target text)) Q (mark_record sh Q o m)
update_mark sh scripts past w Q name target text o (step.Format b) h = h
update_mark sh scripts past w Q name target text o step.Advance h = h
update_mark sh scripts past w Q name target text o (step.Extend x) h = h

pub updates_move : UpdatesMove
updates_move sh scripts past w Q name target text o n s hint m shape a named meant write away entries f =
    update_mark sh scripts past w Q name target text o m (record { table = named; row = n; meant = meant; stand = s; write = write; away = away; entries = entries; none = none_good sh Q (sought_for (own_of Q w) o (length text) (own_blocks s)) hint m shape a write.table f })

-- the record of a movement is of no transaction, so as good as another session's
mark_of : (sh : Shape) (R : List Record) (o v : ℕ) (m : MarkStep) → IsOf R v (mark_record sh R o m)
mark_of sh R o v (step.Format b) = tt
mark_of sh R o v step.Advance = tt
mark_of sh R o v (step.Extend x) = tt

row_work : (sh : Shape) (x : Span) (st : Option Statement) (k : Work) (r : Record) → AreAllowed sh (r ∷ x.ended) → IsOf x.ended (suc x.session) r → IsRowWork k → WorkStands sh x st k → WorkStands sh (grown x r) st k
row_work sh x st (Inserting o) r a of i h = records_leave_work sh x st (Inserting o) r (suc x.session) a (λ e. absurd (omega (arith, e))) of tt h
row_work sh x st (OnRow k) r a of i h = records_leave_work sh x st (OnRow k) r (suc x.session) a (λ e. absurd (omega (arith, e))) of tt h
row_work sh x st k r a of i h = absurd i

pub marks_leave_work : MarksLeaveWork
marks_leave_work sh x st k o m a i h = row_work sh x st k (mark_record sh x.ended o m) a (mark_of sh x.ended o (suc x.session) m) i h

-- ---- an update or a delete

pub rows_begin : RowsBegin
rows_begin sh x st o n e on = record {
  on = on;
  idle = idle_at_once x e;
  last = commit_count x.begun;
  started = refl;
  few = (let l : 0 < 16 = omega arith in l);
  known = subst (λ (R : List Record). commit_count x.begun ≤ commit_count R) (sym e) (le_refl (commit_count x.begun));
  found = tt;
}

pub rows_are_found : RowsAreFound
rows_are_found sh x st k f w e h = record {
  on = record { name = h.on.name; named = h.on.named; table = h.on.table; target = h.on.target; targeted = h.on.targeted; row = h.on.row };
  idle = h.idle;
  last = h.last;
  started = h.started;
  few = h.few;
  known = h.known;
  found = (w, subst (λ n. h.last ≤ n) (sym e) h.known);
}

-- ---- a rollback

pub backs_begin : BacksBegin
backs_begin x t e o w = record { own_begun = o; own_now = subst (λ (R : List Record). own_of R x.session ≡ Some t) (sym e) o; whole = w; idle = idle_at_once x e }

pub backs_go : BacksGo
backs_go sh x (Some asked.Rollback) t k a e h = record { makes = h.own_now ∙ ap (λ (z : ℕ). Some z) (sym e); stands = record { own_begun = h.own_begun; own_now = h.own_now; whole = h.whole; idle = record { own = h.idle.own; rows = h.idle.rows; begins = h.idle.begins } } }
backs_go sh x None t k a e h = record { makes = h.own_now ∙ ap (λ (z : ℕ). Some z) (sym e); stands = record { own_begun = h.own_begun; own_now = h.own_now; whole = h.whole; idle = record { own = h.idle.own; rows = h.idle.rows; begins = h.idle.begins } } }
backs_go sh x st t k a e h = absurd a

ends_own : (own : Option ℕ) (t u : ℕ) → own ≡ Some t → u ≡ t → without_txn u own ≡ None
ends_own own t u o e = ap (without_txn u) o ∙ cond-true _ _ _ (eq-eqb u t e)

pub backs_end : BacksEnd
backs_end sh x (Some asked.Rollback) t e a n h = record {
  makes = h.own_now ∙ ap (λ (z : ℕ). Some z) (sym n);
  means = record { before = x.ended; end' = e; own = h.own_begun ∙ ap (λ (z : ℕ). Some z) (sym n); whole = subst (λ z. is_backed x.begun z ≡ false) (sym n) h.whole; ends = refl };
  none = ends_own (own_of x.ended x.session) t e.txn h.own_now n;
}
backs_end sh x None t e a n h = record {
  makes = h.own_now ∙ ap (λ (z : ℕ). Some z) (sym n);
  means = record { before = x.ended; end' = e; own = h.own_begun ∙ ap (λ (z : ℕ). Some z) (sym n); whole = subst (λ z. is_backed x.begun z ≡ false) (sym n) h.whole; ends = refl };
  none = ends_own (own_of x.ended x.session) t e.txn h.own_now n;
}
backs_end sh x st t e a n h = absurd a
