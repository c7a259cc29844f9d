-- The events of an insert.
use Rattle.std.proofs.Common.{◌≡◌, ℕ, suc, Bool, true, false, List, [], ◌∷◌, length, Option, Some, None, refl, sym, ◌∙◌, ap, ap₂, subst, inr}
use Rattle.std.specs.Prelude.{Result, Ok, Err}
use Rattle.seg_words.specs.Types.{Shape, Taker, is_shape}
use Rattle.disk_model.specs.Crash.{Meaning}
use Rattle.redo_record.specs.declared.record.Record.TheVariants as made
use Rattle.redo_model.specs.Records.{Record}
use Rattle.redo_model.specs.Lists.{Extends, same, more}
use Rattle.session_model.specs.Doings.{Working}
use Rattle.session_model.specs.Worlds.{IsReady}
use Rattle.redo_model.specs.Model.{row_count, table_named, IsTable, IsRowSize, AreAllowed, IsLawful}
use Rattle.space_laws.proofs.TablesLaw.{there}
use Rattle.session_laws.specs.Sessions.{own_of, own_backed, backed_of}
use Rattle.mark_laws.specs.declared.step.MarkStep.{MarkStep}
use Rattle.mark_laws.specs.declared.step.MarkStep.TheVariants as step
use Rattle.mark_laws.specs.declared.step.Found.{Found}
use Rattle.mark_laws.specs.declared.step.Found.TheVariants as found
use Rattle.mark_laws.specs.Drafts.{mark_record}
use Rattle.mark_laws.specs.Movements.{next_mark}
use Rattle.mark_laws.specs.Searches.{Sought, find_of, SearchGives}
use Rattle.mark_laws.specs.Refusals.{LacksSpace, HasMostExtents}
use Rattle.mark_laws.proofs.SearchesLaw.{searches_mean, found_takes}
use Rattle.mark_laws.proofs.MovementsLaw.{next_marks_mean}
use Rattle.mark_laws.proofs.MovesLaw.{marks_are_allowed}
use Rattle.change_laws.specs.Drafts.{Change, taker_of, insert_of}
use Rattle.change_laws.specs.Ready.{IsOwn, MayInsert}
use Rattle.change_laws.specs.Answers.{Answer, Makes, RowChanged, RowBusy, EntriesTaken, BlockNeeded, UndoSpent, insert_answer, InsertMeans}
use Rattle.change_laws.proofs.MadeLaw.{inserts_are_made}
use Rattle.script_text.specs.declared.statement.Statement.{Statement}
use Rattle.script_text.specs.declared.statement.Statement.TheVariants as asked
use Rattle.history_text.specs.declared.outcome.Outcome.TheVariants as outcome
use Rattle.history_text.specs.declared.refusal.Refusal.{Refusal}
use Rattle.history_text.specs.declared.refusal.Refusal.TheVariants as why
use Rattle.history_model.specs.declared.history.Kept.TheVariants as kept
use Rattle.history_model.specs.declared.history.HistoryItem.{HistoryItem}
use Rattle.history_model.specs.Spans.{Span, own_then}
use Rattle.history_model.specs.Causes.{IsUnbound, sought_for, IsFound, InsertSeeks}
use Rattle.history_model.specs.Makes.{Makes as MadeBy}
use Rattle.history_model.specs.Passing.{FirstPass}
use Rattle.history_laws.specs.Changing.{ChangeTells}
use Rattle.history_laws.specs.Working.{later, InsertStands, Inserting}
use Rattle.history_laws.specs.Refusals.{IsRefusedSo, IsPending}
use Rattle.history_laws.proofs.Frames.{named_more}
use Rattle.history_laws.proofs.Acting.{inserts_move, marks_leave_work}
use Rattle.history_laws.proofs.Changing.{inserts_tell}
use Rattle.history_laws.proofs.Passes.{accepted_passes, idle_at_once}
use Rattle.history_laws.proofs.Owned.{none_some}
use Rattle.history_laws.proofs.RefusedLaw.{inserts_pass, found_pass, no_space_is_refused, max_extents_is_refused, undo_full_is_refused}
use Rattle.session_model.specs.Done.{MayDo, done_none, done_one}
use Rattle.store_core.specs.Store.{Held, SameLoan}
use Rattle.store_core.specs.Adding.{Adds}
use Rattle.store_core.specs.Causes.{HasCause, HasLooked}
use Rattle.store_core.specs.declared.fault.StoreFault.{StoreFault}
use Rattle.free_search.specs.declared.fault.FindFault.{FindFault}
use Rattle.free_search.specs.declared.fault.FindFault.TheVariants as finds
use Rattle.free_search.specs.Answers.{IsRefusedBy, IsSoundFind, store_part}
use Rattle.free_search.specs.Looks.{sought}
use Rattle.row_change.specs.declared.answer.Done.{Done}
use Rattle.row_change.specs.declared.answer.ChangeFault.{ChangeFault}
use Rattle.row_change.specs.declared.answer.ChangeFault.TheVariants as changes
use Rattle.row_change.specs.Acting.{txn_of}
use Rattle.row_change.specs.Planning.{IsNext}
use Rattle.row_change.specs.Answering.{Answers, store_answer}
use Rattle.session_core.specs.declared.session.Doing.TheVariants as told
use Rattle.session_core.specs.declared.turned.Turned.TheVariants as turned
use Rattle.session_core.specs.declared.turned.Acted.{Acted}
use Rattle.session_core.specs.Acting.{IsAt, IsStarting, Turns, HasActed, HasCalled}
use Rattle.session_core.specs.Inserts.{IsBy, IsInserting, not_found, told_insert, tested_named}
use Rattle.session_core.specs.Starting.{IsFullAt}
use Rattle.session_core.proofs.MakingTables.{first_turns}
use Rattle.session_core.proofs.RowTests.{insert_of_rows, rows_refused, rows_passed, rows_first}
use Rattle.session_core.proofs.Calls.{acted_adds, acted_told, acted_looked, called_ok, called_err, called_look, called_unlooked}
use Rattle.session_core.proofs.Ends.{active_own}
use Rattle.session_core.proofs.Changes.{so_refused, stands_refused, has_made, adds_change, Changes, change_acts, change_failed}

-- ---- the table

pub table_of : (sh : Shape) (R : List Record) (name : List ℕ) (o : ℕ) → AreAllowed sh R → table_named R name ≡ Some o → IsTable R o
table_of sh R name o a e = let t = there sh R a name o e in record { least = t.0; most = t.1 }

insert_later : (sh : Shape) (x : Span) (E : List Record) (name label text : List ℕ) → FirstPass sh x (asked.Insert name label text) → FirstPass sh (later x E) (asked.Insert name label text)
insert_later sh x E name label text f = record { table = λ h. f.table h; new_name = λ h. h; few_tables = λ h. h; movement = λ h. h; no_transaction = λ h. h; unshrunk = λ v h. h; log = λ h. f.log h; data_block = λ b h. h; value = λ v h. h; label = λ l h. f.label l h }

-- ---- the marks

-- the movement that a search gives is the next one
pub mark_next : (sh : Shape) (R : List Record) (q : Sought) (hint : Option ℕ) (m : MarkStep) → is_shape sh ≡ true → AreAllowed sh R → IsTable R q.obj → find_of sh R q hint ≡ Some (found.Mark m) → next_mark sh R q.obj ≡ Some m
mark_next sh R q hint m s a t f = (next_marks_mean sh R q.obj s a t).tells m (subst (SearchGives sh R q hint) f (searches_mean sh R q hint s a t).gives).next

pub mark_may : (sh : Shape) (scripts : List (List Statement)) (past : List HistoryItem) (w : ℕ) (st : Option Statement) (R Q : List Record) (o : ℕ) (m : MarkStep) → MadeBy sh scripts past w st R (mark_record sh Q o m) → MayDo sh scripts past w st R (mark_record sh Q o m)
mark_may sh scripts past w st R Q o (step.Format b) h = h
mark_may sh scripts past w st R Q o step.Advance h = h
mark_may sh scripts past w st R Q o (step.Extend x) h = inr h

pub mark_own : (sh : Shape) (R Q : List Record) (o w : ℕ) (m : MarkStep) → own_of (mark_record sh Q o m ∷ R) w ≡ own_of R w
mark_own sh R Q o w (step.Format b) = refl
mark_own sh R Q o w step.Advance = refl
mark_own sh R Q o w (step.Extend x) = refl

mark_backed_of : (sh : Shape) (R Q : List Record) (o : ℕ) (m : MarkStep) (own : Option ℕ) → backed_of (mark_record sh Q o m ∷ R) own ≡ backed_of R own
mark_backed_of sh R Q o m None = refl
mark_backed_of sh R Q o (step.Format b) (Some t) = refl
mark_backed_of sh R Q o step.Advance (Some t) = refl
mark_backed_of sh R Q o (step.Extend x) (Some t) = refl

pub mark_backed : (sh : Shape) (R Q : List Record) (o w : ℕ) (m : MarkStep) → own_backed (mark_record sh Q o m ∷ R) w ≡ own_backed R w
mark_backed sh R Q o w m = ap (backed_of (mark_record sh Q o m ∷ R)) (mark_own sh R Q o w m) ∙ mark_backed_of sh R Q o m (own_of R w)

-- blocks that are left out of a search: none here
found_so : (sh : Shape) (x : Span) (own : Option ℕ) (o len : ℕ) (hint : Option ℕ) (f : Found) → own_of x.ended x.session ≡ own → find_of sh x.ended (sought o len (taker_of own) (None ∷ None ∷ [])) hint ≡ Some f → find_of sh x.ended (sought_for (own_then x) o len []) hint ≡ Some f
found_so sh x own o len hint f e h = subst (λ (z : Option ℕ). find_of sh x.ended (sought o len (taker_of z) (None ∷ None ∷ [])) hint ≡ Some f) (sym e) h

pub mark_allowed : {D : Type 0} (meaning : Meaning D) (x : Span) (name label text : List ℕ) (own : Option ℕ) (o : ℕ) (hint : Option ℕ) (m : MarkStep) (a : Held D) → IsAt meaning x own a → IsInserting a.shape x name label text o
    → find_of a.shape x.ended (sought o (length text) (taker_of own) (None ∷ None ∷ [])) hint ≡ Some (found.Mark m) → next_mark a.shape x.ended o ≡ Some m
mark_allowed meaning x name label text own o hint m a at w f =
    mark_next a.shape x.ended (sought o (length text) (taker_of own) (None ∷ None ∷ [])) hint m at.stands.list.within at.stands.lawful.allowed (table_of a.shape x.ended name o at.stands.lawful.allowed w.still) f

pub marks_moved : {D : Type 0} (meaning : Meaning D) (x : Span) (name label text : List ℕ) (own : Option ℕ) (o : ℕ) (hint : Option ℕ) (m : MarkStep) (a b : Held D) → IsAt meaning x own a → IsInserting a.shape x name label text o
    → find_of a.shape x.ended (sought o (length text) (taker_of own) (None ∷ None ∷ [])) hint ≡ Some (found.Mark m) → SameLoan meaning a b → Adds {T = Unit {0}} meaning x.ended (mark_record a.shape x.ended o m ∷ x.ended) a b (Ok tt)
    → HasActed meaning x (Some (asked.Insert name label text)) a b (Ok (record { turned = turned.On (told.Inserting o); own = own }))
marks_moved meaning x name label text own o hint m a b at w f loan adds =
    let st = asked.Insert name label text in
    let sh = a.shape in
    let R = x.ended in
    let shape = at.stands.list.within in
    let lawful = at.stands.lawful in
    let table = table_of sh R name o lawful.allowed w.still in
    let next = mark_allowed meaning x name label text own o hint m a at w f in
    let allowed = ((marks_are_allowed sh R o shape lawful table).lawful m next).allowed in
    let makes = inserts_move sh x.scripts x.past x.session R name label text o hint m shape lawful.allowed table w.still (found_so sh x own o (length text) hint (found.Mark m) at.own_is f) in
    acted_adds {T = Unit {0}} meaning x (Some st) own a b tt (mark_record sh R o m ∷ R) (record { turned = turned.On (told.Inserting o); own = own }) at loan adds
    (record { done = done_one (mark_record sh R o m) done_none (mark_may sh x.scripts x.past x.session (Some st) R R o m makes); passed = inr w.passed })
    (record {
      turns = record {
        passed = insert_later sh x (mark_record sh R o m ∷ R) name label text w.passed;
        fits = marks_leave_work sh x (Some st) (Inserting o) o m allowed tt w.stands;
        whole = λ e. mark_backed sh R R o x.session m ∙ w.whole;
      };
      own = mark_own sh R R o x.session m ∙ at.own_is;
      kept = tt;
    })

-- ---- no block is found

pending : (sh : Shape) (x : Span) (name label text : List ℕ) (o : ℕ) → IsInserting sh x name label text o → IsPending sh x (asked.Insert name label text)
pending sh x name label text o w = record { first = w.passed; so_far = w.stands.idle }

seeks : (x : Span) (name text : List ℕ) (o : ℕ) → InsertStands x name o → InsertSeeks x name text (sought_for (own_then x) o (length text) [])
seeks x name text o h = record { obj = o; table = h.table; sought = refl }

no_space : (sh : Shape) (x : Span) (name label text : List ℕ) (own : Option ℕ) (o need : ℕ) → own_of x.ended x.session ≡ own → IsInserting sh x name label text o → LacksSpace sh x.ended (sought o (length text) (taker_of own) (None ∷ None ∷ [])) need → IsRefusedSo sh x (asked.Insert name label text) (why.NoSpace need)
no_space sh x name label text own o need e w l =
    let l = subst (λ (z : Option ℕ). LacksSpace sh x.ended (sought o (length text) (taker_of z) (None ∷ None ∷ [])) need) (sym e) l in
    no_space_is_refused sh x (asked.Insert name label text) need (pending sh x name label text o w) (inserts_pass x name label text) (record {
      sought = sought_for (own_then x) o (length text) [];
      none = record { seeks = seeks x name text o w.stands; none_takes = λ b h. l.none_takes b h; full = record { formatted = l.full.formatted; high = l.full.high } };
      length_is = l.is_length;
      no_extent = l.none_free;
      few = l.few;
    })

most_extents : (sh : Shape) (x : Span) (name label text : List ℕ) (own : Option ℕ) (o count : ℕ) → own_of x.ended x.session ≡ own → IsInserting sh x name label text o → HasMostExtents sh x.ended (sought o (length text) (taker_of own) (None ∷ None ∷ [])) count
    → IsRefusedSo sh x (asked.Insert name label text) (why.MaxExtents count)
most_extents sh x name label text own o count e w l =
    let l = subst (λ (z : Option ℕ). HasMostExtents sh x.ended (sought o (length text) (taker_of z) (None ∷ None ∷ [])) count) (sym e) l in
    max_extents_is_refused sh x (asked.Insert name label text) count (pending sh x name label text o w) (inserts_pass x name label text) (record {
      sought = sought_for (own_then x) o (length text) [];
      none = record { seeks = seeks x name text o w.stands; none_takes = λ b h. l.none_takes b h; full = record { formatted = l.full.formatted; high = l.full.high } };
      count_is = l.is_most;
      most = l.most;
    })

-- a search that is refused
pub looked_refused : {D A : Type 0} (meaning : Meaning D) (x : Span) (st : Statement) (y : Refusal) (own : Option ℕ) (a b : Held D) (u : A) → IsAt meaning x own a → own_backed x.ended x.session ≡ false → HasLooked {T = A} meaning a b (Ok u) → IsRefusedSo a.shape x st y
    → HasActed meaning x (Some st) a b (Ok (record { turned = turned.Over (outcome.Refused y) kept.Nothing; own = own }))
looked_refused {D} {A} meaning x st y own a b u at whole h r = acted_told {A = A} meaning x (Some st) own a b u (record { turned = turned.Over (outcome.Refused y) kept.Nothing; own = own }) at h (so_refused a.shape x st y own r whole at.own_is)

finds_none : {D : Type 0} (meaning : Meaning D) (x : Span) (name label text : List ℕ) (own : Option ℕ) (o : ℕ) (a b : Held D) (f : FindFault) → IsAt meaning x own a → IsInserting a.shape x name label text o → HasLooked {T = Unit {0}} meaning a b (store_part (Err f))
    → IsRefusedBy a.shape x.ended (sought o (length text) (taker_of own) (None ∷ None ∷ [])) f → IsSoundFind f → HasActed meaning x (Some (asked.Insert name label text)) a b (not_found f own)
finds_none meaning x name label text own o a b (finds.NoSpace need) at w h r s = looked_refused meaning x (asked.Insert name label text) (why.NoSpace need) own a b tt at w.whole h (no_space a.shape x name label text own o need at.own_is w r)
finds_none meaning x name label text own o a b (finds.MaxExtents count) at w h r s = looked_refused meaning x (asked.Insert name label text) (why.MaxExtents count) own a b tt at w.whole h (most_extents a.shape x name label text own o count at.own_is w r)
finds_none meaning x name label text own o a b (finds.Store fault) at w h r s = acted_looked {A = Unit {0}} meaning x (Some (asked.Insert name label text)) own a b fault at h s

pub insert_unfound : {D : Type 0} (meaning : Meaning D) (x : Span) (name label text : List ℕ) (own : Option ℕ) (o : ℕ) (a b : Held D) (f : FindFault) (r : Result Acted StoreFault) → r ≡ not_found f own → IsAt meaning x own a → IsInserting a.shape x name label text o
    → HasLooked {T = Unit {0}} meaning a b (store_part (Err f)) → IsRefusedBy a.shape x.ended (sought o (length text) (taker_of own) (None ∷ None ∷ [])) f → IsSoundFind f → HasActed meaning x (Some (asked.Insert name label text)) a b r
insert_unfound meaning x name label text own o a b f r e at w h g s = subst (λ (z : Result Acted StoreFault). HasActed meaning x (Some (asked.Insert name label text)) a b z) (sym e) (finds_none meaning x name label text own o a b f at w h g s)

called_none : {D : Type 0} (meaning : Meaning D) (own : Option ℕ) (a b : Held D) (f : FindFault) → a.fault ≡ None → HasLooked {T = Unit {0}} meaning a b (store_part (Err f)) → HasCalled meaning a b (not_found f own)
called_none meaning own a b (finds.NoSpace need) n h = called_look {A = Unit {0}} meaning a b tt (record { turned = turned.Over (outcome.Refused (why.NoSpace need)) kept.Nothing; own = own }) n h
called_none meaning own a b (finds.MaxExtents count) n h = called_look {A = Unit {0}} meaning a b tt (record { turned = turned.Over (outcome.Refused (why.MaxExtents count)) kept.Nothing; own = own }) n h
called_none meaning own a b (finds.Store fault) n h = called_unlooked {A = Unit {0}} meaning a b fault n h

pub unfound_called : {D : Type 0} (meaning : Meaning D) (own : Option ℕ) (a b : Held D) (f : FindFault) (r : Result Acted StoreFault) → r ≡ not_found f own → a.fault ≡ None → HasLooked {T = Unit {0}} meaning a b (store_part (Err f)) → HasCalled meaning a b r
unfound_called meaning own a b f r e n h = subst (λ (z : Result Acted StoreFault). HasCalled meaning a b z) (sym e) (called_none meaning own a b f n h)

-- ---- the row

pub own_acts : (sh : Shape) (R : List Record) (w : ℕ) (own : Option ℕ) → AreAllowed sh R → own_of R w ≡ own → IsOwn R own
own_acts sh R w None a e = tt
own_acts sh R w (Some t) a e = active_own sh R w t a e

pub may_insert : {D : Type 0} (meaning : Meaning D) (x : Span) (name label text : List ℕ) (own : Option ℕ) (o b : ℕ) (hint : Option ℕ) (a : Held D) → IsAt meaning x own a → IsRowSize text → IsInserting a.shape x name label text o
    → find_of a.shape x.ended (sought o (length text) (taker_of own) (None ∷ None ∷ [])) hint ≡ Some (found.Block b) → MayInsert a.shape x.ended own o b text
may_insert meaning x name label text own o b hint a at size w f =
    let table = table_of a.shape x.ended name o at.stands.lawful.allowed w.still in
    let t = found_takes a.shape x.ended (sought o (length text) (taker_of own) (None ∷ None ∷ [])) hint b at.stands.list.within at.stands.lawful.allowed table f in
    record { active = own_acts a.shape x.ended x.session own at.stands.lawful.allowed at.own_is; table = table; here = t.here; takes = t.takes; size = size }

is_found : (sh : Shape) (x : Span) (name label text : List ℕ) (o b : ℕ) (hint : Option ℕ) → InsertStands x name o → find_of sh x.ended (sought_for (own_then x) o (length text) []) hint ≡ Some (found.Block b) → IsFound sh x (asked.Insert name label text) b
is_found sh x name label text o b hint s f = record { sought = sought_for (own_then x) o (length text) []; seeks = seeks x name text o s; hint = hint; found_is = f }

insert_may : (sh : Shape) (scripts : List (List Statement)) (past : List HistoryItem) (w : ℕ) (name label text : List ℕ) (R : List Record) (r : Record) → MadeBy sh scripts past w (Some (asked.Insert name label text)) R r → MayDo sh scripts past w (Some (asked.Insert name label text)) R r
insert_may sh scripts past w name label text R (made.Class k) h = inr h
insert_may sh scripts past w name label text R (made.Clean c) h = absurd h
insert_may sh scripts past w name label text R (made.Reuse q) h = tt
insert_may sh scripts past w name label text R (made.Extend e) h = inr h
insert_may sh scripts past w name label text R r h = h

inserts_change : (sh : Shape) (x : Span) (name label text : List ℕ) → Changes sh x (asked.Insert name label text)
inserts_change sh x name label text = record { may = λ R r h. insert_may sh x.scripts x.past x.session name label text R r h; begins = λ R g e. e }

-- what an insert that may be made answers
insert_means : (sh : Shape) (R : List Record) (own : Option ℕ) (o b : ℕ) (text : List ℕ) (y : Answer) → IsLawful sh R → MayInsert sh R own o b text → insert_answer sh R o b text ≡ y → InsertMeans sh R own (insert_of R o b text) y
insert_means sh R own o b text y l m e = subst (InsertMeans sh R own (insert_of R o b text)) e (inserts_are_made sh R own o b text l m)

inserted_turns : (sh : Shape) (x : Span) (name label text : List ℕ) (next : List Record) (row txn : ℕ) (own : Option ℕ) → FirstPass sh x (asked.Insert name label text) → ChangeTells sh x (asked.Insert name label text) next (outcome.Inserted row) → own_of next x.session ≡ Some txn → own_backed next x.session ≡ false
    → Turns sh x (Some (asked.Insert name label text)) next (record { turned = turned.Over (outcome.Inserted row) kept.Nothing; own = Some txn })
inserted_turns sh x name label text next row txn own p tells o whole = record {
  turns = record {
    means = tells.means;
    passes = accepted_passes sh (later x next) (asked.Insert name label text) (outcome.Inserted row) kept.Nothing refl (insert_later sh x next name label text p);
    whole = whole;
    closed = λ z. none_some _ _ (sym z);
  };
  own = o;
  kept = tt;
}

row_inserted : {D : Type 0} (meaning : Meaning D) (x : Span) (name label text : List ℕ) (who : ℕ) (own : Option ℕ) (o at_block : ℕ) (hint : Option ℕ) (a b : Held D) (done : Done) → IsAt meaning x own a → IsBy x who → IsRowSize text → IsInserting a.shape x name label text o
    → find_of a.shape x.ended (sought o (length text) (taker_of own) (None ∷ None ∷ [])) hint ≡ Some (found.Block at_block) → SameLoan meaning a b → Answers meaning x.ended who own (insert_answer a.shape x.ended o at_block text) a b (Ok done)
    → HasActed meaning x (Some (asked.Insert name label text)) a b (Ok (record { turned = turned.Over (outcome.Inserted done.row) kept.Nothing; own = Some done.txn }))
row_inserted meaning x name label text who own o at_block hint a b done at by size w f loan answers =
    let sh = a.shape in
    let R = x.ended in
    let c = insert_of R o at_block text in
    let st = asked.Insert name label text in
    let lawful = at.stands.lawful in
    let m = answers.is in
    let same = (insert_means sh R own o at_block text (Makes m.change) lawful (may_insert meaning x name label text own o at_block hint a at size w f) m.answer_is).0 in
    let next_is = subst (λ (z : Change). IsNext sh R who own z m.next) same m.next_is in
    let done_is : done ≡ record { row = suc (row_count R); txn = txn_of R own } = subst (λ (z : Change). done ≡ record { row = z.row; txn = txn_of R own }) same m.done_is in
    let left = has_made sh R m.next x.session who own c lawful.allowed by.session at.own_is w.whole next_is in
    let tells = inserts_tell sh x name label text o at_block m.next w.stands w.still (is_found sh x name label text o at_block hint w.stands (found_so sh x own o (length text) hint (found.Block at_block) at.own_is f)) (adds_change sh R m.next x.session who own c by.session at.own_is next_is) in
    subst (λ (d : Done). HasActed meaning x (Some st) a b (Ok (record { turned = turned.Over (outcome.Inserted d.row) kept.Nothing; own = Some d.txn }))) (sym done_is) (record {
      records = m.next;
      stands = m.stands.list;
      acts = change_acts sh x st m.next (inserts_change sh x name label text) w.passed tells.made;
      stable = answers.stable;
      survives = m.stands.survives;
      time = loan.time x.ended at.stands.list;
      turns = inserted_turns sh x name label text m.next (suc (row_count R)) (txn_of R own) own w.passed tells left.own_is left.whole;
      sound = tt;
    })

-- ---- no row

undo_full : {D : Type 0} (meaning : Meaning D) (x : Span) (name label text : List ℕ) (own : Option ℕ) (o at_block : ℕ) (hint : Option ℕ) (hs : List (ℕ × ℕ)) (a : Held D) → IsAt meaning x own a → IsRowSize text → IsInserting a.shape x name label text o
    → find_of a.shape x.ended (sought o (length text) (taker_of own) (None ∷ None ∷ [])) hint ≡ Some (found.Block at_block) → insert_answer a.shape x.ended o at_block text ≡ UndoSpent hs → IsRefusedSo a.shape x (asked.Insert name label text) (why.UndoFull hs)
undo_full meaning x name label text own o at_block hint hs a at size w f e =
    let sh = a.shape in
    let R = x.ended in
    let allowed = at.stands.lawful.allowed in
    let there = found_so sh x own o (length text) hint (found.Block at_block) at.own_is f in
    let full = insert_means sh R own o at_block text (UndoSpent hs) at.stands.lawful (may_insert meaning x name label text own o at_block hint a at size w f) e in
    undo_full_is_refused sh x (asked.Insert name label text) hs (pending sh x name label text o w)
    (record {
      entry = inserts_pass x name label text;
      block = λ p n. found_pass sh x (asked.Insert name label text) (sought_for (own_then x) o (length text) []) hint at_block at.stands.list.within allowed (table_of sh R name o allowed w.still) (seeks x name text o w.stands) there p n;
    })
    (record {
      need = _;
      needs = record { obj = o; table = w.stands.table; block = at_block; is_found = is_found sh x name label text o at_block hint w.stands there; size = refl };
      full = full;
    })

inserts_none : {D : Type 0} (meaning : Meaning D) (x : Span) (name label text : List ℕ) (who : ℕ) (own : Option ℕ) (o at_block : ℕ) (hint : Option ℕ) (a b : Held D) (f : ChangeFault) → IsAt meaning x own a → IsBy x who → IsRowSize text → IsInserting a.shape x name label text o
    → find_of a.shape x.ended (sought o (length text) (taker_of own) (None ∷ None ∷ [])) hint ≡ Some (found.Block at_block) → SameLoan meaning a b → Answers meaning x.ended who own (insert_answer a.shape x.ended o at_block text) a b (Err f)
    → HasActed meaning x (Some (asked.Insert name label text)) a b (told_insert (Err f) o own)
inserts_none meaning x name label text who own o at_block hint a b (changes.UndoFull hs) at by size w f loan h =
    stands_refused meaning x (asked.Insert name label text) (why.UndoFull hs) own a b at w.whole loan h.stable h.is.stands (undo_full meaning x name label text own o at_block hint hs a at size w f h.is.answer_is)
inserts_none meaning x name label text who own o at_block hint a b (changes.Store fault) at by size w f loan h =
    change_failed meaning x (asked.Insert name label text) who own a b fault at by.session (inserts_change a.shape x name label text) w.passed loan h.stable h.is
inserts_none meaning x name label text who own o at_block hint a b (changes.Busy u) at by size w f loan h =
    absurd (insert_means a.shape x.ended own o at_block text (RowBusy u) at.stands.lawful (may_insert meaning x name label text own o at_block hint a at size w f) h.is.answer_is)
inserts_none meaning x name label text who own o at_block hint a b (changes.Changed s) at by size w f loan h =
    absurd (insert_means a.shape x.ended own o at_block text (RowChanged s) at.stands.lawful (may_insert meaning x name label text own o at_block hint a at size w f) h.is.answer_is)
inserts_none meaning x name label text who own o at_block hint a b (changes.NoSlot ts) at by size w f loan h =
    absurd (insert_means a.shape x.ended own o at_block text (EntriesTaken ts) at.stands.lawful (may_insert meaning x name label text own o at_block hint a at size w f) h.is.answer_is)
inserts_none meaning x name label text who own o at_block hint a b (changes.NeedsBlock l) at by size w f loan h =
    absurd (insert_means a.shape x.ended own o at_block text (BlockNeeded l) at.stands.lawful (may_insert meaning x name label text own o at_block hint a at size w f) h.is.answer_is)

pub insert_acted : {D : Type 0} (meaning : Meaning D) (x : Span) (name label text : List ℕ) (who : ℕ) (own : Option ℕ) (o at_block : ℕ) (hint : Option ℕ) (a b : Held D) (made : Result Done ChangeFault) (r : Result Acted StoreFault) → r ≡ told_insert made o own → IsAt meaning x own a → IsBy x who → IsRowSize text
    → IsInserting a.shape x name label text o → find_of a.shape x.ended (sought o (length text) (taker_of own) (None ∷ None ∷ [])) hint ≡ Some (found.Block at_block) → SameLoan meaning a b → Answers meaning x.ended who own (insert_answer a.shape x.ended o at_block text) a b made
    → HasActed meaning x (Some (asked.Insert name label text)) a b r
insert_acted meaning x name label text who own o at_block hint a b (Ok done) r e at by size w g loan h =
    subst (λ (z : Result Acted StoreFault). HasActed meaning x (Some (asked.Insert name label text)) a b z) (sym e) (row_inserted meaning x name label text who own o at_block hint a b done at by size w g loan h)
insert_acted meaning x name label text who own o at_block hint a b (Err f) r e at by size w g loan h =
    subst (λ (z : Result Acted StoreFault). HasActed meaning x (Some (asked.Insert name label text)) a b z) (sym e) (inserts_none meaning x name label text who own o at_block hint a b f at by size w g loan h)

called_fault : {D : Type 0} (meaning : Meaning D) (o : ℕ) (own : Option ℕ) (a b : Held D) (f : ChangeFault) → a.fault ≡ None → SameLoan meaning a b → HasCause {T = Option Done} meaning a b (store_answer (Err f)) → HasCalled meaning a b (told_insert (Err f) o own)
called_fault meaning o own a b (changes.UndoFull hs) n loan h = called_ok {A = Option Done} meaning a b None _ n loan h
called_fault meaning o own a b (changes.Store fault) n loan h = called_err {A = Option Done} meaning a b fault n loan h
called_fault meaning o own a b (changes.Busy u) n loan h = called_ok {A = Option Done} meaning a b None _ n loan h
called_fault meaning o own a b (changes.Changed s) n loan h = called_ok {A = Option Done} meaning a b None _ n loan h
called_fault meaning o own a b (changes.NoSlot ts) n loan h = called_ok {A = Option Done} meaning a b None _ n loan h
called_fault meaning o own a b (changes.NeedsBlock l) n loan h = called_ok {A = Option Done} meaning a b None _ n loan h

pub insert_called : {D : Type 0} (meaning : Meaning D) (o : ℕ) (own : Option ℕ) (a b : Held D) (made : Result Done ChangeFault) (r : Result Acted StoreFault) → r ≡ told_insert made o own → a.fault ≡ None → SameLoan meaning a b → HasCause {T = Option Done} meaning a b (store_answer made) → HasCalled meaning a b r
insert_called meaning o own a b (Ok done) r e n loan h = subst (λ (z : Result Acted StoreFault). HasCalled meaning a b z) (sym e) (called_ok {A = Option Done} meaning a b (Some done) _ n loan h)
insert_called meaning o own a b (Err f) r e n loan h = subst (λ (z : Result Acted StoreFault). HasCalled meaning a b z) (sym e) (called_fault meaning o own a b f n loan h)

-- ---- after a look

pub inserting_as : (sh sh' : Shape) (x : Span) (name label text : List ℕ) (o : ℕ) → sh' ≡ sh → IsInserting sh x name label text o → IsInserting sh' x name label text o
inserting_as sh sh' x name label text o e w = subst (λ (z : Shape). IsInserting z x name label text o) (sym e) w

pub insert_found : (sh sh' : Shape) (R : List Record) (o : ℕ) (text : List ℕ) (own hint : Option ℕ) (f : Found) → sh' ≡ sh → find_of sh R (sought o (length text) (taker_of own) (None ∷ None ∷ [])) hint ≡ Some f → find_of sh' R (sought o (length text) (taker_of own) (None ∷ None ∷ [])) hint ≡ Some f
insert_found sh sh' R o text own hint f e h = subst (λ (z : Shape). find_of z R (sought o (length text) (taker_of own) (None ∷ None ∷ [])) hint ≡ Some f) (sym e) h

pub sought_is : (o len : ℕ) (taker : Taker) (text : List ℕ) (own : Option ℕ) → len ≡ length text → taker ≡ taker_of own → sought o len taker (None ∷ None ∷ []) ≡ sought o (length text) (taker_of own) (None ∷ None ∷ [])
sought_is o len taker text own e f = ap₂ (λ (l : ℕ) (t : Taker). sought o l t (None ∷ None ∷ [])) e f

-- ---- its beginning

no_label : (x : Span) (name label text l : List ℕ) → IsUnbound x (asked.Insert name label text) l → ⊥
no_label x name label text l h = none_some _ _ h.0

pub insert_begins : (sh : Shape) (x : Span) (name label text : List ℕ) (obj : Option ℕ) (full : Bool) (o : ℕ) → IsStarting x → obj ≡ table_named x.begun name → IsFullAt x.begun full → tested_named obj full ≡ Ok o → IsInserting sh x name label text o
insert_begins sh x name label text obj full o s n f e =
    let st = asked.Insert name label text in
    let rows = insert_of_rows sh x name label text in
    let p = rows_passed sh x st name obj full o rows n f e in
    record {
      passed = rows_first sh x st name o rows p (λ l h. no_label x name label text l h);
      stands = record { table = p.table; idle = idle_at_once x s.at_once };
      still = subst (λ (R : List Record). table_named R name ≡ Some o) (sym s.at_once) p.table;
      whole = s.whole;
    }

pub insert_refused : {D A : Type 0} (meaning : Meaning D) (x : Span) (name label text : List ℕ) (own obj : Option ℕ) (full : Bool) (y : Refusal) (a b : Held D) (u : A) → IsAt meaning x own a → IsStarting x → HasLooked {T = A} meaning a b (Ok u) → obj ≡ table_named x.begun name → IsFullAt x.begun full → tested_named obj full ≡ Err y
    → HasActed meaning x (Some (asked.Insert name label text)) a b (Ok (record { turned = turned.Over (outcome.Refused y) kept.Nothing; own = own }))
insert_refused {D} {A} meaning x name label text own obj full y a b u at s h n f e =
    let st = asked.Insert name label text in
    acted_told {A = A} meaning x (Some st) own a b u (record { turned = turned.Over (outcome.Refused y) kept.Nothing; own = own }) at h (first_turns a.shape x st y own s (rows_refused a.shape x st name obj full y (insert_of_rows a.shape x name label text) n f e) at.own_is)

-- ---- under way

-- a name is its table's in each longer list
pub still_named : (sh : Shape) (Q R : List Record) (name : List ℕ) (o : ℕ) → Extends Q R → AreAllowed sh R → table_named Q name ≡ Some o → table_named R name ≡ Some o
still_named sh P _ name o same a e = e
still_named sh P _ name o (more {Q} r h) a e = named_more sh Q r name o a.1.kind (still_named sh P Q name o h a.0 e)

pub insert_under_way : (sh : Shape) (x : Span) (name label text : List ℕ) (o : ℕ) → IsReady sh x (Some (asked.Insert name label text)) (Working (Inserting o)) → Extends x.begun x.ended → AreAllowed sh x.ended → own_backed x.ended x.session ≡ false → IsInserting sh x name label text o
insert_under_way sh x name label text o r e a w = record { passed = r.0; stands = r.1; still = still_named sh x.begun x.ended name o e a r.1.table; whole = w }
