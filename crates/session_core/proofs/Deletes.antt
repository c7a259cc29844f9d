-- The event of a delete at the place of its row.
use Rattle.std.proofs.Common.{◌≡◌, ℕ, suc, ◌≤◌, ◌<◌, Bool, true, false, List, [], ◌∷◌, ◌++◌, length, Option, Some, None, refl, sym, ◌∙◌, ap, subst, inl, inr, arith}
use Rattle.std.specs.Prelude.{Result, Ok, Err, MatchOption}
use Rattle.seg_words.specs.Types.{Shape, Rowid}
use Rattle.disk_model.specs.Crash.{Meaning}
use Rattle.redo_record.specs.declared.record.Record.TheVariants as made
use Rattle.redo_model.specs.Records.{Record}
use Rattle.redo_model.specs.Model.{table_named, AreAllowed}
use Rattle.session_laws.specs.Sessions.{own_of, own_backed}
use Rattle.change_laws.specs.Drafts.{Change, delete_of, Stand}
use Rattle.change_laws.specs.Ready.{IsOwn, blocks_at}
use Rattle.change_laws.specs.Causes.{IsChanged}
use Rattle.change_laws.specs.Looks.{WasFound}
use Rattle.change_laws.specs.Answers.{Answer, Makes, RowChanged, RowBusy, EntriesTaken, BlockNeeded, UndoSpent, stand_at, delete_answer, MeansBusy, MeansTaken, MeansSpent, Means as AnswerMeans}
use Rattle.change_laws.proofs.AnswerLaw.{answers_mean}
use Rattle.script_text.specs.declared.statement.Statement.{Statement}
use Rattle.script_text.specs.declared.statement.Statement.TheVariants as asked
use Rattle.script_text.specs.declared.statement.Target.{Target}
use Rattle.history_text.specs.declared.outcome.Outcome.TheVariants as outcome
use Rattle.history_text.specs.declared.refusal.Refusal.{Refusal}
use Rattle.history_text.specs.declared.refusal.Refusal.TheVariants as why
use Rattle.history_model.specs.declared.history.Kept.TheVariants as kept
use Rattle.history_model.specs.declared.history.HistoryItem.{HistoryItem}
use Rattle.history_model.specs.declared.limit.TheConstants.{MOST_STARTS}
use Rattle.history_model.specs.Spans.{Span, own_then}
use Rattle.history_model.specs.Makes.{Makes as MadeBy}
use Rattle.history_model.specs.Passing.{FirstPass}
use Rattle.history_laws.specs.Changing.{ChangeTells}
use Rattle.history_laws.specs.Refusals.{IsRefusedSo}
use Rattle.history_laws.specs.Working.{later, RowWork, RowStands, PlaceStands}
use Rattle.history_laws.proofs.Answered.{busy_answers, taken_answers, spent_deletes}
use Rattle.history_laws.proofs.Changing.{deletes_tell}
use Rattle.history_laws.proofs.Passes.{accepted_passes}
use Rattle.history_laws.proofs.Owned.{none_some, same_some}
use Rattle.history_laws.proofs.RefusedLaw.{busy_is_refused, again_is_refused, no_slot_is_refused, undo_full_is_refused, writes_pass, entries_pass}
use Rattle.history_laws.proofs.Starts.{starts_go_on, starts_end}
use Rattle.session_model.specs.Done.{MayDo}
use Rattle.store_core.specs.Store.{Held, SameLoan}
use Rattle.store_core.specs.Causes.{HasCause}
use Rattle.store_core.specs.declared.fault.StoreFault.{StoreFault}
use Rattle.store_core.specs.declared.fault.StoreFault.TheVariants.{NoMemory}
use Rattle.row_change.specs.declared.answer.Done.{Done}
use Rattle.row_change.specs.declared.answer.ChangeFault.{ChangeFault}
use Rattle.row_change.specs.declared.answer.ChangeFault.TheVariants as changes
use Rattle.row_change.specs.declared.place.Place.{Place}
use Rattle.row_change.specs.Acting.{txn_of}
use Rattle.row_change.specs.Adding.{Stands}
use Rattle.row_change.specs.Planning.{IsNext}
use Rattle.row_change.specs.Answering.{Answers, store_answer}
use Rattle.session_core.specs.declared.session.RowWork.{RowWork as ToldWork}
use Rattle.session_core.specs.declared.session.Doing.TheVariants as told
use Rattle.session_core.specs.declared.turned.Turned.TheVariants as turned
use Rattle.session_core.specs.declared.turned.Acted.{Acted}
use Rattle.session_core.specs.Acting.{IsAt, Turns, HasActed, HasCalled}
use Rattle.session_core.specs.Inserts.{IsBy}
use Rattle.session_core.specs.Located.{KeepsPlace, WasAt}
use Rattle.session_core.specs.Changes.{IsRowChange, IsChanging, StartsAgain, GoesAgain, StopsAgain, IsNotChanged, deleted, TellsDelete, refused_as}
use Rattle.session_core.specs.RowWorks.{starts_of, found_at, found_in, work_of}
use Rattle.session_core.proofs.Calls.{acts_none, called_ok, called_err}
use Rattle.session_core.proofs.Changes.{so_refused, stands_refused, may_act, has_made, adds_change, Changes, change_acts, change_failed}
use Rattle.session_core.proofs.NewRows.{own_acts}
use Rattle.session_core.proofs.OnRows.{row_fits, row_pending}

-- ---- where the row was found

place_is : (sh : Shape) (x : Span) (k : RowWork) (last : ℕ) (w : ToldWork) (p : Place) → w.place ≡ Some p → MatchOption (found_in w.place) (Unit {0}) (PlaceStands sh x k last) → PlaceStands sh x k last (found_at p)
place_is sh x k last w p e h = subst (λ (z : Option Place). MatchOption (found_in z) (Unit {0}) (PlaceStands sh x k last)) e h

pub was_found : {D : Type 0} (meaning : Meaning D) (x : Span) (st : Statement) (w : ToldWork) (own : Option ℕ) (a : Held D) (p : Place) → IsAt meaning x own a → IsChanging a.shape x st (work_of w) → w.place ≡ Some p → WasFound a.shape x.ended own w.obj w.row p.at p.born p.undo p.start
was_found meaning x st w own a p at k e = subst (λ (z : Option ℕ). WasFound a.shape x.ended z w.obj w.row p.at p.born p.undo p.start) at.own_is (place_is a.shape x (work_of w) k.stands.last w p e k.stands.found).0

-- ---- the start is noted

-- the records stand, and the statement goes on
stands_on : {D : Type 0} (meaning : Meaning D) (x : Span) (st : Statement) (own : Option ℕ) (a b : Held D) (z : Acted) → IsAt meaning x own a → SameLoan meaning a b → a.log.stable ≤ b.log.stable → Stands meaning x.ended x.ended a b → Turns a.shape x (Some st) x.ended z → HasActed meaning x (Some st) a b (Ok z)
stands_on meaning x st own a b z at loan stable stands t = record { records = x.ended; stands = stands.list; acts = acts_none a.shape x (Some st); stable = stable; survives = stands.survives; time = loan.time x.ended at.stands.list; turns = t; sound = tt }

stands_fails : {D : Type 0} (meaning : Meaning D) (x : Span) (st : Statement) (own : Option ℕ) (a b : Held D) → IsAt meaning x own a → SameLoan meaning a b → a.log.stable ≤ b.log.stable → Stands meaning x.ended x.ended a b → HasActed meaning x (Some st) a b (Err NoMemory)
stands_fails meaning x st own a b at loan stable stands = record { records = x.ended; stands = stands.list; acts = acts_none a.shape x (Some st); stable = stable; survives = stands.survives; time = loan.time x.ended at.stands.list; turns = tt; sound = tt }

-- the next start has no place yet
none_kept : (sh : Shape) (R : List Record) (own : Option ℕ) (w : ToldWork) → found_in w.place ≡ None → KeepsPlace sh R own w
none_kept sh R own w e = (elim w.place as (λ (q : Option Place). found_in q ≡ None → MatchOption q (Unit {0}) (WasAt sh R own w.obj w.row)) [ None ↦ λ z. tt | Some p ↦ λ z. none_some _ _ (sym z) ]) e

goes_turns : {D : Type 0} (meaning : Meaning D) (x : Span) (st : Statement) (w : ToldWork) (own : Option ℕ) (a : Held D) (p : Place) (c : ℕ) (z : Acted) → IsAt meaning x own a → IsChanging a.shape x st (work_of w) → w.place ≡ Some p → IsChanged x.ended p.start w.row c → GoesAgain w c own z → Turns a.shape x (Some st) x.ended z
goes_turns meaning x st w own a p c z at k e h g =
    subst (λ (y : Acted). Turns a.shape x (Some st) x.ended y) (sym g.is) (record {
      turns = record {
        passed = k.passed;
        fits = row_fits a.shape x st (work_of g.work) k.kind
            (subst (λ (q : RowWork). RowStands a.shape x st q) (sym g.noted_is) (starts_go_on a.shape x st (work_of w) (found_at p) c (ap found_in e) h g.few k.stands));
        whole = λ _. k.whole;
      };
      own = at.own_is;
      kept = none_kept a.shape x.ended own g.work (ap (λ (q : RowWork). q.place) g.noted_is);
    })

stops_turns : {D : Type 0} (meaning : Meaning D) (x : Span) (st : Statement) (w : ToldWork) (own : Option ℕ) (a : Held D) (p : Place) (c : ℕ) (z : Acted) → IsAt meaning x own a → IsChanging a.shape x st (work_of w) → w.place ≡ Some p → IsChanged x.ended p.start w.row c → StopsAgain w c own z → Turns a.shape x (Some st) x.ended z
stops_turns meaning x st w own a p c z at k e h g =
    let few : length (starts_of w.starts) < MOST_STARTS = k.stands.few in
    let most : MOST_STARTS ≤ suc (length (starts_of w.starts)) = g.most in
    let all : suc (length (starts_of w.starts)) ≡ MOST_STARTS = omega (arith, few, most) in
    let again = starts_end a.shape x st (work_of w) (found_at p) c (ap found_in e) h all k.stands in
    subst (λ (y : Acted). Turns a.shape x (Some st) x.ended y) (sym g.is)
    (so_refused a.shape x st (why.Again (starts_of w.starts ++ c ∷ [])) own (again_is_refused a.shape x st (starts_of w.starts ++ c ∷ []) (row_pending a.shape x st (work_of w) k) again) k.whole at.own_is)

pub starts_again : {D : Type 0} (meaning : Meaning D) (x : Span) (st : Statement) (w : ToldWork) (own : Option ℕ) (a b : Held D) (p : Place) (c : ℕ) (r : Result Acted StoreFault) → StartsAgain c w own r → IsAt meaning x own a → IsChanging a.shape x st (work_of w) → w.place ≡ Some p → IsChanged x.ended p.start w.row c
    → SameLoan meaning a b → a.log.stable ≤ b.log.stable → Stands meaning x.ended x.ended a b → HasActed meaning x (Some st) a b r
starts_again meaning x st w own a b p c (Ok z) g at k e h loan stable stands = elim g [
  | inl y ↦ stands_on meaning x st own a b z at loan stable stands (goes_turns meaning x st w own a p c z at k e h y)
  | inr y ↦ stands_on meaning x st own a b z at loan stable stands (stops_turns meaning x st w own a p c z at k e h y)
]
starts_again meaning x st w own a b p c (Err f) g at k e h loan stable stands = subst (λ (y : StoreFault). HasActed meaning x (Some st) a b (Err y)) (sym g) (stands_fails meaning x st own a b at loan stable stands)

-- ---- what a delete answers

delete_means : {D : Type 0} (meaning : Meaning D) (x : Span) (name : List ℕ) (target : Target) (w : ToldWork) (own : Option ℕ) (a : Held D) (p : Place) (y : Answer) → IsAt meaning x own a → IsChanging a.shape x (asked.Delete name target) (work_of w) → w.place ≡ Some p
    → delete_answer a.shape x.ended own w.obj w.row p.at p.start ≡ y → AnswerMeans a.shape x.ended (own_then x) w.obj w.row p.at p.start (blocks_at (stand_at x.ended p.at)) 0 (Some (delete_of w.obj w.row (stand_at x.ended p.at))) y
delete_means meaning x name target w own a p y at k e h =
    let allowed = at.stands.lawful.allowed in
    let m = answers_mean a.shape x.ended own w.obj w.row p.at p.born p.undo p.start (blocks_at (stand_at x.ended p.at)) 0 (Some (delete_of w.obj w.row (stand_at x.ended p.at))) allowed (own_acts a.shape x.ended x.session own allowed at.own_is) (was_found meaning x (asked.Delete name target) w own a p at k e) in
    subst (λ (z : Option ℕ). AnswerMeans a.shape x.ended z w.obj w.row p.at p.start (blocks_at (stand_at x.ended p.at)) 0 (Some (delete_of w.obj w.row (stand_at x.ended p.at))) y) (sym at.own_is)
    (subst (λ (z : Answer). AnswerMeans a.shape x.ended own w.obj w.row p.at p.start (blocks_at (stand_at x.ended p.at)) 0 (Some (delete_of w.obj w.row (stand_at x.ended p.at))) z) h m)

delete_may : (sh : Shape) (scripts : List (List Statement)) (past : List HistoryItem) (w : ℕ) (name : List ℕ) (target : Target) (R : List Record) (r : Record) → MadeBy sh scripts past w (Some (asked.Delete name target)) R r → MayDo sh scripts past w (Some (asked.Delete name target)) R r
delete_may sh scripts past w name target R (made.Class k) h = inr h
delete_may sh scripts past w name target R (made.Clean c) h = absurd h
delete_may sh scripts past w name target R (made.Reuse q) h = tt
delete_may sh scripts past w name target R (made.Extend e) h = inr h
delete_may sh scripts past w name target R r h = h

deletes_change : (sh : Shape) (x : Span) (name : List ℕ) (target : Target) → Changes sh x (asked.Delete name target)
deletes_change sh x name target = record { may = λ R r h. delete_may sh x.scripts x.past x.session name target R r h; begins = λ R g e. e }

named_still : (sh : Shape) (x : Span) (name : List ℕ) (target : Target) (k : RowWork) → IsChanging sh x (asked.Delete name target) k → table_named x.ended name ≡ Some k.obj
named_still sh x name target k h = subst (λ (n : List ℕ). table_named x.ended n ≡ Some k.obj) (sym (same_some name h.stands.on.name h.stands.on.named)) h.still

deleted_turns : (sh : Shape) (x : Span) (name : List ℕ) (target : Target) (next : List Record) (row txn : ℕ) → FirstPass sh (later x next) (asked.Delete name target) → ChangeTells sh x (asked.Delete name target) next (outcome.Deleted row) → own_of next x.session ≡ Some txn → own_backed next x.session ≡ false
    → Turns sh x (Some (asked.Delete name target)) next (record { turned = turned.Over (outcome.Deleted row) kept.Nothing; own = Some txn })
deleted_turns sh x name target next row txn p tells o whole = record {
  turns = record { means = tells.means; passes = accepted_passes sh (later x next) (asked.Delete name target) (outcome.Deleted row) kept.Nothing refl p; whole = whole; closed = λ z. none_some _ _ (sym z) };
  own = o;
  kept = tt;
}

delete_later : (sh : Shape) (x : Span) (E : List Record) (name : List ℕ) (target : Target) → FirstPass sh x (asked.Delete name target) → FirstPass sh (later x E) (asked.Delete name target)
delete_later sh x E name target f = record { table = λ h. f.table h; new_name = λ h. h; few_tables = λ h. h; movement = λ h. h; no_transaction = λ h. h; unshrunk = λ v h. h; log = λ h. f.log h; data_block = λ b h. h; value = λ v h. h; label = λ l h. f.label l h }

row_deleted : {D : Type 0} (meaning : Meaning D) (x : Span) (name : List ℕ) (target : Target) (w : ToldWork) (who : ℕ) (own : Option ℕ) (a b : Held D) (p : Place) (done : Done) → IsAt meaning x own a → IsBy x who → IsChanging a.shape x (asked.Delete name target) (work_of w) → w.place ≡ Some p → SameLoan meaning a b
    → Answers meaning x.ended who own (delete_answer a.shape x.ended own w.obj w.row p.at p.start) a b (Ok done) → HasActed meaning x (Some (asked.Delete name target)) a b (Ok (deleted done))
row_deleted meaning x name target w who own a b p done at by k e loan answers =
    let sh = a.shape in
    let R = x.ended in
    let s = stand_at R p.at in
    let c = delete_of w.obj w.row s in
    let st = asked.Delete name target in
    let m = answers.is in
    let means = delete_means meaning x name target w own a p (Makes m.change) at k e m.answer_is in
    let same : m.change ≡ c = sym (same_some c m.change means.change_is) in
    let next_is = subst (λ (z : Change). IsNext sh R who own z m.next) same m.next_is in
    let done_is : done ≡ record { row = w.row; txn = txn_of R own } = subst (λ (z : Change). done ≡ record { row = z.row; txn = txn_of R own }) same m.done_is in
    let left = has_made sh R m.next x.session who own c at.stands.lawful.allowed by.session at.own_is k.whole next_is in
    let tells = deletes_tell sh x name target w.obj w.row s m.next k.stands.on k.stands.idle (named_still sh x name target (work_of w) k) (adds_change sh R m.next x.session who own c by.session at.own_is next_is) in
    subst (λ (d : Done). HasActed meaning x (Some st) a b (Ok (deleted d))) (sym done_is) (record {
      records = m.next;
      stands = m.stands.list;
      acts = change_acts sh x st m.next (deletes_change sh x name target) k.passed tells.made;
      stable = answers.stable;
      survives = m.stands.survives;
      time = loan.time x.ended at.stands.list;
      turns = deleted_turns sh x name target m.next w.row (txn_of R own) (delete_later sh x m.next name target k.passed) tells left.own_is left.whole;
      sound = tt;
    })

-- ---- why it doesn't delete

not_deleted : {D : Type 0} (meaning : Meaning D) (x : Span) (name : List ℕ) (target : Target) (w : ToldWork) (who : ℕ) (own : Option ℕ) (a b : Held D) (p : Place) (f : ChangeFault) (r : Result Acted StoreFault) → IsNotChanged f w own r → IsAt meaning x own a → IsBy x who → IsChanging a.shape x (asked.Delete name target) (work_of w)
    → w.place ≡ Some p → SameLoan meaning a b → Answers meaning x.ended who own (delete_answer a.shape x.ended own w.obj w.row p.at p.start) a b (Err f) → HasActed meaning x (Some (asked.Delete name target)) a b r
not_deleted meaning x name target w who own a b p (changes.Busy u) r g at by k e loan h =
    let st = asked.Delete name target in
    let m = delete_means meaning x name target w own a p (RowBusy u) at k e h.is.answer_is in
    subst (λ (z : Result Acted StoreFault). HasActed meaning x (Some st) a b z) (sym g)
    (stands_refused meaning x st (why.Busy u) own a b at k.whole loan h.stable h.is.stands (busy_is_refused a.shape x st u (row_pending a.shape x st (work_of w) k) (busy_answers x st w.obj w.row p.start u k.stands.on m)))
not_deleted meaning x name target w who own a b p (changes.Changed c) r g at by k e loan h =
    starts_again meaning x (asked.Delete name target) w own a b p c r g at k e (delete_means meaning x name target w own a p (RowChanged c) at k e h.is.answer_is) loan h.stable h.is.stands
not_deleted meaning x name target w who own a b p (changes.NoSlot ts) r g at by k e loan h =
    let st = asked.Delete name target in
    let m = delete_means meaning x name target w own a p (EntriesTaken ts) at k e h.is.answer_is in
    subst (λ (z : Result Acted StoreFault). HasActed meaning x (Some st) a b z) (sym g)
    (stands_refused meaning x st (why.NoSlot ts) own a b at k.whole loan h.stable h.is.stands
    (no_slot_is_refused a.shape x st ts (row_pending a.shape x st (work_of w) k) (writes_pass a.shape x st w.obj w.row (stand_at x.ended p.at) at.stands.lawful.allowed k.stands.on m.free.write) (taken_answers x st w.obj w.row p.at p.start ts k.stands.on m)))
not_deleted meaning x name target w who own a b p (changes.NeedsBlock l) r g at by k e loan h =
    let m = delete_means meaning x name target w own a p (BlockNeeded l) at k e h.is.answer_is in
    none_some _ _ (sym m.none)
not_deleted meaning x name target w who own a b p (changes.UndoFull hs) r g at by k e loan h =
    let st = asked.Delete name target in
    let m = delete_means meaning x name target w own a p (UndoSpent hs) at k e h.is.answer_is in
    subst (λ (z : Result Acted StoreFault). HasActed meaning x (Some st) a b z) (sym g)
    (stands_refused meaning x st (why.UndoFull hs) own a b at k.whole loan h.stable h.is.stands
    (undo_full_is_refused a.shape x st hs (row_pending a.shape x st (work_of w) k)
    (record { entry = entries_pass a.shape x st w.obj w.row (stand_at x.ended p.at) at.stands.lawful.allowed k.stands.on m.past.free.write m.past.entries; block = λ q n. n.seeks })
    (spent_deletes a.shape x name target w.obj w.row p.at p.start (blocks_at (stand_at x.ended p.at)) hs k.stands.on m)))
not_deleted meaning x name target w who own a b p (changes.Store fault) r g at by k e loan h =
    subst (λ (z : Result Acted StoreFault). HasActed meaning x (Some (asked.Delete name target)) a b z) (sym g)
    (change_failed meaning x (asked.Delete name target) who own a b fault at by.session (deletes_change a.shape x name target) k.passed loan h.stable h.is)

pub delete_acted : {D : Type 0} (meaning : Meaning D) (x : Span) (name : List ℕ) (target : Target) (w : ToldWork) (who : ℕ) (own : Option ℕ) (a b : Held D) (p : Place) (m : Result Done ChangeFault) (r : Result Acted StoreFault) → TellsDelete m w own r → IsAt meaning x own a → IsBy x who
    → IsChanging a.shape x (asked.Delete name target) (work_of w) → w.place ≡ Some p → SameLoan meaning a b → Answers meaning x.ended who own (delete_answer a.shape x.ended own w.obj w.row p.at p.start) a b m → HasActed meaning x (Some (asked.Delete name target)) a b r
delete_acted meaning x name target w who own a b p (Ok done) r g at by k e loan h = subst (λ (z : Result Acted StoreFault). HasActed meaning x (Some (asked.Delete name target)) a b z) (sym g) (row_deleted meaning x name target w who own a b p done at by k e loan h)
delete_acted meaning x name target w who own a b p (Err f) r g at by k e loan h = not_deleted meaning x name target w who own a b p f r g at by k e loan h

-- ---- of any store

memory_called : {D T : Type 0} (meaning : Meaning D) (a b : Held D) (y : T) → HasCalled {T = T} meaning a b (Ok y) → HasCalled {T = T} meaning a b (Err NoMemory)
memory_called meaning a b y q = record { loan = q.loan; device = λ e. absurd (cc e); kept = q.kept }

again_called : {D : Type 0} (meaning : Meaning D) (w : ToldWork) (own : Option ℕ) (a b : Held D) (c : ℕ) (r : Result Acted StoreFault) → StartsAgain c w own r → a.fault ≡ None → SameLoan meaning a b → HasCause {T = Option Done} meaning a b (Ok None) → HasCalled meaning a b r
again_called meaning w own a b c (Ok z) g n loan h = called_ok {A = Option Done} meaning a b None z n loan h
again_called meaning w own a b c (Err f) g n loan h = subst (λ (y : StoreFault). HasCalled {T = Acted} meaning a b (Err y)) (sym g) (memory_called {T = Acted} meaning a b (refused_as why.NoTable own) (called_ok {A = Option Done} meaning a b None (refused_as why.NoTable own) n loan h))

pub fault_called : {D : Type 0} (meaning : Meaning D) (w : ToldWork) (own : Option ℕ) (a b : Held D) (f : ChangeFault) (r : Result Acted StoreFault) → IsNotChanged f w own r → a.fault ≡ None → SameLoan meaning a b → HasCause {T = Option Done} meaning a b (store_answer (Err f)) → HasCalled meaning a b r
fault_called meaning w own a b (changes.Busy u) r g n loan h = subst (λ (z : Result Acted StoreFault). HasCalled meaning a b z) (sym g) (called_ok {A = Option Done} meaning a b None _ n loan h)
fault_called meaning w own a b (changes.Changed c) r g n loan h = again_called meaning w own a b c r g n loan h
fault_called meaning w own a b (changes.NoSlot ts) r g n loan h = subst (λ (z : Result Acted StoreFault). HasCalled meaning a b z) (sym g) (called_ok {A = Option Done} meaning a b None _ n loan h)
fault_called meaning w own a b (changes.NeedsBlock l) r g n loan h = subst (λ (z : Result Acted StoreFault). HasCalled meaning a b z) (sym g) (called_ok {A = Option Done} meaning a b None _ n loan h)
fault_called meaning w own a b (changes.UndoFull hs) r g n loan h = subst (λ (z : Result Acted StoreFault). HasCalled meaning a b z) (sym g) (called_ok {A = Option Done} meaning a b None _ n loan h)
fault_called meaning w own a b (changes.Store fault) r g n loan h = subst (λ (z : Result Acted StoreFault). HasCalled meaning a b z) (sym g) (called_err {A = Option Done} meaning a b fault n loan h)

pub delete_called : {D : Type 0} (meaning : Meaning D) (w : ToldWork) (own : Option ℕ) (a b : Held D) (m : Result Done ChangeFault) (r : Result Acted StoreFault) → TellsDelete m w own r → a.fault ≡ None → SameLoan meaning a b → HasCause {T = Option Done} meaning a b (store_answer m) → HasCalled meaning a b r
delete_called meaning w own a b (Ok done) r g n loan h = subst (λ (z : Result Acted StoreFault). HasCalled meaning a b z) (sym g) (called_ok {A = Option Done} meaning a b (Some done) _ n loan h)
delete_called meaning w own a b (Err f) r g n loan h = fault_called meaning w own a b f r g n loan h
