-- The event of an update at the place of its row.
use Rattle.std.proofs.Common.{◌≡◌, ℕ, ◌≤◌, Bool, true, false, List, [], ◌∷◌, length, Option, Some, None, refl, sym, ◌∙◌, ap, ap₂, subst, inl, inr, le_trans}
use Rattle.std.specs.Prelude.{Result, Ok, Err, MatchOption, IfOk, IfErr}
use Rattle.seg_words.specs.Types.{Shape, Rowid, Taker, is_shape}
use Rattle.disk_model.specs.Crash.{Meaning}
use Rattle.redo_record.specs.declared.record.Record.TheVariants as made
use Rattle.redo_model.specs.Records.{Record}
use Rattle.redo_model.specs.Model.{table_named, IsTable, IsRowBlock, AreAllowed, IsLawful}
use Rattle.session_laws.specs.Sessions.{own_of, own_backed}
use Rattle.mark_laws.specs.declared.step.MarkStep.{MarkStep}
use Rattle.mark_laws.specs.declared.step.Found.{Found}
use Rattle.mark_laws.specs.declared.step.Found.TheVariants as found
use Rattle.mark_laws.specs.Drafts.{mark_record}
use Rattle.mark_laws.specs.Movements.{next_mark}
use Rattle.mark_laws.specs.Searches.{Sought, find_of, is_usable, HasNone}
use Rattle.mark_laws.specs.Refusals.{LacksSpace, HasMostExtents}
use Rattle.mark_laws.proofs.MovesLaw.{marks_are_allowed}
use Rattle.change_laws.specs.Drafts.{Change, Stand, Whole, Apart, migrate_of, taker_of}
use Rattle.change_laws.specs.Ready.{Path, InPlace, ToHead, ToOther, path_of, updated_blocks, StandsAt}
use Rattle.change_laws.specs.Causes.{IsChanged}
use Rattle.change_laws.specs.Answers.{Answer, Makes, RowChanged, RowBusy, EntriesTaken, BlockNeeded, UndoSpent, stand_at, change_by, update_answer, MeansNeeded, MayBeTarget, Means as AnswerMeans}
use Rattle.change_laws.proofs.AnswerLaw.{answers_mean, blocks_are_needed}
use Rattle.change_laws.proofs.CauseLaw.{rows_stand_once}
use Rattle.change_laws.proofs.LookLaw.{places_show}
use Rattle.head_laws.specs.Heads.{blocks_by, stand_by, sought_by}
use Rattle.head_laws.specs.Needs.{NeedMeets}
use Rattle.head_laws.proofs.HeadLaw.{born_now, heads_stay}
use Rattle.head_laws.proofs.NeedLaw.{needs_are_met}
use Rattle.script_text.specs.declared.statement.Statement.{Statement}
use Rattle.script_text.specs.declared.statement.Statement.TheVariants as asked
use Rattle.script_text.specs.declared.statement.Target.{Target}
use Rattle.history_text.specs.declared.outcome.Outcome.TheVariants as outcome
use Rattle.history_text.specs.declared.refusal.Refusal.TheVariants as why
use Rattle.history_model.specs.declared.history.Kept.TheVariants as kept
use Rattle.history_model.specs.declared.history.HistoryItem.{HistoryItem}
use Rattle.history_model.specs.Spans.{Span, own_then, target_row}
use Rattle.history_model.specs.Causes.{IsOnRow, own_blocks, sought_for, UpdateSeeks, NoBlockTakes, IsFound}
use Rattle.history_model.specs.Makes.{Makes as MadeBy}
use Rattle.history_model.specs.Passing.{FirstPass}
use Rattle.history_model.proofs.Targets.{one_obj, one_row}
use Rattle.history_laws.specs.Changing.{ChangeTells}
use Rattle.history_laws.specs.Refusals.{IsRefusedSo, EntryPass}
use Rattle.history_laws.specs.Working.{later, RowWork, OnRow}
use Rattle.history_laws.proofs.Acting.{updates_move, marks_leave_work}
use Rattle.history_laws.proofs.Answered.{busy_answers, taken_answers, needs_seek, spent_updates}
use Rattle.history_laws.proofs.Changing.{updates_tell}
use Rattle.history_laws.proofs.Passes.{accepted_passes}
use Rattle.history_laws.proofs.Owned.{none_some, same_some}
use Rattle.history_laws.proofs.RefusedLaw.{busy_is_refused, no_slot_is_refused, no_space_is_refused, max_extents_is_refused, undo_full_is_refused, writes_pass, entries_pass, found_pass}
use Rattle.session_model.specs.Done.{MayDo, done_none, done_one}
use Rattle.store_core.specs.Store.{Held, IsTrue, SameLoan, has_page}
use Rattle.store_core.specs.Adding.{Adds}
use Rattle.store_core.specs.Causes.{HasCause, HasLooked, IsSoundFault}
use Rattle.store_core.specs.declared.fault.StoreFault.{StoreFault}
use Rattle.free_search.specs.declared.fault.FindFault.{FindFault}
use Rattle.free_search.specs.declared.fault.FindFault.TheVariants as finds
use Rattle.free_search.specs.Answers.{IsRefusedBy, IsSoundFind, store_part}
use Rattle.free_search.specs.Looks.{sought}
use Rattle.row_change.specs.declared.answer.Done.{Done}
use Rattle.row_change.specs.declared.answer.ChangeFault.{ChangeFault}
use Rattle.row_change.specs.declared.answer.ChangeFault.TheVariants as changes
use Rattle.row_change.specs.declared.place.Place.{Place}
use Rattle.row_change.specs.Acting.{txn_of}
use Rattle.row_change.specs.Answering.{Answers, IsRefused, store_answer}
use Rattle.row_change.proofs.Given.{rows_there}
use Rattle.session_core.specs.declared.session.RowWork.{RowWork as ToldWork}
use Rattle.session_core.specs.declared.session.Doing.TheVariants as told
use Rattle.session_core.specs.declared.turned.Turned.TheVariants as turned
use Rattle.session_core.specs.declared.turned.Acted.{Acted}
use Rattle.session_core.specs.declared.changed.Changed.{Changed}
use Rattle.page_set.specs.Folded.{page_of}
use Rattle.session_core.specs.Acting.{IsAt, Turns, HasActed, HasCalled}
use Rattle.session_core.specs.Changes.{IsChanging, IsNotChanged}
use Rattle.session_core.specs.Inserts.{IsBy, not_found}
use Rattle.session_core.specs.Located.{KeepsPlace, WasAt}
use Rattle.session_core.specs.RowWorks.{work_of}
use Rattle.session_core.specs.Leaving.{home_blocks, is_empty_in, is_filled, is_noted, with_target}
use Rattle.session_core.specs.Updates.{HasRefused, IsNeedy, IsUnspentFor, IsUpdating, NotesHome, NotesSo, UpdateNotes, home_noted, needed_in, refused_so, updated}
use Rattle.session_core.proofs.Calls.{HasStayed, acted_adds, acted_looked, called_of, called_ok, called_on, stayed_at}
use Rattle.session_core.proofs.Changes.{Changes, adds_change, change_acts, change_failed, has_made, stands_refused}
use Rattle.session_core.proofs.Deletes.{starts_again, was_found}
use Rattle.session_core.proofs.Located.{marks_keep}
use Rattle.session_core.proofs.Noting.{left_by, migrated_noted, place_left, stayed_noted}
use Rattle.session_core.proofs.NewRows.{looked_refused, mark_backed, mark_may, mark_next, mark_own, own_acts}
use Rattle.session_core.proofs.OnRows.{row_pending, row_table}

abbrev asks : List ℕ → Target → List ℕ → Statement
asks name target text = asked.Update name target text

-- what it changes, if it goes to this block or to none
abbrev change_now : Span → Option ℕ → ToldWork → Place → List ℕ → Option ℕ → Option Change
change_now x own w p text to = change_by x.ended w.obj w.row (stand_at x.ended p.at) text to (path_of x.ended own (stand_at x.ended p.at) (length text))

abbrev blocks_now : Span → Option ℕ → Place → List ℕ → List ℕ
blocks_now x own p text = updated_blocks x.ended own (stand_at x.ended p.at) (length text)

abbrev MeansNow : Shape → Span → Option ℕ → ToldWork → Place → List ℕ → Option ℕ → Answer → Type 0
MeansNow sh x own w p text to y = AnswerMeans sh x.ended own w.obj w.row p.at p.start (blocks_now x own p text) (length text) (change_now x own w p text to) y

-- the block is what the search found
abbrev IsFoundTo : Shape → Span → List ℕ → Target → List ℕ → Option ℕ → Type 0
IsFoundTo sh x name target text to = MatchOption to (Unit {0}) (λ b. IsFound sh x (asks name target text) b)

-- ---- where the row was located

pub located_at : (sh : Shape) (R : List Record) (own : Option ℕ) (w : ToldWork) (p : Place) → w.place ≡ Some p → KeepsPlace sh R own w → WasAt sh R own w.obj w.row p
located_at sh R own w p e h = subst (λ (q : Option Place). MatchOption q (Unit {0}) (WasAt sh R own w.obj w.row)) e h

place_kept : (sh : Shape) (R : List Record) (own : Option ℕ) (w : ToldWork) (p : Place) → w.place ≡ Some p → WasAt sh R own w.obj w.row p → KeepsPlace sh R own w
place_kept sh R own w p e h = subst (λ (q : Option Place). MatchOption q (Unit {0}) (WasAt sh R own w.obj w.row)) (sym e) h

-- ---- what it answers means

update_means : {D : Type 0} (meaning : Meaning D) (x : Span) (name : List ℕ) (target : Target) (text : List ℕ) (who : ℕ) (own : Option ℕ) (w : ToldWork) (p : Place) (a : Held D) (to : Option ℕ) (y : Answer) → IsUpdating meaning x name target text who own w p a
    → update_answer a.shape x.ended own w.obj w.row p.at p.start text to ≡ y → MeansNow a.shape x (own_then x) w p text to y
update_means meaning x name target text who own w p a to y u e =
    let at = u.at in
    let allowed = at.stands.lawful.allowed in
    let m = answers_mean a.shape x.ended own w.obj w.row p.at p.born p.undo p.start (blocks_now x own p text) (length text) (change_now x own w p text to) allowed (own_acts a.shape x.ended x.session own allowed at.own_is) (was_found meaning x (asks name target text) w own a p at u.changing u.place_is) in
    subst (λ (z : Option ℕ). MeansNow a.shape x z w p text to y) (sym at.own_is) (subst (λ (z : Answer). MeansNow a.shape x own w p text to z) e m)

update_may : (sh : Shape) (scripts : List (List Statement)) (past : List HistoryItem) (w : ℕ) (name : List ℕ) (target : Target) (text : List ℕ) (R : List Record) (r : Record) → MadeBy sh scripts past w (Some (asks name target text)) R r → MayDo sh scripts past w (Some (asks name target text)) R r
update_may sh scripts past w name target text R (made.Class k) h = inr h
update_may sh scripts past w name target text R (made.Clean c) h = absurd h
update_may sh scripts past w name target text R (made.Reuse q) h = tt
update_may sh scripts past w name target text R (made.Extend e) h = inr h
update_may sh scripts past w name target text R r h = h

updates_change : (sh : Shape) (x : Span) (name : List ℕ) (target : Target) (text : List ℕ) → Changes sh x (asks name target text)
updates_change sh x name target text = record { may = λ R r h. update_may sh x.scripts x.past x.session name target text R r h; begins = λ R g e. e }

update_later : (sh : Shape) (x : Span) (E : List Record) (name : List ℕ) (target : Target) (text : List ℕ) → FirstPass sh x (asks name target text) → FirstPass sh (later x E) (asks name target text)
update_later sh x E name target text f = record { table = λ h. f.table h; new_name = λ h. h; few_tables = λ h. h; movement = λ h. h; no_transaction = λ h. h; unshrunk = λ v h. h; log = λ h. f.log h; data_block = λ b h. h; value = λ v h. h; label = λ l h. f.label l h }

still_its : (sh : Shape) (x : Span) (name : List ℕ) (target : Target) (text : List ℕ) (k : RowWork) → IsChanging sh x (asks name target text) k → table_named x.ended name ≡ Some k.obj
still_its sh x name target text k h = subst (λ (n : List ℕ). table_named x.ended n ≡ Some k.obj) (sym (same_some name h.stands.on.name h.stands.on.named)) h.still

still_meant : (sh : Shape) (x : Span) (name : List ℕ) (target : Target) (text : List ℕ) (k : RowWork) → IsChanging sh x (asks name target text) k → target_row x.scripts x.past target ≡ Some k.row
still_meant sh x name target text k h = subst (λ (t : Target). target_row x.scripts x.past t ≡ Some k.row) (sym (same_some target h.stands.on.target h.stands.on.targeted)) h.stands.on.row

-- ---- the row is updated

row_of : (R : List Record) (o n : ℕ) (s : Stand) (text : List ℕ) (to : Option ℕ) (way : Path) (c : Change) → change_by R o n s text to way ≡ Some c → c.row ≡ n
row_of R o n s text to InPlace c e = sym (ap (λ (z : Change). z.row) (same_some _ c e))
row_of R o n (Whole p) text to ToHead c e = none_some c _ e
row_of R o n (Apart head body) text to ToHead c e = sym (ap (λ (z : Change). z.row) (same_some _ c e))
row_of R o n s text None ToOther c e = none_some c _ e
row_of R o n s text (Some b) ToOther c e = sym (ap (λ (z : Change). z.row) (same_some _ c e))

updated_turns : (sh : Shape) (x : Span) (name : List ℕ) (target : Target) (text : List ℕ) (next : List Record) (row txn : ℕ) → FirstPass sh (later x next) (asks name target text) → ChangeTells sh x (asks name target text) next (outcome.Updated row) → own_of next x.session ≡ Some txn → own_backed next x.session ≡ false
    → Turns sh x (Some (asks name target text)) next (record { turned = turned.Over (outcome.Updated row) kept.Nothing; own = Some txn })
updated_turns sh x name target text next row txn p tells o whole = record {
  turns = record { means = tells.means; passes = accepted_passes sh (later x next) (asks name target text) (outcome.Updated row) kept.Nothing refl p; whole = whole; closed = λ z. none_some _ _ (sym z) };
  own = o;
  kept = tt;
}

pub row_updated : {D : Type 0} (meaning : Meaning D) (x : Span) (name : List ℕ) (target : Target) (text : List ℕ) (who : ℕ) (own : Option ℕ) (w : ToldWork) (p : Place) (a b : Held D) (to : Option ℕ) (done : Done) → IsUpdating meaning x name target text who own w p a → IsFoundTo a.shape x name target text to → SameLoan meaning a b
    → Answers meaning x.ended who own (update_answer a.shape x.ended own w.obj w.row p.at p.start text to) a b (Ok done) → HasActed meaning x (Some (asks name target text)) a b (Ok (updated done))
row_updated meaning x name target text who own w p a b to done u found loan answers =
    let sh = a.shape in
    let R = x.ended in
    let s = stand_at R p.at in
    let st = asks name target text in
    let k = u.changing in
    let m = answers.is in
    let c = m.change in
    let means = update_means meaning x name target text who own w p a to (Makes c) u m.answer_is in
    let row : c.row ≡ w.row = row_of R w.obj w.row s text to (path_of R (own_then x) s (length text)) c means.change_is in
    let done_is : done ≡ record { row = w.row; txn = txn_of R own } = m.done_is ∙ ap (λ (n : ℕ). record { row = n; txn = txn_of R own }) row in
    let left = has_made sh R m.next x.session who own c u.at.stands.lawful.allowed u.by.session u.at.own_is k.whole m.next_is in
    let tells = updates_tell sh x name target text w.obj w.row s to c m.next k.stands.on k.stands.idle (still_its sh x name target text (work_of w) k) means.past.free.write.stands found means.change_is (adds_change sh R m.next x.session who own c u.by.session u.at.own_is m.next_is) in
    subst (λ (d : Done). HasActed meaning x (Some st) a b (Ok (updated d))) (sym done_is) (record {
      records = m.next;
      stands = m.stands.list;
      acts = change_acts sh x st m.next (updates_change sh x name target text) k.passed tells.made;
      stable = answers.stable;
      survives = m.stands.survives;
      time = loan.time x.ended u.at.stands.list;
      turns = updated_turns sh x name target text m.next w.row (txn_of R own) (update_later sh x m.next name target text k.passed) tells left.own_is left.whole;
      sound = tt;
    })

-- its block has a page
pub place_there : {D : Type 0} (meaning : Meaning D) (x : Span) (name : List ℕ) (target : Target) (text : List ℕ) (who : ℕ) (own : Option ℕ) (w : ToldWork) (p : Place) (a b : Held D) (to : Option ℕ) (done : Done) → IsUpdating meaning x name target text who own w p a → SameLoan meaning a b
    → Answers meaning x.ended who own (update_answer a.shape x.ended own w.obj w.row p.at p.start text to) a b (Ok done) → has_page b.shape p.at.dba ≡ true
place_there meaning x name target text who own w p a b to done u loan answers =
    let sh = a.shape in
    let R = x.ended in
    let lawful = u.at.stands.lawful in
    let means = update_means meaning x name target text who own w p a to (Makes answers.is.change) u answers.is.answer_is in
    let active = own_acts sh R x.session own lawful.allowed u.at.own_is in
    let was = was_found meaning x (asks name target text) w own a p u.at u.changing u.place_is in
    let born = born_now sh R own w.obj w.row p.at p.born p.undo p.start lawful.allowed active was means.past.free.unchanged in
    subst (λ (z : Shape). has_page z p.at.dba ≡ true) (sym loan.shape) (rows_there sh R w.obj p.at.dba u.at.stands.list.within lawful (places_show sh R own w.obj w.row p.at p.born p.undo p.start lawful.allowed active was born).here)

-- ---- why it isn't

-- a search that finds a block excludes that none takes the row; a row that needs none calls for no search
blocks_pass : (sh : Shape) (x : Span) (name : List ℕ) (target : Target) (text : List ℕ) (o n : ℕ) (s : Stand) (to : Option ℕ) (c : Change) → is_shape sh ≡ true → AreAllowed sh x.ended → IsTable x.ended o → IsOnRow x (asks name target text) o n → StandsAt x.ended n s → IsFoundTo sh x name target text to
    → change_by x.ended o n s text to (path_of x.ended (own_then x) s (length text)) ≡ Some c → (q : Sought) → NoBlockTakes sh x (asks name target text) q → ⊥
blocks_pass sh x name target text o n s None c shape a table on stands found e q none =
    let st = asks name target text in
    let k = none.seeks in
    let row : k.row ≡ n = one_row x st k.obj k.row o n k.on on in
    let same : k.stand ≡ s = rows_stand_once sh x.ended n k.stand s a (subst (λ (m : ℕ). StandsAt x.ended m k.stand) row k.stands) stands in
    let away : path_of x.ended (own_then x) s (length text) ≡ ToOther = subst (λ (z : Stand). path_of x.ended (own_then x) z (length text) ≡ ToOther) same k.away in
    none_some c _ (sym ((blocks_are_needed x.ended (own_then x) o n s text None).needs away refl) ∙ e)
blocks_pass sh x name target text o n s (Some b) c shape a table on stands found e q none =
    let st = asks name target text in
    let k = found.seeks in
    let obj : found.sought.obj ≡ o = ap (λ (z : Sought). z.obj) k.sought ∙ one_obj x st k.obj k.row o n k.on on in
    found_pass sh x st found.sought found.hint b shape a (subst (λ (z : ℕ). IsTable x.ended z) (sym obj) table) k found.found_is q none

undo_refused : {D : Type 0} (meaning : Meaning D) (x : Span) (name : List ℕ) (target : Target) (text : List ℕ) (who : ℕ) (own : Option ℕ) (w : ToldWork) (p : Place) (a : Held D) (to : Option ℕ) (hs : List (ℕ × ℕ)) → IsUpdating meaning x name target text who own w p a → IsFoundTo a.shape x name target text to
    → MeansNow a.shape x (own_then x) w p text to (UndoSpent hs) → IsRefusedSo a.shape x (asks name target text) (why.UndoFull hs)
undo_refused meaning x name target text who own w p a to hs u found m =
    let sh = a.shape in
    let st = asks name target text in
    let s = stand_at x.ended p.at in
    let k = u.changing in
    let on = k.stands.on in
    let allowed = u.at.stands.lawful.allowed in
    undo_full_is_refused sh x st hs (row_pending sh x st (work_of w) k)
    (record {
      entry = entries_pass sh x st w.obj w.row s allowed on m.past.free.write m.past.entries;
      block = λ q none. blocks_pass sh x name target text w.obj w.row s to m.made u.at.stands.list.within allowed (row_table sh sh x st (work_of w) allowed k) on m.past.free.write.stands found m.change_is q none;
    })
    (spent_updates sh x name target text w.obj w.row p.at p.start (blocks_now x (own_then x) p text) to hs on found m)

pub not_updated : {D : Type 0} (meaning : Meaning D) (x : Span) (name : List ℕ) (target : Target) (text : List ℕ) (who : ℕ) (own : Option ℕ) (w : ToldWork) (p : Place) (a b : Held D) (to : Option ℕ) (f : ChangeFault) (r : Result Acted StoreFault) → IsNotChanged f w own r → IsUpdating meaning x name target text who own w p a
    → IsFoundTo a.shape x name target text to → ((l : ℕ) → f ≡ changes.NeedsBlock l → ⊥) → SameLoan meaning a b → Answers meaning x.ended who own (update_answer a.shape x.ended own w.obj w.row p.at p.start text to) a b (Err f) → HasActed meaning x (Some (asks name target text)) a b r
not_updated meaning x name target text who own w p a b to (changes.Busy t) r g u found never loan h =
    let st = asks name target text in
    let k = u.changing in
    let m = update_means meaning x name target text who own w p a to (RowBusy t) u h.is.answer_is in
    subst (λ (z : Result Acted StoreFault). HasActed meaning x (Some st) a b z) (sym g)
    (stands_refused meaning x st (why.Busy t) own a b u.at k.whole loan h.stable h.is.stands (busy_is_refused a.shape x st t (row_pending a.shape x st (work_of w) k) (busy_answers x st w.obj w.row p.start t k.stands.on m)))
not_updated meaning x name target text who own w p a b to (changes.Changed c) r g u found never loan h =
    starts_again meaning x (asks name target text) w own a b p c r g u.at u.changing u.place_is (update_means meaning x name target text who own w p a to (RowChanged c) u h.is.answer_is) loan h.stable h.is.stands
not_updated meaning x name target text who own w p a b to (changes.NoSlot ts) r g u found never loan h =
    let st = asks name target text in
    let k = u.changing in
    let m = update_means meaning x name target text who own w p a to (EntriesTaken ts) u h.is.answer_is in
    subst (λ (z : Result Acted StoreFault). HasActed meaning x (Some st) a b z) (sym g)
    (stands_refused meaning x st (why.NoSlot ts) own a b u.at k.whole loan h.stable h.is.stands
    (no_slot_is_refused a.shape x st ts (row_pending a.shape x st (work_of w) k) (writes_pass a.shape x st w.obj w.row (stand_at x.ended p.at) u.at.stands.lawful.allowed k.stands.on m.free.write) (taken_answers x st w.obj w.row p.at p.start ts k.stands.on m)))
not_updated meaning x name target text who own w p a b to (changes.NeedsBlock l) r g u found never loan h = absurd (never l refl)
not_updated meaning x name target text who own w p a b to (changes.UndoFull hs) r g u found never loan h =
    let st = asks name target text in
    subst (λ (z : Result Acted StoreFault). HasActed meaning x (Some st) a b z) (sym g)
    (stands_refused meaning x st (why.UndoFull hs) own a b u.at u.changing.whole loan h.stable h.is.stands
    (undo_refused meaning x name target text who own w p a to hs u found (update_means meaning x name target text who own w p a to (UndoSpent hs) u h.is.answer_is)))
not_updated meaning x name target text who own w p a b to (changes.Store fault) r g u found never loan h =
    subst (λ (z : Result Acted StoreFault). HasActed meaning x (Some (asks name target text)) a b z) (sym g)
    (change_failed meaning x (asks name target text) who own a b fault u.at u.by.session (updates_change a.shape x name target text) u.changing.passed loan h.stable h.is)

-- ---- another block is needed

pub none_needed : (f : ChangeFault) (l : ℕ) → needed_in f ≡ None → f ≡ changes.NeedsBlock l → ⊥
none_needed f l n e = none_some l _ (sym n ∙ ap needed_in e)

pub is_needy : {D : Type 0} (meaning : Meaning D) (R : List Record) (who : ℕ) (own : Option ℕ) (y : Answer) (a b : Held D) (f : ChangeFault) (len : ℕ) → needed_in f ≡ Some len → Answers meaning R who own y a b (Err f) → IsRefused meaning R y (BlockNeeded len) a b
is_needy meaning R who own y a b (changes.NeedsBlock l) len e h = subst (λ (z : ℕ). IsRefused meaning R y (BlockNeeded z) a b) (same_some l len e) h.is
is_needy meaning R who own y a b (changes.Busy t) len e h = none_some len _ e
is_needy meaning R who own y a b (changes.Changed c) len e h = none_some len _ e
is_needy meaning R who own y a b (changes.NoSlot ts) len e h = none_some len _ e
is_needy meaning R who own y a b (changes.UndoFull hs) len e h = none_some len _ e
is_needy meaning R who own y a b (changes.Store fault) len e h = none_some len _ e

needy_cause : {D : Type 0} (meaning : Meaning D) (a b : Held D) (f : ChangeFault) (len : ℕ) → needed_in f ≡ Some len → HasCause {T = Option Done} meaning a b (refused_so f) → HasCause {T = Option Done} meaning a b (Ok None)
needy_cause meaning a b (changes.NeedsBlock l) len e h = h
needy_cause meaning a b (changes.Busy t) len e h = none_some len _ e
needy_cause meaning a b (changes.Changed c) len e h = none_some len _ e
needy_cause meaning a b (changes.NoSlot ts) len e h = none_some len _ e
needy_cause meaning a b (changes.UndoFull hs) len e h = none_some len _ e
needy_cause meaning a b (changes.Store fault) len e h = none_some len _ e

pub unspent_needy : {D : Type 0} (meaning : Meaning D) (a b : Held D) (f : ChangeFault) → a.fault ≡ None → HasCause {T = Option Done} meaning a b (refused_so f) → IsUnspentFor f b
unspent_needy meaning a b f n h = λ len e. (needy_cause meaning a b f len e h).kept n

-- the store with the refusal, before what follows it
pub refused_stays : {D : Type 0} (meaning : Meaning D) (x : Span) (name : List ℕ) (target : Target) (text : List ℕ) (who : ℕ) (own : Option ℕ) (w : ToldWork) (p : Place) (a b : Held D) (f : ChangeFault) (len : ℕ) → needed_in f ≡ Some len → IsUpdating meaning x name target text who own w p a
    → HasRefused meaning x who own w p text a b f → HasStayed meaning x a b
refused_stays meaning x name target text who own w p a b f len e u h =
    let r = is_needy meaning x.ended who own _ a b f len e h.answers in
    record {
      stands = r.stands.list;
      unspent = (needy_cause meaning a b f len e h.cause).kept u.at.unspent;
      shape = h.loan.shape;
      stable = h.answers.stable;
      survives = r.stands.survives;
      time = h.loan.time x.ended u.at.stands.list;
    }

pub updating_later : {D : Type 0} (meaning : Meaning D) (x : Span) (name : List ℕ) (target : Target) (text : List ℕ) (who : ℕ) (own : Option ℕ) (w : ToldWork) (p : Place) (a b : Held D) → HasStayed meaning x a b → IsUpdating meaning x name target text who own w p a → IsUpdating meaning x name target text who own w p b
updating_later meaning x name target text who own w p a b s u = record {
  at = stayed_at meaning x own a b u.at s;
  by = u.by;
  size = u.size;
  changing = subst (λ (z : Shape). IsChanging z x (asks name target text) (work_of w)) (sym s.shape) u.changing;
  place_is = u.place_is;
  located = subst (λ (z : Shape). WasAt z x.ended own w.obj w.row p) (sym s.shape) u.located;
}

pub needy_later : (sh sh' : Shape) (x : Span) (own : Option ℕ) (w : ToldWork) (p : Place) (text : List ℕ) (len : ℕ) → sh' ≡ sh → IsNeedy sh x own w p text len → IsNeedy sh' x own w p text len
needy_later sh sh' x own w p text len e h = subst (λ (z : Shape). IsNeedy z x own w p text len) (sym e) h

pub found_later : (sh sh' : Shape) (R : List Record) (q : Sought) (hint : Option ℕ) (f : Found) → sh' ≡ sh → find_of sh R q hint ≡ Some f → find_of sh' R q hint ≡ Some f
found_later sh sh' R q hint f e h = subst (λ (z : Shape). find_of z R q hint ≡ Some f) (sym e) h

meets : {D : Type 0} (meaning : Meaning D) (x : Span) (name : List ℕ) (target : Target) (text : List ℕ) (who : ℕ) (own : Option ℕ) (w : ToldWork) (p : Place) (a : Held D) (len : ℕ) → IsUpdating meaning x name target text who own w p a → IsNeedy a.shape x own w p text len
    → NeedMeets a.shape x.ended own w.obj w.row p.at p.start p.head text len
meets meaning x name target text who own w p a len u e =
    let allowed = u.at.stands.lawful.allowed in
    needs_are_met a.shape x.ended own w.obj w.row p.at p.born p.undo p.start p.head text len u.at.stands.list.within allowed (own_acts a.shape x.ended x.session own allowed u.at.own_is) u.located e

needed : {D : Type 0} (meaning : Meaning D) (x : Span) (name : List ℕ) (target : Target) (text : List ℕ) (who : ℕ) (own : Option ℕ) (w : ToldWork) (p : Place) (a : Held D) (len : ℕ) → IsUpdating meaning x name target text who own w p a → IsNeedy a.shape x own w p text len
    → MeansNeeded x.ended (own_then x) w.obj w.row p.at p.start (blocks_now x (own_then x) p text) (length text) (change_now x (own_then x) w p text None) len
needed meaning x name target text who own w p a len u e = update_means meaning x name target text who own w p a None (BlockNeeded len) u e

-- the search for it is the one that is meant
by_head : (sh : Shape) (R : List Record) (own : Option ℕ) (o len : ℕ) (head : Option Rowid) (p : Rowid) (hint : Option ℕ) (f : Found) → find_of sh R (sought_by own o len head p) hint ≡ Some f → find_of sh R (sought_for own o len (own_blocks (stand_by head p))) hint ≡ Some f
by_head sh R own o len None p hint f h = h
by_head sh R own o len (Some q) p hint f h = h

none_by_head : (sh : Shape) (R : List Record) (own : Option ℕ) (o len : ℕ) (head : Option Rowid) (p : Rowid) → HasNone sh R o (is_usable sh R (sought_by own o len head p)) → HasNone sh R o (is_usable sh R (sought_for own o len (own_blocks (stand_by head p))))
none_by_head sh R own o len None p h = λ b i. h b i
none_by_head sh R own o len (Some q) p h = λ b i. h b i

abbrev sought_now : Span → Option ℕ → ToldWork → Place → List ℕ → Sought
sought_now x own w p text = sought_for own w.obj (length text) (own_blocks (stand_at x.ended p.at))

meant_as : (x : Span) (own : Option ℕ) (w : ToldWork) (p : Place) (text : List ℕ) (len : ℕ) → own_of x.ended x.session ≡ own → stand_at x.ended p.at ≡ stand_by p.head p.at → len ≡ length text → sought_for own w.obj len (own_blocks (stand_by p.head p.at)) ≡ sought_now x (own_then x) w p text
meant_as x own w p text len o s l =
    ap (λ (z : ℕ). sought_for own w.obj z (own_blocks (stand_by p.head p.at))) l
    ∙ (ap (λ (z : Stand). sought_for own w.obj (length text) (own_blocks z)) (sym s) ∙ ap (λ (z : Option ℕ). sought_for z w.obj (length text) (own_blocks (stand_at x.ended p.at))) (sym o))

found_so : {D : Type 0} (meaning : Meaning D) (x : Span) (name : List ℕ) (target : Target) (text : List ℕ) (who : ℕ) (own : Option ℕ) (w : ToldWork) (p : Place) (a : Held D) (len : ℕ) (hint : Option ℕ) (f : Found) → IsUpdating meaning x name target text who own w p a → IsNeedy a.shape x own w p text len
    → find_of a.shape x.ended (sought_by own w.obj len p.head p.at) hint ≡ Some f → find_of a.shape x.ended (sought_now x (own_then x) w p text) hint ≡ Some f
found_so meaning x name target text who own w p a len hint f u e h =
    let m = meets meaning x name target text who own w p a len u e in
    subst (λ (q : Sought). find_of a.shape x.ended q hint ≡ Some f) (meant_as x own w p text len u.at.own_is m.stands m.length_is) (by_head a.shape x.ended own w.obj len p.head p.at hint f h)

seeks_so : {D : Type 0} (meaning : Meaning D) (x : Span) (name : List ℕ) (target : Target) (text : List ℕ) (who : ℕ) (own : Option ℕ) (w : ToldWork) (p : Place) (a : Held D) (len : ℕ) → IsUpdating meaning x name target text who own w p a → IsNeedy a.shape x own w p text len
    → UpdateSeeks x (asks name target text) text (sought_now x (own_then x) w p text)
seeks_so meaning x name target text who own w p a len u e =
    let n = needed meaning x name target text who own w p a len u e in
    needs_seek x name target text w.obj w.row p.at p.start u.changing.stands.on n.past.free ((blocks_are_needed x.ended (own_then x) w.obj w.row (stand_at x.ended p.at) text None).needed n.none).0

-- ---- a block is found

pub is_found_to : {D : Type 0} (meaning : Meaning D) (x : Span) (name : List ℕ) (target : Target) (text : List ℕ) (who : ℕ) (own : Option ℕ) (w : ToldWork) (p : Place) (a : Held D) (len : ℕ) (hint : Option ℕ) (b : ℕ) → IsUpdating meaning x name target text who own w p a → IsNeedy a.shape x own w p text len
    → find_of a.shape x.ended (sought_by own w.obj len p.head p.at) hint ≡ Some (found.Block b) → IsFound a.shape x (asks name target text) b
is_found_to meaning x name target text who own w p a len hint b u e h = record {
  sought = sought_now x (own_then x) w p text;
  seeks = seeks_so meaning x name target text who own w p a len u e;
  hint = hint;
  found_is = found_so meaning x name target text who own w p a len hint (found.Block b) u e h;
}

pub is_target : {D : Type 0} (meaning : Meaning D) (x : Span) (name : List ℕ) (target : Target) (text : List ℕ) (who : ℕ) (own : Option ℕ) (w : ToldWork) (p : Place) (a : Held D) (len : ℕ) (hint : Option ℕ) (b : ℕ) → IsUpdating meaning x name target text who own w p a → IsNeedy a.shape x own w p text len
    → find_of a.shape x.ended (sought_by own w.obj len p.head p.at) hint ≡ Some (found.Block b) → MayBeTarget a.shape x.ended own w.obj (stand_at x.ended p.at) (length text) (Some b)
is_target meaning x name target text who own w p a len hint b u e h = (meets meaning x name target text who own w p a len u e).target hint b h

pub never_needs : {D : Type 0} (meaning : Meaning D) (x : Span) (name : List ℕ) (target : Target) (text : List ℕ) (who : ℕ) (own : Option ℕ) (w : ToldWork) (p : Place) (a b : Held D) (block : ℕ) (f : ChangeFault) → IsUpdating meaning x name target text who own w p a
    → Answers meaning x.ended who own (update_answer a.shape x.ended own w.obj w.row p.at p.start text (Some block)) a b (Err f) → (l : ℕ) → f ≡ changes.NeedsBlock l → ⊥
never_needs meaning x name target text who own w p a b block f u h l e =
    let r = is_needy meaning x.ended who own _ a b f l (ap needed_in e) h in
    let m : MeansNeeded x.ended (own_then x) w.obj w.row p.at p.start (blocks_now x (own_then x) p text) (length text) (change_now x (own_then x) w p text (Some block)) l = update_means meaning x name target text who own w p a (Some block) (BlockNeeded l) u r.answer_is in
    none_some block _ (sym ((blocks_are_needed x.ended (own_then x) w.obj w.row (stand_at x.ended p.at) text (Some block)).needed m.none).1)

-- ---- a mark moves

pub mark_is_next : {D : Type 0} (meaning : Meaning D) (x : Span) (name : List ℕ) (target : Target) (text : List ℕ) (who : ℕ) (own : Option ℕ) (w : ToldWork) (p : Place) (a : Held D) (len : ℕ) (hint : Option ℕ) (m : MarkStep) → IsUpdating meaning x name target text who own w p a
    → find_of a.shape x.ended (sought_by own w.obj len p.head p.at) hint ≡ Some (found.Mark m) → next_mark a.shape x.ended w.obj ≡ Some m
mark_is_next meaning x name target text who own w p a len hint m u f =
    let allowed = u.at.stands.lawful.allowed in
    mark_next a.shape x.ended (sought_by own w.obj len p.head p.at) hint m u.at.stands.list.within allowed (row_table a.shape a.shape x (asks name target text) (work_of w) allowed u.changing) f

pub marks_moved_on : {D : Type 0} (meaning : Meaning D) (x : Span) (name : List ℕ) (target : Target) (text : List ℕ) (who : ℕ) (own : Option ℕ) (w : ToldWork) (p : Place) (a b : Held D) (len : ℕ) (hint : Option ℕ) (m : MarkStep) → IsUpdating meaning x name target text who own w p a → IsNeedy a.shape x own w p text len
    → find_of a.shape x.ended (sought_by own w.obj len p.head p.at) hint ≡ Some (found.Mark m) → SameLoan meaning a b → Adds {T = Unit {0}} meaning x.ended (mark_record a.shape x.ended w.obj m ∷ x.ended) a b (Ok tt)
    → HasActed meaning x (Some (asks name target text)) a b (Ok (record { turned = turned.On (told.OnRow w); own = own }))
marks_moved_on meaning x name target text who own w p a b len hint m u e f loan adds =
    let st = asks name target text in
    let sh = a.shape in
    let R = x.ended in
    let k = u.changing in
    let shape = u.at.stands.list.within in
    let lawful = u.at.stands.lawful in
    let table = row_table sh sh x st (work_of w) lawful.allowed k in
    let next = mark_is_next meaning x name target text who own w p a len hint m u f in
    let allowed = ((marks_are_allowed sh R w.obj shape lawful table).lawful m next).allowed in
    let n = needed meaning x name target text who own w p a len u e in
    let away = ((blocks_are_needed R (own_then x) w.obj w.row (stand_at R p.at) text None).needed n.none).0 in
    let makes = updates_move sh x.scripts x.past x.session R name target text w.obj w.row (stand_at R p.at) hint m shape lawful.allowed (still_its sh x name target text (work_of w) k) (still_meant sh x name target text (work_of w) k) n.past.free.write away n.past.entries
    (found_so meaning x name target text who own w p a len hint (found.Mark m) u e f) in
    acted_adds {T = Unit {0}} meaning x (Some st) own a b tt (mark_record sh R w.obj m ∷ R) (record { turned = turned.On (told.OnRow w); own = own }) u.at loan adds
    (record { done = done_one (mark_record sh R w.obj m) done_none (mark_may sh x.scripts x.past x.session (Some st) R R w.obj m makes); passed = inr k.passed })
    (record {
      turns = record {
        passed = update_later sh x (mark_record sh R w.obj m ∷ R) name target text k.passed;
        fits = marks_leave_work sh x (Some st) (OnRow (work_of w)) w.obj m allowed tt k.stands;
        whole = λ z. mark_backed sh R R w.obj x.session m ∙ k.whole;
      };
      own = mark_own sh R R w.obj x.session m ∙ u.at.own_is;
      kept = marks_keep sh R own (told.OnRow w) w.obj m (place_kept sh R own w p u.place_is u.located);
    })

-- ---- no block is found

no_block : {D : Type 0} (meaning : Meaning D) (x : Span) (name : List ℕ) (target : Target) (text : List ℕ) (who : ℕ) (own : Option ℕ) (w : ToldWork) (p : Place) (a : Held D) (len : ℕ) → IsUpdating meaning x name target text who own w p a → IsNeedy a.shape x own w p text len
    → HasNone a.shape x.ended w.obj (is_usable a.shape x.ended (sought_by own w.obj len p.head p.at)) → HasNone a.shape x.ended w.obj (is_usable a.shape x.ended (sought_now x (own_then x) w p text))
no_block meaning x name target text who own w p a len u e h =
    let m = meets meaning x name target text who own w p a len u e in
    subst (λ (q : Sought). HasNone a.shape x.ended w.obj (is_usable a.shape x.ended q)) (meant_as x own w p text len u.at.own_is m.stands m.length_is) (none_by_head a.shape x.ended own w.obj len p.head p.at h)

entry_pass : {D : Type 0} (meaning : Meaning D) (x : Span) (name : List ℕ) (target : Target) (text : List ℕ) (who : ℕ) (own : Option ℕ) (w : ToldWork) (p : Place) (a : Held D) (len : ℕ) → IsUpdating meaning x name target text who own w p a → IsNeedy a.shape x own w p text len → EntryPass x (asks name target text)
entry_pass meaning x name target text who own w p a len u e =
    let n = needed meaning x name target text who own w p a len u e in
    entries_pass a.shape x (asks name target text) w.obj w.row (stand_at x.ended p.at) u.at.stands.lawful.allowed u.changing.stands.on n.past.free.write n.past.entries

no_space : {D : Type 0} (meaning : Meaning D) (x : Span) (name : List ℕ) (target : Target) (text : List ℕ) (who : ℕ) (own : Option ℕ) (w : ToldWork) (p : Place) (a : Held D) (len need : ℕ) → IsUpdating meaning x name target text who own w p a → IsNeedy a.shape x own w p text len
    → LacksSpace a.shape x.ended (sought_by own w.obj len p.head p.at) need → IsRefusedSo a.shape x (asks name target text) (why.NoSpace need)
no_space meaning x name target text who own w p a len need u e l =
    no_space_is_refused a.shape x (asks name target text) need (row_pending a.shape x (asks name target text) (work_of w) u.changing) (entry_pass meaning x name target text who own w p a len u e) (record {
      sought = sought_now x (own_then x) w p text;
      none = record { seeks = seeks_so meaning x name target text who own w p a len u e; none_takes = no_block meaning x name target text who own w p a len u e (λ b h. l.none_takes b h); full = record { formatted = l.full.formatted; high = l.full.high } };
      length_is = l.is_length ∙ (needed meaning x name target text who own w p a len u e).length_is;
      no_extent = l.none_free;
      few = l.few;
    })

most_extents : {D : Type 0} (meaning : Meaning D) (x : Span) (name : List ℕ) (target : Target) (text : List ℕ) (who : ℕ) (own : Option ℕ) (w : ToldWork) (p : Place) (a : Held D) (len count : ℕ) → IsUpdating meaning x name target text who own w p a → IsNeedy a.shape x own w p text len
    → HasMostExtents a.shape x.ended (sought_by own w.obj len p.head p.at) count → IsRefusedSo a.shape x (asks name target text) (why.MaxExtents count)
most_extents meaning x name target text who own w p a len count u e l =
    max_extents_is_refused a.shape x (asks name target text) count (row_pending a.shape x (asks name target text) (work_of w) u.changing) (entry_pass meaning x name target text who own w p a len u e) (record {
      sought = sought_now x (own_then x) w p text;
      none = record { seeks = seeks_so meaning x name target text who own w p a len u e; none_takes = no_block meaning x name target text who own w p a len u e (λ b h. l.none_takes b h); full = record { formatted = l.full.formatted; high = l.full.high } };
      count_is = l.is_most;
      most = l.most;
    })

finds_none : {D : Type 0} (meaning : Meaning D) (x : Span) (name : List ℕ) (target : Target) (text : List ℕ) (who : ℕ) (own : Option ℕ) (w : ToldWork) (p : Place) (a b : Held D) (len : ℕ) (f : FindFault) → IsUpdating meaning x name target text who own w p a → IsNeedy a.shape x own w p text len
    → HasLooked {T = Unit {0}} meaning a b (store_part (Err f)) → IsRefusedBy a.shape x.ended (sought_by own w.obj len p.head p.at) f → IsSoundFind f → HasActed meaning x (Some (asks name target text)) a b (not_found f own)
finds_none meaning x name target text who own w p a b len (finds.NoSpace need) u e h r s =
    looked_refused meaning x (asks name target text) (why.NoSpace need) own a b tt u.at u.changing.whole h (no_space meaning x name target text who own w p a len need u e r)
finds_none meaning x name target text who own w p a b len (finds.MaxExtents count) u e h r s =
    looked_refused meaning x (asks name target text) (why.MaxExtents count) own a b tt u.at u.changing.whole h (most_extents meaning x name target text who own w p a len count u e r)
finds_none meaning x name target text who own w p a b len (finds.Store fault) u e h r s = acted_looked {A = Unit {0}} meaning x (Some (asks name target text)) own a b fault u.at h s

pub update_unfound : {D : Type 0} (meaning : Meaning D) (x : Span) (name : List ℕ) (target : Target) (text : List ℕ) (who : ℕ) (own : Option ℕ) (w : ToldWork) (p : Place) (a b : Held D) (len : ℕ) (f : FindFault) (r : Result Acted StoreFault) → r ≡ not_found f own → IsUpdating meaning x name target text who own w p a
    → IsNeedy a.shape x own w p text len → HasLooked {T = Unit {0}} meaning a b (store_part (Err f)) → IsRefusedBy a.shape x.ended (sought_by own w.obj len p.head p.at) f → IsSoundFind f → HasActed meaning x (Some (asks name target text)) a b r
update_unfound meaning x name target text who own w p a b len f r z u e h g s = subst (λ (y : Result Acted StoreFault). HasActed meaning x (Some (asks name target text)) a b y) (sym z) (finds_none meaning x name target text who own w p a b len f u e h g s)

-- ---- a look after the event's record

turns_looked : (sh : Shape) (x : Span) (st : Option Statement) (R : List Record) (z : Acted) (r : Result Acted StoreFault) → IfOk r (λ y. y ≡ z) → Turns sh x st R z → IfOk r (Turns sh x st R)
turns_looked sh x st R z (Ok y) e h = subst (λ (v : Acted). Turns sh x st R v) (sym e) h
turns_looked sh x st R z (Err f) e h = tt

pub acted_then_looked : {D : Type 0} (meaning : Meaning D) (x : Span) (st : Option Statement) (a b c : Held D) (z : Acted) (r : Result Acted StoreFault) → HasActed meaning x st a b (Ok z) → HasLooked {T = Acted} meaning b c r → IfOk r (λ y. y ≡ z) → IfErr r IsSoundFault → HasActed meaning x st a c r
acted_then_looked meaning x st a b c z r h l e s = record {
  records = h.records;
  stands = l.stays_true h.records h.stands;
  acts = h.acts;
  stable = le_trans h.stable (l.stable h.records h.stands.list);
  survives = λ since needed v. l.survives since needed h.records h.stands (h.survives since needed v);
  time = le_trans h.time (l.loan.time h.records h.stands.list);
  turns = turns_looked a.shape x st h.records z r e h.turns;
  sound = s;
}

pub called_then_looked : {D : Type 0} (meaning : Meaning D) (a b c : Held D) (done : Done) (r : Result Acted StoreFault) → a.fault ≡ None → SameLoan meaning a b → HasCause {T = Option Done} meaning a b (store_answer (Ok done)) → HasLooked {T = Acted} meaning b c r → HasCalled meaning a c r
called_then_looked meaning a b c done r n loan cause l =
    called_on {A = Option Done} {T = Acted} meaning a b c (Some done) r (called_ok {A = Option Done} {T = Option Done} meaning a b (Some done) (Some done) n loan cause) (called_of {T = Acted} meaning b c r (cause.kept n) l.loan l.cause)

pub needy_called : {D : Type 0} (meaning : Meaning D) (a b c : Held D) (f : ChangeFault) (len : ℕ) (r : Result Acted StoreFault) → needed_in f ≡ Some len → a.fault ≡ None → SameLoan meaning a b → HasCause {T = Option Done} meaning a b (refused_so f) → HasCalled meaning b c r → HasCalled meaning a c r
needy_called meaning a b c f len r e n loan cause h =
    called_on {A = Option Done} {T = Acted} meaning a b c None r (called_ok {A = Option Done} {T = Option Done} meaning a b None None n loan (needy_cause meaning a b f len e cause)) h

-- ---- what is sought

pub sought_other : (o len : ℕ) (taker : Taker) (but : List (Option ℕ)) (own : Option ℕ) (head : Option Rowid) (p : Rowid) → taker ≡ taker_of own → but ≡ blocks_by head p → sought o len taker but ≡ sought_by own o len head p
sought_other o len taker but own head p e f = ap₂ (λ (t : Taker) (bs : List (Option ℕ)). sought o len t bs) e f

-- ---- the blocks that it notes

-- an update that is refused or starts again notes none
pub unchanged_notes : (sh : Shape) (R : List Record) (own : Option ℕ) (w : ToldWork) (p : Place) (text : List ℕ) (hint : Option ℕ) (c : Changed) (f : ChangeFault) (r : Result Acted StoreFault) → IsNotChanged f w own r → NotesSo sh R own w p text hint c c r
unchanged_notes sh R own w p text hint c (changes.Busy t) r g = subst (λ (z : Result Acted StoreFault). NotesSo sh R own w p text hint c c z) (sym g) refl
unchanged_notes sh R own w p text hint c (changes.Changed s) (Ok a) g = elim g [
  | inl y ↦ subst (λ (z : Acted). NotesSo sh R own w p text hint c c (Ok z)) (sym y.is) refl
  | inr y ↦ subst (λ (z : Acted). NotesSo sh R own w p text hint c c (Ok z)) (sym y.is) refl
]
unchanged_notes sh R own w p text hint c (changes.Changed s) (Err f) g = refl
unchanged_notes sh R own w p text hint c (changes.NoSlot ts) r g = subst (λ (z : Result Acted StoreFault). NotesSo sh R own w p text hint c c z) (sym g) refl
unchanged_notes sh R own w p text hint c (changes.NeedsBlock l) r g = subst (λ (z : Result Acted StoreFault). NotesSo sh R own w p text hint c c z) (sym g) refl
unchanged_notes sh R own w p text hint c (changes.UndoFull hs) r g = subst (λ (z : Result Acted StoreFault). NotesSo sh R own w p text hint c c z) (sym g) refl
unchanged_notes sh R own w p text hint c (changes.Store fault) r g = subst (λ (z : Result Acted StoreFault). NotesSo sh R own w p text hint c c z) (sym g) refl

-- nor does one that finds no block, or moves the marks
pub unfound_notes : (sh : Shape) (R : List Record) (own : Option ℕ) (w : ToldWork) (p : Place) (text : List ℕ) (hint : Option ℕ) (c : Changed) (f : FindFault) (r : Result Acted StoreFault) → r ≡ not_found f own → NotesSo sh R own w p text hint c c r
unfound_notes sh R own w p text hint c (finds.NoSpace need) r e = subst (λ (z : Result Acted StoreFault). NotesSo sh R own w p text hint c c z) (sym e) refl
unfound_notes sh R own w p text hint c (finds.MaxExtents count) r e = subst (λ (z : Result Acted StoreFault). NotesSo sh R own w p text hint c c z) (sym e) refl
unfound_notes sh R own w p text hint c (finds.Store fault) r e = subst (λ (z : Result Acted StoreFault). NotesSo sh R own w p text hint c c z) (sym e) refl

pub marks_note : (sh : Shape) (R : List Record) (own : Option ℕ) (w : ToldWork) (p : Place) (text : List ℕ) (hint : Option ℕ) (c : Changed) (r : Result Acted StoreFault) → IfOk r (λ a. a ≡ record { turned = turned.On (told.OnRow w); own = own }) → NotesSo sh R own w p text hint c c r
marks_note sh R own w p text hint c (Ok a) e = subst (λ (z : Acted). NotesSo sh R own w p text hint c c (Ok z)) (sym e) refl
marks_note sh R own w p text hint c (Err f) e = refl

pub notes_later : (sh sh' : Shape) (R : List Record) (own : Option ℕ) (w : ToldWork) (p : Place) (text : List ℕ) (hint : Option ℕ) (old new : Changed) (r : Result Acted StoreFault) → sh' ≡ sh → NotesSo sh' R own w p text hint old new r → NotesSo sh R own w p text hint old new r
notes_later sh sh' R own w p text hint old new r e h = subst (λ (z : Shape). NotesSo z R own w p text hint old new r) e h

-- one that goes to another block
pub migrated_notes : {D : Type 0} (meaning : Meaning D) (x : Span) (name : List ℕ) (target : Target) (text : List ℕ) (who : ℕ) (own : Option ℕ) (w : ToldWork) (p : Place) (a : Held D) (len : ℕ) (hint : Option ℕ) (b : ℕ) (old new : Changed) (done : Done) (z : Acted) → IsUpdating meaning x name target text who own w p a
    → IsNeedy a.shape x own w p text len → find_of a.shape x.ended (sought_by own w.obj len p.head p.at) hint ≡ Some (found.Block b) → new ≡ with_target (home_blocks p.head p.at) b → z ≡ updated done → NotesSo a.shape x.ended own w p text hint old new (Ok z)
migrated_notes meaning x name target text who own w p a len hint b old new done z u e f n is =
    let R = x.ended in
    let m = meets meaning x name target text who own w p a len u e in
    let change_is : change_by R w.obj w.row (stand_by p.head p.at) text (Some b) ToOther ≡ Some (migrate_of R w.obj w.row (stand_by p.head p.at) b text) = refl in
    let way : path_of R own (stand_by p.head p.at) (length text) ≡ ToOther = subst (λ (s : Stand). path_of R own s (length text) ≡ ToOther) m.stands m.away in
    let noted : UpdateNotes a.shape R own w p text hint new = record {
      to = Some b;
      found = subst (λ (l : ℕ). find_of a.shape R (sought_by own w.obj l p.head p.at) hint ≡ Some (found.Block b)) m.length_is f;
      change = migrate_of R w.obj w.row (stand_by p.head p.at) b text;
      change_is = subst (λ (s : Stand). change_by R w.obj w.row s text (Some b) (path_of R own s (length text)) ≡ Some (migrate_of R w.obj w.row (stand_by p.head p.at) b text)) (sym m.stands)
          (subst (λ (y : Path). change_by R w.obj w.row (stand_by p.head p.at) text (Some b) y ≡ Some (migrate_of R w.obj w.row (stand_by p.head p.at) b text)) (sym way) change_is);
      each = λ d. subst (λ (c : Changed). is_noted c d ≡ is_filled (migrate_of R w.obj w.row (stand_by p.head p.at) b text).fills d) (sym n) (migrated_noted R w.obj w.row p.head p.at b text d);
    } in
    subst (λ (y : Acted). NotesSo a.shape R own w p text hint old new (Ok y)) (sym is) noted

-- one that needs no other block
home_notes_ok : (sh : Shape) (R : List Record) (own : Option ℕ) (w : ToldWork) (p : Place) (text : List ℕ) (hint : Option ℕ) (old new : Changed) (done : Done) (left : Bool) (r : Result Acted StoreFault) → IfOk r (λ y. y ≡ updated done) → NotesHome left p old new r → (new ≡ home_noted left p → UpdateNotes sh R own w p text hint new)
    → NotesSo sh R own w p text hint old new r
home_notes_ok sh R own w p text hint old new done left (Ok z) e h k = subst (λ (y : Acted). NotesSo sh R own w p text hint old new (Ok y)) (sym e) (k h)
home_notes_ok sh R own w p text hint old new done left (Err f) e h k = h

pub home_notes : {D : Type 0} (meaning : Meaning D) (x : Span) (name : List ℕ) (target : Target) (text : List ℕ) (who : ℕ) (own : Option ℕ) (w : ToldWork) (p : Place) (a b : Held D) (hint : Option ℕ) (old new : Changed) (done : Done) (r : Result Acted StoreFault) → IsUpdating meaning x name target text who own w p a → SameLoan meaning a b
    → Answers meaning x.ended who own (update_answer a.shape x.ended own w.obj w.row p.at p.start text None) a b (Ok done) → IfOk r (λ y. y ≡ updated done) → ((R : List Record) → IsTrue meaning R b → NotesHome (is_empty_in p.at.slot (page_of b.shape R p.at.dba)) p old new r) → NotesSo a.shape x.ended own w p text hint old new r
home_notes meaning x name target text who own w p a b hint old new done r u loan answers e notes =
    let sh = a.shape in
    let R = x.ended in
    let lawful = u.at.stands.lawful in
    let m = answers.is in
    let c = m.change in
    let active = own_acts sh R x.session own lawful.allowed u.at.own_is in
    let was = was_found meaning x (asks name target text) w own a p u.at u.changing u.place_is in
    let means : MeansNow sh x own w p text None (Makes c) = subst (λ (z : Answer). MeansNow sh x own w p text None z) m.answer_is (answers_mean sh R own w.obj w.row p.at p.born p.undo p.start (blocks_now x own p text) (length text) (change_now x own w p text None) lawful.allowed active was) in
    let born = born_now sh R own w.obj w.row p.at p.born p.undo p.start lawful.allowed active was means.past.free.unchanged in
    let here = (places_show sh R own w.obj w.row p.at p.born p.undo p.start lawful.allowed active was born).here in
    let stands = heads_stay sh R own w.obj w.row p.at p.born p.undo p.start p.head lawful.allowed active u.located means.past.free in
    let way = path_of R own (stand_at R p.at) (length text) in
    let is : change_by R w.obj w.row (stand_by p.head p.at) text None way ≡ Some c = subst (λ (s : Stand). change_by R w.obj w.row s text None way ≡ Some c) stands means.change_is in
    let left : is_empty_in p.at.slot (page_of b.shape m.next p.at.dba) ≡ left_by way =
    ap (λ (z : Shape). is_empty_in p.at.slot (page_of z m.next p.at.dba)) loan.shape
    ∙ place_left sh R who own c m.next w.obj w.row p.head p.at text way u.at.stands.list.within (subst (λ (z : Shape). IsLawful z m.next) loan.shape m.stands.list.lawful) here m.next_is (subst (λ (s : Stand). StandsAt R w.row s) stands means.past.free.write.stands) is in
    home_notes_ok sh R own w p text hint old new done (is_empty_in p.at.slot (page_of b.shape m.next p.at.dba)) r e (notes m.next m.stands.list) (λ n. record {
      to = None;
      found = tt;
      change = c;
      change_is = means.change_is;
      each = λ d. subst (λ (z : Changed). is_noted z d ≡ is_filled c.fills d) (sym (n ∙ ap (λ (v : Bool). home_noted v p) left)) (stayed_noted R w.obj w.row p.head p.at text way c d is);
    })
