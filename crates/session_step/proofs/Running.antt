-- What an event leads to, from its start to its entry.
use Rattle.std.proofs.Common.{◌≡◌, [], le_trans, le_refl, ℕ, suc, ◌≤◌, cond, eqb, ne_eqb, eq-eqb, List, ◌∷◌, length, Option, Some, None, refl, sym, ◌∙◌, ap, ap₂, subst, arith}
use Rattle.std.specs.Prelude.{slice_get, is_some, Result, Ok, Err, OnOk, OnErr, IfErr}
use Rattle.seg_words.proofs.Lemmas.{cond-true, cond-false}
use Rattle.seg_words.specs.Types.{Shape, MOST_SESSIONS}
use Rattle.disk_model.specs.Crash.{Meaning}
use Rattle.redo_model.specs.Records.{Record}
use Rattle.redo_model.specs.Model.{Extends, AreAllowed, IsLawful, prefix}
use Rattle.redo_laws.proofs.lists.Prefixes.{prefix_longer, prefix_extends, prefix_size}
use Rattle.script_text.specs.declared.statement.Statement.{Statement}
use Rattle.script_text.specs.declared.statement.Statement.TheVariants as asked
use Rattle.history_text.specs.declared.outcome.Outcome.{Outcome}
use Rattle.history_text.specs.declared.outcome.Outcome.TheVariants as outcome
use Rattle.history_text.specs.declared.entry.Entry.{Entry}
use Rattle.history_model.specs.declared.history.HistoryItem.{HistoryItem}
use Rattle.history_model.specs.declared.history.HistoryItem.TheVariants as item
use Rattle.history_model.specs.History.{Task, script_of, statement_of, ordinal_of, AreInTime}
use Rattle.history_model.specs.Spans.{Span}
use Rattle.history_model.specs.Legal.{IsLegal}
use Rattle.history_laws.specs.Events.{Goes}
use Rattle.history_laws.specs.Working.{now_of, later}
use Rattle.history_laws.specs.Telling.{entry_now}
use Rattle.history_laws.proofs.Frames.{events_leave_transactions}
use Rattle.session_model.specs.Doings.{Doing, Waiting}
use Rattle.session_model.specs.Sessions.{Session, session_since}
use Rattle.session_model.specs.Worlds.{IsWorld, IsReady, Midway, Acts, GoesOn, IsOverWith, IsNext}
use Rattle.session_model.specs.Laws.{Binds}
use Rattle.session_model.proofs.Alone.{done_extends}
use Rattle.session_model.proofs.Going.{acts_go}
use Rattle.session_model.proofs.Events.{events_go_on, events_end, events_fail, none_is_busy, shrinks_are_busy}
use Rattle.store_core.specs.Store.{Held, IsTrue}
use Rattle.store_core.specs.Causes.{IsSoundFault}
use Rattle.store_core.specs.declared.fault.StoreFault.{StoreFault}
use Rattle.store_core.specs.declared.fault.StoreFault.TheVariants.{NoMemory}
use Rattle.scan_table.specs.declared.scan.OpenScan.{OpenScan}
use Rattle.scan_table.specs.Places.{place}
use Rattle.session_core.specs.declared.session.Doing.{Doing as ToldDoing}
use Rattle.session_core.specs.declared.session.Doing.TheVariants as told
use Rattle.session_core.specs.declared.turned.Turned.{Turned}
use Rattle.session_core.specs.declared.turned.Turned.TheVariants as turned
use Rattle.session_core.specs.declared.turned.Acted.{Acted}
use Rattle.session_core.specs.declared.changed.Changed.{Changed}
use Rattle.session_core.specs.declared.dues.Dues.{Dues}
use Rattle.session_core.specs.Acting.{HasCalled}
use Rattle.session_core.specs.Dues.{noted_after}
use Rattle.session_core.specs.Acked.{AcksOutcome, AcksTurned}
use Rattle.session_core.specs.Located.{KeepsDoing, KeepsTurned}
use Rattle.session_core.specs.Scanned.{IsKept, TurnsAt, doing_at}
use Rattle.session_core.specs.Shrinkers.{shrinker_of}
use Rattle.session_core.specs.Starting.{IsBusyBy}
use Rattle.session_core.proofs.Located.{others_keep_places}
use Rattle.session_step.specs.declared.session.Session.{Session as Told}
use Rattle.session_step.specs.Bindings.{row_of, AreBoundOf, AreBoundTurned, inserted_row}
use Rattle.session_step.specs.Stages.{Stage, IsHeld, IsMidway, IsShrinker, session_at}
use Rattle.session_step.specs.Turning.{IsTurnOf, KnowsShrinks, HasTurned}
use Rattle.session_step.specs.Telling.{entry_ordinal, Finishes, IsAcked, IsEntryOf, OfNewest}
use Rattle.session_step.specs.Events.{Closes, closes_none, closes_one}
use Rattle.session_step.specs.Stepping.{HasRunOn, Owes}

-- a statement by its place in its session's script
at_place : (scripts : List (List Statement)) (script : List Statement) (w n : ℕ) → script_of scripts w ≡ script → slice_get script n ≡ statement_of scripts w n
at_place scripts script w n e = ap (λ (z : List Statement). slice_get z n) (sym e)

-- the span with the records afterwards
span_later : (scripts : List (List Statement)) (Q R : List Record) (w : ℕ) (task : Task) → Extends Q R → task.begins ≤ length Q → later (now_of scripts Q w task) R ≡ now_of scripts R w task
span_later scripts Q R w task e l = ap (λ (B : List Record). span scripts w task B R) (sym (prefix_longer Q R task.begins e l))
  where
    span : List (List Statement) → ℕ → Task → List Record → List Record → Span
    span scripts w task B E = record { session = w; scripts = scripts; past = task.past; begun = B; ended = E }

acts_extend : (sh : Shape) (x : Span) (st : Option Statement) (R : List Record) → Acts sh x st R → Extends x.ended R
acts_extend sh x st R a = done_extends sh x.scripts x.past x.session st x.ended R a.done

acts_as : (sh : Shape) (x : Span) (st st' : Option Statement) (R : List Record) → st ≡ st' → Acts sh x st R → Acts sh x st' R
acts_as sh x st st' R e a = subst (λ (z : Option Statement). Acts sh x z R) e a

-- ---- what the statement's event finds in the midst of the run

waits_at : (p : Option OpenScan) (d : ToldDoing) → d ≡ told.Waiting → doing_at p d ≡ Waiting
waits_at p d e = ap (λ (z : ToldDoing). doing_at p z) e

pub turn_now : {D : Type 0} (meaning : Meaning D) (scripts : List (List Statement)) (script : List Statement) (R0 R : List Record) (sessions : ℕ → Session) (w : ℕ) (task : Task) (a : Stage D) → 1 ≤ w → w ≤ MOST_SESSIONS → a.store.fault ≡ None → script_of scripts w ≡ script → IsMidway meaning scripts R0 R sessions w task a → IsTurnOf meaning (now_of scripts R w task) (slice_get script a.session.told) w a.session.own a.labels (place w a.scans) a.session.doing a.store
turn_now meaning scripts script R0 R sessions w task a from to unspent e m = record {
  at = record { stands = m.stands; unspent = unspent; own_is = m.own };
  by = record { session = refl; from = from; to = to };
  extends = prefix_extends R task.begins;
  ready = subst (λ (o : Option Statement). IsReady a.store.shape (now_of scripts R w task) o (doing_at (place w a.scans) a.session.doing)) (sym (at_place scripts script w a.session.told e)) m.midway.ready;
  whole = m.midway.whole;
  labelled = λ y. (m.midway.first (waits_at (place w a.scans) a.session.doing y)).labelled;
  shaped = m.shaped;
  held = m.held;
  located = m.located;
}

-- as it starts the list tells which other session's shrink is the cause of a refusal
pub knows_now : {D : Type 0} (meaning : Meaning D) (scripts : List (List Statement)) (R0 R : List Record) (sessions : ℕ → Session) (w : ℕ) (task : Task) (a : Stage D) (d : ToldDoing) → d ≡ a.session.doing → IsMidway meaning scripts R0 R sessions w task a → KnowsShrinks (now_of scripts R w task) a.shrinks d
knows_now meaning scripts R0 R sessions w task a d same m y name o named = tells (shrinker_of a.shrinks o) (m.shrinks o)
  where
    waits : doing_at (place w a.scans) a.session.doing ≡ Waiting
    waits = waits_at (place w a.scans) a.session.doing (sym same ∙ y)

    tells : (q : Option ℕ) → IsShrinker scripts sessions w o q → IsBusyBy (now_of scripts R w task) name q
    tells None h = none_is_busy a.store.shape scripts R0 R a.history sessions (row_of a.labels) w task (session_at (place w a.scans) a.session) name o waits m.midway named h
    tells (Some v) h = shrinks_are_busy a.store.shape scripts R0 R a.history sessions (row_of a.labels) w task (session_at (place w a.scans) a.session) name o v waits m.midway named h.0 h.1 h.2

-- of what it was at, taken out of it
pub turn_taken : {D : Type 0} (meaning : Meaning D) (x : Span) (st : Option Statement) (w : ℕ) (own : Option ℕ) (labels : List (List ℕ × ℕ)) (p : Option OpenScan) (d e : ToldDoing) (s : Held D) → d ≡ e → IsTurnOf meaning x st w own labels p e s → IsTurnOf meaning x st w own labels p d s
turn_taken meaning x st w own labels p d e s same t = subst (λ (z : ToldDoing). IsTurnOf meaning x st w own labels p z s) (sym same) t

-- with how many records its statement began
pub begins_now : {D : Type 0} (meaning : Meaning D) (scripts : List (List Statement)) (R0 R : List Record) (sessions : ℕ → Session) (w : ℕ) (task : Task) (a : Stage D) → IsMidway meaning scripts R0 R sessions w task a → a.session.begins ≡ length (prefix R task.begins)
begins_now meaning scripts R0 R sessions w task a m = sym m.midway.begins ∙ sym (prefix_size R task.begins m.midway.within)

-- a session's end has a transaction to take back
pub closing_now : {D : Type 0} (meaning : Meaning D) (scripts : List (List Statement)) (script : List Statement) (R0 R : List Record) (sessions : ℕ → Session) (w : ℕ) (task : Task) (a : Stage D) → script_of scripts w ≡ script → IsMidway meaning scripts R0 R sessions w task a → slice_get script a.session.told ≡ None
    → a.session.own ≡ None → ⊥
closing_now meaning scripts script R0 R sessions w task a e m z n = m.midway.closing (sym (at_place scripts script w a.session.told e) ∙ z) (m.own ∙ n)

-- ---- what it leaves of the others, and its moment

-- its records are those of its session
goes_now : (sh : Shape) (scripts : List (List Statement)) (R0 Q R : List Record) (T : List HistoryItem) (sessions : ℕ → Session) (labels : List ℕ → Option ℕ) (w : ℕ) (task : Task) (s : Session) → AreAllowed sh R → Midway sh scripts R0 Q T sessions labels w task s
    → Acts sh (now_of scripts Q w task) (statement_of scripts w s.told) R → Goes sh scripts T w Q R
goes_now sh scripts R0 Q R T sessions labels w task s a m x = (acts_go sh scripts R0 Q T sessions labels w task s R m a x).goes

pub later_in_time : (m n : ℕ) (T : List HistoryItem) → m ≤ n → AreInTime m T → AreInTime n T
later_in_time m n [] l h = tt
later_in_time m n (item.Started s ∷ T) l h = later_in_time m n T l h
later_in_time m n (item.Told e k ∷ T) l h = (le_trans h.0 l, h.1)

finished_in_time : (w k n before now : ℕ) (v : Turned) (own : Option ℕ) (s t : Told) (T U : List HistoryItem) → before ≤ now → Finishes w k n now (record { turned = v; own = own }) s t T U → AreInTime before T → AreInTime now U
finished_in_time w k n before now (turned.On d) own s t T U l f h = subst (AreInTime now) (sym f.1) (later_in_time before now T l h)
finished_in_time w k n before now (turned.Over outcome kept) own s t T U l f h = subst (AreInTime now) (sym f.1) (le_refl now, later_in_time before now T l h)

-- ---- an event that fails

pub run_fails : {D : Type 0} (meaning : Meaning D) (scripts : List (List Statement)) (script : List Statement) (R0 R : List Record) (sessions : ℕ → Session) (w : ℕ) (task : Task) (a b : Stage D) (r : Result Acted StoreFault) (f : StoreFault) → b.store.shape ≡ a.store.shape → b.history ≡ a.history → b.session.told ≡ a.session.told
    → IsSoundFault f → script_of scripts w ≡ script → IsMidway meaning scripts R0 R sessions w task a → HasTurned meaning (now_of scripts R w task) (slice_get script a.session.told) w a.scans b.scans a.store b.store r → HasRunOn meaning scripts R0 R sessions w a b (Err f)
run_fails meaning scripts script R0 R sessions w task a b r f shape alike same sound e m h = record {
  run = record {
    records = h.acted.records;
    stands = h.acted.stands;
    stable = h.acted.stable;
    survives = h.acted.survives;
    time = h.acted.time;
    legal = subst (IsLegal a.store.shape scripts R0 h.acted.records) (sym alike) (events_fail a.store.shape scripts R0 R h.acted.records a.history sessions (row_of a.labels) w task (session_at (place w a.scans) a.session) lawful m.midway acts);
    world = tt;
    own = tt;
    shaped = h.acted.placed;
    held = tt;
    located = tt;
    marks = h.marks;
    others = λ v ne. events_leave_transactions a.store.shape scripts a.history w R h.acted.records v lawful.allowed (λ z. ne (sym z)) goes;
    others_located = λ v d ne k. others_keep_places a.store.shape scripts a.history w R h.acted.records v d lawful.allowed (λ z. ne (sym z)) goes k;
    in_time = λ z. subst (AreInTime (meaning.clock b.store.disk)) (sym alike) (later_in_time (meaning.clock a.store.disk) (meaning.clock b.store.disk) a.history h.acted.time z);
    entry = λ y. (let k : suc a.session.told ≡ a.session.told = sym y ∙ same in absurd (omega (arith, k)));
    untold = same;
    sound = sound;
  };
  goes = goes;
  closes = subst (Closes h.acted.records w a.history) (sym alike) closes_none;
}
  where
    lawful : IsLawful a.store.shape h.acted.records
    lawful = subst (λ (z : Shape). IsLawful z h.acted.records) shape h.acted.stands.lawful

    acts : Acts a.store.shape (now_of scripts R w task) (statement_of scripts w a.session.told) h.acted.records
    acts = acts_as a.store.shape (now_of scripts R w task) (slice_get script a.session.told) (statement_of scripts w a.session.told) h.acted.records (at_place scripts script w a.session.told e) h.acted.acts

    goes : Goes a.store.shape scripts a.history w R h.acted.records
    goes = goes_now a.store.shape scripts R0 R h.acted.records a.history sessions (row_of a.labels) w task (session_at (place w a.scans) a.session) lawful.allowed m.midway acts

-- ---- one that goes on, or ends

-- the session as it is now, and the others
abbrev next_sessions : Shape → ℕ → ℕ → List Record → (ℕ → Session) → Session → ℕ → Session
next_sessions sh w n R sessions s v = cond (eqb v w) s (session_since sh n R (sessions v))

next_is : (sh : Shape) (scripts : List (List Statement)) (w n : ℕ) (R : List Record) (sessions : ℕ → Session) (s : Session) → IsNext sh scripts w n R sessions (next_sessions sh w n R sessions s) s
next_is sh scripts w n R sessions s = record {
  own = cond-true _ _ _ (eq-eqb w w refl);
  others = λ v session ne. cond-false _ _ _ (ne_eqb v w ne);
}

entry_is : (scripts : List (List Statement)) (script : List Statement) (R : List Record) (w : ℕ) (task : Task) (s : Told) (moment : ℕ) (outcome : Outcome) (n : ℕ) → script_of scripts w ≡ script → task.place ≡ s.told → task.begins ≡ s.begins → n ≡ length R
    → ◌≡◌ {A = Entry} (record { session = w; ordinal = entry_ordinal (length script) s.told; begins = s.begins; ends = n; moment = moment; outcome = outcome }) (entry_now scripts R w task moment outcome)
entry_is scripts script R w task s moment outcome n e p b l =
    ap (λ (o : Option ℕ). entry o s.begins n) ordinal ∙ (ap (λ (k : ℕ). entry (ordinal_of scripts w task.place) k n) (sym b) ∙ ap (λ (k : ℕ). entry (ordinal_of scripts w task.place) task.begins k) l)
  where
    entry : Option ℕ → ℕ → ℕ → Entry
    entry o k m = record { session = w; ordinal = o; begins = k; ends = m; moment = moment; outcome = outcome }

    ordinal : entry_ordinal (length script) s.told ≡ ordinal_of scripts w task.place
    ordinal = ap₂ (λ (z : List Statement) (k : ℕ). entry_ordinal (length z) k) (sym e) (sym p)

binds_of : (st : Option Statement) (o : Outcome) (labels next : List (List ℕ × ℕ)) → AreBoundOf st (inserted_row o) labels next → Binds st o (row_of labels) (row_of next)
binds_of (Some (asked.Insert name label text)) (outcome.Inserted row) labels next h l = h l
binds_of (Some (asked.Insert name label text)) o labels next h l = ap (λ (z : List (List ℕ × ℕ)). row_of z l) h
binds_of None (outcome.Inserted row) labels next h l = ap (λ (z : List (List ℕ × ℕ)). row_of z l) h
binds_of None o labels next h l = ap (λ (z : List (List ℕ × ℕ)). row_of z l) h
binds_of (Some st) (outcome.Inserted row) labels next h l = ap (λ (z : List (List ℕ × ℕ)). row_of z l) h
binds_of (Some st) o labels next h l = ap (λ (z : List (List ℕ × ℕ)). row_of z l) h

run_world : (sh : Shape) (scripts : List (List Statement)) (script : List Statement) (R0 Q R : List Record) (T U : List HistoryItem) (sessions next : ℕ → Session) (labels bound : List (List ℕ × ℕ)) (w : ℕ) (task : Task) (p q : Option OpenScan) (s t : Told) (n moment : ℕ) (own : Option ℕ) (v : Turned) → IsLawful sh R → n ≡ length R
    → script_of scripts w ≡ script → Midway sh scripts R0 Q T sessions (row_of labels) w task (session_at p s) → Acts sh (now_of scripts Q w task) (statement_of scripts w s.told) R → TurnsAt q sh (later (now_of scripts Q w task) R) (statement_of scripts w s.told) v
    → AreBoundTurned (statement_of scripts w s.told) v labels bound → Finishes w (length script) n moment (record { turned = v; own = own }) s t T U → IsNext sh scripts w (length Q) R sessions next (session_at q t) → IsWorld sh scripts R0 R U next (row_of bound)
run_world sh scripts script R0 Q R T U sessions next labels bound w task p q s t n moment own (turned.On d) lawful l e m x g b f is =
    subst (λ (Z : List HistoryItem). IsWorld sh scripts R0 R Z next (row_of bound)) (sym f.1)
    (subst (λ (z : List (List ℕ × ℕ)). IsWorld sh scripts R0 R T next (row_of z)) (sym b)
    (events_go_on sh scripts R0 Q R T sessions next (row_of labels) w task (session_at p s) (doing_at q d) lawful m x
    (subst (λ (y : Span). GoesOn sh y (statement_of scripts w s.told) (doing_at q d)) (span_later scripts Q R w task (acts_extend sh (now_of scripts Q w task) (statement_of scripts w s.told) R x) m.within) g)
    (subst (IsNext sh scripts w (length Q) R sessions next) (ap (session_at q) f.0) is)))
run_world sh scripts script R0 Q R T U sessions next labels bound w task p q s t n moment own (turned.Over outcome k) lawful l e m x g b f is =
    subst (λ (Z : List HistoryItem). IsWorld sh scripts R0 R Z next (row_of bound)) (sym (f.1 ∙ ap (λ (y : Entry). item.Told y k ∷ T) (entry_is scripts script R w task s moment outcome n e m.place m.begins l)))
    (events_end sh scripts R0 Q R T sessions next (row_of labels) (row_of bound) w task (session_at p s) moment outcome k lawful m x
    (subst (λ (y : Span). IsOverWith sh y (statement_of scripts w s.told) outcome k) (span_later scripts Q R w task (acts_extend sh (now_of scripts Q w task) (statement_of scripts w s.told) R x) m.within) g)
    (subst (IsNext sh scripts w (length Q) R sessions next) (ap (session_at q) f.0) is)
    (binds_of (statement_of scripts w s.told) outcome labels bound b))

-- ---- the session afterwards

finished_own : (w n k moment : ℕ) (v : Turned) (own : Option ℕ) (s t : Told) (T U : List HistoryItem) → Finishes w n k moment (record { turned = v; own = own }) s t T U → t.own ≡ own
finished_own w n k moment (turned.On d) own s t T U f = ap (λ (z : Told). z.own) f.0
finished_own w n k moment (turned.Over outcome kept) own s t T U f = ap (λ (z : Told). z.own) f.0

held_on : (q : Option OpenScan) (d : ToldDoing) → IsKept q (turned.On d) → IsHeld q d
held_on q told.Waiting h = h
held_on q (told.Inserting o) h = h
held_on q (told.TakingBack t) h = h
held_on q (told.OnRow k) h = h
held_on q told.Scanning h = h
held_on q (told.Repairing w) h = h
held_on q (told.Shrinking w) h = h
held_on q (told.Lowering w) h = h

finished_held : (q : Option OpenScan) (w n k moment : ℕ) (v : Turned) (own : Option ℕ) (s t : Told) (T U : List HistoryItem) → IsKept q v → Finishes w n k moment (record { turned = v; own = own }) s t T U → IsHeld q t.doing
finished_held q w n k moment (turned.On d) own s t T U h f = subst (λ (z : Told). IsHeld q z.doing) (sym f.0) (held_on q d h)
finished_held q w n k moment (turned.Over outcome kept) own s t T U h f = subst (λ (z : Told). IsHeld q z.doing) (sym f.0) h

finished_located : (sh : Shape) (R : List Record) (w n k moment : ℕ) (v : Turned) (own : Option ℕ) (s t : Told) (T U : List HistoryItem) → KeepsTurned sh R own v → Finishes w n k moment (record { turned = v; own = own }) s t T U → KeepsDoing sh R t.own t.doing
finished_located sh R w n k moment (turned.On d) own s t T U h f = subst (λ (z : Told). KeepsDoing sh R z.own z.doing) (sym f.0) h
finished_located sh R w n k moment (turned.Over outcome kept) own s t T U h f = subst (λ (z : Told). KeepsDoing sh R z.own z.doing) (sym f.0) tt

-- ---- the entry

counted : {D : Type 0} (meaning : Meaning D) (R : List Record) (s : Held D) → IsTrue meaning R s → s.log.count ≡ length R
counted meaning R s h = let c = h.list.list.has.count in let l = h.list.few in omega (arith, c, l)

acked_of : {D : Type 0} (R : List Record) (s : Held D) (o : Outcome) → s.log.count ≡ length R → AcksOutcome s o → IsAcked R s o
acked_of R s (outcome.Committed n) e h = omega (arith, e, h)
acked_of R s o e h = tt

finished_entry : {D : Type 0} (meaning : Meaning D) (R : List Record) (b : Held D) (w k : ℕ) (v : Turned) (own : Option ℕ) (s t : Told) (T U : List HistoryItem) → b.log.count ≡ length R → AcksTurned b v → Finishes w k b.log.count (meaning.clock b.disk) (record { turned = v; own = own }) s t T U → t.told ≡ suc s.told
    → OfNewest (IsEntryOf meaning w R b) U
finished_entry meaning R b w k (turned.On d) own s t T U e c f y = let z : suc s.told ≡ s.told = sym y ∙ ap (λ (z : Told). z.told) f.0 in absurd (omega (arith, z))
finished_entry meaning R b w k (turned.Over o kept) own s t T U e c f y = subst (OfNewest (IsEntryOf meaning w R b)) (sym f.1) (record { session = refl; ends = e; moment = refl; acked = acked_of R b o e c })

closes_told : (w k n moment : ℕ) (v : Turned) (own : Option ℕ) (s t : Told) (T U : List HistoryItem) (R : List Record) → n ≡ length R → Finishes w k n moment (record { turned = v; own = own }) s t T U → Closes R w T U
closes_told w k n moment (turned.On d) own s t T U R l f = subst (Closes R w T) (sym f.1) closes_none
closes_told w k n moment (turned.Over outcome kept) own s t T U R l f =
    subst (Closes R w T) (sym f.1) (closes_one (record { session = w; ordinal = entry_ordinal k s.told; begins = s.begins; ends = n; moment = moment; outcome = outcome }) kept refl l)

pub run_done : {D : Type 0} (meaning : Meaning D) (scripts : List (List Statement)) (script : List Statement) (R0 R : List Record) (sessions : ℕ → Session) (w : ℕ) (task : Task) (a b : Stage D) (z : Acted) → b.store.shape ≡ a.store.shape → script_of scripts w ≡ script → IsMidway meaning scripts R0 R sessions w task a
    → HasTurned meaning (now_of scripts R w task) (slice_get script a.session.told) w a.scans b.scans a.store b.store (Ok z) → AreBoundTurned (slice_get script a.session.told) z.turned a.labels b.labels
    → Finishes w (length script) b.store.log.count (meaning.clock b.store.disk) z a.session b.session a.history b.history → HasRunOn meaning scripts R0 R sessions w a b (Ok tt)
run_done meaning scripts script R0 R sessions w task a b z shape e m h bound f = record {
  run = record {
    records = h.acted.records;
    stands = h.acted.stands;
    stable = h.acted.stable;
    survives = h.acted.survives;
    time = h.acted.time;
    legal = (world (next_sessions a.store.shape w (length R) h.acted.records sessions (session_at (place w b.scans) b.session)) (next_is a.store.shape scripts w (length R) h.acted.records sessions (session_at (place w b.scans) b.session))).legal;
    world = world;
    own = h.acted.turns.own ∙ sym (finished_own w (length script) b.store.log.count (meaning.clock b.store.disk) z.turned z.own a.session b.session a.history b.history f);
    shaped = h.acted.placed;
    held = finished_held (place w b.scans) w (length script) b.store.log.count (meaning.clock b.store.disk) z.turned z.own a.session b.session a.history b.history h.kept f;
    located = finished_located a.store.shape h.acted.records w (length script) b.store.log.count (meaning.clock b.store.disk) z.turned z.own a.session b.session a.history b.history h.acted.turns.kept f;
    marks = h.marks;
    others = λ v ne. events_leave_transactions a.store.shape scripts a.history w R h.acted.records v lawful.allowed (λ y. ne (sym y)) goes;
    others_located = λ v d ne k. others_keep_places a.store.shape scripts a.history w R h.acted.records v d lawful.allowed (λ y. ne (sym y)) goes k;
    in_time = finished_in_time w (length script) b.store.log.count (meaning.clock a.store.disk) (meaning.clock b.store.disk) z.turned z.own a.session b.session a.history b.history h.acted.time f;
    entry = finished_entry meaning h.acted.records b.store w (length script) z.turned z.own a.session b.session a.history b.history count h.acked f;
    untold = tt;
    sound = tt;
  };
  goes = goes;
  closes = closes_told w (length script) b.store.log.count (meaning.clock b.store.disk) z.turned z.own a.session b.session a.history b.history h.acted.records count f;
}
  where
    there : slice_get script a.session.told ≡ statement_of scripts w a.session.told
    there = at_place scripts script w a.session.told e

    lawful : IsLawful a.store.shape h.acted.records
    lawful = subst (λ (y : Shape). IsLawful y h.acted.records) shape h.acted.stands.lawful

    count : b.store.log.count ≡ length h.acted.records
    count = counted meaning h.acted.records b.store h.acted.stands

    acts : Acts a.store.shape (now_of scripts R w task) (statement_of scripts w a.session.told) h.acted.records
    acts = acts_as a.store.shape (now_of scripts R w task) (slice_get script a.session.told) (statement_of scripts w a.session.told) h.acted.records there h.acted.acts

    goes : Goes a.store.shape scripts a.history w R h.acted.records
    goes = goes_now a.store.shape scripts R0 R h.acted.records a.history sessions (row_of a.labels) w task (session_at (place w a.scans) a.session) lawful.allowed m.midway acts

    world : (next : ℕ → Session) → IsNext a.store.shape scripts w (length R) h.acted.records sessions next (session_at (place w b.scans) b.session) → IsWorld a.store.shape scripts R0 h.acted.records b.history next (row_of b.labels)
    world next is = run_world a.store.shape scripts script R0 R h.acted.records a.history b.history sessions next a.labels b.labels w task (place w a.scans) (place w b.scans) a.session b.session b.store.log.count (meaning.clock b.store.disk) z.own z.turned lawful count e m.midway acts
        (subst (λ (y : Option Statement). TurnsAt (place w b.scans) a.store.shape (later (now_of scripts R w task) h.acted.records) y z.turned) there h.acted.turns.turns)
        (subst (λ (y : Option Statement). AreBoundTurned y z.turned a.labels b.labels) there bound) f is

-- ---- what is told after the event, whatever comes of it

pub always : {T E P : Type 0} → (r : Result T E) → P → OnOk r P
always (Ok x) p = p
always (Err f) p = tt

pub finishes_as : (w k n n' m m' : ℕ) (a : Acted) (s t : Told) (T U : List HistoryItem) → n ≡ n' → m ≡ m' → Finishes w k n m a s t T U → Finishes w k n' m' a s t T U
finishes_as w k n n' m m' a s t T U e f h = subst (λ (z : ℕ). Finishes w k n' z a s t T U) f (subst (λ (z : ℕ). Finishes w k z m a s t T U) e h)

pub run_told : {D : Type 0} (meaning : Meaning D) (scripts : List (List Statement)) (script : List Statement) (R0 R : List Record) (sessions : ℕ → Session) (w : ℕ) (task : Task) (a b : Stage D) (u : Told) (z : Acted) (r : Result (Unit {0}) StoreFault) → u.told ≡ a.session.told → b.store.shape ≡ a.store.shape → script_of scripts w ≡ script → IsMidway meaning scripts R0 R sessions w task a → HasTurned meaning (now_of scripts R w task) (slice_get script a.session.told) w a.scans b.scans a.store b.store (Ok z) → OnOk r (AreBoundTurned (slice_get script a.session.told) z.turned a.labels b.labels)
    → OnOk r (Finishes w (length script) b.store.log.count (meaning.clock b.store.disk) z a.session b.session a.history b.history) → OnErr r ((b.session ≡ u) × (b.history ≡ a.history)) → IfErr r (λ f. f ≡ NoMemory) → HasRunOn meaning scripts R0 R sessions w a b r
run_told meaning scripts script R0 R sessions w task a b u z (Ok done) counts shape e m h bound f same cause = run_done meaning scripts script R0 R sessions w task a b z shape e m h bound f
run_told meaning scripts script R0 R sessions w task a b u z (Err y) counts shape e m h bound f same cause = run_fails meaning scripts script R0 R sessions w task a b (Ok z) y shape same.1 (ap (λ (t : Told). t.told) same.0 ∙ counts) (subst IsSoundFault (sym cause) tt) e m h

-- what the session was at as its event began is told no more
finishes_at : (w k n m : ℕ) (v : Turned) (own : Option ℕ) (d : ToldDoing) (s t : Told) (T U : List HistoryItem) → Finishes w k n m (record { turned = v; own = own }) (record { told = s.told; begins = s.begins; doing = d; own = s.own }) t T U → Finishes w k n m (record { turned = v; own = own }) s t T U
finishes_at w k n m (turned.On e) own d s t T U h = h
finishes_at w k n m (turned.Over outcome kept) own d s t T U h = h

pub finishes_from : (w k n m : ℕ) (a : Acted) (d : ToldDoing) (s t : Told) (T U : List HistoryItem) (r : Result (Unit {0}) StoreFault) → OnOk r (Finishes w k n m a (record { told = s.told; begins = s.begins; doing = d; own = s.own }) t T U) → OnOk r (Finishes w k n m a s t T U)
finishes_from w k n m a d s t T U (Ok done) h = finishes_at w k n m a.turned a.own d s t T U h
finishes_from w k n m a d s t T U (Err f) h = tt

pub owes_told : (w k n m : ℕ) (z : Acted) (s t : Told) (T U : List HistoryItem) (c : Changed) (d e : Dues) (r : Result (Unit {0}) StoreFault) → OnOk r (e ≡ noted_after c (is_some z.own) d) → OnOk r (Finishes w k n m z s t T U) → OnOk r (Owes d e t.own)
owes_told w k n m z s t T U c d e (Ok u) h f = record { blocks = c; noted = h ∙ ap (λ (o : Option ℕ). noted_after c (is_some o) d) (sym (finished_own w k n m z.turned z.own s t T U f)) }
owes_told w k n m z s t T U c d e (Err y) h f = tt

pub called_told : {D : Type 0} (meaning : Meaning D) (a b : Held D) (z : Acted) (r : Result (Unit {0}) StoreFault) → IfErr r (λ f. f ≡ NoMemory) → HasCalled {T = Acted} meaning a b (Ok z) → HasCalled {T = Unit {0}} meaning a b r
called_told meaning a b z (Ok u) cause h = record { loan = h.loan; device = λ e. absurd (cc e); kept = h.kept }
called_told meaning a b z (Err f) cause h = subst (λ (y : StoreFault). HasCalled {T = Unit {0}} meaning a b (Err y)) (sym cause) (record { loan = h.loan; device = λ e. absurd (cc e); kept = h.kept })
