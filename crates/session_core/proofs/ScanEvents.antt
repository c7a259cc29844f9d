-- How a scan begins, and how it goes on.
use Rattle.std.proofs.Common.{◌≡◌, ℕ, suc, ◌-◌, Bool, true, false, ltb, ltb-true, List, length, drop, option_map, Option, Some, None, refl, sym, ◌∙◌, ap, ap₂, subst, arith, true≢false}
use Rattle.std.specs.Prelude.{Result, Ok, Err, IsSome, IfOk, OnErr, map}
use Rattle.seg_words.specs.Types.{Shape}
use Rattle.disk_model.specs.Crash.{Meaning}
use Rattle.redo_model.specs.Records.{Record}
use Rattle.redo_model.specs.Model.{commit_count, table_named, view_rows, AreAllowed, IsTable}
use Rattle.redo_laws.specs.Scan.{scan_list}
use Rattle.session_laws.specs.Sessions.{own_of, own_backed, own_number, txn_or_zero}
use Rattle.version_laws.specs.Ends.{IsTooOld, IsTooOldEntry}
use Rattle.version_read.specs.Walking.{IsOwn, txn_or_none}
use Rattle.script_text.specs.declared.statement.Statement.TheVariants as asked
use Rattle.history_text.specs.declared.outcome.Outcome.TheVariants as outcome
use Rattle.history_text.specs.declared.refusal.Refusal.{Refusal}
use Rattle.history_text.specs.declared.refusal.Refusal.TheVariants as why
use Rattle.history_model.specs.declared.history.Kept.TheVariants as kept
use Rattle.history_model.specs.Spans.{Span}
use Rattle.history_model.specs.Order.{rank}
use Rattle.history_model.specs.Released.{first_gone}
use Rattle.history_model.specs.Passing.{FirstPass}
use Rattle.history_model.specs.TableMeans.{row_out, last_of, ScanMeans}
use Rattle.history_laws.specs.Working.{later, Scanning, ScanStands, WorkStands}
use Rattle.history_laws.specs.ScanRefusals.{IsScanRefused}
use Rattle.history_laws.proofs.Marks.{none_since}
use Rattle.history_laws.proofs.Owned.{none_some}
use Rattle.history_laws.proofs.Passes.{accepted_passes, idle_at_once}
use Rattle.history_laws.proofs.ScanRefusals.{marked_are_refused, lost_are_refused, unknown_are_refused}
use Rattle.history_laws.proofs.Scans.{named_table}
use Rattle.session_model.specs.Worlds.{IsReady}
use Rattle.store_core.specs.Store.{Held, IsTrue}
use Rattle.store_core.specs.Causes.{HasLooked}
use Rattle.store_core.specs.declared.fault.StoreFault.{StoreFault}
use Rattle.scan_table.specs.Reading.{store_part}
use Rattle.scan_table.specs.Sessions.{scan_of}
use Rattle.scan_table.specs.Standing.{HoldsScan, gone_of}
use Rattle.scan_table.specs.Places.{Begins, HasBegun, IsAfter, IsEmpty, IsOpenAfter, Steps, blocks_read}
use Rattle.scan_table.proofs.Serving.{scans_are_work}
use Rattle.scan_table.specs.declared.answer.ScanFault.{ScanFault}
use Rattle.scan_table.specs.declared.answer.ScanFault.TheVariants as faults
use Rattle.scan_table.specs.declared.answer.ScanStep.{ScanStep}
use Rattle.scan_table.specs.declared.answer.ScanStep.TheVariants as steps
use Rattle.scan_table.specs.declared.answer.Scanned.{Scanned}
use Rattle.scan_table.specs.declared.scan.OpenScan.{OpenScan}
use Rattle.session_core.specs.declared.session.Doing.TheVariants as told
use Rattle.session_core.specs.declared.turned.Turned.TheVariants as turned
use Rattle.session_core.specs.declared.turned.Acted.{Acted}
use Rattle.session_core.specs.Acting.{IsAt, IsStarting, HasCalled}
use Rattle.session_core.specs.Starting.{IsRefusedFirst}
use Rattle.session_core.specs.Scanned.{scan_in, doing_at, IsShaped, IsKept, TurnsWith, HasActedAt, answered, stopped}
use Rattle.session_core.proofs.Calls.{called_look, called_unlooked}
use Rattle.session_core.proofs.Ends.{active_own}
use Rattle.session_core.proofs.MakingTables.{at_begun}
use Rattle.session_core.proofs.Places.{told_at, looked_at, shaped, closed}

-- ---- the tests of a scan's beginning

pub scan_passes : (sh : Shape) (x : Span) (name : List ℕ) (o : ℕ) → table_named x.begun name ≡ Some o → FirstPass sh x (asked.Scan name)
scan_passes sh x name o t = record {
  table = λ h. none_some o ⊥ (sym h ∙ t);
  new_name = λ h. h;
  few_tables = λ h. h;
  movement = λ h. h;
  no_transaction = λ h. h;
  unshrunk = λ v h. h;
  log = λ h. h;
  data_block = λ b h. h;
  value = λ v h. h;
  label = λ l h. none_some _ _ h.0;
}

pub none_before : (n : ℕ) → ltb n 0 ≡ true → ⊥
none_before n e = let b = ltb-true n 0 e in absurd (omega (arith, b))

pub no_scan_table : (sh : Shape) (x : Span) (name : List ℕ) → table_named x.begun name ≡ None → IsRefusedFirst sh x (asked.Scan name) why.NoTable
no_scan_table sh x name e = record { first = refl; cause = e; before = λ z l h. none_before (rank z) l }

-- ---- the session's transaction

own_is : (sh : Shape) (R : List Record) (w : ℕ) (own : Option ℕ) → AreAllowed sh R → own_of R w ≡ own → IsOwn R own
own_is sh R w None a e = tt
own_is sh R w (Some t) a e = active_own sh R w t a e

pub own_at : {D : Type 0} (meaning : Meaning D) (x : Span) (own : Option ℕ) (s : Held D) → IsAt meaning x own s → IsOwn x.ended own
own_at meaning x own s at = own_is s.shape x.ended x.session own at.stands.lawful.allowed at.own_is

pub there_at : {D : Type 0} (meaning : Meaning D) (x : Span) (name : List ℕ) (own : Option ℕ) (o : ℕ) (s : Held D) → IsAt meaning x own s → IsStarting x → table_named x.begun name ≡ Some o → IsTable x.ended o
there_at meaning x name own o s at st t = named_table s.shape x.ended name o at.stands.lawful.allowed (subst (λ (R : List Record). table_named R name ≡ Some o) (sym st.at_once) t)

same_number : (o : Option ℕ) → txn_or_none o ≡ txn_or_zero o
same_number None = refl
same_number (Some t) = refl

begun_number : (x : Span) (own : Option ℕ) → own_of x.begun x.session ≡ own → txn_or_none own ≡ own_number x.begun x.session
begun_number x own e = same_number own ∙ ap txn_or_zero (sym e)

-- ---- it is over with its rows

over_turns : (p : Option OpenScan) (sh : Shape) (x : Span) (name : List ℕ) (own : Option ℕ) (d : Scanned) → FirstPass sh x (asked.Scan name) → ScanMeans sh x name d.at d.rows → own_backed x.ended x.session ≡ false → own_of x.ended x.session ≡ own
    → TurnsWith p sh x (Some (asked.Scan name)) x.ended (record { turned = turned.Over (outcome.Scan name d.at d.rows) kept.Nothing; own = own })
over_turns p sh x name own d f m w o = record {
  turns = record {
    means = (refl, m);
    passes = accepted_passes sh (later x x.ended) (asked.Scan name) (outcome.Scan name d.at d.rows) kept.Nothing refl f;
    whole = w;
    closed = λ z. none_some _ _ (sym z);
  };
  own = o;
  kept = tt;
}

-- it goes on
on_turns : (p : Option OpenScan) (sh : Shape) (x : Span) (name : List ℕ) (own : Option ℕ) (s : OpenScan) → p ≡ Some s → FirstPass sh x (asked.Scan name) → ScanStands sh x name (scan_of s) → own_backed x.ended x.session ≡ false → own_of x.ended x.session ≡ own
    → TurnsWith p sh x (Some (asked.Scan name)) x.ended (record { turned = turned.On told.Scanning; own = own })
on_turns p sh x name own s e f h w o = record {
  turns = record {
    passed = f;
    fits = subst (λ (q : Option OpenScan). WorkStands sh x (Some (asked.Scan name)) (Scanning (scan_in q))) (sym e) h;
    whole = λ z. w;
  };
  own = o;
  kept = tt;
}

-- it is refused
stop_turns : (p : Option OpenScan) (sh : Shape) (x : Span) (name : List ℕ) (own : Option ℕ) (y : Refusal) (read : ℕ) → IsScanRefused sh x name y read → own_backed x.ended x.session ≡ false → own_of x.ended x.session ≡ own → TurnsWith p sh x (Some (asked.Scan name)) x.ended (stopped y read own)
stop_turns p sh x name own y read r w o = record {
  turns = record { means = r.means; passes = r.passes; whole = w; closed = λ z. none_some _ _ (sym z) };
  own = o;
  kept = tt;
}

-- ---- its first event

begun_stands : (sh : Shape) (x : Span) (name : List ℕ) (own : Option ℕ) (o : ℕ) (p : Option OpenScan) → IsStarting x → table_named x.begun name ≡ Some o → own_of x.begun x.session ≡ own → (h : HasBegun sh x.ended o own p) → ScanStands sh x name (scan_of h.scan)
begun_stands sh x name own o p st t e h =
    (scans_are_work sh x name h.scan h.stands.shape_is).stands (t ∙ ap (λ (n : ℕ). Some n) (sym h.obj_is)) (h.own_is ∙ sym e) (idle_at_once x st.at_once)
    (subst (λ (B : List Record). HoldsScan sh B x.ended h.scan) st.at_once h.stands)

empty_means : (sh : Shape) (x : Span) (name : List ℕ) (own : Option ℕ) (o : ℕ) (d : Scanned) → IsStarting x → table_named x.begun name ≡ Some o → own_of x.begun x.session ≡ own → IsEmpty sh x.ended o own d → ScanMeans sh x name d.at d.rows
empty_means sh x name own o d st t e h = record {
  obj = o;
  table = t;
  number = h.at_is ∙ ap commit_count st.at_once;
  each = h.rows_are ∙ ap₂ (λ (R : List Record) (n : ℕ). map row_out (view_rows R o (commit_count R) n)) st.at_once (begun_number x own e);
  there = subst (λ (R : List Record). first_gone sh o (last_of (scan_list sh x.begun o)) (length x.begun) R ≡ None) (sym st.at_once) (none_since sh o (last_of (scan_list sh x.begun o)) x.begun);
}

pub opens : {D : Type 0} (meaning : Meaning D) (x : Span) (name : List ℕ) (own : Option ℕ) (o : ℕ) (p : Option OpenScan) (a b : Held D) (r : Result ScanStep ScanFault) → IsAt meaning x own a → IsStarting x → table_named x.begun name ≡ Some o → HasLooked {T = Unit {0}} meaning a b (store_part r)
    → IsOpenAfter p r → Begins a.shape x.ended o own p r → HasActedAt meaning x (Some (asked.Scan name)) p a b (answered r name 0 own)
opens meaning x name own o p a b (Ok steps.More) at st t looked after h =
    told_at {A = Unit {0}} meaning x (Some (asked.Scan name)) own p a b tt (record { turned = turned.On told.Scanning; own = own }) at looked (shaped a.shape p h.scan h.open_now h.stands.shape_is)
    (on_turns p a.shape x name own h.scan h.open_now (scan_passes a.shape x name o t) (begun_stands a.shape x name own o p st t (at_begun meaning x own a at st) h) st.whole at.own_is)
opens meaning x name own o p a b (Ok (steps.Done d)) at st t looked after h =
    told_at {A = Unit {0}} meaning x (Some (asked.Scan name)) own p a b tt (record { turned = turned.Over (outcome.Scan name d.at d.rows) kept.Nothing; own = own }) at looked (closed a.shape p after)
    (over_turns p a.shape x name own d (scan_passes a.shape x name o t) (empty_means a.shape x name own o d st t (at_begun meaning x own a at st) h.1) st.whole at.own_is)
opens meaning x name own o p a b (Err (faults.Store f)) at st t looked after h = looked_at {A = Unit {0}} meaning x (Some (asked.Scan name)) own p a b f at looked (closed a.shape p after) h
opens meaning x name own o p a b (Err e) at st t looked after h = absurd h

-- ---- its next event

not_some : ◌≡◌ {A = Bool} false true → ⊥
not_some e = absurd (true≢false (sym e))

pub read_on : {D : Type 0} (meaning : Meaning D) (x : Span) (name : List ℕ) (own : Option ℕ) (s : OpenScan) (p : Option OpenScan) (a b : Held D) (r : Result ScanStep ScanFault) → IsAt meaning x own a → FirstPass a.shape x (asked.Scan name) → ScanStands a.shape x name (scan_of s) → own_backed x.ended x.session ≡ false
    → s.shape ≡ a.shape → HasLooked {T = Unit {0}} meaning a b (store_part r) → IsAfter s p r → Steps x.begun x.ended s p r → HasActedAt meaning x (Some (asked.Scan name)) p a b (answered r name s.read own)
read_on meaning x name own s p a b (Ok steps.More) at f k w sh looked after h =
    let u = h.scan in
    let shape = h.more.stands.shape_is ∙ sh in
    let idle = k.idle in
    let stands = (scans_are_work a.shape x name u shape).stands (k.table ∙ ap (λ (n : ℕ). Some n) (sym h.more.obj_is)) (h.more.own_is ∙ k.own_is) idle (subst (λ (z : Shape). HoldsScan z x.begun x.ended u) sh h.more.stands) in
    told_at {A = Unit {0}} meaning x (Some (asked.Scan name)) own p a b tt (record { turned = turned.On told.Scanning; own = own }) at looked (shaped a.shape p u h.open_now shape)
    (on_turns p a.shape x name own u h.open_now f stands w at.own_is)
read_on meaning x name own s p a b (Ok (steps.Done d)) at f k w sh looked after h =
    told_at {A = Unit {0}} meaning x (Some (asked.Scan name)) own p a b tt (record { turned = turned.Over (outcome.Scan name d.at d.rows) kept.Nothing; own = own }) at looked (closed a.shape p after.1)
    (over_turns p a.shape x name own d f (record {
      obj = s.obj;
      table = k.table;
      number = h.at_is;
      each = h.rows_are ∙ ap (λ (n : ℕ). map row_out (view_rows x.begun s.obj (commit_count x.begun) n)) (begun_number x s.own (sym k.own_is));
      there = ap (λ (n : ℕ). first_gone a.shape s.obj (drop n (scan_list a.shape x.begun s.obj)) (length x.begun) x.ended) (one_less s.read (length (scan_list a.shape x.begun s.obj)) (h.last ∙ ap (λ (z : List ℕ). length z) k.list)) ∙ (sym k.marked ∙ ap (option_map gone_of) after.0);
    }) w at.own_is)
  where
    one_less : (n m : ℕ) → suc n ≡ m → m - 1 ≡ n
    one_less n m e = omega (arith, e)
read_on meaning x name own s p a b (Err (faults.Gone e n)) at f k w sh looked after h =
    told_at {A = Unit {0}} meaning x (Some (asked.Scan name)) own p a b tt (stopped (why.ObjectGone e n) s.read own) at looked (closed a.shape p after.1)
    (stop_turns p a.shape x name own (why.ObjectGone e n) s.read (marked_are_refused a.shape x name (scan_of s) (record { extent = e; lowering = n }) f (ap (option_map gone_of) after.0) k) w at.own_is)
read_on meaning x name own s p a b (Err (faults.TooOld v)) at f k w sh looked after h =
    told_at {A = Unit {0}} meaning x (Some (asked.Scan name)) own p a b tt (stopped (why.TooOld v) s.read own) at looked (closed a.shape p after.1)
    (stop_turns p a.shape x name own (why.TooOld v) s.read
    (lost_are_refused a.shape x name (scan_of s) h.block v f (ap (option_map gone_of) after.0) h.next (subst (λ (n : ℕ). IsTooOld x.ended h.block s.at n v) (same_number s.own) (subst (λ (n : ℕ). IsTooOld x.ended h.block n (txn_or_none s.own) v) (sym k.number) h.first.means)) k) w at.own_is)
read_on meaning x name own s p a b (Err (faults.TooOldEntry v)) at f k w sh looked after h =
    told_at {A = Unit {0}} meaning x (Some (asked.Scan name)) own p a b tt (stopped (why.TooOldEntry v) s.read own) at looked (closed a.shape p after.1)
    (stop_turns p a.shape x name own (why.TooOldEntry v) s.read
    (unknown_are_refused a.shape x name (scan_of s) h.block v f (ap (option_map gone_of) after.0) h.next (subst (λ (n : ℕ). IsTooOldEntry x.ended h.block s.at n v) (same_number s.own) (subst (λ (n : ℕ). IsTooOldEntry x.ended h.block n (txn_or_none s.own) v) (sym k.number) h.first.means)) k) w at.own_is)
read_on meaning x name own s p a b (Err (faults.Store g)) at f k w sh looked after h = looked_at {A = Unit {0}} meaning x (Some (asked.Scan name)) own p a b g at looked (shaped a.shape p s after.1 sh) h

pub goes_on : {D : Type 0} (meaning : Meaning D) (x : Span) (name : List ℕ) (own : Option ℕ) (q p : Option OpenScan) (a b : Held D) (r : Result ScanStep ScanFault) → IsAt meaning x own a → IsReady a.shape x (Some (asked.Scan name)) (doing_at q told.Scanning) → own_backed x.ended x.session ≡ false → IsShaped a.shape q → IsSome q
    → HasLooked {T = Unit {0}} meaning a b (store_part r) → ((s : OpenScan) → q ≡ Some s → IsAfter s p r) → ((B R : List Record) (s : OpenScan) → IsTrue meaning R a → q ≡ Some s → HoldsScan a.shape B R s → Steps B R s p r)
    → HasActedAt meaning x (Some (asked.Scan name)) p a b (answered r name (blocks_read q) own)
goes_on meaning x name own None p a b r at ready w sh some looked after steps = absurd (not_some some)
goes_on meaning x name own (Some s) p a b r at ready w sh some looked after steps =
    read_on meaning x name own s p a b r at ready.0 ready.1 w sh looked (after s refl) (steps x.begun x.ended s at.stands refl ((scans_are_work a.shape x name s sh).held at.stands.lawful.allowed ready.1))

-- ---- of any store

pub looked_called : {D : Type 0} (meaning : Meaning D) (name : List ℕ) (read : ℕ) (own : Option ℕ) (a b : Held D) (r : Result ScanStep ScanFault) → a.fault ≡ None → HasLooked {T = Unit {0}} meaning a b (store_part r) → HasCalled {T = Acted} meaning a b (answered r name read own)
looked_called meaning name read own a b (Ok steps.More) n h = called_look {A = Unit {0}} {T = Acted} meaning a b tt (record { turned = turned.On told.Scanning; own = own }) n h
looked_called meaning name read own a b (Ok (steps.Done d)) n h = called_look {A = Unit {0}} {T = Acted} meaning a b tt (record { turned = turned.Over (outcome.Scan name d.at d.rows) kept.Nothing; own = own }) n h
looked_called meaning name read own a b (Err (faults.TooOld v)) n h = called_look {A = Unit {0}} {T = Acted} meaning a b tt (stopped (why.TooOld v) read own) n h
looked_called meaning name read own a b (Err (faults.TooOldEntry v)) n h = called_look {A = Unit {0}} {T = Acted} meaning a b tt (stopped (why.TooOldEntry v) read own) n h
looked_called meaning name read own a b (Err (faults.Gone e m)) n h = called_look {A = Unit {0}} {T = Acted} meaning a b tt (stopped (why.ObjectGone e m) read own) n h
looked_called meaning name read own a b (Err (faults.Store f)) n h = called_unlooked {A = Unit {0}} {T = Acted} meaning a b f n h

abbrev Keeps : Option OpenScan → Result Acted StoreFault → Type 0
Keeps p r = IfOk r (λ a. IsKept p a.turned)

pub opened_keeps : (p : Option OpenScan) (name : List ℕ) (read : ℕ) (own : Option ℕ) (r : Result ScanStep ScanFault) → IsOpenAfter p r → Keeps p (answered r name read own)
opened_keeps p name read own (Ok steps.More) h = h
opened_keeps p name read own (Ok (steps.Done d)) h = h
opened_keeps p name read own (Err (faults.TooOld v)) h = h
opened_keeps p name read own (Err (faults.TooOldEntry v)) h = h
opened_keeps p name read own (Err (faults.Gone e m)) h = h
opened_keeps p name read own (Err (faults.Store f)) h = tt

pub opened_none : (p : Option OpenScan) (name : List ℕ) (read : ℕ) (own : Option ℕ) (r : Result ScanStep ScanFault) → IsOpenAfter p r → OnErr (answered r name read own) (p ≡ None)
opened_none p name read own (Ok steps.More) h = tt
opened_none p name read own (Ok (steps.Done d)) h = tt
opened_none p name read own (Err (faults.TooOld v)) h = tt
opened_none p name read own (Err (faults.TooOldEntry v)) h = tt
opened_none p name read own (Err (faults.Gone e m)) h = tt
opened_none p name read own (Err (faults.Store f)) h = h

after_keeps : (s : OpenScan) (p : Option OpenScan) (name : List ℕ) (read : ℕ) (own : Option ℕ) (r : Result ScanStep ScanFault) → IsAfter s p r → Keeps p (answered r name read own)
after_keeps s p name read own (Ok steps.More) h = h.1
after_keeps s p name read own (Ok (steps.Done d)) h = h.1
after_keeps s p name read own (Err (faults.TooOld v)) h = h.1
after_keeps s p name read own (Err (faults.TooOldEntry v)) h = h.1
after_keeps s p name read own (Err (faults.Gone e m)) h = h.1
after_keeps s p name read own (Err (faults.Store f)) h = tt

after_same : (s : OpenScan) (p : Option OpenScan) (name : List ℕ) (read : ℕ) (own : Option ℕ) (r : Result ScanStep ScanFault) → IsAfter s p r → OnErr (answered r name read own) (p ≡ Some s)
after_same s p name read own (Ok steps.More) h = tt
after_same s p name read own (Ok (steps.Done d)) h = tt
after_same s p name read own (Err (faults.TooOld v)) h = tt
after_same s p name read own (Err (faults.TooOldEntry v)) h = tt
after_same s p name read own (Err (faults.Gone e m)) h = tt
after_same s p name read own (Err (faults.Store f)) h = h.1

pub next_keeps : (q p : Option OpenScan) (name : List ℕ) (read : ℕ) (own : Option ℕ) (r : Result ScanStep ScanFault) → IsSome q → ((s : OpenScan) → q ≡ Some s → IsAfter s p r) → Keeps p (answered r name read own)
next_keeps None p name read own r some h = absurd (not_some some)
next_keeps (Some s) p name read own r some h = after_keeps s p name read own r (h s refl)

pub next_same : (q p : Option OpenScan) (name : List ℕ) (read : ℕ) (own : Option ℕ) (r : Result ScanStep ScanFault) → IsSome q → ((s : OpenScan) → q ≡ Some s → IsAfter s p r) → OnErr (answered r name read own) (p ≡ q)
next_same None p name read own r some h = absurd (not_some some)
next_same (Some s) p name read own r some h = after_same s p name read own r (h s refl)

-- of the same transaction

pub own_as : (R : List Record) (o own : Option ℕ) → o ≡ own → IsOwn R own → IsOwn R o
own_as R o own e h = subst (IsOwn R) (sym e) h

pub begins_as : (sh : Shape) (R : List Record) (obj : ℕ) (p : Option OpenScan) (r : Result ScanStep ScanFault) (o own : Option ℕ) → o ≡ own → Begins sh R obj o p r → Begins sh R obj own p r
begins_as sh R obj p r o own e h = subst (λ (z : Option ℕ). Begins sh R obj z p r) e h

-- of this answer

abbrev pub the_ok : Acted → Result Acted StoreFault
the_ok a = Ok a

pub counted_at : {D : Type 0} (meaning : Meaning D) (x : Span) (name : List ℕ) (own : Option ℕ) (q p : Option OpenScan) (a b : Held D) (r : Result ScanStep ScanFault) (n : ℕ) → n ≡ blocks_read q
    → HasActedAt meaning x (Some (asked.Scan name)) p a b (answered r name (blocks_read q) own) → HasActedAt meaning x (Some (asked.Scan name)) p a b (answered r name n own)
counted_at meaning x name own q p a b r n e h = subst (λ (k : ℕ). HasActedAt meaning x (Some (asked.Scan name)) p a b (answered r name k own)) (sym e) h

pub called_as : {D : Type 0} (meaning : Meaning D) (a b : Held D) (r q : Result Acted StoreFault) → r ≡ q → HasCalled {T = Acted} meaning a b q → HasCalled {T = Acted} meaning a b r
called_as meaning a b r q e h = subst (λ (z : Result Acted StoreFault). HasCalled {T = Acted} meaning a b z) (sym e) h

pub keeps_as : (p : Option OpenScan) (r q : Result Acted StoreFault) → r ≡ q → Keeps p q → Keeps p r
keeps_as p r q e h = subst (Keeps p) (sym e) h

pub none_as : (p : Option OpenScan) (r q : Result Acted StoreFault) → r ≡ q → OnErr q (p ≡ None) → OnErr r (p ≡ None)
none_as p r q e h = subst (λ (z : Result Acted StoreFault). OnErr z (p ≡ None)) (sym e) h

pub same_as : (o p : Option OpenScan) (r q : Result Acted StoreFault) → r ≡ q → OnErr q (p ≡ o) → OnErr r (p ≡ o)
same_as o p r q e h = subst (λ (z : Result Acted StoreFault). OnErr z (p ≡ o)) (sym e) h
