-- The events of an update or a delete on its row.
use Rattle.std.proofs.Common.{◌≡◌, ℕ, suc, ◌≤◌, Bool, true, false, List, [], ◌∷◌, length, Option, Some, None, refl, sym, ◌∙◌, ap, subst}
use Rattle.std.specs.Prelude.{Result, Ok, Err}
use Rattle.seg_words.specs.Types.{Shape}
use Rattle.disk_model.specs.Crash.{Meaning}
use Rattle.redo_model.specs.Records.{Record}
use Rattle.redo_model.specs.Model.{table_named, commit_count, view, number_or_zero, IsTable, AreAllowed}
use Rattle.session_laws.specs.Sessions.{own_of}
use Rattle.change_laws.specs.Looks.{WasFound}
use Rattle.script_text.specs.declared.statement.Statement.{Statement}
use Rattle.script_text.specs.declared.statement.Statement.TheVariants as asked
use Rattle.history_text.specs.declared.refusal.Refusal.TheVariants as why
use Rattle.script_text.specs.declared.statement.Target.{Target}
use Rattle.script_text.specs.declared.statement.Target.TheVariants.{Label, Number}
use Rattle.history_text.specs.declared.refusal.Refusal.{Refusal}
use Rattle.history_model.specs.Spans.{Span, own_then, target_row}
use Rattle.history_model.specs.Causes.{IsUnbound}
use Rattle.history_model.specs.SoFar.{IsIdle, SoFar}
use Rattle.history_laws.specs.Working.{RowWork, RowStands, OnRow, WorkStands}
use Rattle.history_laws.specs.Refusals.{IsPending}
use Rattle.history_laws.proofs.Frames.{zero_is}
use Rattle.history_laws.specs.Acting.{begun_row}
use Rattle.history_laws.proofs.Acting.{rows_begin, rows_are_found}
use Rattle.history_laws.proofs.Owned.{none_some, same_some}
use Rattle.history_laws.proofs.RefusedLaw.{no_row_is_refused}
use Rattle.store_core.specs.Store.{Held}
use Rattle.store_core.specs.Causes.{HasLooked}
use Rattle.store_core.specs.declared.fault.StoreFault.{StoreFault}
use Rattle.row_change.specs.declared.place.Place.{Place}
use Rattle.row_change.specs.Locating.{IsPlaceOf, Locates}
use Rattle.session_core.specs.declared.session.RowWork.{RowWork as ToldWork}
use Rattle.session_core.specs.declared.turned.Acted.{Acted}
use Rattle.session_core.specs.Acting.{IsAt, IsStarting, Turns, HasActed, HasCalled}
use Rattle.session_core.specs.Changes.{IsRowChange, IsChanging, IsAbout, HasPassedTests, IsUnboundAs, refused_as, with_place, told_place}
use Rattle.session_core.specs.RowWorks.{found_at, work_of}
use Rattle.session_core.proofs.Calls.{acted_told, acted_same, acted_memory, called_same, called_memory}
use Rattle.session_core.proofs.MakingTables.{first_turns}
use Rattle.session_core.proofs.RowTests.{change_of_rows, unbound_first, rows_first, rows_passed, rows_refused}
use Rattle.session_core.specs.Starting.{IsFullAt}
use Rattle.session_core.specs.Inserts.{tested_named}
use Rattle.session_core.proofs.Changes.{so_refused}
use Rattle.session_core.proofs.Located.{located_now}
use Rattle.session_core.proofs.NewRows.{own_acts, table_of}

row_so_far : (x : Span) (st : Statement) → IsRowChange st → IsIdle x → SoFar x (Some st)
row_so_far x (asked.Update name target text) k h = h
row_so_far x (asked.Delete name target) k h = h
row_so_far x st k h = absurd k

pub row_fits : (sh : Shape) (x : Span) (st : Statement) (k : RowWork) → IsRowChange st → RowStands sh x st k → WorkStands sh x (Some st) (OnRow k)
row_fits sh x (asked.Update name target text) k i h = h
row_fits sh x (asked.Delete name target) k i h = h
row_fits sh x st k i h = absurd i

pub row_pending : (sh : Shape) (x : Span) (st : Statement) (k : RowWork) → IsChanging sh x st k → IsPending sh x st
row_pending sh x st k w = record { first = w.passed; so_far = row_so_far x st w.kind w.stands.idle }

pub row_table : (sh sh' : Shape) (x : Span) (st : Statement) (k : RowWork) → AreAllowed sh x.ended → IsChanging sh' x st k → IsTable x.ended k.obj
row_table sh sh' x st k a w = table_of sh x.ended w.stands.on.name k.obj a w.still

-- ---- its place

place_found : {D : Type 0} (meaning : Meaning D) (x : Span) (st : Statement) (w : ToldWork) (own : Option ℕ) (a b : Held D) (p : Place) → IsAt meaning x own a → IsChanging a.shape x st (work_of w) → HasLooked {T = Option Place} meaning a b (Ok (Some p)) → IsPlaceOf a.shape x.ended own w.obj w.row p
    → HasActed meaning x (Some st) a b (Ok (told_place (Some p) w own))
place_found meaning x st w own a b p at k h l =
    acted_told {A = Option Place} meaning x (Some st) own a b (Some p) (told_place (Some p) w own) at h (record {
      turns = record {
        passed = k.passed;
        fits = row_fits a.shape x st (work_of (with_place w p)) k.kind
            (rows_are_found a.shape x st (work_of w) (found_at p) (subst (λ (z : Option ℕ). WasFound a.shape x.ended z w.obj w.row p.at p.born p.undo p.start) (sym at.own_is) l.found) l.located.start_is k.stands);
        whole = λ e. k.whole;
      };
      own = at.own_is;
      kept = located_now a.shape x.ended own w.obj w.row p (own_acts a.shape x.ended x.session own at.stands.lawful.allowed at.own_is) (row_table a.shape a.shape x st (work_of w) at.stands.lawful.allowed k) l.located;
    })

place_lacks : {D : Type 0} (meaning : Meaning D) (x : Span) (st : Statement) (w : ToldWork) (own : Option ℕ) (a b : Held D) → IsAt meaning x own a → IsChanging a.shape x st (work_of w) → HasLooked {T = Option Place} meaning a b (Ok None)
    → view x.ended w.obj (commit_count x.ended) (number_or_zero own) w.row ≡ None → HasActed meaning x (Some st) a b (Ok (told_place None w own))
place_lacks meaning x st w own a b at k h e =
    let none = ap (λ (t : ℕ). view x.ended w.obj (commit_count x.ended) t w.row) (zero_is (own_then x) ∙ ap number_or_zero at.own_is) ∙ e in
    acted_told {A = Option Place} meaning x (Some st) own a b None (told_place None w own) at h
    (so_refused a.shape x st (why.NoRow w.row) own (no_row_is_refused a.shape x st w.row (row_pending a.shape x st (work_of w) k) (record { obj = w.obj; on = k.stands.on; none = none })) k.whole at.own_is)

pub place_told : {D : Type 0} (meaning : Meaning D) (x : Span) (st : Statement) (w : ToldWork) (own : Option ℕ) (a b : Held D) (f : Option Place) → IsAt meaning x own a → IsChanging a.shape x st (work_of w) → HasLooked {T = Option Place} meaning a b (Ok f) → Locates a.shape x.ended own w.obj w.row f
    → HasActed meaning x (Some st) a b (Ok (told_place f w own))
place_told meaning x st w own a b None at k h l = place_lacks meaning x st w own a b at k h l
place_told meaning x st w own a b (Some p) at k h l = place_found meaning x st w own a b p at k h l

-- ---- its beginning

bound_is : (x : Span) (st : Statement) (name : List ℕ) (target : Target) (n : ℕ) (l : List ℕ) → IsAbout x st name target (Some n) → IsUnbound x st l → ⊥
bound_is x st name target n l k u =
    let same : target ≡ Label l = same_some target (Label l) (sym k.targeted ∙ u.0) in
    none_some n ⊥ (sym u.1 ∙ subst (λ (z : Target). target_row x.scripts x.past z ≡ Some n) same k.row)

pub change_begins : (sh : Shape) (x : Span) (st : Statement) (name : List ℕ) (target : Target) (o n : ℕ) → IsStarting x → IsAbout x st name target (Some n) → HasPassedTests x st name o → IsChanging sh x st (begun_row o n)
change_begins sh x st name target o n s k p =
    let stands = rows_begin sh x st o n s.at_once (record { name = name; named = k.named; table = p.table; target = target; targeted = k.targeted; row = k.row }) in
    let still : table_named x.ended name ≡ Some o = subst (λ (R : List Record). table_named R name ≡ Some o) (sym s.at_once) p.table in
    record {
      kind = k.kind;
      passed = rows_first sh x st name o (change_of_rows sh x st name k.kind k.named) p (λ l u. bound_is x st name target n l k u);
      stands = stands;
      still = subst (λ (m : List ℕ). table_named x.ended m ≡ Some o) (same_some name stands.on.name (sym k.named ∙ stands.on.named)) still;
      whole = s.whole;
    }

pub changing_as : (sh : Shape) (x : Span) (st : Statement) (k q : RowWork) → q ≡ k → IsChanging sh x st k → IsChanging sh x st q
changing_as sh x st k q e h = subst (λ (z : RowWork). IsChanging sh x st z) (sym e) h

pub unbound_acted : {D : Type 0} (meaning : Meaning D) (x : Span) (st : Statement) (name : List ℕ) (target : Target) (own : Option ℕ) (o : ℕ) (s : Held D) (r : Result Acted StoreFault) → IsUnboundAs target own r → IsAt meaning x own s → IsStarting x → IsAbout x st name target None → HasPassedTests x st name o → HasActed meaning x (Some st) s s r
unbound_acted meaning x st name (Label l) own o s (Ok a) u at b k p =
    subst (λ (z : Acted). HasActed meaning x (Some st) s s (Ok z)) (sym u)
    (acted_same meaning x (Some st) own s (refused_as (why.Unbound l) own) at (first_turns s.shape x st (why.Unbound l) own b (unbound_first s.shape x st name l o (change_of_rows s.shape x st name k.kind k.named) p (k.targeted, k.row)) at.own_is))
unbound_acted meaning x st name (Number n) own o s (Ok a) u at b k p = none_some n _ (sym k.row)
unbound_acted meaning x st name (Label l) own o s (Err f) u at b k p = subst (λ (z : StoreFault). HasActed meaning x (Some st) s s (Err z)) (sym u) (acted_memory meaning x (Some st) own s at)
unbound_acted meaning x st name (Number n) own o s (Err f) u at b k p = subst (λ (z : StoreFault). HasActed meaning x (Some st) s s (Err z)) (sym u) (acted_memory meaning x (Some st) own s at)

pub unbound_called : {D : Type 0} (meaning : Meaning D) (target : Target) (own : Option ℕ) (s : Held D) (r : Result Acted StoreFault) → IsUnboundAs target own r → s.fault ≡ None → HasCalled meaning s s r
unbound_called meaning target own s (Ok a) u n = called_same meaning s a n
unbound_called meaning (Label l) own s (Err f) u n = subst (λ (z : StoreFault). HasCalled {T = Acted} meaning s s (Err z)) (sym u) (called_memory {T = Acted} meaning s n)
unbound_called meaning (Number m) own s (Err f) u n = subst (λ (z : StoreFault). HasCalled {T = Acted} meaning s s (Err z)) (sym u) (called_memory {T = Acted} meaning s n)

pub about_passed : (sh : Shape) (x : Span) (st : Statement) (name : List ℕ) (target : Target) (bound obj : Option ℕ) (full : Bool) (o : ℕ) → IsAbout x st name target bound → obj ≡ table_named x.begun name → IsFullAt x.begun full → tested_named obj full ≡ Ok o → HasPassedTests x st name o
about_passed sh x st name target bound obj full o k n f e = rows_passed sh x st name obj full o (change_of_rows sh x st name k.kind k.named) n f e

pub change_refused : {D A : Type 0} (meaning : Meaning D) (x : Span) (st : Statement) (name : List ℕ) (target : Target) (own bound obj : Option ℕ) (full : Bool) (y : Refusal) (a b : Held D) (u : A) → IsAt meaning x own a → IsStarting x → IsAbout x st name target bound → HasLooked {T = A} meaning a b (Ok u) → obj ≡ table_named x.begun name
    → IsFullAt x.begun full → tested_named obj full ≡ Err y → HasActed meaning x (Some st) a b (Ok (refused_as y own))
change_refused {D} {A} meaning x st name target own bound obj full y a b u at s k h n f e =
    acted_told {A = A} meaning x (Some st) own a b u (refused_as y own) at h (first_turns a.shape x st y own s (rows_refused a.shape x st name obj full y (change_of_rows a.shape x st name k.kind k.named) n f e) at.own_is)

pub about_as : (x : Span) (st : Statement) (name : List ℕ) (target : Target) (bound found : Option ℕ) → bound ≡ found → IsAbout x st name target bound → IsAbout x st name target found
about_as x st name target bound found e h = subst (λ (z : Option ℕ). IsAbout x st name target z) e h
