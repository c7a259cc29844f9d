-- Refusals, and new tables.
use Rattle.std.proofs.Common.{◌≡◌, ℕ, ◌≤◌, ◌<◌, Bool, true, false, List, Option, Some, None, refl, sym, ◌∙◌, ap, subst, inl, inr, ◌∷◌}
use Rattle.std.specs.Prelude.{Result, Ok, Err}
use Rattle.seg_words.proofs.Lemmas.{cases_lt}
use Rattle.seg_words.specs.Types.{Shape, is_name, MOST_PCTFREE, MOST_TABLES}
use Rattle.disk_model.specs.Crash.{Meaning}
use Rattle.redo_record.specs.declared.record.Record.TheVariants as made
use Rattle.redo_model.specs.Records.{Record, MovementRecord}
use Rattle.redo_model.specs.Model.{table_named, table_count, IsTable}
use Rattle.session_laws.specs.Sessions.{own_of, own_backed, backed_of}
use Rattle.space_laws.proofs.TablesLaw.{tables_are_named}
use Rattle.mark_laws.specs.Drafts.{drafted_table, drafted_first, drafted_movement}
use Rattle.mark_laws.specs.Moves.{MayMake}
use Rattle.mark_laws.proofs.Numbers.{least_free_found, least_free_empty}
use Rattle.script_text.specs.declared.statement.Statement.{Statement}
use Rattle.script_text.specs.declared.statement.Statement.TheVariants as asked
use Rattle.history_text.specs.declared.outcome.Outcome.TheVariants as outcome
use Rattle.history_text.specs.declared.refusal.Refusal.{Refusal}
use Rattle.history_text.specs.declared.refusal.Refusal.TheVariants as why
use Rattle.history_model.specs.declared.history.Kept.{Kept}
use Rattle.history_model.specs.declared.history.Kept.TheVariants as kept
use Rattle.history_model.specs.Means.{RefusalMeans, Means}
use Rattle.history_model.specs.Spans.{Span}
use Rattle.history_model.specs.Passing.{FirstPass}
use Rattle.history_laws.specs.Refusals.{IsRefusedSo}
use Rattle.history_laws.specs.Working.{later}
use Rattle.history_laws.proofs.OneEvent.{tables_tell, movements_tell}
use Rattle.history_laws.proofs.Owned.{none_some}
use Rattle.history_laws.proofs.Passes.{accepted_passes, first_is_refused}
use Rattle.history_laws.proofs.RefusedLaw.{no_extent_is_refused}
use Rattle.session_model.specs.Done.{done_none, done_one}
use Rattle.session_model.specs.Worlds.{Acts, IsOverWith}
use Rattle.store_core.specs.Store.{Held, SameLoan}
use Rattle.store_core.specs.Adding.{Adds}
use Rattle.store_core.specs.Causes.{HasCause}
use Rattle.store_core.specs.declared.fault.StoreFault.{StoreFault}
use Rattle.mark_move.specs.declared.fault.MarkFault.{MarkFault}
use Rattle.mark_move.specs.declared.fault.MarkFault.TheVariants as marks
use Rattle.mark_move.specs.Tables.{with_table_in, with_table_where, with_table, NextTable, NoneFree, AnswersTable, store_part}
use Rattle.session_core.specs.declared.turned.Turned.TheVariants as turned
use Rattle.session_core.specs.declared.turned.Acted.{Acted}
use Rattle.session_core.specs.Acting.{IsAt, IsStarting, Turns, HasActed, HasCalled}
use Rattle.session_core.specs.Making.{not_made}
use Rattle.session_core.specs.declared.naming.Named.{Named}
use Rattle.session_core.specs.Starting.{IsRefusedFirst, IsTested, Names, IsFullAt}
use Rattle.session_core.proofs.Calls.{acts_none, acted_adds, acted_fails, called_ok, called_err}
use Rattle.session_core.proofs.Checks.{table_later, movement_later}

-- ---- refusals

-- what a refusal means, for each statement
refused_means : (sh : Shape) (x : Span) (st : Statement) (y : Refusal) (k : Kept) → RefusalMeans sh x st y k → Means sh x (Some st) (outcome.Refused y) k
refused_means sh x (asked.Table name pctfree) y k h = h
refused_means sh x (asked.Movement name on) y k h = h
refused_means sh x (asked.Insert name label text) y k h = h
refused_means sh x (asked.Update name target text) y k h = h
refused_means sh x (asked.Delete name target) y k h = h
refused_means sh x asked.Commit y k h = h
refused_means sh x asked.Rollback y k h = h
refused_means sh x (asked.Scan name) y k h = h
refused_means sh x (asked.Shrink name true) y k h = h
refused_means sh x (asked.Shrink name false) y k h = h
refused_means sh x (asked.Usage name) y k h = h
refused_means sh x (asked.Fix name block value) y k h = h
refused_means sh x (asked.Repair name) y k h = h
refused_means sh x asked.Checkpoint y k h = h

-- a statement that is refused is over
pub refusal_over : (sh : Shape) (x : Span) (st : Statement) (y : Refusal) → IsRefusedSo sh x st y → own_backed x.ended x.session ≡ false → IsOverWith sh (later x x.ended) (Some st) (outcome.Refused y) kept.Nothing
refusal_over sh x st y r b = record { means = refused_means sh (later x x.ended) st y kept.Nothing r.means; passes = r.passes; whole = b; closed = λ z. none_some _ _ (sym z) }

pub refusal_turns : (sh : Shape) (x : Span) (st : Statement) (y : Refusal) (own : Option ℕ) → IsRefusedSo sh x st y → own_backed x.ended x.session ≡ false → own_of x.ended x.session ≡ own → Turns sh x (Some st) x.ended (record { turned = turned.Over (outcome.Refused y) kept.Nothing; own = own })
refusal_turns sh x st y own r b o = record { turns = refusal_over sh x st y r b; own = o; kept = tt }

pub first_turns : (sh : Shape) (x : Span) (st : Statement) (y : Refusal) (own : Option ℕ) → IsStarting x → IsRefusedFirst sh x st y → own_of x.ended x.session ≡ own → Turns sh x (Some st) x.ended (record { turned = turned.Over (outcome.Refused y) kept.Nothing; own = own })
first_turns sh x st y own h r o = refusal_turns sh x st y own (first_is_refused sh x st y r.first h.at_once r.cause r.before) h.whole o

-- ---- a new table

pub may_make : (sh : Shape) (x : Span) (name : List ℕ) (pctfree : ℕ) → IsStarting x → is_name name ≡ true → pctfree ≤ MOST_PCTFREE → FirstPass sh x (asked.Table name pctfree) → MayMake x.ended name pctfree
may_make sh x name pctfree h n p f = record {
  named = n;
  new_name = new;
  few = below (table_count x.ended) (λ l. f.few_tables (subst (λ (R : List Record). table_named R name ≡ None) h.at_once new, subst (λ (R : List Record). MOST_TABLES ≤ table_count R) h.at_once l));
  pctfree = p;
}
  where
    found : (o : Option ℕ) → table_named x.begun name ≡ o → table_named x.begun name ≡ None
    found None e = e
    found (Some o) e = absurd (f.new_name (o, e))

    new : table_named x.ended name ≡ None
    new = subst (λ (R : List Record). table_named R name ≡ None) (sym h.at_once) (found (table_named x.begun name) refl)

    below : (k : ℕ) → (MOST_TABLES ≤ k → ⊥) → k < MOST_TABLES
    below k g = elim (cases_lt k MOST_TABLES) [ inl l ↦ l | inr l ↦ absurd (g l) ]

backed_after : (sh : Shape) (R : List Record) (name : List ℕ) (pctfree e : ℕ) (o : Option ℕ) → backed_of (with_table_in sh R name pctfree e) o ≡ backed_of R o
backed_after sh R name pctfree e None = refl
backed_after sh R name pctfree e (Some t) = refl

made_acts : (sh : Shape) (x : Span) (name : List ℕ) (pctfree e : ℕ) → IsStarting x → FirstPass sh x (asked.Table name pctfree) → Acts sh x (Some (asked.Table name pctfree)) (with_table_in sh x.ended name pctfree e)
made_acts sh x name pctfree e h f = record {
  done = done_one (made.Extend (drafted_first sh x.ended e)) (done_one (made.Table (drafted_table sh x.ended name pctfree e)) done_none (tables_tell sh x name pctfree (drafted_table sh x.ended name pctfree e) (drafted_first sh x.ended e) h.at_once refl refl).makes) (inl refl);
  passed = inr f;
}

made_turns : (sh : Shape) (x : Span) (name told : List ℕ) (pctfree e : ℕ) (own : Option ℕ) → told ≡ name → IsStarting x → own_of x.ended x.session ≡ own → FirstPass sh x (asked.Table name pctfree)
    → Turns sh x (Some (asked.Table name pctfree)) (with_table_in sh x.ended name pctfree e) (record { turned = turned.Over (outcome.Table told) kept.Nothing; own = own })
made_turns sh x name told pctfree e own same h o f =
    subst (λ (n : List ℕ). Turns sh x (Some (asked.Table name pctfree)) (with_table_in sh x.ended name pctfree e) (record { turned = turned.Over (outcome.Table n) kept.Nothing; own = own })) (sym same) (record {
      turns = record {
        means = (tables_tell sh x name pctfree (drafted_table sh x.ended name pctfree e) (drafted_first sh x.ended e) h.at_once refl refl).means;
        passes = accepted_passes sh (later x (with_table_in sh x.ended name pctfree e)) (asked.Table name pctfree) (outcome.Table name) kept.Nothing refl (table_later sh x (with_table_in sh x.ended name pctfree e) name pctfree f);
        whole = backed_after sh x.ended name pctfree e (own_of x.ended x.session) ∙ h.whole;
        closed = λ z. none_some _ _ (sym z);
      };
      own = o;
      kept = tt;
    })

pub made_table : {D : Type 0} (meaning : Meaning D) (x : Span) (name told : List ℕ) (pctfree o : ℕ) (own : Option ℕ) (a b : Held D) → told ≡ name → IsAt meaning x own a → IsStarting x → FirstPass a.shape x (asked.Table name pctfree) → SameLoan meaning a b
    → Adds {T = Unit {0}} meaning x.ended (with_table a.shape x.ended name pctfree) a b (Ok tt) → NextTable a.shape x.ended o → HasActed meaning x (Some (asked.Table name pctfree)) a b (Ok (record { turned = turned.Over (outcome.Table told) kept.Nothing; own = own }))
made_table meaning x name told pctfree o own a b same at h f loan adds next =
    let e = next.extent in
    let is : with_table a.shape x.ended name pctfree ≡ with_table_in a.shape x.ended name pctfree e = ap (with_table_where a.shape x.ended name pctfree) (least_free_found a.shape x.ended e at.stands.list.within next.least) in
    acted_adds {T = Unit {0}} meaning x (Some (asked.Table name pctfree)) own a b tt (with_table_in a.shape x.ended name pctfree e) (record { turned = turned.Over (outcome.Table told) kept.Nothing; own = own }) at loan
    (subst (λ (R : List Record). Adds {T = Unit {0}} meaning x.ended R a b (Ok tt)) is adds) (made_acts a.shape x name pctfree e h f) (made_turns a.shape x name told pctfree e own same h at.own_is f)

pub no_table : {D : Type 0} (meaning : Meaning D) (x : Span) (name : List ℕ) (pctfree need : ℕ) (own : Option ℕ) (a b : Held D) → IsAt meaning x own a → IsStarting x → FirstPass a.shape x (asked.Table name pctfree) → SameLoan meaning a b
    → Adds {T = Unit {0}} meaning x.ended (with_table a.shape x.ended name pctfree) a b (Ok tt) → NoneFree a.shape x.ended need → HasActed meaning x (Some (asked.Table name pctfree)) a b (Ok (record { turned = turned.Over (outcome.Refused (why.NoSpace need)) kept.Nothing; own = own }))
no_table meaning x name pctfree need own a b at h f loan adds none =
    let is : with_table a.shape x.ended name pctfree ≡ x.ended = ap (with_table_where a.shape x.ended name pctfree) (least_free_empty a.shape x.ended none.none) in
    let refused = no_extent_is_refused a.shape x name pctfree (record { first = f; so_far = h.at_once }) none.none in
    subst (λ (n : ℕ). HasActed meaning x (Some (asked.Table name pctfree)) a b (Ok (record { turned = turned.Over (outcome.Refused (why.NoSpace n)) kept.Nothing; own = own }))) (sym none.no_row)
    (acted_adds {T = Unit {0}} meaning x (Some (asked.Table name pctfree)) own a b tt x.ended (record { turned = turned.Over (outcome.Refused (why.NoSpace 0)) kept.Nothing; own = own }) at loan
    (subst (λ (R : List Record). Adds {T = Unit {0}} meaning x.ended R a b (Ok tt)) is adds) (acts_none a.shape x (Some (asked.Table name pctfree))) (refusal_turns a.shape x (asked.Table name pctfree) (why.NoSpace 0) own refused h.whole at.own_is))

-- ---- tests

pub at_begun : {D : Type 0} (meaning : Meaning D) (x : Span) (own : Option ℕ) (s : Held D) → IsAt meaning x own s → IsStarting x → own_of x.begun x.session ≡ own
at_begun meaning x own s at h = subst (λ (R : List Record). own_of R x.session ≡ own) h.at_once at.own_is

pub names_begun : (x : Span) (name : List ℕ) (n : Named) → IsStarting x → Names x.ended name n → Names x.begun name n
names_begun x name n h e = subst (λ (R : List Record). Names R name n) h.at_once e

pub full_begun : (x : Span) (full : Bool) → IsStarting x → IsFullAt x.ended full → IsFullAt x.begun full
full_begun x full h e = subst (λ (R : List Record). IsFullAt R full) h.at_once e

-- a test that answers tells its statement's cause, or that none applies
pub tested_err : (sh : Shape) (x : Span) (st : Statement) (a : Result (Unit {0}) Refusal) (y : Refusal) → a ≡ Err y → IsTested sh x st a → IsRefusedFirst sh x st y
tested_err sh x st a y e h = subst (IsTested sh x st) e h

pub tested_ok : (sh : Shape) (x : Span) (st : Statement) (a : Result (Unit {0}) Refusal) (u : Unit {0}) → a ≡ Ok u → IsTested sh x st a → FirstPass sh x st
tested_ok sh x st a u e h = subst (IsTested sh x st) e h

pub passed_as : (sh sh' : Shape) (x : Span) (st : Statement) → sh ≡ sh' → FirstPass sh x st → FirstPass sh' x st
passed_as sh sh' x st e h = subst (λ (z : Shape). FirstPass z x st) e h

-- ---- no table

made_fails : {D : Type 0} (meaning : Meaning D) (x : Span) (name : List ℕ) (pctfree : ℕ) (own : Option ℕ) (a b : Held D) (f : MarkFault) → IsAt meaning x own a → IsStarting x → FirstPass a.shape x (asked.Table name pctfree) → SameLoan meaning a b
    → Adds {T = Unit {0}} meaning x.ended (with_table a.shape x.ended name pctfree) a b (store_part (Err f)) → AnswersTable a.shape x.ended (Err f) → HasActed meaning x (Some (asked.Table name pctfree)) a b (not_made f own)
made_fails meaning x name pctfree own a b (marks.NoSpace need) at h f loan adds none = no_table meaning x name pctfree need own a b at h f loan adds none
made_fails meaning x name pctfree own a b (marks.Store fault) at h f loan adds none = acted_fails {T = Unit {0}} meaning x (Some (asked.Table name pctfree)) own a b fault (with_table a.shape x.ended name pctfree) at loan adds

pub table_fails : {D : Type 0} (meaning : Meaning D) (x : Span) (name : List ℕ) (pctfree : ℕ) (own : Option ℕ) (a b : Held D) (f : MarkFault) (r : Result Acted StoreFault) → r ≡ not_made f own → IsAt meaning x own a → IsStarting x → FirstPass a.shape x (asked.Table name pctfree) → SameLoan meaning a b
    → Adds {T = Unit {0}} meaning x.ended (with_table a.shape x.ended name pctfree) a b (store_part (Err f)) → AnswersTable a.shape x.ended (Err f) → HasActed meaning x (Some (asked.Table name pctfree)) a b r
table_fails meaning x name pctfree own a b f r e at h p loan adds none = subst (λ (z : Result Acted StoreFault). HasActed meaning x (Some (asked.Table name pctfree)) a b z) (sym e) (made_fails meaning x name pctfree own a b f at h p loan adds none)

called_fails : {D : Type 0} (meaning : Meaning D) (own : Option ℕ) (a b : Held D) (f : MarkFault) → a.fault ≡ None → SameLoan meaning a b → HasCause {T = Unit {0}} meaning a b (store_part (Err f)) → HasCalled meaning a b (not_made f own)
called_fails meaning own a b (marks.NoSpace need) n loan cause = called_ok {A = Unit {0}} meaning a b tt (record { turned = turned.Over (outcome.Refused (why.NoSpace need)) kept.Nothing; own = own }) n loan cause
called_fails meaning own a b (marks.Store fault) n loan cause = called_err {A = Unit {0}} meaning a b fault n loan cause

pub table_called : {D : Type 0} (meaning : Meaning D) (own : Option ℕ) (a b : Held D) (f : MarkFault) (r : Result Acted StoreFault) → r ≡ not_made f own → a.fault ≡ None → SameLoan meaning a b → HasCause {T = Unit {0}} meaning a b (store_part (Err f)) → HasCalled meaning a b r
table_called meaning own a b f r e n loan cause = subst (λ (z : Result Acted StoreFault). HasCalled meaning a b z) (sym e) (called_fails meaning own a b f n loan cause)

-- ---- row movement

backed_still : (m : MovementRecord) (R : List Record) (o : Option ℕ) → backed_of (made.Movement m ∷ R) o ≡ backed_of R o
backed_still m R None = refl
backed_still m R (Some t) = refl

pub is_table : {D : Type 0} (meaning : Meaning D) (x : Span) (own : Option ℕ) (a : Held D) (name : List ℕ) (o : ℕ) → IsAt meaning x own a → table_named x.ended name ≡ Some o → IsTable x.ended o
is_table meaning x own a name o at e = (tables_are_named a.shape x.ended at.stands.lawful.allowed).there name o e

pub switched : {D T : Type 0} (meaning : Meaning D) (x : Span) (name : List ℕ) (on : Bool) (o : ℕ) (own : Option ℕ) (a b : Held D) (y : T) → IsAt meaning x own a → IsStarting x → table_named x.ended name ≡ Some o → FirstPass a.shape x (asked.Movement name on) → SameLoan meaning a b
    → Adds {T = T} meaning x.ended (made.Movement (drafted_movement a.shape x.ended o on) ∷ x.ended) a b (Ok y) → HasActed meaning x (Some (asked.Movement name on)) a b (Ok (record { turned = turned.Over (outcome.Movement name on) kept.Nothing; own = own }))
switched {D} {T} meaning x name on o own a b y at h there f loan adds =
    let m = drafted_movement a.shape x.ended o on in
    let t = movements_tell a.shape x name on m h.at_once there refl in
    acted_adds {T = T} meaning x (Some (asked.Movement name on)) own a b y (made.Movement m ∷ x.ended) (record { turned = turned.Over (outcome.Movement name on) kept.Nothing; own = own }) at loan adds
    (record { done = done_one (made.Movement m) done_none t.makes; passed = inr f })
    (record {
      turns = record {
        means = t.means;
        passes = accepted_passes a.shape (later x (made.Movement m ∷ x.ended)) (asked.Movement name on) (outcome.Movement name on) kept.Nothing refl (movement_later a.shape x (made.Movement m ∷ x.ended) name on f);
        whole = backed_still m x.ended (own_of x.ended x.session) ∙ h.whole;
        closed = λ z. none_some _ _ (sym z);
      };
      own = at.own_is;
      kept = tt;
    })

pub begun_named : (x : Span) (name : List ℕ) (found : Option ℕ) → IsStarting x → table_named x.ended name ≡ found → table_named x.begun name ≡ found
begun_named x name found h e = subst (λ (R : List Record). table_named R name ≡ found) h.at_once e
