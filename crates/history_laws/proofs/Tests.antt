-- The tests of a statement's beginning, one after the other: each by the rank of its refusal.
use Rattle.std.proofs.Common.{◌≡◌, ℕ, zero, suc, ◌≤◌, ◌<◌, Bool, true, false, cond, ◌&&◌, leb, ltb, List, length, Option, Some, None, refl, sym, ◌∙◌, ap, subst, arith, lit<, inl, inr, leb-true, leb-false, ltb-true, ltb-false, le-leb, true≢false}
use Rattle.std.specs.Prelude.{◌⊎◌, MatchOption}
use Rattle.seg_words.proofs.Lemmas.{cases_Bool, and_parts}
use Rattle.seg_words.specs.Types.{Shape, Full, Fs4, class_code, MOST_TABLES}
use Rattle.redo_model.specs.Records.{Record}
use Rattle.redo_model.specs.Model.{table_count, table_named, has_movement, is_formatted, under_high, IsRowBlock}
use Rattle.redo_laws.specs.Among.{is_in}
use Rattle.redo_laws.specs.Scan.{scan_list}
use Rattle.redo_laws.proofs.space.Apart.{filter_has}
use Rattle.redo_laws.proofs.space.ApartLaw.{is_listed}
use Rattle.session_laws.specs.Sessions.{own_of}
use Rattle.script_text.specs.declared.statement.Statement.{Statement}
use Rattle.script_text.specs.declared.statement.Statement.TheVariants as asked
use Rattle.script_text.specs.declared.statement.Target.{Target}
use Rattle.script_text.specs.declared.statement.Target.TheVariants.{Label, Number}
use Rattle.history_text.specs.declared.refusal.Refusal.{Refusal}
use Rattle.history_text.specs.declared.refusal.Refusal.TheVariants as why
use Rattle.history_model.specs.declared.limit.TheConstants.{NEW_WORK_RECORDS}
use Rattle.history_model.specs.History.{bound}
use Rattle.history_model.specs.Spans.{Span, table_asked, target_asked}
use Rattle.history_model.specs.Order.{rank, is_first_tested}
use Rattle.history_model.specs.Causes.{IsNoTable, IsTableThere, IsTooManyTables, IsMovementOff, IsTransactionOpen, IsShrinkBusy, IsLogFull, IsNotDataBlock, IsBadValue, IsUnbound, Cause}
use Rattle.history_model.specs.Passing.{FirstPass}
use Rattle.history_laws.specs.Tests.{first_of, absent, test_table, taken, test_name, too_many, test_count, unmoved, test_movement, misplaced, test_block, opened, test_own, shrunk, test_busy, full_log, test_log, bad_value, test_value, unbound, test_label, IsShrunk, AsksBusy, FirstTells, FirstCausesTell}
use Rattle.history_laws.proofs.Owned.{none_some, same_some}
use Rattle.history_laws.proofs.Passes.{first_is_refused}
use Rattle.history_laws.proofs.Scans.{listed}

-- ---- causes by rank

abbrev CauseAt : Shape → Span → Statement → ℕ → Type 0
CauseAt sh x st zero = IsNoTable x st
CauseAt sh x st (suc zero) = IsTableThere x st
CauseAt sh x st (suc (suc zero)) = IsTooManyTables x st
CauseAt sh x st (suc (suc (suc zero))) = IsMovementOff x st
CauseAt sh x st (suc (suc (suc (suc zero)))) = IsTransactionOpen x st
CauseAt sh x st (suc (suc (suc (suc (suc zero))))) = (v : ℕ) × IsShrinkBusy x st v
CauseAt sh x st (suc (suc (suc (suc (suc (suc zero)))))) = IsLogFull x st
CauseAt sh x st (suc (suc (suc (suc (suc (suc (suc zero))))))) = (b : ℕ) × IsNotDataBlock sh x st b
CauseAt sh x st (suc (suc (suc (suc (suc (suc (suc (suc zero)))))))) = (v : ℕ) × IsBadValue st v
CauseAt sh x st (suc (suc (suc (suc (suc (suc (suc (suc (suc zero))))))))) = (l : List ℕ) × IsUnbound x st l
CauseAt sh x st n = Unit {0}

at_rank : (sh : Shape) (x : Span) (st : Statement) (z : Refusal) → Cause sh x st 0 z → CauseAt sh x st (rank z)
at_rank sh x st why.NoTable h = h
at_rank sh x st why.TableExists h = h
at_rank sh x st why.TooManyTables h = h
at_rank sh x st why.MovementOff h = h
at_rank sh x st why.TransactionOpen h = h
at_rank sh x st (why.ShrinkBusy v) h = (v, h)
at_rank sh x st why.LogFull h = h
at_rank sh x st (why.NotDataBlock b) h = (b, h)
at_rank sh x st (why.BadValue v) h = (v, h)
at_rank sh x st (why.Unbound l) h = (l, h)
at_rank sh x st (why.NoRow n) h = tt
at_rank sh x st (why.Busy u) h = tt
at_rank sh x st (why.Again cs) h = tt
at_rank sh x st (why.NoSlot ts) h = tt
at_rank sh x st (why.NoSpace need) h = tt
at_rank sh x st (why.MaxExtents count) h = tt
at_rank sh x st (why.UndoFull hs) h = tt
at_rank sh x st (why.ObjectGone e l) h = tt
at_rank sh x st (why.TooOld a) h = tt
at_rank sh x st (why.TooOldEntry u) h = tt
at_rank sh x st (why.NeedsBlock len) h = tt

-- none of the first n applies
abbrev PassedTo : Shape → Span → Statement → ℕ → Type 0
PassedTo sh x st n = (k : ℕ) → k < n → CauseAt sh x st k → ⊥

passed_one : (sh : Shape) (x : Span) (st : Statement) (n : ℕ) → PassedTo sh x st n → (CauseAt sh x st n → ⊥) → PassedTo sh x st (suc n)
passed_one sh x st n p t k l h = elim (last_or k n l) [ inl less ↦ p k less h | inr same ↦ t (subst (CauseAt sh x st) same h) ]
  where
    equal : (k n : ℕ) → k < suc n → ltb k n ≡ false → k ≡ n
    equal k n l f = let m = ltb-false k n f in omega (arith, l, m)

    last_or : (k n : ℕ) → k < suc n → (k < n) ⊎ (k ≡ n)
    last_or k n l = elim (cases_Bool (ltb k n)) [ inl y ↦ inl (ltb-true k n y) | inr f ↦ inr (equal k n l f) ]

all_passed : (sh : Shape) (x : Span) (st : Statement) → PassedTo sh x st 10 → FirstPass sh x st
all_passed sh x st p = record {
  table = λ h. p 0 (lit< tt) h;
  new_name = λ h. p 1 (lit< tt) h;
  few_tables = λ h. p 2 (lit< tt) h;
  movement = λ h. p 3 (lit< tt) h;
  no_transaction = λ h. p 4 (lit< tt) h;
  unshrunk = λ v h. p 5 (lit< tt) (v, h);
  log = λ h. p 6 (lit< tt) h;
  data_block = λ b h. p 7 (lit< tt) (b, h);
  value = λ v h. p 8 (lit< tt) (v, h);
  label = λ l h. p 9 (lit< tt) (l, h);
}

-- ---- a test

record Fails (sh : Shape) (x : Span) (st : Statement) (n : ℕ) (y : Refusal) : Type 0 where
  ranked : rank y ≡ n
  first : is_first_tested y ≡ true
  cause : Cause sh x st 0 y

abbrev TestTells : Shape → Span → Statement → ℕ → Option Refusal → Type 0
TestTells sh x st n None = CauseAt sh x st n → ⊥
TestTells sh x st n (Some y) = Fails sh x st n y

-- it is failed, or the next ones go on
goes : (sh : Shape) (x : Span) (st : Statement) (n : ℕ) (t rest : Option Refusal) → x.ended ≡ x.begun → TestTells sh x st n t → PassedTo sh x st n → (PassedTo sh x st (suc n) → FirstTells sh x st rest) → FirstTells sh x st (first_of t rest)
goes sh x st n None rest e t p f = f (passed_one sh x st n p t)
goes sh x st n (Some y) rest e t p f = first_is_refused sh x st y t.first e t.cause (λ z l h. p (rank z) (subst (λ m. rank z < m) t.ranked (ltb-true (rank z) (rank y) l)) (at_rank sh x st z h))

-- ---- each of them

no_name : (sh : Shape) (x : Span) (st : Statement) (name : Option (List ℕ)) → table_asked st ≡ name → TestTells sh x st 0 (test_table x.begun name)
no_name sh x st None e = λ h. subst (λ z. MatchOption z ⊥ (λ name. table_named x.begun name ≡ None)) e h
no_name sh x st (Some name) e = there (table_named x.begun name) refl
  where
    there : (o : Option ℕ) → table_named x.begun name ≡ o → TestTells sh x st 0 (absent o)
    there None f = record { ranked = refl; first = refl; cause = subst (λ z. MatchOption z ⊥ (λ name. table_named x.begun name ≡ None)) (sym e) f }
    there (Some o) f = λ h. none_some o ⊥ (sym (subst (λ z. MatchOption z ⊥ (λ name. table_named x.begun name ≡ None)) e h) ∙ f)

new_name : (sh : Shape) (x : Span) (name : List ℕ) (pctfree : ℕ) (o : Option ℕ) → table_named x.begun name ≡ o → TestTells sh x (asked.Table name pctfree) 1 (taken o)
new_name sh x name pctfree None e = λ h. none_some h.0 ⊥ (sym e ∙ h.1)
new_name sh x name pctfree (Some o) e = record { ranked = refl; first = refl; cause = (o, e) }

is_new : (sh : Shape) (x : Span) (st : Statement) → TestTells sh x st 1 (test_name x.begun st)
is_new sh x (asked.Table name pctfree) = new_name sh x name pctfree (table_named x.begun name) refl
is_new sh x (asked.Movement name on) = λ h. h
is_new sh x (asked.Insert name label text) = λ h. h
is_new sh x (asked.Update name target text) = λ h. h
is_new sh x (asked.Delete name target) = λ h. h
is_new sh x asked.Commit = λ h. h
is_new sh x asked.Rollback = λ h. h
is_new sh x (asked.Scan name) = λ h. h
is_new sh x (asked.Shrink name compact) = λ h. h
is_new sh x (asked.Usage name) = λ h. h
is_new sh x (asked.Fix name block value) = λ h. h
is_new sh x (asked.Repair name) = λ h. h
is_new sh x asked.Checkpoint = λ h. h

many : (sh : Shape) (x : Span) (name : List ℕ) (pctfree : ℕ) (o : Option ℕ) → table_named x.begun name ≡ o → TestTells sh x (asked.Table name pctfree) 2 (too_many o (table_count x.begun))
many sh x name pctfree (Some o) e = λ h. none_some o ⊥ (sym h.0 ∙ e)
many sh x name pctfree None e =
    elim (leb MOST_TABLES (table_count x.begun)) as (λ v. leb MOST_TABLES (table_count x.begun) ≡ v → TestTells sh x (asked.Table name pctfree) 2 (cond v (Some why.TooManyTables) None)) [
      | true ↦ λ y. record { ranked = refl; first = refl; cause = (e, leb-true MOST_TABLES (table_count x.begun) y) }
      | false ↦ λ y h. true≢false (sym (le-leb MOST_TABLES (table_count x.begun) h.1) ∙ y)
    ] refl

is_few : (sh : Shape) (x : Span) (st : Statement) → TestTells sh x st 2 (test_count x.begun st)
is_few sh x (asked.Table name pctfree) = many sh x name pctfree (table_named x.begun name) refl
is_few sh x (asked.Movement name on) = λ h. h
is_few sh x (asked.Insert name label text) = λ h. h
is_few sh x (asked.Update name target text) = λ h. h
is_few sh x (asked.Delete name target) = λ h. h
is_few sh x asked.Commit = λ h. h
is_few sh x asked.Rollback = λ h. h
is_few sh x (asked.Scan name) = λ h. h
is_few sh x (asked.Shrink name compact) = λ h. h
is_few sh x (asked.Usage name) = λ h. h
is_few sh x (asked.Fix name block value) = λ h. h
is_few sh x (asked.Repair name) = λ h. h
is_few sh x asked.Checkpoint = λ h. h

moves : (sh : Shape) (x : Span) (name : List ℕ) (compact : Bool) (o : Option ℕ) → table_named x.begun name ≡ o → TestTells sh x (asked.Shrink name compact) 3 (unmoved x.begun o)
moves sh x name compact None e = λ h. none_some h.0 ⊥ (sym e ∙ h.1)
moves sh x name compact (Some o) e =
    elim (has_movement x.begun o) as (λ v. has_movement x.begun o ≡ v → TestTells sh x (asked.Shrink name compact) 3 (cond v None (Some why.MovementOff))) [
      | true ↦ λ y h. true≢false (sym y ∙ subst (λ z. has_movement x.begun z ≡ false) (same_some h.0 o (sym h.1 ∙ e)) h.2)
      | false ↦ λ y. record { ranked = refl; first = refl; cause = (o, e, y) }
    ] refl

is_moving : (sh : Shape) (x : Span) (st : Statement) → TestTells sh x st 3 (test_movement x.begun st)
is_moving sh x (asked.Table name pctfree) = λ h. h
is_moving sh x (asked.Movement name on) = λ h. h
is_moving sh x (asked.Insert name label text) = λ h. h
is_moving sh x (asked.Update name target text) = λ h. h
is_moving sh x (asked.Delete name target) = λ h. h
is_moving sh x asked.Commit = λ h. h
is_moving sh x asked.Rollback = λ h. h
is_moving sh x (asked.Scan name) = λ h. h
is_moving sh x (asked.Shrink name compact) = moves sh x name compact (table_named x.begun name) refl
is_moving sh x (asked.Usage name) = λ h. h
is_moving sh x (asked.Fix name block value) = λ h. h
is_moving sh x (asked.Repair name) = λ h. h
is_moving sh x asked.Checkpoint = λ h. h

-- a statement that is tested for its session's transaction, and for another session's shrink
abbrev IsTestedOwn : Span → Statement → Type 0
IsTestedOwn x st = ((t : ℕ) → own_of x.begun x.session ≡ Some t → IsTransactionOpen x st) × (IsTransactionOpen x st → (t : ℕ) × (own_of x.begun x.session ≡ Some t))

opens : (sh : Shape) (x : Span) (st : Statement) (own : Option ℕ) → own_of x.begun x.session ≡ own → IsTestedOwn x st → TestTells sh x st 4 (opened own)
opens sh x st None e t = λ h. let o = t.1 h in none_some o.0 ⊥ (sym e ∙ o.1)
opens sh x st (Some u) e t = record { ranked = refl; first = refl; cause = t.0 u e }

is_closed : (sh : Shape) (x : Span) (st : Statement) → TestTells sh x st 4 (test_own (own_of x.begun x.session) st)
is_closed sh x (asked.Table name pctfree) = opens sh x (asked.Table name pctfree) (own_of x.begun x.session) refl (λ t e. (t, e), λ h. h)
is_closed sh x (asked.Movement name on) = opens sh x (asked.Movement name on) (own_of x.begun x.session) refl (λ t e. (t, e), λ h. h)
is_closed sh x (asked.Insert name label text) = λ h. h
is_closed sh x (asked.Update name target text) = λ h. h
is_closed sh x (asked.Delete name target) = λ h. h
is_closed sh x asked.Commit = λ h. h
is_closed sh x asked.Rollback = λ h. h
is_closed sh x (asked.Scan name) = λ h. h
is_closed sh x (asked.Shrink name compact) = opens sh x (asked.Shrink name compact) (own_of x.begun x.session) refl (λ t e. (t, e), λ h. h)
is_closed sh x (asked.Usage name) = λ h. h
is_closed sh x (asked.Fix name block value) = λ h. h
is_closed sh x (asked.Repair name) = λ h. h
is_closed sh x asked.Checkpoint = λ h. h

moved_by : (sh : Shape) (x : Span) (name : List ℕ) (on : Bool) (busy : Option ℕ) → IsShrunk x name busy → TestTells sh x (asked.Movement name on) 5 (shrunk busy)
moved_by sh x name on None b = λ h. b h.0 h.1
moved_by sh x name on (Some v) b = record { ranked = refl; first = refl; cause = b }

shrunk_by : (sh : Shape) (x : Span) (name : List ℕ) (compact : Bool) (busy : Option ℕ) → IsShrunk x name busy → TestTells sh x (asked.Shrink name compact) 5 (shrunk busy)
shrunk_by sh x name compact None b = λ h. b h.0 h.1
shrunk_by sh x name compact (Some v) b = record { ranked = refl; first = refl; cause = b }

is_alone : (sh : Shape) (x : Span) (st : Statement) (busy : Option ℕ) → AsksBusy x st busy → TestTells sh x st 5 (test_busy busy st)
is_alone sh x (asked.Table name pctfree) busy b = λ h. h.1
is_alone sh x (asked.Movement name on) busy b = moved_by sh x name on busy b
is_alone sh x (asked.Insert name label text) busy b = λ h. h.1
is_alone sh x (asked.Update name target text) busy b = λ h. h.1
is_alone sh x (asked.Delete name target) busy b = λ h. h.1
is_alone sh x asked.Commit busy b = λ h. h.1
is_alone sh x asked.Rollback busy b = λ h. h.1
is_alone sh x (asked.Scan name) busy b = λ h. h.1
is_alone sh x (asked.Shrink name compact) busy b = shrunk_by sh x name compact busy b
is_alone sh x (asked.Usage name) busy b = λ h. h.1
is_alone sh x (asked.Fix name block value) busy b = λ h. h.1
is_alone sh x (asked.Repair name) busy b = λ h. h.1
is_alone sh x asked.Checkpoint busy b = λ h. h.1

logs : (sh : Shape) (x : Span) (st : Statement) → (NEW_WORK_RECORDS ≤ length x.begun → IsLogFull x st) → (IsLogFull x st → NEW_WORK_RECORDS ≤ length x.begun) → TestTells sh x st 6 (full_log (length x.begun))
logs sh x st f g =
    elim (leb NEW_WORK_RECORDS (length x.begun)) as (λ v. leb NEW_WORK_RECORDS (length x.begun) ≡ v → TestTells sh x st 6 (cond v (Some why.LogFull) None)) [
      | true ↦ λ y. record { ranked = refl; first = refl; cause = f (leb-true NEW_WORK_RECORDS (length x.begun) y) }
      | false ↦ λ y h. true≢false (sym (le-leb NEW_WORK_RECORDS (length x.begun) (g h)) ∙ y)
    ] refl

has_room : (sh : Shape) (x : Span) (st : Statement) → TestTells sh x st 6 (test_log (length x.begun) st)
has_room sh x (asked.Table name pctfree) = logs sh x (asked.Table name pctfree) (λ h. h) (λ h. h)
has_room sh x (asked.Movement name on) = logs sh x (asked.Movement name on) (λ h. h) (λ h. h)
has_room sh x (asked.Insert name label text) = logs sh x (asked.Insert name label text) (λ h. h) (λ h. h)
has_room sh x (asked.Update name target text) = logs sh x (asked.Update name target text) (λ h. h) (λ h. h)
has_room sh x (asked.Delete name target) = logs sh x (asked.Delete name target) (λ h. h) (λ h. h)
has_room sh x asked.Commit = λ h. h
has_room sh x asked.Rollback = λ h. h
has_room sh x (asked.Scan name) = λ h. h
has_room sh x (asked.Shrink name compact) = logs sh x (asked.Shrink name compact) (λ h. h) (λ h. h)
has_room sh x (asked.Usage name) = λ h. h
has_room sh x (asked.Fix name block value) = logs sh x (asked.Fix name block value) (λ h. h) (λ h. h)
has_room sh x (asked.Repair name) = logs sh x (asked.Repair name) (λ h. h) (λ h. h)
has_room sh x asked.Checkpoint = λ h. h

-- a row block of the table is in its scan's list
in_list : (sh : Shape) (B : List Record) (o b : ℕ) → IsRowBlock sh B o b → is_in b (scan_list sh B o) ≡ true
in_list sh B o b h = filter_has (λ c. is_formatted sh B c) b (under_high sh B o) (is_listed (under_high sh B o) b h.here) h.formatted

placed : (sh : Shape) (x : Span) (name : List ℕ) (block : ℕ) (value : Option ℕ) (o : Option ℕ) → table_named x.begun name ≡ o → TestTells sh x (asked.Fix name block value) 7 (misplaced sh x.begun block o)
placed sh x name block value None e = λ h. none_some h.1.1.0 ⊥ (sym e ∙ h.1.1.1)
placed sh x name block value (Some o) e =
    elim (is_in block (scan_list sh x.begun o)) as (λ v. is_in block (scan_list sh x.begun o) ≡ v → TestTells sh x (asked.Fix name block value) 7 (cond v None (Some (why.NotDataBlock block)))) [
      | true ↦ λ y h. h.1.1.2 (listed sh x.begun h.1.1.0 block (subst (λ z. is_in block (scan_list sh x.begun z) ≡ true) (sym (same_some h.1.1.0 o (sym h.1.1.1 ∙ e))) y))
      | false ↦ λ y. record { ranked = refl; first = refl; cause = (refl, (o, e, λ h. true≢false (sym (in_list sh x.begun o block h) ∙ y))) }
    ] refl

is_placed : (sh : Shape) (x : Span) (st : Statement) → TestTells sh x st 7 (test_block sh x.begun st)
is_placed sh x (asked.Table name pctfree) = λ h. h.1
is_placed sh x (asked.Movement name on) = λ h. h.1
is_placed sh x (asked.Insert name label text) = λ h. h.1
is_placed sh x (asked.Update name target text) = λ h. h.1
is_placed sh x (asked.Delete name target) = λ h. h.1
is_placed sh x asked.Commit = λ h. h.1
is_placed sh x asked.Rollback = λ h. h.1
is_placed sh x (asked.Scan name) = λ h. h.1
is_placed sh x (asked.Shrink name compact) = λ h. h.1
is_placed sh x (asked.Usage name) = λ h. h.1
is_placed sh x (asked.Fix name block value) = placed sh x name block value (table_named x.begun name) refl
is_placed sh x (asked.Repair name) = λ h. h.1
is_placed sh x asked.Checkpoint = λ h. h.1

out_of : (v : ℕ) → (leb (class_code Full) v && leb v (class_code Fs4)) ≡ false → (v < class_code Full) ⊎ (class_code Fs4 < v)
out_of v e = elim (cases_Bool (leb (class_code Full) v)) [
  | inl y ↦ inr (above v (subst (λ z. (z && leb v (class_code Fs4)) ≡ false) y e))
  | inr f ↦ inl (below v f)
]
  where
    above : (v : ℕ) → leb v (class_code Fs4) ≡ false → class_code Fs4 < v
    above v f = leb-false v (class_code Fs4) f

    below : (v : ℕ) → leb (class_code Full) v ≡ false → v < class_code Full
    below v f = leb-false (class_code Full) v f

valued : (sh : Shape) (x : Span) (name : List ℕ) (block : ℕ) (value : Option ℕ) → TestTells sh x (asked.Fix name block value) 8 (bad_value value)
valued sh x name block None = λ h. h.1
valued sh x name block (Some v) =
    elim (leb (class_code Full) v && leb v (class_code Fs4)) as (λ w. (leb (class_code Full) v && leb v (class_code Fs4)) ≡ w → TestTells sh x (asked.Fix name block (Some v)) 8 (cond w None (Some (why.BadValue v)))) [
      | true ↦ λ y h. within y h.1.1
      | false ↦ λ y. record { ranked = refl; first = refl; cause = (refl, out_of v y) }
    ] refl
  where
    within : (leb (class_code Full) v && leb v (class_code Fs4)) ≡ true → (v < class_code Full) ⊎ (class_code Fs4 < v) → ⊥
    within y o =
        let p = and_parts (leb (class_code Full) v) (leb v (class_code Fs4)) y in
        let l : class_code Full ≤ v = leb-true (class_code Full) v p.0 in
        let m : v ≤ class_code Fs4 = leb-true v (class_code Fs4) p.1 in
        elim o [ inl a ↦ omega (arith, a, l) | inr b ↦ omega (arith, b, m) ]

is_valued : (sh : Shape) (x : Span) (st : Statement) → TestTells sh x st 8 (test_value st)
is_valued sh x (asked.Table name pctfree) = λ h. h.1
is_valued sh x (asked.Movement name on) = λ h. h.1
is_valued sh x (asked.Insert name label text) = λ h. h.1
is_valued sh x (asked.Update name target text) = λ h. h.1
is_valued sh x (asked.Delete name target) = λ h. h.1
is_valued sh x asked.Commit = λ h. h.1
is_valued sh x asked.Rollback = λ h. h.1
is_valued sh x (asked.Scan name) = λ h. h.1
is_valued sh x (asked.Shrink name compact) = λ h. h.1
is_valued sh x (asked.Usage name) = λ h. h.1
is_valued sh x (asked.Fix name block value) = valued sh x name block value
is_valued sh x (asked.Repair name) = λ h. h.1
is_valued sh x asked.Checkpoint = λ h. h.1

labelled : (sh : Shape) (x : Span) (st : Statement) (target : Option Target) → target_asked st ≡ target → TestTells sh x st 9 (test_label x target)
labelled sh x st None e = λ h. none_some (Label h.0) ⊥ (sym e ∙ h.1.0)
labelled sh x st (Some (Number n)) e = λ h. number_label n h.0 (same_some (Number n) (Label h.0) (sym e ∙ h.1.0))
  where
    number_label : (n : ℕ) (l : List ℕ) → Number n ≡ Label l → ⊥
    number_label n l e = cc
labelled sh x st (Some (Label l)) e = binds (bound x.scripts x.past l) refl
  where
    one_label : (k : List ℕ) → Label l ≡ Label k → l ≡ k
    one_label k e = cc

    binds : (n : Option ℕ) → bound x.scripts x.past l ≡ n → TestTells sh x st 9 (unbound l n)
    binds None f = record { ranked = refl; first = refl; cause = (e, f) }
    binds (Some n) f = λ h. none_some n ⊥ (sym h.1.1 ∙ (ap (λ (k : List ℕ). bound x.scripts x.past k) (sym (one_label h.0 (same_some (Label l) (Label h.0) (sym e ∙ h.1.0)))) ∙ f))

-- ---- all of them

pub first_causes_tell : FirstCausesTell
first_causes_tell sh x busy st b e =
    goes sh x st 0 (test_table x.begun (table_asked st)) _ e (no_name sh x st (table_asked st) refl) (λ k l h. absurd (omega (arith, l)))
    (λ p. goes sh x st 1 (test_name x.begun st) _ e (is_new sh x st) p
    (λ p. goes sh x st 2 (test_count x.begun st) _ e (is_few sh x st) p
    (λ p. goes sh x st 3 (test_movement x.begun st) _ e (is_moving sh x st) p
    (λ p. goes sh x st 4 (test_own (own_of x.begun x.session) st) _ e (is_closed sh x st) p
    (λ p. goes sh x st 5 (test_busy busy st) _ e (is_alone sh x st busy b) p
    (λ p. goes sh x st 6 (test_log (length x.begun) st) _ e (has_room sh x st) p
    (λ p. goes sh x st 7 (test_block sh x.begun st) _ e (is_placed sh x st) p
    (λ p. goes sh x st 8 (test_value st) _ e (is_valued sh x st) p
    (λ p. goes sh x st 9 (test_label x (target_asked st)) None e (labelled sh x st (target_asked st) refl) p (λ p. all_passed sh x st p))))))))))
