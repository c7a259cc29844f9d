-- A change of a row within an event: who makes it, what it adds, and where it leaves its session.
use Rattle.std.proofs.Common.{◌≡◌, ℕ, suc, ◌≤◌, ◌<◌, true, false, ◌||◌, eqb, List, [], ◌∷◌, Option, Some, None, refl, sym, ◌∙◌, ap, subst, inl, inr, arith, le_refl, eq-eqb}
use Rattle.std.specs.Prelude.{Ok, Err, MatchOption}
use Rattle.seg_words.proofs.Lemmas.{cond-true}
use Rattle.std.proofs.Common.{eqb-true}
use Rattle.seg_words.specs.Types.{Shape}
use Rattle.disk_model.specs.Crash.{Meaning}
use Rattle.redo_record.specs.declared.record.Record.TheVariants as made
use Rattle.redo_model.specs.Records.{Record, RowBody, BeginRecord, ReuseRecord}
use Rattle.redo_model.specs.Model.{txn_count, is_active, is_backed, AreAllowed}
use Rattle.session_laws.specs.Sessions.{own_of, own_backed, backed_of}
use Rattle.session_laws.proofs.Own.{none_opened}
use Rattle.session_laws.proofs.OwnersLaw.{sessions_own_transactions}
use Rattle.change_laws.specs.Drafts.{RowKind, Inserts, Updates, Migrates, Returns, Deletes, as_record, Change, change_size, record_of}
use Rattle.change_laws.specs.Spots.{Spot, Here, Next, Full, undo_start, spot_for, list_at}
use Rattle.script_text.specs.declared.statement.Statement.{Statement}
use Rattle.history_text.specs.declared.refusal.Refusal.{Refusal}
use Rattle.history_model.specs.declared.history.Kept.TheVariants as kept
use Rattle.history_model.specs.Spans.{Span}
use Rattle.history_model.specs.Makes.{Makes}
use Rattle.history_model.specs.RowMeans.{with_begin, with_reuse}
use Rattle.history_laws.specs.Changing.{IsBegunFor, AddsChange, MakesChange}
use Rattle.history_laws.specs.Refusals.{IsRefusedSo}
use Rattle.history_laws.proofs.Owned.{none_some, same_some}
use Rattle.session_model.specs.Sessions.{HasPassed}
use Rattle.session_model.specs.Done.{MayDo, IsDoneBy, done_none, done_one}
use Rattle.session_model.specs.Worlds.{Acts}
use Rattle.store_core.specs.Store.{Held, SameLoan}
use Rattle.store_core.specs.declared.fault.StoreFault.{StoreFault}
use Rattle.row_change.specs.Acting.{MayAct, txn_of}
use Rattle.row_change.specs.Adding.{Stands}
use Rattle.row_change.specs.Planning.{IsBegun, IsNext}
use Rattle.row_change.specs.Answering.{HasFailed}
use Rattle.history_text.specs.declared.outcome.Outcome.TheVariants as outcome
use Rattle.session_core.specs.declared.turned.Turned.TheVariants as turned
use Rattle.session_core.specs.Acting.{IsAt, Turns, HasActed}
use Rattle.session_core.specs.Inserts.{IsBy}
use Rattle.session_core.proofs.Calls.{acts_none}
use Rattle.session_core.proofs.Ends.{active_own}
use Rattle.session_core.proofs.MakingTables.{refusal_over}

-- ---- refusals

pub so_refused : (sh : Shape) (x : Span) (st : Statement) (y : Refusal) (own : Option ℕ) → IsRefusedSo sh x st y → own_backed x.ended x.session ≡ false → own_of x.ended x.session ≡ own
    → Turns sh x (Some st) x.ended (record { turned = turned.Over (outcome.Refused y) kept.Nothing; own = own })
so_refused sh x st y own r b o = record { turns = refusal_over sh x st y r b; own = o; kept = tt }

-- a call that stays with the records is refused
pub stands_refused : {D : Type 0} (meaning : Meaning D) (x : Span) (st : Statement) (y : Refusal) (own : Option ℕ) (a b : Held D) → IsAt meaning x own a → own_backed x.ended x.session ≡ false → SameLoan meaning a b → a.log.stable ≤ b.log.stable
    → Stands meaning x.ended x.ended a b → IsRefusedSo a.shape x st y → HasActed meaning x (Some st) a b (Ok (record { turned = turned.Over (outcome.Refused y) kept.Nothing; own = own }))
stands_refused meaning x st y own a b at whole loan stable stands r = record {
  records = x.ended;
  stands = stands.list;
  acts = acts_none a.shape x (Some st);
  stable = stable;
  survives = stands.survives;
  time = loan.time x.ended at.stands.list;
  turns = so_refused a.shape x st y own r whole at.own_is;
  sound = tt;
}

-- ---- the session's transaction

pub may_act : {D : Type 0} (meaning : Meaning D) (x : Span) (who : ℕ) (own : Option ℕ) (a : Held D) → IsAt meaning x own a → IsBy x who → MayAct x.ended who own
may_act meaning x who None a at by = record {
  least = by.from;
  most = by.to;
  none_open = none_opened a.shape x.ended who at.stands.lawful.allowed (subst (λ (w : ℕ). own_of x.ended w ≡ None) by.session at.own_is);
}
may_act meaning x who (Some t) a at by = active_own a.shape x.ended x.session t at.stands.lawful.allowed at.own_is

-- transactions have numbers up to the count of those that began
active_most : (sh : Shape) (R : List Record) (t : ℕ) → AreAllowed sh R → is_active R t ≡ true → t ≤ txn_count R
active_most sh R t a on =
    let s = sessions_own_transactions sh R a in
    let w = s.whose t on in
    (s.each w.session).most t w.own

-- so of the next one nothing is taken back
fresh_backed : (sh : Shape) (R : List Record) (t : ℕ) → AreAllowed sh R → txn_count R < t → is_backed R t ≡ false
fresh_backed sh [] t a l = refl
fresh_backed sh (made.Begin g ∷ R) t a l = fresh_backed sh R t a.0 (omega (arith, l))
fresh_backed sh (made.Back k ∷ R) t a l =
    (elim (eqb k.txn t) as (λ v. eqb k.txn t ≡ v → (v || is_backed R t) ≡ false) [
      | true ↦ λ e. let m = active_most sh R k.txn a.0 a.1.kind.active in let same = eqb-true k.txn t e in absurd (omega (arith, l, m, same))
      | false ↦ λ e. fresh_backed sh R t a.0 l
    ]) refl
fresh_backed sh (_ ∷ R) t a l = fresh_backed sh R t a.0 l

-- ---- what a change leaves

own_row : (k : RowKind) (w : RowBody) (R : List Record) (v : ℕ) → own_of (as_record k w ∷ R) v ≡ own_of R v
own_row Inserts w R v = refl
own_row Updates w R v = refl
own_row Migrates w R v = refl
own_row Returns w R v = refl
own_row Deletes w R v = refl

backed_row : (k : RowKind) (w : RowBody) (R : List Record) (t : ℕ) → is_backed (as_record k w ∷ R) t ≡ is_backed R t
backed_row Inserts w R t = refl
backed_row Updates w R t = refl
backed_row Migrates w R t = refl
backed_row Returns w R t = refl
backed_row Deletes w R t = refl

record LeftBy (before next : List Record) (w : ℕ) : Type 0 where
  own : own_of next w ≡ own_of before w
  backed : (t : ℕ) → is_backed next t ≡ is_backed before t

left_by : (before next : List Record) (t w : ℕ) (c : Change) (s : Spot) → list_at before t c s ≡ Some next → LeftBy before next w
left_by before next t w c (Here a) e =
    let is = same_some (record_of before t a c ∷ before) next e in
    record {
      own = sym (ap (λ (R : List Record). own_of R w) is) ∙ own_row c.kind _ before w;
      backed = λ u. sym (ap (λ (R : List Record). is_backed R u) is) ∙ backed_row c.kind _ before u;
    }
left_by before next t w c (Next q) e =
    let is = same_some (record_of (made.Reuse q ∷ before) t (undo_start q) c ∷ made.Reuse q ∷ before) next e in
    record {
      own = sym (ap (λ (R : List Record). own_of R w) is) ∙ own_row c.kind _ (made.Reuse q ∷ before) w;
      backed = λ u. sym (ap (λ (R : List Record). is_backed R u) is) ∙ backed_row c.kind _ (made.Reuse q ∷ before) u;
    }
left_by before next t w c (Full hs) e = none_some next _ e

-- the session has the transaction that made it, of which nothing is taken back
pub record HasMade (R next : List Record) (w : ℕ) (own : Option ℕ) : Type 0 where
  pub own_is : own_of next w ≡ Some (txn_of R own)
  pub whole : own_backed next w ≡ false

whole_by : (next : List Record) (w t : ℕ) → own_of next w ≡ Some t → is_backed next t ≡ false → own_backed next w ≡ false
whole_by next w t o b = ap (backed_of next) o ∙ b

made_by : (sh : Shape) (R next before : List Record) (w who : ℕ) (c : Change) (own : Option ℕ) → AreAllowed sh R → w ≡ who → own_of R w ≡ own → own_backed R w ≡ false → IsBegun R who own before → LeftBy before next w → HasMade R next w own
made_by sh R next before w who c None a same o b g l =
    let begun : own_of before w ≡ Some (suc (txn_count R)) = ap (λ (Q : List Record). own_of Q w) g.is ∙ cond-true _ _ _ (eq-eqb who w (sym same)) in
    let fresh : is_backed before (suc (txn_count R)) ≡ false = ap (λ (Q : List Record). is_backed Q (suc (txn_count R))) g.is ∙ fresh_backed sh R (suc (txn_count R)) a (le_refl _) in
    record { own_is = l.own ∙ begun; whole = whole_by next w (suc (txn_count R)) (l.own ∙ begun) (l.backed (suc (txn_count R)) ∙ fresh) }
made_by sh R next before w who c (Some t) a same o b g l =
    let mine : own_of before w ≡ Some t = ap (λ (Q : List Record). own_of Q w) g ∙ o in
    let kept : is_backed before t ≡ false = ap (λ (Q : List Record). is_backed Q t) g ∙ (sym (ap (backed_of R) o) ∙ b) in
    record { own_is = l.own ∙ mine; whole = whole_by next w t (l.own ∙ mine) (l.backed t ∙ kept) }

pub has_made : (sh : Shape) (R next : List Record) (w who : ℕ) (own : Option ℕ) (c : Change) → AreAllowed sh R → w ≡ who → own_of R w ≡ own → own_backed R w ≡ false → IsNext sh R who own c next → HasMade R next w own
has_made sh R next w who own c a same o b n = made_by sh R next n.before w who c own a same o b n.begins (left_by n.before next (txn_of R own) w c (spot_for sh n.before (change_size n.before c)) n.list_is)

-- ---- what it adds

begun_for : (R before : List Record) (w who : ℕ) (own : Option ℕ) → w ≡ who → IsBegun R who own before → IsBegunFor R w (txn_of R own) own before
begun_for R before w who None same g = record { begin = _; session = sym same; txn = refl; is = g.is }
begun_for R before w who (Some t) same g = record { txn = refl; is = g }

pub adds_change : (sh : Shape) (R next : List Record) (w who : ℕ) (own : Option ℕ) (c : Change) → w ≡ who → own_of R w ≡ own → IsNext sh R who own c next → AddsChange sh R w c next
adds_change sh R next w who own c same o n = record {
  txn = txn_of R own;
  before = n.before;
  begins = subst (λ (z : Option ℕ). IsBegunFor R w (txn_of R own) z n.before) (sym o) (begun_for R n.before w who own same n.begins);
  list_is = n.list_is;
}

-- a statement that may begin a transaction, and whose records are its own
pub record Changes (sh : Shape) (x : Span) (st : Statement) : Type 0 where
  pub may : (R : List Record) (r : Record) → Makes sh x.scripts x.past x.session (Some st) R r → MayDo sh x.scripts x.past x.session (Some st) R r
  pub begins : (R : List Record) (g : BeginRecord) → g.session ≡ x.session → Makes sh x.scripts x.past x.session (Some st) R (made.Begin g)

begun_done : (sh : Shape) (x : Span) (st : Statement) (begin : Option BeginRecord) → Changes sh x st → MatchOption begin (Unit {0}) (λ g. Makes sh x.scripts x.past x.session (Some st) x.ended (made.Begin g)) → IsDoneBy sh x.scripts x.past x.session (Some st) x.ended (with_begin begin x.ended)
begun_done sh x st None c h = done_none
begun_done sh x st (Some g) c h = done_one (made.Begin g) done_none (c.may x.ended (made.Begin g) h)

reused_done : (sh : Shape) (x : Span) (st : Statement) (reuse : Option ReuseRecord) (R : List Record) → IsDoneBy sh x.scripts x.past x.session (Some st) x.ended R → IsDoneBy sh x.scripts x.past x.session (Some st) x.ended (with_reuse reuse R)
reused_done sh x st None R h = h
reused_done sh x st (Some q) R h = done_one (made.Reuse q) h tt

pub change_acts : (sh : Shape) (x : Span) (st : Statement) (next : List Record) → Changes sh x st → HasPassed sh x (Some st) → MakesChange sh x st next → Acts sh x (Some st) next
change_acts sh x st next c f m =
    subst (λ (R : List Record). Acts sh x (Some st) R) (sym m.next_is) (record {
      done = done_one m.rec (reused_done sh x st m.reuse (with_begin m.begin x.ended) (begun_done sh x st m.begin c m.begins)) (c.may (with_reuse m.reuse (with_begin m.begin x.ended)) m.rec m.makes);
      passed = inr f;
    })

-- the Begin alone, of a call that failed
begun_acts : (sh : Shape) (x : Span) (st : Statement) (who : ℕ) (own : Option ℕ) (next : List Record) → Changes sh x st → HasPassed sh x (Some st) → x.session ≡ who → IsBegun x.ended who own next → Acts sh x (Some st) next
begun_acts sh x st who None next c f same g =
    subst (λ (R : List Record). Acts sh x (Some st) R) (sym g.is) (record { done = done_one _ done_none (c.may x.ended _ (c.begins x.ended _ (sym same))); passed = inr f })
begun_acts sh x st who (Some t) next c f same g = subst (λ (R : List Record). Acts sh x (Some st) R) (sym g) (acts_none sh x (Some st))

-- ---- a change that failed

pub change_failed : {D : Type 0} (meaning : Meaning D) (x : Span) (st : Statement) (who : ℕ) (own : Option ℕ) (a b : Held D) (f : StoreFault) → IsAt meaning x own a → x.session ≡ who → Changes a.shape x st → HasPassed a.shape x (Some st) → SameLoan meaning a b → a.log.stable ≤ b.log.stable
    → HasFailed meaning x.ended who own a b f → HasActed meaning x (Some st) a b (Err f)
change_failed meaning x st who own a b f at same c p loan stable h = elim h.left [
  | inl s ↦ record {
    records = x.ended;
    stands = s.list;
    acts = acts_none a.shape x (Some st);
    stable = stable;
    survives = s.survives;
    time = loan.time x.ended at.stands.list;
    turns = tt;
    sound = h.sound at.unspent;
  }
  | inr s ↦ record {
    records = s.next;
    stands = s.stands.list;
    acts = begun_acts a.shape x st who own s.next c p same s.begins;
    stable = stable;
    survives = s.stands.survives;
    time = loan.time x.ended at.stands.list;
    turns = tt;
    sound = h.sound at.unspent;
  }
]
