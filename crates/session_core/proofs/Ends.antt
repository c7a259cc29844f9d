-- Commits, and transactions that are taken back.
use Rattle.std.proofs.Common.{◌≡◌, ℕ, suc, ◌≤◌, true, false, List, ◌∷◌, length, Option, Some, None, refl, sym, ◌∙◌, ap, subst, inr, true≢false, eq-eqb, arith}
use Rattle.std.specs.Prelude.{Ok, Err}
use Rattle.seg_words.proofs.Lemmas.{cond-true}
use Rattle.seg_words.specs.Types.{Shape}
use Rattle.disk_model.specs.Crash.{Meaning}
use Rattle.redo_record.specs.declared.record.Record.TheVariants as made
use Rattle.redo_model.specs.Records.{Record}
use Rattle.redo_model.specs.Model.{Step, commit_count, is_active, is_backed, standing, newest_of, AreAllowed}
use Rattle.session_laws.specs.Sessions.{own_of, own_backed, backed_of, without_txn}
use Rattle.session_laws.proofs.OwnersLaw.{sessions_own_transactions}
use Rattle.end_laws.specs.Types.{MayCommit, MayEnd, commit_of, ended_of, back_of, backed, backed_with, blocks_in, blocks_of_step}
use Rattle.script_text.specs.declared.statement.Statement.{Statement}
use Rattle.script_text.specs.declared.statement.Statement.TheVariants as asked
use Rattle.history_text.specs.declared.outcome.Outcome.TheVariants as outcome
use Rattle.history_model.specs.declared.history.Kept.TheVariants as kept
use Rattle.history_model.specs.Spans.{Span}
use Rattle.history_model.specs.Passing.{FirstPass}
use Rattle.history_model.specs.Means.{PassesOver}
use Rattle.history_laws.specs.Acting.{TakesBack}
use Rattle.history_laws.specs.Working.{later, grown, BackStands, TakingBack}
use Rattle.history_laws.proofs.Acting.{backs_begin, backs_go, backs_end}
use Rattle.history_laws.proofs.OneEvent.{commits_tell}
use Rattle.history_laws.proofs.Owned.{none_some}
use Rattle.history_laws.proofs.Passes.{accepted_passes}
use Rattle.session_model.specs.Doings.{DoingFits, Working}
use Rattle.session_model.specs.Sessions.{HasPassed}
use Rattle.session_model.specs.Done.{done_none, done_one}
use Rattle.session_model.specs.Worlds.{Acts}
use Rattle.store_core.specs.Store.{Held, IsTrue, SameLoan}
use Rattle.store_core.specs.Survives.{Survives}
use Rattle.store_core.specs.Adding.{Adds}
use Rattle.store_core.specs.Causes.{IsSoundFault}
use Rattle.store_core.specs.declared.fault.StoreFault.{StoreFault}
use Rattle.store_core.specs.declared.fault.StoreFault.TheVariants.{DeviceFault}
use Rattle.session_core.specs.declared.session.Doing.TheVariants as told
use Rattle.session_core.specs.declared.turned.Turned.TheVariants as turned
use Rattle.session_core.specs.Acting.{IsAt, IsStarting, Turns, HasActed}
use Rattle.session_core.specs.Ends.{NoneLeft, MayRollBack}
use Rattle.session_core.proofs.Calls.{acted_same, acted_adds}

-- ---- how many records are stable

-- a store counts its records
counted : {D : Type 0} (meaning : Meaning D) (R : List Record) (s : Held D) → IsTrue meaning R s → s.log.count ≤ length R
counted meaning R s h = let c = h.list.list.has.count in omega (arith, c)

pub flushed : {D : Type 0} (meaning : Meaning D) (r : Record) (R : List Record) (s : Held D) → IsTrue meaning (r ∷ R) s → s.log.stable ≡ suc (length R) → s.log.count ≤ s.log.stable
flushed meaning r R s h e = let c = counted meaning (r ∷ R) s h in omega (arith, c, e)

-- ---- first tests: there are none

commit_passes : (sh : Shape) (x : Span) → FirstPass sh x asked.Commit
commit_passes sh x = record {
  table = λ h. h;
  new_name = λ h. h;
  few_tables = λ h. h;
  movement = λ h. h;
  no_transaction = λ h. h;
  unshrunk = λ v h. h;
  log = λ h. h;
  data_block = λ b h. h;
  value = λ v h. h;
  label = λ l h. none_some _ _ h.0;
}

rollback_passes : (sh : Shape) (x : Span) → FirstPass sh x asked.Rollback
rollback_passes sh x = record {
  table = λ h. h;
  new_name = λ h. h;
  few_tables = λ h. h;
  movement = λ h. h;
  no_transaction = λ h. h;
  unshrunk = λ v h. h;
  log = λ h. h;
  data_block = λ b h. h;
  value = λ v h. h;
  label = λ l h. none_some _ _ h.0;
}

-- ---- a commit

-- the session's transaction is active
pub active_own : (sh : Shape) (R : List Record) (w t : ℕ) → AreAllowed sh R → own_of R w ≡ Some t → is_active R t ≡ true
active_own sh R w t a o = ((sessions_own_transactions sh R a).each w).active t o

-- nothing of it is taken back
whole_own : (R : List Record) (w t : ℕ) → own_of R w ≡ Some t → own_backed R w ≡ false → is_backed R t ≡ false
whole_own R w t o b = sym (ap (backed_of R) o) ∙ b

-- what has no transaction has taken nothing back
none_backed : (R : List Record) (w : ℕ) → own_of R w ≡ None → own_backed R w ≡ false
none_backed R w o = ap (backed_of R) o

pub may_commit : {D : Type 0} (meaning : Meaning D) (x : Span) (t : ℕ) (a : Held D) → IsAt meaning x (Some t) a → IsStarting x → MayCommit x.ended t
may_commit meaning x t a at st = record {
  active = active_own a.shape x.ended x.session t at.stands.lawful.allowed at.own_is;
  whole = whole_own x.ended x.session t at.own_is st.whole;
}

without_own : (t : ℕ) (o : Option ℕ) → o ≡ Some t → without_txn t o ≡ None
without_own t o e = ap (without_txn t) e ∙ cond-true _ _ _ (eq-eqb t t refl)

committed_acts : (sh : Shape) (x : Span) (t : ℕ) → IsStarting x → own_of x.ended x.session ≡ Some t → Acts sh x (Some asked.Commit) (made.Commit (commit_of x.ended t) ∷ x.ended)
committed_acts sh x t st o = record { done = done_one (made.Commit (commit_of x.ended t)) done_none (commits_tell sh x (commit_of x.ended t) st.at_once o).makes; passed = inr (commit_passes sh x) }

committed_turns : (sh : Shape) (x : Span) (t n : ℕ) → IsStarting x → own_of x.ended x.session ≡ Some t → n ≡ suc (commit_count x.ended)
    → Turns sh x (Some asked.Commit) (made.Commit (commit_of x.ended t) ∷ x.ended) (record { turned = turned.Over (outcome.Committed n) kept.Nothing; own = None })
committed_turns sh x t n st o e =
    subst (λ (m : ℕ). Turns sh x (Some asked.Commit) R (record { turned = turned.Over (outcome.Committed m) kept.Nothing; own = None })) (sym e) (record {
      turns = record {
        means = (commits_tell sh x (commit_of x.ended t) st.at_once o).means;
        passes = accepted_passes sh (later x R) asked.Commit (outcome.Committed (suc (commit_count x.ended))) kept.Nothing refl (commit_passes sh (later x R));
        whole = none_backed R x.session none;
        closed = λ z. none_some _ _ (sym z);
      };
      own = none;
      kept = tt;
    })
  where
    R : List Record
    R = made.Commit (commit_of x.ended t) ∷ x.ended

    none : own_of R x.session ≡ None
    none = without_own t (own_of x.ended x.session) o

pub committed : {D : Type 0} (meaning : Meaning D) (x : Span) (t n : ℕ) (a b : Held D) → IsAt meaning x (Some t) a → IsStarting x → SameLoan meaning a b → IsTrue meaning (made.Commit (commit_of x.ended t) ∷ x.ended) b → n ≡ suc (commit_count x.ended) → a.log.stable ≤ b.log.stable
    → ((since : ℕ) (needed : ℕ → ℕ) → Survives meaning since needed x.ended a → Survives meaning since needed (made.Commit (commit_of x.ended t) ∷ x.ended) b)
    → HasActed meaning x (Some asked.Commit) a b (Ok (record { turned = turned.Over (outcome.Committed n) kept.Nothing; own = None }))
committed meaning x t n a b at st loan stands e stable survives = record {
  records = made.Commit (commit_of x.ended t) ∷ x.ended;
  stands = stands;
  acts = committed_acts a.shape x t st at.own_is;
  stable = stable;
  survives = survives;
  time = loan.time x.ended at.stands.list;
  turns = committed_turns a.shape x t n st at.own_is e;
  sound = tt;
}

pub uncommitted : {D : Type 0} (meaning : Meaning D) (x : Span) (t : ℕ) (f : StoreFault) (a b : Held D) → IsAt meaning x (Some t) a → IsStarting x → SameLoan meaning a b → IsTrue meaning (made.Commit (commit_of x.ended t) ∷ x.ended) b → f ≡ DeviceFault → a.log.stable ≤ b.log.stable
    → ((since : ℕ) (needed : ℕ → ℕ) → Survives meaning since needed x.ended a → Survives meaning since needed (made.Commit (commit_of x.ended t) ∷ x.ended) b) → HasActed meaning x (Some asked.Commit) a b (Err f)
uncommitted meaning x t f a b at st loan stands e stable survives = record {
  records = made.Commit (commit_of x.ended t) ∷ x.ended;
  stands = stands;
  acts = committed_acts a.shape x t st at.own_is;
  stable = stable;
  survives = survives;
  time = loan.time x.ended at.stands.list;
  turns = tt;
  sound = subst IsSoundFault (sym e) tt;
}

pub nothing_committed : {D : Type 0} (meaning : Meaning D) (x : Span) (s : Held D) → IsAt meaning x None s → IsStarting x → HasActed meaning x (Some asked.Commit) s s (Ok (record { turned = turned.Over outcome.NothingToCommit kept.Nothing; own = None }))
nothing_committed meaning x s at st = acted_same meaning x (Some asked.Commit) None s (record { turned = turned.Over outcome.NothingToCommit kept.Nothing; own = None }) at (record {
  turns = record {
    means = record { none = subst (λ (R : List Record). own_of R x.session ≡ None) st.at_once at.own_is; ends = st.at_once };
    passes = accepted_passes s.shape (later x x.ended) asked.Commit outcome.NothingToCommit kept.Nothing refl (commit_passes s.shape (later x x.ended));
    whole = st.whole;
    closed = λ z. none_some _ _ (sym z);
  };
  own = at.own_is;
  kept = tt;
})

-- ---- a transaction that is taken back

taken_passes : (sh : Shape) (x : Span) (st : Option Statement) → TakesBack st → HasPassed sh x st
taken_passes sh x (Some asked.Rollback) h = rollback_passes sh x
taken_passes sh x None h = tt
taken_passes sh x st h = absurd h

taken_over : (sh : Shape) (x : Span) (st : Option Statement) → TakesBack st → PassesOver sh x st outcome.RolledBack kept.Nothing
taken_over sh x (Some asked.Rollback) h = accepted_passes sh x asked.Rollback outcome.RolledBack kept.Nothing refl (rollback_passes sh x)
taken_over sh x None h = tt
taken_over sh x st h = absurd h

taken_fits : (sh : Shape) (x : Span) (st : Option Statement) (t : ℕ) → TakesBack st → BackStands x t → DoingFits sh x st (Working (TakingBack t))
taken_fits sh x (Some asked.Rollback) t h b = b
taken_fits sh x None t h b = b
taken_fits sh x st t h b = absurd h

-- a record was taken back
record IsTaken (R : List Record) (t : ℕ) : Type 0 where
  pub step : Step
  pub is : backed R t ≡ made.Back (back_of R t step) ∷ R

taken_step : (R : List Record) (t : ℕ) (bs : List ℕ) (n : Option Step) → newest_of (standing R) t ≡ n → Some bs ≡ blocks_of_step n → IsTaken R t
taken_step R t bs None e h = none_some bs _ (sym h)
taken_step R t bs (Some st) e h = record { step = st; is = ap (backed_with R t) e }

-- none was left
pub left_none : (R : List Record) (t : ℕ) (n : Option Step) → newest_of (standing R) t ≡ n → ◌≡◌ {A = Option (List ℕ)} None (blocks_of_step n) → newest_of (standing R) t ≡ None
left_none R t None e h = e
left_none R t (Some st) e h = none_some (blocks_in st.parts) _ h

taken_turns : (sh : Shape) (x : Span) (st : Option Statement) (t : ℕ) (y : Step) → TakesBack st → own_of x.ended x.session ≡ Some t → BackStands x t
    → Turns sh x st (made.Back (back_of x.ended t y) ∷ x.ended) (record { turned = turned.On (told.TakingBack t); own = Some t })
taken_turns sh x st t y k o b =
    let g = backs_go sh x st t (back_of x.ended t y) k refl b in
    record {
      turns = record { passed = taken_passes sh (grown x (made.Back (back_of x.ended t y))) st k; fits = taken_fits sh (grown x (made.Back (back_of x.ended t y))) st t k g.stands; whole = λ e. absurd (true≢false e) };
      own = o;
      kept = tt;
    }

taken_acts : (sh : Shape) (x : Span) (st : Option Statement) (t : ℕ) (y : Step) → TakesBack st → BackStands x t → Acts sh x st (made.Back (back_of x.ended t y) ∷ x.ended)
taken_acts sh x st t y k b = record { done = done_one (made.Back (back_of x.ended t y)) done_none (backs_go sh x st t (back_of x.ended t y) k refl b).makes; passed = inr (taken_passes sh x st k) }

pub taken_back : {D : Type 0} (meaning : Meaning D) (x : Span) (st : Option Statement) (t : ℕ) (bs : List ℕ) (y : Option (List ℕ)) (a b : Held D) → TakesBack st → IsAt meaning x (Some t) a → BackStands x t → SameLoan meaning a b → Adds {T = Option (List ℕ)} meaning x.ended (backed x.ended t) a b (Ok y)
    → Some bs ≡ blocks_of_step (newest_of (standing x.ended) t) → HasActed meaning x st a b (Ok (record { turned = turned.On (told.TakingBack t); own = Some t }))
taken_back meaning x st t bs answered a b k at w loan h answer =
    let y = taken_step x.ended t bs (newest_of (standing x.ended) t) refl answer in
    acted_adds {T = Option (List ℕ)} meaning x st (Some t) a b answered (made.Back (back_of x.ended t y.step) ∷ x.ended) (record { turned = turned.On (told.TakingBack t); own = Some t }) at loan
    (subst (λ (R : List Record). Adds {T = Option (List ℕ)} meaning x.ended R a b (Ok answered)) y.is h) (taken_acts a.shape x st t y.step k w) (taken_turns a.shape x st t y.step k at.own_is w)

-- nothing was added where none is left
pub backed_same : (R : List Record) (t : ℕ) → newest_of (standing R) t ≡ None → backed R t ≡ R
backed_same R t e = ap (backed_with R t) e

-- it ends
pub may_end : {D : Type 0} (meaning : Meaning D) (x : Span) (t : ℕ) (a : Held D) → IsAt meaning x (Some t) a → NoneLeft x.ended t → MayEnd x.ended t
may_end meaning x t a at n = record { active = active_own a.shape x.ended x.session t at.stands.lawful.allowed at.own_is; none_left = n }

pub ended_back : {D T : Type 0} (meaning : Meaning D) (x : Span) (st : Option Statement) (t : ℕ) (y : T) (a b : Held D) → TakesBack st → IsAt meaning x (Some t) a → BackStands x t → SameLoan meaning a b → Adds {T = T} meaning x.ended (made.Ended (ended_of x.ended t) ∷ x.ended) a b (Ok y)
    → HasActed meaning x st a b (Ok (record { turned = turned.Over outcome.RolledBack kept.Nothing; own = None }))
ended_back {D} {T} meaning x st t y a b k at w loan h =
    let g = backs_end a.shape x st t (ended_of x.ended t) k refl w in
    acted_adds {T = T} meaning x st (Some t) a b y (made.Ended (ended_of x.ended t) ∷ x.ended) (record { turned = turned.Over outcome.RolledBack kept.Nothing; own = None }) at loan h
    (record { done = done_one (made.Ended (ended_of x.ended t)) done_none g.makes; passed = inr (taken_passes a.shape x st k) })
    (record {
      turns = record { means = g.means; passes = taken_over a.shape (grown x (made.Ended (ended_of x.ended t))) st k; whole = none_backed (made.Ended (ended_of x.ended t) ∷ x.ended) x.session g.none; closed = λ z. g.none };
      own = g.none;
      kept = tt;
    })

-- ---- how it begins

pub rolls_back : (st : Option Statement) (t : ℕ) → MayRollBack st (Some t) → TakesBack st
rolls_back (Some asked.Rollback) t h = tt
rolls_back None t h = tt
rolls_back st t h = absurd h

pub back_begins : {D : Type 0} (meaning : Meaning D) (x : Span) (t : ℕ) (a : Held D) → IsAt meaning x (Some t) a → IsStarting x → BackStands x t
back_begins meaning x t a at st =
    backs_begin x t st.at_once (subst (λ (R : List Record). own_of R x.session ≡ Some t) st.at_once at.own_is)
    (subst (λ (R : List Record). is_backed R t ≡ false) st.at_once (whole_own x.ended x.session t at.own_is st.whole))

pub nothing_rolled : {D : Type 0} (meaning : Meaning D) (x : Span) (st : Option Statement) (s : Held D) → MayRollBack st None → IsAt meaning x None s → IsStarting x → HasActed meaning x st s s (Ok (record { turned = turned.Over outcome.NothingToRollBack kept.Nothing; own = None }))
nothing_rolled meaning x (Some asked.Rollback) s k at st = acted_same meaning x (Some asked.Rollback) None s (record { turned = turned.Over outcome.NothingToRollBack kept.Nothing; own = None }) at (record {
  turns = record {
    means = record { none = subst (λ (R : List Record). own_of R x.session ≡ None) st.at_once at.own_is; ends = st.at_once };
    passes = accepted_passes s.shape (later x x.ended) asked.Rollback outcome.NothingToRollBack kept.Nothing refl (rollback_passes s.shape (later x x.ended));
    whole = st.whole;
    closed = λ z. none_some _ _ (sym z);
  };
  own = at.own_is;
  kept = tt;
})
nothing_rolled meaning x st s k at h = absurd k

pub rolls_own : (st : Option Statement) (own found : Option ℕ) → own ≡ found → MayRollBack st own → MayRollBack st found
rolls_own st own found e h = subst (MayRollBack st) e h
