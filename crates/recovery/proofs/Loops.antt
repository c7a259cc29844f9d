-- The loops of an opening over a store.
use Rattle.std.proofs.Common.{◌≡◌, ℕ, ◌+◌, ◌≤◌, Bool, true, List, ◌∷◌, length, Option, Some, None, refl, sym, ◌∙◌, ap, subst, arith}
use Rattle.std.specs.Prelude.{Result, Ok, Err, IfErr}
use Rattle.seg_words.specs.Types.{TXN_ENTRIES}
use Rattle.disk_model.specs.Crash.{Meaning}
use Rattle.redo_model.specs.Records.{Record, Ended}
use Rattle.redo_model.specs.Model.{Step, is_active, standing, newest_of}
use Rattle.redo_model.specs.Lists.{same, more}
use Rattle.open_laws.specs.Backs.{own_steps}
use Rattle.open_laws.specs.Begins.{active_count}
use Rattle.open_laws.proofs.BeginsLaw.{few_are_active}
use Rattle.end_laws.specs.Types.{MayEnd, ended_of, backed, backed_with, blocks_of_step}
use Rattle.rollback_laws.specs.Closing.{all_backed, rolled_back, closed, IsFirst}
use Rattle.rollback_laws.proofs.StepsLaw.{closed_stay, steps_close, rollbacks_close}
use Rattle.rollback_laws.proofs.ClosingLaw.{ahead_is_counted}
use Rattle.store_core.specs.Store.{Held, HasList, IsTrue, SameLoan}
use Rattle.store_core.specs.Causes.{HasCause, HasLooked, IsSoundFault}
use Rattle.store_core.specs.declared.fault.StoreFault.{StoreFault}
use Rattle.store_core.specs.declared.fault.StoreFault.TheVariants.{DeviceFault}
use Rattle.store_core.specs.Adding.{Adds}
use Rattle.recovery.specs.Next.{IsNext}
use Rattle.recovery.specs.Coming.{HasCome, HasStopped, Comes, TookBack, WasClosed, Keeps}
use Rattle.recovery.proofs.Going.{come_here, come_on, come_looked, come_made, come_refused, come_as, stopped_on, comes_ok, comes_err, keeps_here, keeps_of, keeps_on, cause_here, cause_then, unspent_then}
use Rattle.store_core.proofs.Lookups.{cause_ok}

-- the row blocks of a step are told where there was one
some_left : (o : Option Step) (blocks : List ℕ) → Some blocks ≡ blocks_of_step o → (st : Step) × (o ≡ Some st)
some_left None blocks e = absurd (let x : ◌≡◌ {A = Option (List ℕ)} (Some blocks) None = e in cc)
some_left (Some st) blocks e = (st, refl)

none_left : (o : Option Step) → None ≡ blocks_of_step o → o ≡ None
none_left None e = refl
none_left (Some st) e = absurd (let x = sym e in let y : ◌≡◌ {A = Option (List ℕ)} (blocks_of_step (Some st)) None = x in cc)

module _ {D : Type 0} (meaning : Meaning D) where
  -- ---- one transaction

  -- after i steps of the rollback of t
  pub record Backing (t i : ℕ) (R : List Record) (old now : Held D) : Type 0 where
    pub list : List Record
    pub come : HasCome meaning R list old now
    pub first : IsFirst list t
    pub rest : all_backed list t ≡ all_backed R t
    pub left : length (own_steps list t) + i ≡ length (own_steps R t)

  pub record BackLoop (t i : ℕ) (old now : Held D) : Type 0 where
    pub each : (R : List Record) → IsTrue meaning R old → IsFirst R t → Backing t i R old now
    pub keeps : Keeps meaning old now
    pub cause : HasCause {T = Unit {0}} meaning old now (Ok tt)

  pub back_first : (t : ℕ) (a : Held D) → a.fault ≡ None → BackLoop t 0 a a
  back_first t a n = record {
    each = λ R h f. record { list = R; come = come_here meaning R a h; first = f; rest = refl; left = omega arith };
    keeps = keeps_here meaning a;
    cause = cause_here meaning a n;
  }

  -- one more step
  back_more : (t i : ℕ) (R : List Record) (a b c : Held D) (blocks : List ℕ) → Backing t i R a b → SameLoan meaning b c
      → ((Q : List Record) → IsTrue meaning Q b → is_active Q t ≡ true → Adds {T = Option (List ℕ)} meaning Q (backed Q t) b c (Ok (Some blocks)))
      → ((Q : List Record) → IsTrue meaning Q b → is_active Q t ≡ true → Some blocks ≡ blocks_of_step (newest_of (standing Q) t)) → Backing t (i + 1) R a c
  back_more t i R a b c blocks s loan makes says =
      let Q = s.list in
      let h = s.come.is_true in
      let step = steps_close b.shape Q t h.lawful s.first in
      let st = some_left (newest_of (standing Q) t) blocks (says Q h s.first.active) in
      let fewer = step.fewer st.0 st.1 in
      let before = s.left in
      record {
        list = backed Q t;
        come = come_on meaning R Q (backed Q t) a b c s.come (come_made meaning Q (backed Q t) b c (Some blocks) h loan step.extends step.back (makes Q h s.first.active));
        first = step.still_first;
        rest = step.rest ∙ s.rest;
        left = omega (arith, fewer, before);
      }

  pub back_next : (t i : ℕ) (a b c : Held D) (blocks : List ℕ) → BackLoop t i a b → SameLoan meaning b c → HasCause {T = Option (List ℕ)} meaning b c (Ok (Some blocks))
      → ((Q : List Record) → IsTrue meaning Q b → is_active Q t ≡ true → Adds {T = Option (List ℕ)} meaning Q (backed Q t) b c (Ok (Some blocks)))
      → ((Q : List Record) → IsTrue meaning Q b → is_active Q t ≡ true → Some blocks ≡ blocks_of_step (newest_of (standing Q) t)) → BackLoop t (i + 1) a c
  back_next t i a b c blocks l loan cause makes says = record {
    each = λ R h f. back_more t i R a b c blocks (l.each R h f) loan makes says;
    keeps = keeps_on meaning a b c l.keeps (keeps_of meaning b c loan);
    cause = cause_then meaning a b c tt (Ok tt) l.keeps l.cause (cause_ok meaning b c (Some blocks) tt cause);
  }

  -- where none is left it is taken back
  whole_come : (t i : ℕ) (R : List Record) (a b : Held D) → (s : Backing t i R a b) → newest_of (standing s.list) t ≡ None → HasCome meaning R (all_backed R t) a b
  whole_come t i R a b s e =
      let step = steps_close b.shape s.list t s.come.is_true.lawful s.first in
      come_as meaning R s.list (all_backed R t) a b (sym (step.whole e) ∙ s.rest) s.come

  pub back_none : (t i : ℕ) (a b c : Held D) → BackLoop t i a b → SameLoan meaning b c → HasCause {T = Option (List ℕ)} meaning b c (Ok None)
      → ((Q : List Record) → IsTrue meaning Q b → is_active Q t ≡ true → Adds {T = Option (List ℕ)} meaning Q (backed Q t) b c (Ok None))
      → ((Q : List Record) → IsTrue meaning Q b → is_active Q t ≡ true → None ≡ blocks_of_step (newest_of (standing Q) t))
      → (R : List Record) → IsTrue meaning R a → IsFirst R t → Comes {T = Unit {0}} meaning R (all_backed R t) a c (Ok tt)
  back_none t i a b c l loan cause makes says R h f =
      let s = l.each R h f in
      let Q = s.list in
      let q = s.come.is_true in
      let step = steps_close b.shape Q t q.lawful s.first in
      let e = none_left (newest_of (standing Q) t) (says Q q s.first.active) in
      let come = come_on meaning R Q (backed Q t) a b c s.come (come_made meaning Q (backed Q t) b c None q loan step.extends step.back (makes Q q s.first.active)) in
      comes_ok meaning R (all_backed R t) a c tt (come_as meaning R (backed Q t) (all_backed R t) a c (same_backed Q e ∙ sym (step.whole e) ∙ s.rest) come)
    where
      same_backed : (Q : List Record) → newest_of (standing Q) t ≡ None → backed Q t ≡ Q
      same_backed Q e = ap (backed_with Q t) e

  pub back_refused : (t i : ℕ) (a b c : Held D) (fault : StoreFault) → BackLoop t i a b → SameLoan meaning b c
      → ((Q : List Record) → IsTrue meaning Q b → is_active Q t ≡ true → Adds {T = Option (List ℕ)} meaning Q (backed Q t) b c (Err fault))
      → (R : List Record) → IsTrue meaning R a → IsFirst R t → Comes {T = Unit {0}} meaning R (all_backed R t) a c (Err fault)
  back_refused t i a b c fault l loan makes R h f =
      let s = l.each R h f in
      let m = makes s.list s.come.is_true s.first.active in
      comes_err meaning R (all_backed R t) a c fault (record { list = s.list; come = come_on meaning R s.list s.list a b c s.come (come_refused meaning s.list (backed s.list t) b c fault s.come.is_true loan m) }) (m.sound (unspent_then meaning a b tt l.cause))

  -- after as many steps as the list has records none is left
  pub back_all : (t i most : ℕ) (a b : Held D) → BackLoop t i a b → ((R : List Record) → HasList meaning R a → most ≡ length R) → most ≤ i
      → (R : List Record) → IsTrue meaning R a → IsFirst R t → Comes {T = Unit {0}} meaning R (all_backed R t) a b (Ok tt)
  back_all t i most a b l len over R h f =
      let s = l.each R h f in
      let few = (ahead_is_counted a.shape R h.lawful).own t in
      let is = len R h.list in
      let before = s.left in
      let zero_left : length (own_steps s.list t) ≡ 0 = omega (arith, few, is, before, over) in
      let step = steps_close b.shape s.list t s.come.is_true.lawful s.first in
      comes_ok meaning R (all_backed R t) a b tt (whole_come t i R a b s (step.none_left zero_left))

  -- ---- and its end

  rolled : {T : Type 0} (t : ℕ) (R : List Record) (a b c : Held D) (u : Unit {0}) (x : T) → IsTrue meaning R a → IsFirst R t → SameLoan meaning b c → Comes {T = Unit {0}} meaning R (all_backed R t) a b (Ok u)
      → ((Q : List Record) → IsTrue meaning Q b → MayEnd Q t → Adds {T = T} meaning Q (Ended (ended_of Q t) ∷ Q) b c (Ok x)) → Comes {T = T} meaning R (rolled_back R t) a c (Ok x)
  rolled t R a b c u x h f loan p makes =
      let whole = rollbacks_close a.shape R t h.lawful f in
      let Q = all_backed R t in
      comes_ok meaning R (rolled_back R t) a c x (come_on meaning R Q (rolled_back R t) a b c p.done (come_made meaning Q (rolled_back R t) b c x p.done.is_true loan (more (Ended (ended_of Q t)) same) (whole.closes ∙ sym p.done.closes) (makes Q p.done.is_true whole.may_end)))

  rolled_refused : {T : Type 0} (t : ℕ) (R : List Record) (a b c : Held D) (u : Unit {0}) (fault : StoreFault) → IsTrue meaning R a → IsFirst R t → SameLoan meaning b c → Comes {T = Unit {0}} meaning R (all_backed R t) a b (Ok u) → b.fault ≡ None
      → ((Q : List Record) → IsTrue meaning Q b → MayEnd Q t → Adds {T = T} meaning Q (Ended (ended_of Q t) ∷ Q) b c (Err fault)) → Comes {T = T} meaning R (rolled_back R t) a c (Err fault)
  rolled_refused t R a b c u fault h f loan p n makes =
      let whole = rollbacks_close a.shape R t h.lawful f in
      let Q = all_backed R t in
      let m = makes Q p.done.is_true whole.may_end in
      comes_err meaning R (rolled_back R t) a c fault (record { list = Q; come = come_on meaning R Q Q a b c p.done (come_refused meaning Q (rolled_back R t) b c fault p.done.is_true loan m) }) (m.sound n)

  pub rolled_any : {T : Type 0} (t : ℕ) (R : List Record) (a b c : Held D) (u : Unit {0}) (r : Result T StoreFault) → IsTrue meaning R a → IsFirst R t → SameLoan meaning b c → Comes {T = Unit {0}} meaning R (all_backed R t) a b (Ok u) → b.fault ≡ None
      → ((Q : List Record) → IsTrue meaning Q b → MayEnd Q t → Adds {T = T} meaning Q (Ended (ended_of Q t) ∷ Q) b c r) → Comes {T = T} meaning R (rolled_back R t) a c r
  rolled_any t R a b c u (Ok x) h f loan p n makes = rolled t R a b c u x h f loan p makes
  rolled_any t R a b c u (Err e) h f loan p n makes = rolled_refused t R a b c u e h f loan p n makes

  -- ---- the next transaction

  pub next_none : (R : List Record) (a b : Held D) → IsTrue meaning R a → HasLooked {T = Option ℕ} meaning a b (Ok None) → IsNext R None → WasClosed meaning R a b
  next_none R a b h look none = record { is = closed_stay R none; come = come_looked meaning R a b (Ok None) h look }

  pub next_some : (R : List Record) (a b c : Held D) (t : ℕ) (u : Unit {0}) → IsTrue meaning R a → HasLooked {T = Option ℕ} meaning a b (Ok (Some t)) → IsNext R (Some t)
      → ((Q : List Record) → IsTrue meaning Q b → IsFirst Q t → Comes {T = Unit {0}} meaning Q (rolled_back Q t) b c (Ok u)) → TookBack meaning R a c
  next_some R a b c t u h look first comes =
      let here = come_looked meaning R a b (Ok (Some t)) h look in
      record { txn = t; first = first; come = come_on meaning R R (rolled_back R t) a b c here (comes R here.is_true first).done }

  pub next_stopped : (R : List Record) (a b c : Held D) (t : ℕ) (fault : StoreFault) → IsTrue meaning R a → HasLooked {T = Option ℕ} meaning a b (Ok (Some t)) → IsNext R (Some t)
      → ((Q : List Record) → IsTrue meaning Q b → IsFirst Q t → Comes {T = Unit {0}} meaning Q (rolled_back Q t) b c (Err fault)) → HasStopped meaning R a c × IsSoundFault fault
  next_stopped R a b c t fault h look first comes =
      let here = come_looked meaning R a b (Ok (Some t)) h look in
      let stop = comes R here.is_true first in
      (stopped_on meaning R R a b c here stop.stopped, stop.sound)

  pub looked_stopped : {T : Type 0} (R : List Record) (a b : Held D) (fault : StoreFault) → IsTrue meaning R a → HasLooked {T = T} meaning a b (Err fault) → HasStopped meaning R a b
  looked_stopped R a b fault h look = record { list = R; come = come_looked meaning R a b (Err fault) h look }

  -- ---- all of them

  -- after i transactions
  pub record Closing (i : ℕ) (R : List Record) (old now : Held D) : Type 0 where
    pub list : List Record
    pub come : HasCome meaning R list old now
    pub left : active_count list + i ≡ active_count R

  pub record CloseLoop (i : ℕ) (old now : Held D) : Type 0 where
    pub each : (R : List Record) → IsTrue meaning R old → Closing i R old now
    pub keeps : Keeps meaning old now
    pub cause : HasCause {T = Unit {0}} meaning old now (Ok tt)

  pub close_first : (a : Held D) → a.fault ≡ None → CloseLoop 0 a a
  close_first a n = record { each = λ R h. record { list = R; come = come_here meaning R a h; left = omega arith }; keeps = keeps_here meaning a; cause = cause_here meaning a n }

  close_more : (i : ℕ) (R : List Record) (a b c : Held D) → Closing i R a b → ((Q : List Record) → IsTrue meaning Q b → TookBack meaning Q b c) → Closing (i + 1) R a c
  close_more i R a b c s took =
      let Q = s.list in
      let next = took Q s.come.is_true in
      let fewer = (rollbacks_close b.shape Q next.txn s.come.is_true.lawful next.first).fewer in
      let before = s.left in
      record { list = rolled_back Q next.txn; come = come_on meaning R Q (rolled_back Q next.txn) a b c s.come next.come; left = omega (arith, fewer, before) }

  pub close_next : (i : ℕ) (a b c : Held D) (y : Bool) → CloseLoop i a b → ((Q : List Record) → IsTrue meaning Q b → TookBack meaning Q b c) → Keeps meaning b c → HasCause {T = Bool} meaning b c (Ok y) → CloseLoop (i + 1) a c
  close_next i a b c y l took keeps cause = record {
    each = λ R h. close_more i R a b c (l.each R h) took;
    keeps = keeps_on meaning a b c l.keeps keeps;
    cause = cause_then meaning a b c tt (Ok tt) l.keeps l.cause (cause_ok meaning b c y tt cause);
  }

  pub close_done : (i : ℕ) (a b c : Held D) → CloseLoop i a b → ((Q : List Record) → IsTrue meaning Q b → WasClosed meaning Q b c) → (R : List Record) → IsTrue meaning R a → Comes {T = Unit {0}} meaning R (closed R) a c (Ok tt)
  close_done i a b c l was R h =
      let s = l.each R h in
      let Q = s.list in
      let last = was Q s.come.is_true in
      comes_ok meaning R (closed R) a c tt (come_as meaning R Q (closed R) a c (sym last.is ∙ s.come.closes) (come_on meaning R Q Q a b c s.come last.come))

  pub close_refused : (i : ℕ) (a b c : Held D) (fault : StoreFault) → CloseLoop i a b → ((Q : List Record) → IsTrue meaning Q b → HasStopped meaning Q b c) → ((Q : List Record) → IsTrue meaning Q b → IsSoundFault fault)
      → (R : List Record) → IsTrue meaning R a → Comes {T = Unit {0}} meaning R (closed R) a c (Err fault)
  close_refused i a b c fault l stop sound R h =
      let s = l.each R h in
      comes_err meaning R (closed R) a c fault (stopped_on meaning R s.list a b c s.come (stop s.list s.come.is_true)) (sound s.list s.come.is_true)

  -- no more are active than there are entries
  pub close_all : (i : ℕ) (a b : Held D) → CloseLoop i a b → TXN_ENTRIES ≤ i → (R : List Record) → IsTrue meaning R a → Comes {T = Unit {0}} meaning R (closed R) a b (Ok tt)
  close_all i a b l over R h =
      let s = l.each R h in
      let few = (few_are_active a.shape R h.lawful.allowed).few in
      let before = s.left in
      absurd (omega (arith, few, before, over))

  -- ---- and the flush

  flushed : (R : List Record) (a b c : Held D) (u x : Unit {0}) → Comes {T = Unit {0}} meaning R (closed R) a b (Ok u) → HasLooked {T = Unit {0}} meaning b c (Ok x) → Comes {T = Unit {0}} meaning R (closed R) a c (Ok x)
  flushed R a b c u x p look = comes_ok meaning R (closed R) a c x (come_on meaning R (closed R) (closed R) a b c p.done (come_looked meaning (closed R) b c (Ok x) p.done.is_true look))

  flush_refused : (R : List Record) (a b c : Held D) (u : Unit {0}) (fault : StoreFault) → Comes {T = Unit {0}} meaning R (closed R) a b (Ok u) → HasLooked {T = Unit {0}} meaning b c (Err fault) → IsSoundFault fault → Comes {T = Unit {0}} meaning R (closed R) a c (Err fault)
  flush_refused R a b c u fault p look sound = comes_err meaning R (closed R) a c fault (record { list = closed R; come = come_on meaning R (closed R) (closed R) a b c p.done (come_looked meaning (closed R) b c (Err fault) p.done.is_true look) }) sound

  device_sound : (fault : StoreFault) → fault ≡ DeviceFault → IsSoundFault fault
  device_sound fault e = subst IsSoundFault (sym e) tt

  pub flush_any : (R : List Record) (a b c : Held D) (u : Unit {0}) (r : Result (Unit {0}) StoreFault) → Comes {T = Unit {0}} meaning R (closed R) a b (Ok u) → HasLooked {T = Unit {0}} meaning b c r → IfErr r (λ e. e ≡ DeviceFault) → Comes {T = Unit {0}} meaning R (closed R) a c r
  flush_any R a b c u (Ok x) p look only = flushed R a b c u x p look
  flush_any R a b c u (Err e) p look only = flush_refused R a b c u e p look (device_sound e only)
