-- Calls on a store within an event, one after the other.
use Rattle.std.proofs.Common.{◌≡◌, ℕ, ◌≤◌, List, Option, None, refl, sym, ◌∙◌, subst, le_trans, le_refl, inl}
use Rattle.std.specs.Prelude.{Result, Ok, Err, IfOk}
use Rattle.seg_words.specs.Types.{Shape}
use Rattle.disk_model.specs.Crash.{Meaning}
use Rattle.disk_model.proofs.Going.{rose_later}
use Rattle.redo_model.specs.Records.{Record}
use Rattle.script_text.specs.declared.statement.Statement.{Statement}
use Rattle.history_model.specs.Spans.{Span}
use Rattle.session_model.specs.Done.{done_none}
use Rattle.session_model.specs.Worlds.{Acts}
use Rattle.store_core.specs.Store.{Held, IsTrue, SameLoan}
use Rattle.store_core.specs.Survives.{Survives}
use Rattle.store_core.specs.Adding.{Adds}
use Rattle.store_core.specs.Causes.{HasCause, HasLooked, IsSoundFault}
use Rattle.store_core.specs.declared.fault.StoreFault.{StoreFault}
use Rattle.store_core.specs.declared.fault.StoreFault.TheVariants.{NoMemory}
use Rattle.store_core.proofs.Lookups.{cause_ok, cause_err}
use Rattle.session_core.specs.declared.turned.Acted.{Acted}
use Rattle.session_core.specs.Acting.{IsAt, Turns, HasActed, KeepsLoan, HasCalled}

-- ---- of any store

keeps_of : {D : Type 0} (meaning : Meaning D) (a b : Held D) → SameLoan meaning a b → KeepsLoan meaning a b
keeps_of meaning a b h = record { loan = h.loan; first = h.first; shape = h.shape; told = h.told; faults = h.faults; reads = h.reads }

keeps_on : {D : Type 0} (meaning : Meaning D) (a b c : Held D) → KeepsLoan meaning a b → KeepsLoan meaning b c → KeepsLoan meaning a c
keeps_on meaning a b c p q = record {
  loan = q.loan ∙ p.loan;
  first = q.first ∙ p.first;
  shape = q.shape ∙ p.shape;
  told = (λ h. p.told.0 (q.told.0 h), λ h. q.told.1 (p.told.1 h));
  faults = le_trans p.faults q.faults;
  reads = q.reads ∙ p.reads;
}

pub called_of : {D T : Type 0} (meaning : Meaning D) (a b : Held D) (r : Result T StoreFault) → a.fault ≡ None → SameLoan meaning a b → HasCause meaning a b r → HasCalled meaning a b r
called_of meaning a b r n loan cause = record { loan = keeps_of meaning a b loan; device = λ e. cause.device n e; kept = cause.kept n }

pub called_ok : {D A T : Type 0} (meaning : Meaning D) (a b : Held D) (x : A) (y : T) → a.fault ≡ None → SameLoan meaning a b → HasCause {T = A} meaning a b (Ok x) → HasCalled {T = T} meaning a b (Ok y)
called_ok {D} {A} {T} meaning a b x y n loan cause = called_of {T = T} meaning a b (Ok y) n loan (cause_ok {A = A} {T = T} meaning a b x y cause)

pub called_err : {D A T : Type 0} (meaning : Meaning D) (a b : Held D) (f : StoreFault) → a.fault ≡ None → SameLoan meaning a b → HasCause {T = A} meaning a b (Err f) → HasCalled {T = T} meaning a b (Err f)
called_err {D} {A} {T} meaning a b f n loan cause = called_of {T = T} meaning a b (Err f) n loan (cause_err {A = A} {T = T} meaning a b f cause)

pub called_same : {D T : Type 0} (meaning : Meaning D) (s : Held D) (y : T) → s.fault ≡ None → HasCalled {T = T} meaning s s (Ok y)
called_same meaning s y n = record {
  loan = record { loan = refl; first = refl; shape = refl; told = (λ h. h, λ h. h); faults = le_refl _; reads = refl };
  device = λ e. absurd (cc e);
  kept = n;
}

pub called_on : {D A T : Type 0} (meaning : Meaning D) (a b c : Held D) (x : A) (r : Result T StoreFault) → HasCalled {T = A} meaning a b (Ok x) → HasCalled {T = T} meaning b c r → HasCalled {T = T} meaning a c r
called_on meaning a b c x r p q = record {
  loan = keeps_on meaning a b c p.loan q.loan;
  device = λ e. rose_later (meaning.fault_count a.disk) (meaning.fault_count b.disk) (meaning.fault_count c.disk) p.loan.faults (q.device e);
  kept = q.kept;
}

-- ---- of a true store

-- no record is added
pub acts_none : (sh : Shape) (x : Span) (st : Option Statement) → Acts sh x st x.ended
acts_none sh x st = record { done = done_none; passed = inl refl }

pub acted_same : {D : Type 0} (meaning : Meaning D) (x : Span) (st : Option Statement) (own : Option ℕ) (s : Held D) (a : Acted) → IsAt meaning x own s → Turns s.shape x st x.ended a → HasActed meaning x st s s (Ok a)
acted_same meaning x st own s a at t = record {
  records = x.ended;
  stands = at.stands;
  acts = acts_none s.shape x st;
  stable = le_refl _;
  survives = λ since needed h. h;
  time = le_refl _;
  turns = t;
  sound = tt;
}

-- a call that adds records, and the event is over or goes on
pub acted_adds : {D T : Type 0} (meaning : Meaning D) (x : Span) (st : Option Statement) (own : Option ℕ) (a b : Held D) (y : T) (next : List Record) (z : Acted) → IsAt meaning x own a → SameLoan meaning a b → Adds {T = T} meaning x.ended next a b (Ok y)
    → Acts a.shape x st next → Turns a.shape x st next z → HasActed meaning x st a b (Ok z)
acted_adds meaning x st own a b y next z at loan h acts t = record {
  records = next;
  stands = h.added;
  acts = acts;
  stable = h.stable;
  survives = h.survives;
  time = loan.time x.ended at.stands.list;
  turns = t;
  sound = tt;
}

-- one that fails
pub acted_fails : {D T : Type 0} (meaning : Meaning D) (x : Span) (st : Option Statement) (own : Option ℕ) (a b : Held D) (f : StoreFault) (next : List Record) → IsAt meaning x own a → SameLoan meaning a b → Adds {T = T} meaning x.ended next a b (Err f) → HasActed meaning x st a b (Err f)
acted_fails meaning x st own a b f next at loan h = record {
  records = x.ended;
  stands = h.refused;
  acts = acts_none a.shape x st;
  stable = h.stable;
  survives = h.survives_refused;
  time = loan.time x.ended at.stands.list;
  turns = tt;
  sound = h.sound at.unspent;
}

-- a call that added no record, and then another one
pub record HasStayed {D : Type 0} (meaning : Meaning D) (x : Span) (a b : Held D) : Type 0 where
  pub stands : IsTrue meaning x.ended b
  pub unspent : b.fault ≡ None
  pub shape : b.shape ≡ a.shape
  pub stable : a.log.stable ≤ b.log.stable
  pub survives : (since : ℕ) (needed : ℕ → ℕ) → Survives meaning since needed x.ended a → Survives meaning since needed x.ended b
  pub time : meaning.clock a.disk ≤ meaning.clock b.disk

pub looked_stays : {D A : Type 0} (meaning : Meaning D) (x : Span) (own : Option ℕ) (a b : Held D) (y : A) → IsAt meaning x own a → HasLooked {T = A} meaning a b (Ok y) → HasStayed meaning x a b
looked_stays meaning x own a b y at h = record {
  stands = h.stays_true x.ended at.stands;
  unspent = h.cause.kept at.unspent;
  shape = h.loan.shape;
  stable = h.stable x.ended at.stands.list;
  survives = λ since needed s. h.survives since needed x.ended at.stands s;
  time = h.loan.time x.ended at.stands.list;
}

pub added_stays : {D A : Type 0} (meaning : Meaning D) (x : Span) (own : Option ℕ) (a b : Held D) (y : A) → IsAt meaning x own a → SameLoan meaning a b → b.fault ≡ None → Adds {T = A} meaning x.ended x.ended a b (Ok y) → HasStayed meaning x a b
added_stays meaning x own a b y at loan n h = record {
  stands = h.added;
  unspent = n;
  shape = loan.shape;
  stable = h.stable;
  survives = h.survives;
  time = loan.time x.ended at.stands.list;
}

pub stayed_at : {D : Type 0} (meaning : Meaning D) (x : Span) (own : Option ℕ) (a b : Held D) → IsAt meaning x own a → HasStayed meaning x a b → IsAt meaning x own b
stayed_at meaning x own a b at h = record { stands = h.stands; unspent = h.unspent; own_is = at.own_is }

pub turns_as : (sh sh' : Shape) (x : Span) (st : Option Statement) (R : List Record) (r : Result Acted StoreFault) → sh' ≡ sh → IfOk r (Turns sh' x st R) → IfOk r (Turns sh x st R)
turns_as sh sh' x st R r e h = subst (λ (z : Shape). IfOk r (Turns z x st R)) e h

abbrev pub acted_after : {D : Type 0} (meaning : Meaning D) (x : Span) (st : Option Statement) (a b c : Held D) (r : Result Acted StoreFault) → HasStayed meaning x a b → HasActed meaning x st b c r → HasActed meaning x st a c r
acted_after meaning x st a b c r p q = record {
  records = q.records;
  stands = q.stands;
  acts = subst (λ (z : Shape). Acts z x st q.records) p.shape q.acts;
  stable = le_trans p.stable q.stable;
  survives = λ since needed s. q.survives since needed (p.survives since needed s);
  time = le_trans p.time q.time;
  turns = turns_as a.shape b.shape x st q.records r p.shape q.turns;
  sound = q.sound;
}

-- a look that fails
abbrev pub acted_looked : {D A : Type 0} (meaning : Meaning D) (x : Span) (st : Option Statement) (own : Option ℕ) (a b : Held D) (f : StoreFault) → IsAt meaning x own a → HasLooked {T = A} meaning a b (Err f) → IsSoundFault f → HasActed meaning x st a b (Err f)
acted_looked meaning x st own a b f at h sound = record {
  records = x.ended;
  stands = h.stays_true x.ended at.stands;
  acts = acts_none a.shape x st;
  stable = h.stable x.ended at.stands.list;
  survives = λ since needed s. h.survives since needed x.ended at.stands s;
  time = h.loan.time x.ended at.stands.list;
  turns = tt;
  sound = sound;
}

-- a look, and the statement is over or goes on with nothing added
abbrev pub acted_told : {D A : Type 0} (meaning : Meaning D) (x : Span) (st : Option Statement) (own : Option ℕ) (a b : Held D) (y : A) (z : Acted) → IsAt meaning x own a → HasLooked {T = A} meaning a b (Ok y) → Turns a.shape x st x.ended z → HasActed meaning x st a b (Ok z)
acted_told meaning x st own a b y z at h t = record {
  records = x.ended;
  stands = h.stays_true x.ended at.stands;
  acts = acts_none a.shape x st;
  stable = h.stable x.ended at.stands.list;
  survives = λ since needed s. h.survives since needed x.ended at.stands s;
  time = h.loan.time x.ended at.stands.list;
  turns = t;
  sound = tt;
}

-- the answer is this one
pub acted_as : {D : Type 0} (meaning : Meaning D) (x : Span) (st : Option Statement) (a b : Held D) (z y : Acted) → z ≡ y → HasActed meaning x st a b (Ok y) → HasActed meaning x st a b (Ok z)
acted_as meaning x st a b z y e h = subst (λ (w : Acted). HasActed meaning x st a b (Ok w)) (sym e) h

-- the session's transaction is this one
pub at_own : {D : Type 0} (meaning : Meaning D) (x : Span) (own found : Option ℕ) (s : Held D) → own ≡ found → IsAt meaning x own s → IsAt meaning x found s
at_own meaning x own found s e h = subst (λ (o : Option ℕ). IsAt meaning x o s) e h

-- memory is wanting before a call
abbrev pub acted_memory : {D : Type 0} (meaning : Meaning D) (x : Span) (st : Option Statement) (own : Option ℕ) (s : Held D) → IsAt meaning x own s → HasActed meaning x st s s (Err NoMemory)
acted_memory meaning x st own s at = record {
  records = x.ended;
  stands = at.stands;
  acts = acts_none s.shape x st;
  stable = le_refl _;
  survives = λ since needed h. h;
  time = le_refl _;
  turns = tt;
  sound = tt;
}

pub called_memory : {D T : Type 0} (meaning : Meaning D) (s : Held D) → s.fault ≡ None → HasCalled {T = T} meaning s s (Err NoMemory)
called_memory meaning s n = record {
  loan = record { loan = refl; first = refl; shape = refl; told = (λ h. h, λ h. h); faults = le_refl _; reads = refl };
  device = λ e. absurd (cc e);
  kept = n;
}

-- a look, and then another call
pub called_looked : {D A T : Type 0} (meaning : Meaning D) (a b c : Held D) (x : A) (r : Result T StoreFault) → a.fault ≡ None → HasLooked {T = A} meaning a b (Ok x) → HasCalled {T = T} meaning b c r → HasCalled {T = T} meaning a c r
called_looked {D} {A} {T} meaning a b c x r n p q = called_on {A = A} {T = T} meaning a b c x r (called_of {T = A} meaning a b (Ok x) n p.loan p.cause) q

pub called_look : {D A T : Type 0} (meaning : Meaning D) (a b : Held D) (x : A) (y : T) → a.fault ≡ None → HasLooked {T = A} meaning a b (Ok x) → HasCalled {T = T} meaning a b (Ok y)
called_look {D} {A} {T} meaning a b x y n p = called_ok {A = A} {T = T} meaning a b x y n p.loan p.cause

pub called_unlooked : {D A T : Type 0} (meaning : Meaning D) (a b : Held D) (f : StoreFault) → a.fault ≡ None → HasLooked {T = A} meaning a b (Err f) → HasCalled {T = T} meaning a b (Err f)
called_unlooked {D} {A} {T} meaning a b f n p = called_err {A = A} {T = T} meaning a b f n p.loan p.cause
