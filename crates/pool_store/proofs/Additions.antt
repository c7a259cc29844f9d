-- Calls that add records, after calls that looked.
use Rattle.std.proofs.Common.{◌≡◌, ℕ, ◌≤◌, List, ◌∷◌, None, sym, subst, le_trans}
use Rattle.std.specs.Prelude.{Result, Ok, Err}
use Rattle.disk_model.specs.Crash.{Meaning}
use Rattle.seg_words.specs.Types.{Shape}
use Rattle.redo_model.specs.Records.{Record}
use Rattle.redo_model.specs.Model.{IsLawful}
use Rattle.pool_store.specs.Store.{Held, IsTrue}
use Rattle.pool_store.specs.Causes.{HasLooked, IsSoundFault}
use Rattle.pool_store.specs.Adding.{Adds, HasTried}
use Rattle.pool_store.specs.declared.fault.StoreFault.{StoreFault}
use Rattle.pool_store.proofs.Lookups.{loan_on, cause_on, cause_ok, cause_err}

-- a call that looked, and then one that adds
pub adds_on : {D A T : Type 0} (meaning : Meaning D) (a b c : Held D) (x : A) (r : Result T StoreFault) (R next : List Record) → IsTrue meaning R a → HasLooked {T = A} meaning a b (Ok x) → Adds meaning R next b c r → Adds meaning R next a c r
adds_on meaning a b c x r R next t p m = record {
  added = m.added;
  refused = m.refused;
  sound = λ n. m.sound (p.cause.kept n);
  stable = le_trans (p.stable R t.list) m.stable;
  survives = λ since needed s. m.survives since needed (p.survives since needed R t s);
  survives_refused = λ since needed s. m.survives_refused since needed (p.survives since needed R t s);
}

-- a call that looked was refused
pub adds_none : {D A T : Type 0} (meaning : Meaning D) (a b : Held D) (f : StoreFault) (R next : List Record) → IsTrue meaning R a → HasLooked {T = A} meaning a b (Err f) → (a.fault ≡ None → IsSoundFault f) → Adds {T = T} meaning R next a b (Err f)
adds_none meaning a b f R next t p h = record {
  added = tt;
  refused = p.stays_true R t;
  sound = h;
  stable = p.stable R t.list;
  survives = λ since needed s. tt;
  survives_refused = λ since needed s. p.survives since needed R t s;
}

-- pages told which record it is, and it was added
pub adds_told : {D A T : Type 0} (meaning : Meaning D) (a b c : Held D) (x : A) (r : Result T StoreFault) (rec told : Record) (R : List Record) → IsTrue meaning R a → HasLooked {T = A} meaning a b (Ok x) → told ≡ rec → IsLawful a.shape (rec ∷ R)
    → ((Q : List Record) → IsTrue meaning Q b → IsLawful b.shape (told ∷ Q) → Adds meaning Q (told ∷ Q) b c r) → Adds meaning R (rec ∷ R) a c r
adds_told meaning a b c x r rec told R t p same lawful adds =
    let there = subst (λ (sh : Shape). IsLawful sh (told ∷ R)) (sym p.loan.shape) (subst (λ (z : Record). IsLawful a.shape (z ∷ R)) (sym same) lawful) in
    adds_on meaning a b c x r R (rec ∷ R) t p (subst (λ (z : Record). Adds meaning R (z ∷ R) b c r) same (adds R (p.stays_true R t) there))

-- nothing is to be added
pub adds_same : {D A T : Type 0} (meaning : Meaning D) (a b : Held D) (x : A) (y : T) (R : List Record) → IsTrue meaning R a → HasLooked {T = A} meaning a b (Ok x) → Adds {T = T} meaning R R a b (Ok y)
adds_same meaning a b x y R t p = record {
  added = p.stays_true R t;
  refused = tt;
  sound = λ n. tt;
  stable = p.stable R t.list;
  survives = λ since needed s. p.survives since needed R t s;
  survives_refused = λ since needed s. tt;
}

-- the same with another answer
pub adds_ok : {D A T : Type 0} (meaning : Meaning D) (a b : Held D) (x : A) (y : T) (R next : List Record) → Adds {T = A} meaning R next a b (Ok x) → Adds {T = T} meaning R next a b (Ok y)
adds_ok meaning a b x y R next m = record { added = m.added; refused = tt; sound = λ n. tt; stable = m.stable; survives = m.survives; survives_refused = λ since needed s. tt }

pub adds_err : {D A T : Type 0} (meaning : Meaning D) (a b : Held D) (f : StoreFault) (R next : List Record) → Adds {T = A} meaning R next a b (Err f) → Adds {T = T} meaning R next a b (Err f)
adds_err meaning a b f R next m = record { added = tt; refused = m.refused; sound = m.sound; stable = m.stable; survives = λ since needed s. tt; survives_refused = m.survives_refused }

-- one that adds records, and then another one
pub adds_more : {D A T : Type 0} (meaning : Meaning D) (a b c : Held D) (x : A) (y : T) (R mid next : List Record) → Adds {T = A} meaning R mid a b (Ok x) → Adds {T = T} meaning mid next b c (Ok y) → Adds {T = T} meaning R next a c (Ok y)
adds_more meaning a b c x y R mid next p m = record {
  added = m.added;
  refused = tt;
  sound = λ n. tt;
  stable = le_trans p.stable m.stable;
  survives = λ since needed s. m.survives since needed (p.survives since needed s);
  survives_refused = λ since needed s. tt;
}

-- whatever is to be added

pub tried_on : {D A T : Type 0} (meaning : Meaning D) (a b c : Held D) (x : A) (r : Result T StoreFault) → HasLooked {T = A} meaning a b (Ok x) → HasTried meaning b c r → HasTried meaning a c r
tried_on meaning a b c x r p q = record {
  refused = λ R t. q.refused R (p.stays_true R t);
  survives_refused = λ since needed R t s. q.survives_refused since needed R (p.stays_true R t) (p.survives since needed R t s);
  stable = λ R h. le_trans (p.stable R h) (q.stable R (p.list R h));
  loan = loan_on meaning a b c p.list p.loan q.loan;
  cause = cause_on meaning a b c x r p.loan p.cause q.cause;
}

pub tried_none : {D A T : Type 0} (meaning : Meaning D) (a b : Held D) (f : StoreFault) → HasLooked {T = A} meaning a b (Err f) → HasTried {T = T} meaning a b (Err f)
tried_none meaning a b f p = record {
  refused = p.stays_true;
  survives_refused = p.survives;
  stable = p.stable;
  loan = p.loan;
  cause = cause_err meaning a b f p.cause;
}

pub tried_ok : {D A T : Type 0} (meaning : Meaning D) (a b : Held D) (x : A) (y : T) → HasTried {T = A} meaning a b (Ok x) → HasTried {T = T} meaning a b (Ok y)
tried_ok meaning a b x y p = record {
  refused = λ R t. tt;
  survives_refused = λ since needed R t s. tt;
  stable = p.stable;
  loan = p.loan;
  cause = cause_ok meaning a b x y p.cause;
}

pub tried_err : {D A T : Type 0} (meaning : Meaning D) (a b : Held D) (f : StoreFault) → HasTried {T = A} meaning a b (Err f) → HasTried {T = T} meaning a b (Err f)
tried_err meaning a b f p = record {
  refused = p.refused;
  survives_refused = p.survives_refused;
  stable = p.stable;
  loan = p.loan;
  cause = cause_err meaning a b f p.cause;
}
