-- Calls on a store that add no record, one after the other.
use Rattle.std.proofs.Common.{◌≡◌, List, Option, Some, None, refl, ◌∙◌, ap, arith, le_trans}
use Rattle.std.specs.Prelude.{Result, Ok, Err, OnOk}
use Rattle.disk_model.specs.Crash.{Meaning}
use Rattle.disk_model.proofs.Going.{rose_later}
use Rattle.redo_model.specs.Records.{Record}
use Rattle.pool_store.specs.Store.{Held, HasList, SameLoan}
use Rattle.pool_store.specs.Causes.{HasCause, HasLooked}
use Rattle.pool_store.specs.declared.fault.StoreFault.{StoreFault}
use Rattle.pool_store.specs.declared.fault.StoreFault.TheVariants.{DeviceFault, NoMemory}

pub on_ok : {T : Type 0} (r : Result T StoreFault) (P : Type 0) → P → OnOk r P
on_ok (Ok x) P h = h
on_ok (Err f) P h = tt

pub none_some : {A P : Type 0} (a : A) (o : Option A) → o ≡ None → o ≡ Some a → P
none_some a o none some = absurd (cc (none, some))

err_inside : {A : Type 0} (f g : StoreFault) → ◌≡◌ {A = Result A StoreFault} (Err f) (Err g) → f ≡ g
err_inside f g e = cc e

pub loan_on : {D : Type 0} (meaning : Meaning D) (a b c : Held D) → ((R : List Record) → HasList meaning R a → HasList meaning R b) → SameLoan meaning a b → SameLoan meaning b c → SameLoan meaning a c
loan_on meaning a b c list p q = record {
  loan = q.loan ∙ p.loan;
  first = q.first ∙ p.first;
  shape = q.shape ∙ p.shape;
  told = (λ h. p.told.0 (q.told.0 h), λ h. q.told.1 (p.told.1 h));
  time = λ R h. le_trans (p.time R h) (q.time R (list R h));
  faults = le_trans p.faults q.faults;
  reads = λ t. q.reads (p.told.1 t) ∙ p.reads t;
}

pub cause_on : {D A T : Type 0} (meaning : Meaning D) (a b c : Held D) (x : A) (r : Result T StoreFault) → SameLoan meaning a b → HasCause {T = A} meaning a b (Ok x) → HasCause meaning b c r → HasCause meaning a c r
cause_on meaning a b c x r loan p q = record {
  device = λ n e. rose_later (meaning.fault_count a.disk) (meaning.fault_count b.disk) (meaning.fault_count c.disk) loan.faults (q.device (p.kept n) e);
  kept = λ n. q.kept (p.kept n);
  goes_on = on_ok r (a.fault ≡ None) p.goes_on;
  answers = λ f s. none_some f a.fault p.goes_on s;
  stays = λ f s. none_some f a.fault p.goes_on s;
}

-- after a call that went well, another one
pub looked_on : {D A T : Type 0} (meaning : Meaning D) (a b c : Held D) (x : A) (r : Result T StoreFault) → HasLooked {T = A} meaning a b (Ok x) → HasLooked meaning b c r → HasLooked meaning a c r
looked_on meaning a b c x r p q = record {
  loan = loan_on meaning a b c p.list p.loan q.loan;
  cause = cause_on meaning a b c x r p.loan p.cause q.cause;
  list = λ R h. q.list R (p.list R h);
  stays_true = λ R h. q.stays_true R (p.stays_true R h);
  stable = λ R h. le_trans (p.stable R h) (q.stable R (p.list R h));
  survives = λ since needed R h s. q.survives since needed R (p.stays_true R h) (p.survives since needed R h s);
}

-- the same call with another answer that is no fault
pub cause_ok : {D A T : Type 0} (meaning : Meaning D) (a b : Held D) (x : A) (y : T) → HasCause {T = A} meaning a b (Ok x) → HasCause {T = T} meaning a b (Ok y)
cause_ok meaning a b x y p = record {
  device = λ _ e. absurd (cc e);
  kept = p.kept;
  goes_on = p.goes_on;
  answers = λ f s. none_some f a.fault p.goes_on s;
  stays = λ f s. none_some f a.fault p.goes_on s;
}

pub looked_ok : {D A T : Type 0} (meaning : Meaning D) (a b : Held D) (x : A) (y : T) → HasLooked {T = A} meaning a b (Ok x) → HasLooked {T = T} meaning a b (Ok y)
looked_ok meaning a b x y p = record {
  loan = p.loan;
  cause = cause_ok meaning a b x y p.cause;
  list = p.list;
  stays_true = p.stays_true;
  stable = p.stable;
  survives = p.survives;
}

-- the same fault
pub cause_err : {D A T : Type 0} (meaning : Meaning D) (a b : Held D) (f : StoreFault) → HasCause {T = A} meaning a b (Err f) → HasCause {T = T} meaning a b (Err f)
cause_err meaning a b f p = record {
  device = λ n e. p.device n (ap (λ (g : StoreFault). Err g) (err_inside f DeviceFault e));
  kept = p.kept;
  goes_on = tt;
  answers = λ g s. ap (λ (h : StoreFault). Err h) (err_inside f g (p.answers g s));
  stays = p.stays;
}

pub looked_err : {D A T : Type 0} (meaning : Meaning D) (a b : Held D) (f : StoreFault) → HasLooked {T = A} meaning a b (Err f) → HasLooked {T = T} meaning a b (Err f)
looked_err meaning a b f p = record {
  loan = p.loan;
  cause = cause_err meaning a b f p.cause;
  list = p.list;
  stays_true = p.stays_true;
  stable = p.stable;
  survives = p.survives;
}

-- the call went well, and then memory was wanting
pub looked_memory : {D A T : Type 0} (meaning : Meaning D) (a b : Held D) (x : A) → HasLooked {T = A} meaning a b (Ok x) → HasLooked {T = T} meaning a b (Err NoMemory)
looked_memory meaning a b x p = record {
  loan = p.loan;
  cause = record {
    device = λ n e. absurd (cc e);
    kept = p.cause.kept;
    goes_on = tt;
    answers = λ f s. none_some f a.fault p.cause.goes_on s;
    stays = λ f s. none_some f a.fault p.cause.goes_on s;
  };
  list = p.list;
  stays_true = p.stays_true;
  stable = p.stable;
  survives = p.survives;
}

-- nothing was done
pub looked_same : {D T : Type 0} (meaning : Meaning D) (s : Held D) (x : T) → s.fault ≡ None → HasLooked {T = T} meaning s s (Ok x)
looked_same meaning s x none = record {
  loan = record { loan = refl; first = refl; shape = refl; told = (λ h. h, λ h. h); time = λ R h. omega arith; faults = omega arith; reads = λ _. refl };
  cause = record {
    device = λ _ e. absurd (cc e);
    kept = λ n. n;
    goes_on = none;
    answers = λ f some. none_some f s.fault none some;
    stays = λ f some. refl;
  };
  list = λ R h. h;
  stays_true = λ R h. h;
  stable = λ R h. omega arith;
  survives = λ since needed R t h. h;
}

-- a page that was fetched is refused
pub refused_after : {D A B T : Type 0} (meaning : Meaning D) (a b c : Held D) (x : A) (f : StoreFault) → HasLooked {T = A} meaning a b (Ok x) → HasLooked {T = B} meaning b c (Err f) → HasLooked {T = T} meaning a c (Err f)
refused_after {D} {A} {B} {T} meaning a b c x f p q = looked_on {T = T} meaning a b c x (Err f) p (looked_err {A = B} {T = T} meaning b c f q)
