-- Calls of an opening, one after the other.
use Rattle.std.proofs.Common.{◌≡◌, List, ◌∷◌, None, refl, ◌∙◌, subst, arith, le_trans}
use Rattle.std.specs.Prelude.{Result, Ok, Err}
use Rattle.disk_model.specs.Crash.{Meaning}
use Rattle.disk_model.proofs.Going.{rose_later}
use Rattle.redo_model.specs.Records.{Record}
use Rattle.redo_model.specs.Model.{Extends}
use Rattle.redo_model.specs.Lists.{same, more}
use Rattle.rollback_laws.specs.Closing.{closed}
use Rattle.store_core.specs.Store.{Held, IsTrue, SameLoan}
use Rattle.store_core.specs.Causes.{HasCause, HasLooked, IsSoundFault}
use Rattle.store_core.specs.declared.fault.StoreFault.{StoreFault}
use Rattle.store_core.specs.Adding.{Adds}
use Rattle.store_core.proofs.Lookups.{on_ok, none_some}
use Rattle.recovery.specs.Coming.{HasCome, HasStopped, Comes, Keeps}

pub extends_on : (P Q R : List Record) → Extends P Q → Extends Q R → Extends P R
extends_on P Q _ x same = x
extends_on P Q (r ∷ R) x (more _ y) = more r (extends_on P Q R x y)

module _ {D : Type 0} (meaning : Meaning D) where
  -- ---- the list

  pub come_here : (R : List Record) (a : Held D) → IsTrue meaning R a → HasCome meaning R R a a
  come_here R a t = record { from = same; closes = refl; is_true = t; stable = omega arith; later = omega arith; survives = λ since needed h. h }

  pub come_on : (R Q S : List Record) (a b c : Held D) → HasCome meaning R Q a b → HasCome meaning Q S b c → HasCome meaning R S a c
  come_on R Q S a b c p q = record {
    from = extends_on R Q S p.from q.from;
    closes = q.closes ∙ p.closes;
    is_true = q.is_true;
    stable = le_trans p.stable q.stable;
    later = le_trans p.later q.later;
    survives = λ since needed h. q.survives since needed (p.survives since needed h);
  }

  -- after a call that only looked
  pub come_looked : {T : Type 0} (R : List Record) (a b : Held D) (r : Result T StoreFault) → IsTrue meaning R a → HasLooked meaning a b r → HasCome meaning R R a b
  come_looked R a b r t look = record {
    from = same;
    closes = refl;
    is_true = look.stays_true R t;
    stable = look.stable R t.list;
    later = look.loan.time R t.list;
    survives = λ since needed h. look.survives since needed R t h;
  }

  -- and one that added records, or was refused
  pub come_made : {T : Type 0} (R next : List Record) (a b : Held D) (x : T) → IsTrue meaning R a → SameLoan meaning a b → Extends R next → closed next ≡ closed R → Adds meaning R next a b (Ok x) → HasCome meaning R next a b
  come_made R next a b x t loan from closes m = record { from = from; closes = closes; is_true = m.added; stable = m.stable; later = loan.time R t.list; survives = m.survives }

  pub come_refused : {T : Type 0} (R next : List Record) (a b : Held D) (f : StoreFault) → IsTrue meaning R a → SameLoan meaning a b → Adds {T = T} meaning R next a b (Err f) → HasCome meaning R R a b
  come_refused R next a b f t loan m = record { from = same; closes = refl; is_true = m.refused; stable = m.stable; later = loan.time R t.list; survives = m.survives_refused }

  pub come_as : (R Q S : List Record) (a b : Held D) → Q ≡ S → HasCome meaning R Q a b → HasCome meaning R S a b
  come_as R Q S a b e h = subst (λ (X : List Record). HasCome meaning R X a b) e h

  pub stopped_on : (R Q : List Record) (a b c : Held D) → HasCome meaning R Q a b → HasStopped meaning Q b c → HasStopped meaning R a c
  stopped_on R Q a b c p s = record { list = s.list; come = come_on R Q s.list a b c p s.come }

  pub comes_ok : {T : Type 0} (R next : List Record) (a b : Held D) (x : T) → HasCome meaning R next a b → Comes meaning R next a b (Ok x)
  comes_ok R next a b x h = record { done = h; stopped = tt; sound = tt }

  pub comes_err : {T : Type 0} (R next : List Record) (a b : Held D) (f : StoreFault) → HasStopped meaning R a b → IsSoundFault f → Comes {T = T} meaning R next a b (Err f)
  comes_err R next a b f h s = record { done = tt; stopped = h; sound = s }

  -- ---- what stays

  pub keeps_here : (a : Held D) → Keeps meaning a a
  keeps_here a = record { loan = refl; first = refl; shape = refl; told = (λ h. h, λ h. h); reads = refl; faults = omega arith }

  pub keeps_of : (a b : Held D) → SameLoan meaning a b → Keeps meaning a b
  keeps_of a b loan = record { loan = loan.loan; first = loan.first; shape = loan.shape; told = loan.told; reads = loan.reads; faults = loan.faults }

  pub keeps_on : (a b c : Held D) → Keeps meaning a b → Keeps meaning b c → Keeps meaning a c
  keeps_on a b c p q = record {
    loan = q.loan ∙ p.loan;
    first = q.first ∙ p.first;
    shape = q.shape ∙ p.shape;
    told = (λ h. p.told.0 (q.told.0 h), λ h. q.told.1 (p.told.1 h));
    reads = q.reads ∙ p.reads;
    faults = le_trans p.faults q.faults;
  }

  -- ---- causes

  pub cause_here : (a : Held D) → a.fault ≡ None → HasCause {T = Unit {0}} meaning a a (Ok tt)
  cause_here a n = record {
    device = λ m e. absurd (cc e);
    kept = λ m. n;
    goes_on = n;
    answers = λ f s. none_some f a.fault n s;
    stays = λ f s. refl;
  }

  pub cause_then : {A T : Type 0} (a b c : Held D) (x : A) (r : Result T StoreFault) → Keeps meaning a b → HasCause {T = A} meaning a b (Ok x) → HasCause meaning b c r → HasCause meaning a c r
  cause_then a b c x r keeps p q = record {
    device = λ n e. rose_later (meaning.fault_count a.disk) (meaning.fault_count b.disk) (meaning.fault_count c.disk) keeps.faults (q.device (p.kept n) e);
    kept = λ n. q.kept (p.kept n);
    goes_on = on_ok r (a.fault ≡ None) p.goes_on;
    answers = λ f s. none_some f a.fault p.goes_on s;
    stays = λ f s. none_some f a.fault p.goes_on s;
  }

  -- after a call that went well the store has kept no fault
  pub unspent_then : {A : Type 0} (a b : Held D) (x : A) → HasCause {T = A} meaning a b (Ok x) → b.fault ≡ None
  unspent_then a b x p = p.kept p.goes_on
