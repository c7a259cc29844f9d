-- A store that keeps a fault.
use Rattle.std.proofs.Common.{◌≡◌, ℕ, List, Some, None, refl, sym, subst, arith, true≢false}
use Rattle.std.specs.Prelude.{Result, Ok, Err, IsOk}
use Rattle.disk_model.specs.Crash.{Meaning}
use Rattle.redo_model.specs.Records.{Record}
use Rattle.pool_store.specs.Store.{Held, HasList, IsTrue}
use Rattle.pool_store.specs.Refused.{with_fault}
use Rattle.pool_store.specs.Survives.{Survives}
use Rattle.pool_store.specs.Causes.{HasLooked}
use Rattle.pool_store.specs.declared.fault.StoreFault.{StoreFault}
use Rattle.pool_store.specs.declared.fault.StoreFault.TheVariants.{BadPage}
use Rattle.pool_store.proofs.Lookups.{none_some}

refused_list : {D : Type 0} (meaning : Meaning D) (s : Held D) (f : StoreFault) (R : List Record) → HasList meaning R s → HasList meaning R (with_fault s (Some f))
refused_list meaning s f R h = record { within = h.within; few = h.few; groups = h.groups; list = h.list; commits = h.commits; ready = λ n. absurd (cc n) }

refused_true : {D : Type 0} (meaning : Meaning D) (s : Held D) (f : StoreFault) (R : List Record) → IsTrue meaning R s → IsTrue meaning R (with_fault s (Some f))
unfolding refused_list
refused_true meaning s f R h = record { list = refused_list meaning s f R h.list; lawful = h.lawful; stable = h.stable; same = h.same; pages = λ n. absurd (cc n) }

refused_survives : {D : Type 0} (meaning : Meaning D) (s : Held D) (f : StoreFault) (since : ℕ) (needed : ℕ → ℕ) (R : List Record) → Survives meaning since needed R s → Survives meaning since needed R (with_fault s (Some f))
refused_survives meaning s f since needed R h = record { begun = h.begun; made = h.made; each = h.each }

pub refuses : {D T : Type 0} (meaning : Meaning D) (s : Held D) (d : ℕ) → s.fault ≡ None → HasLooked {T = T} meaning s (with_fault s (Some (BadPage d))) (Err (BadPage d))
refuses meaning s d none = record {
  loan = record { loan = refl; first = refl; shape = refl; told = (λ h. h, λ h. h); time = λ R h. omega arith; faults = omega arith; reads = λ _. refl };
  cause = record { device = λ _ e. absurd (cc e); kept = λ _. refl; goes_on = tt; answers = λ f some. none_some f s.fault none some; stays = λ f some. none_some f s.fault none some };
  list = λ R h. refused_list meaning s (BadPage d) R h;
  stays_true = λ R h. refused_true meaning s (BadPage d) R h;
  stable = λ R h. omega arith;
  survives = λ since needed R h t. refused_survives meaning s (BadPage d) since needed R t;
}

pub refused_at : {D T : Type 0} (meaning : Meaning D) (s t : Held D) (d : ℕ) → s.fault ≡ None → t ≡ with_fault s (Some (BadPage d)) → HasLooked {T = T} meaning s t (Err (BadPage d))
refused_at {D} {T} meaning s t d none e = subst (λ (x : Held D). HasLooked {T = T} meaning s x (Err (BadPage d))) (sym e) (refuses meaning s d none)

pub ok_not_err : {T : Type 0} (r : Result T StoreFault) (f : StoreFault) → IsOk r → r ≡ Err f → ⊥
ok_not_err (Ok x) f h e = absurd (cc e)
ok_not_err (Err g) f h e = absurd (true≢false (sym h))
