-- What a store does with records that are to be added: one call after another, and each answer.
use Rattle.std.proofs.Common.{◌≡◌, ℕ, suc, ◌+◌, ◌<◌, ◌≤◌, List, [], ◌∷◌, ◌++◌, length, None, inl, inr, refl, sym, ap, subst, ◌∙◌, arith, le_trans}
use Rattle.std.specs.Prelude.{Result, Ok, Err, OnOk, OnErr, IfOk, IfErr, IsErrOf}
use Rattle.seg_words.specs.Types.{Shape}
use Rattle.disk_model.specs.Crash.{Meaning, Untouched}
use Rattle.disk_model.proofs.Going.{untouched_start}
use Rattle.redo_model.specs.Records.{Record}
use Rattle.redo_model.specs.Model.{IsLawful}
use Rattle.redo_log.specs.Kept.{Kept}
use Rattle.page_set.specs.declared.page.Page.{Page}
use Rattle.page_map.specs.Pages.{HasPages}
use Rattle.page_map.specs.Fitting.{WhyNotAdded, WhyNotBoth}
use Rattle.page_map.specs.declared.fault.PageFault.{PageFault}
use Rattle.page_map.specs.declared.fault.PageFault.TheVariants as pages
use Rattle.store_core.specs.Store.{Held, HasList, IsTrue, waits}
use Rattle.store_core.specs.Putting.{HasPut, Refused}
use Rattle.store_core.specs.Adding.{HasTaken, FlushesFirst, WhyNotTaken, WhyNotBothTaken}
use Rattle.store_core.specs.Causes.{HasLooked, page_fault}
use Rattle.store_core.specs.declared.fault.StoreFault.{StoreFault}
use Rattle.store_core.specs.declared.fault.StoreFault.TheVariants.{DeviceFault, BadPage, NoMemory}
use Rattle.store_core.proofs.Lookups.{loan_on, cause_on, cause_err}
use Rattle.store_core.proofs.Taking.{count_is, number_is, number_of_true, same_disk_loan, added_list, added_true, added_survives, added_cause, refused_list, refused_true, refused_survives, refused_cause, lawful_at}

-- ---- the answers of one call

pub taken_here : {D : Type 0} (meaning : Meaning D) (newer : List Record) (old new : Held D) (r : Result ℕ StoreFault) → old.fault ≡ None → IfOk r (HasPut old new newer) → IfErr r (Refused old new) → HasTaken meaning newer old new r
taken_here meaning newer old new (Ok lsn) unspent put refused = record {
  added = λ R h spelled. added_list meaning old new put.same unspent put.going newer lsn put.taken R h spelled;
  number = λ R h spelled. number_is meaning old new.log new.pages new.commits newer lsn put.taken R h spelled;
  true_number = λ R t lawful. number_of_true meaning old new.log new.pages new.commits newer lsn put.taken R t lawful;
  refused = λ R h. tt;
  added_true = λ R t lawful. added_true meaning old new put.same unspent put.going newer lsn put.taken R t lawful;
  refused_true = λ R t. tt;
  survives = λ since needed R t s. added_survives meaning old new put.same unspent put.going newer lsn put.taken since needed R s;
  survives_refused = λ since needed R t s. tt;
  stable = λ R h. omega (arith, put.taken.stable);
  loan = same_disk_loan meaning old new put.same;
  cause = added_cause meaning old new put.same unspent put.going newer lsn put.taken;
}
taken_here meaning newer old new (Err f) unspent put refused = record {
  added = λ R h spelled. tt;
  number = λ R h spelled. tt;
  true_number = λ R t lawful. tt;
  refused = λ R h. refused_list meaning old new unspent f refused R h;
  added_true = λ R t lawful. tt;
  refused_true = λ R t. refused_true meaning old new unspent f refused R t;
  survives = λ since needed R t s. tt;
  survives_refused = λ since needed R t s. refused_survives meaning old new unspent f refused since needed R s;
  stable = λ R h. omega (arith, refused.log.stable);
  loan = same_disk_loan meaning old new refused.same;
  cause = refused_cause meaning old new unspent f refused ℕ;
}

-- after a call that looked
pub taken_after : {D T : Type 0} (meaning : Meaning D) (newer : List Record) (old mid new : Held D) (x : T) (r : Result ℕ StoreFault) → HasLooked {T = T} meaning old mid (Ok x) → HasTaken meaning newer mid new r → HasTaken meaning newer old new r
taken_after meaning newer old mid new x r p q = record {
  added = λ R h spelled. q.added R (p.list R h) spelled;
  number = λ R h spelled. q.number R (p.list R h) spelled;
  true_number = λ R t lawful. q.true_number R (p.stays_true R t) (lawful_at old.shape mid.shape (newer ++ R) p.loan.shape lawful);
  refused = λ R h. q.refused R (p.list R h);
  added_true = λ R t lawful. q.added_true R (p.stays_true R t) (lawful_at old.shape mid.shape (newer ++ R) p.loan.shape lawful);
  refused_true = λ R t. q.refused_true R (p.stays_true R t);
  survives = λ since needed R t s. q.survives since needed R (p.stays_true R t) (p.survives since needed R t s);
  survives_refused = λ since needed R t s. q.survives_refused since needed R (p.stays_true R t) (p.survives since needed R t s);
  stable = λ R h. le_trans (p.stable R h) (q.stable R (p.list R h));
  loan = loan_on meaning old mid new p.list p.loan q.loan;
  cause = cause_on meaning old mid new x r p.loan p.cause q.cause;
}

-- that call was refused
pub taken_none : {D T : Type 0} (meaning : Meaning D) (newer : List Record) (old new : Held D) (f : StoreFault) → HasLooked {T = T} meaning old new (Err f) → HasTaken meaning newer old new (Err f)
taken_none meaning newer old new f p = record {
  added = λ R h spelled. tt;
  number = λ R h spelled. tt;
  true_number = λ R t lawful. tt;
  refused = p.list;
  added_true = λ R t lawful. tt;
  refused_true = p.stays_true;
  survives = λ since needed R t s. tt;
  survives_refused = p.survives;
  stable = p.stable;
  loan = p.loan;
  cause = cause_err meaning old new f p.cause;
}

-- ---- what waits

pub record SameFiles {D : Type 0} (old new : Held D) : Type 0 where
  pub disk : new.disk ≡ old.disk
  pub stable : new.log.stable ≡ old.log.stable

pub put_same : {D : Type 0} (newer : List Record) (old new : Held D) (r : Result ℕ StoreFault) → IfOk r (HasPut old new newer) → IfErr r (Refused old new) → SameFiles old new
put_same newer old new (Ok lsn) put refused = record { disk = put.same.disk; stable = put.taken.stable }
put_same newer old new (Err f) put refused = record { disk = refused.same.disk; stable = refused.log.stable }

untouched_same : {D : Type 0} (meaning : Meaning D) (old new : D) → new ≡ old → Untouched meaning old new
untouched_same {D} meaning old new same = subst (λ (d : D). Untouched meaning old d) (sym same) (untouched_start meaning old)

pub first_then : {D : Type 0} (meaning : Meaning D) (most : ℕ) (old mid new : Held D) (r : Result ℕ StoreFault) → ((R : List Record) → HasList meaning R old → most < waits old → mid.log.stable ≡ length R) → (waits old ≤ most → mid ≡ old) → SameFiles mid new → FlushesFirst meaning most old new r
first_then {D} meaning most old mid new r full none same = record {
  full = λ R h unspent lt not. same.stable ∙ full R h lt;
  unchanged = λ le. untouched_same meaning old.disk new.disk (same.disk ∙ ap (λ (s : Held D). s.disk) (none le));
  stays = λ le. same.stable ∙ ap (λ (s : Held D). s.log.stable) (none le);
}

pub first_none : {D : Type 0} (meaning : Meaning D) (most : ℕ) (old new : Held D) (f : StoreFault) → (waits old ≤ most → new ≡ old) → (old.fault ≡ None → f ≡ DeviceFault) → FlushesFirst {T = ℕ} meaning most old new (Err f)
first_none {D} meaning most old new f none only = record {
  full = λ R h unspent lt not. absurd (not (ap (λ (e : StoreFault). Err e) (only unspent)));
  unchanged = λ le. untouched_same meaning old.disk new.disk (ap (λ (s : Held D). s.disk) (none le));
  stays = λ le. ap (λ (s : Held D). s.log.stable) (none le);
}

-- ---- whether it fits

-- what holds of the list, the shape and the pages that a call is given holds of the store
pub as_held : {D : Type 0} (meaning : Meaning D) (R : List Record) (s : Held D) (sh : Shape) (log : Kept) (ps : List Page) (P : Shape → Type 0) → s.shape ≡ sh → s.log ≡ log → s.pages ≡ ps → (log.count ≡ length R → HasPages sh R ps → P sh) → HasList meaning R s → P s.shape
as_held meaning R s sh log ps P shape same pages says h =
    let count : log.count ≡ length R = ap (λ (k : Kept). k.count) (sym same) ∙ count_is R s.log h.list.has h.few in
    let held : HasPages sh R ps = subst (λ (x : Shape). HasPages x R ps) shape (subst (λ (x : List Page). HasPages s.shape R x) pages h.pages) in
    subst P (sym shape) (says count held)

pub not_taken : (sh : Shape) (R : List Record) (r : Record) (e : PageFault) (f : StoreFault) → f ≡ page_fault e → WhyNotAdded sh R r e → WhyNotTaken sh R r f
not_taken sh R r (pages.BadPage d) f same why = subst (WhyNotTaken sh R r) (sym same) why
not_taken sh R r pages.NoMemory f same why = subst (WhyNotTaken sh R r) (sym same) tt

pub not_both : (sh : Shape) (R : List Record) (a b : Record) (e : PageFault) (f : StoreFault) → f ≡ page_fault e → WhyNotBoth sh R a b e → WhyNotBothTaken sh R a b f
not_both sh R a b (pages.BadPage d) f same why = subst (WhyNotBothTaken sh R a b) (sym same) why
not_both sh R a b pages.NoMemory f same why = subst (WhyNotBothTaken sh R a b) (sym same) tt

-- where memory alone can be wanting
pub memory_not_taken : {T : Type 0} (sh : Shape) (R : List Record) (r : Record) (result : Result T StoreFault) → IfErr result (λ e. e ≡ NoMemory) → IfErr result (WhyNotTaken sh R r)
memory_not_taken sh R r (Ok x) only = tt
memory_not_taken sh R r (Err f) only = subst (WhyNotTaken sh R r) (sym only) tt

pub memory_not_both : {T : Type 0} (sh : Shape) (R : List Record) (a b : Record) (result : Result T StoreFault) → IfErr result (λ e. e ≡ NoMemory) → IfErr result (WhyNotBothTaken sh R a b)
memory_not_both sh R a b (Ok x) only = tt
memory_not_both sh R a b (Err f) only = subst (WhyNotBothTaken sh R a b) (sym only) tt

-- and where the device alone fails
pub device_not_taken : (sh : Shape) (R : List Record) (r : Record) (f : StoreFault) → f ≡ DeviceFault → WhyNotTaken sh R r f
device_not_taken sh R r f is = subst (WhyNotTaken sh R r) (sym is) tt

pub device_not_both : (sh : Shape) (R : List Record) (a b : Record) (f : StoreFault) → f ≡ DeviceFault → WhyNotBothTaken sh R a b f
device_not_both sh R a b f is = subst (WhyNotBothTaken sh R a b) (sym is) tt
