-- What a store does with records that are to be added: one call after another, and each answer.
use Rattle.std.proofs.Common.{◌≡◌, ℕ, ◌<◌, ◌≤◌, List, ◌++◌, length, Option, Some, None, refl, sym, ap, subst, ◌∙◌, arith, le_trans}
use Rattle.std.specs.Prelude.{Result, Ok, Err, OnOk, OnErr, IfOk, IfErr, IsErrOf, IsOk}
use Rattle.seg_words.specs.Types.{Shape}
use Rattle.disk_model.specs.Types.{Meaning, Untouched}
use Rattle.disk_model.proofs.Lemmas.{untouched_start}
use Rattle.redo_model.specs.Records.{Record}
use Rattle.redo_model.specs.Lists.{prefix, Extends}
use Rattle.redo_log.specs.Kept.{Kept}
use Rattle.page_store.specs.declared.fault.PageFault.{PageFault}
use Rattle.page_store.specs.declared.fault.PageFault.TheVariants as pages
use Rattle.page_store.specs.Types.{IsStore}
use Rattle.pool_laws.specs.Folds.{AreFolded}
use Rattle.buffer_pool.specs.declared.changed.NewPage.{NewPage}
use Rattle.buffer_pool.specs.Frames.{Pool}
use Rattle.buffer_pool.specs.Preparing.{Leads}
use Rattle.buffer_pool.specs.declared.frame.TheConstants.{MOST_DIRTY}
use Rattle.store_pages.specs.Pages.{HasPages, ShowsAfter}
use Rattle.store_pages.specs.Fitting.{WhyNotAdded, WhyNotBoth}
use Rattle.pool_store.specs.Store.{Held, HasList, IsTrue, waits}
use Rattle.pool_store.specs.Putting.{HasPut, Refused}
use Rattle.pool_store.specs.Adding.{HasTaken, FlushesFirst, WhyNotTaken, WhyNotBothTaken}
use Rattle.pool_store.specs.Causes.{HasLooked, IsSoundFault, page_fault}
use Rattle.pool_store.specs.declared.fault.StoreFault.{StoreFault}
use Rattle.pool_store.specs.declared.fault.StoreFault.TheVariants.{DeviceFault, BadPage, NoMemory}
use Rattle.pool_store.proofs.Lookups.{loan_on, cause_on, cause_err}
use Rattle.pool_store.proofs.Surviving.{stable_within}
use Rattle.pool_store.proofs.Taking.{count_is, number_is, number_of_true, read_loan, added_list, added_true, added_survives, added_cause, refused_list, refused_true, refused_survives, refused_cause, lawful_at}

-- ---- the answers of one call

pub taken_here : {D : Type 0} (meaning : Meaning D) (newer : List Record) (old new : Held D) (r : Result ℕ StoreFault) → old.fault ≡ None → IfOk r (HasPut meaning old new newer) → IfErr r (Refused meaning old new) → HasTaken meaning newer old new r
taken_here meaning newer old new (Ok lsn) unspent put refused = record {
  added = λ R h spelled. added_list meaning old new unspent newer lsn put R h spelled;
  number = λ R h spelled. number_is meaning old new.log new.commits newer lsn put.taken R h spelled;
  true_number = λ R t lawful. number_of_true meaning old new.log new.commits newer lsn put.taken R t lawful;
  refused = λ R h. tt;
  added_true = λ R t lawful. added_true meaning old new unspent newer lsn put R t lawful;
  refused_true = λ R t. tt;
  survives = λ since needed R t s. added_survives meaning old new unspent newer lsn put since needed R t s;
  survives_refused = λ since needed R t s. tt;
  stable = λ R h. omega (arith, put.taken.stable);
  loan = read_loan meaning old new put.read;
  cause = added_cause meaning old new unspent newer lsn put;
}
taken_here meaning newer old new (Err f) unspent put refused = record {
  added = λ R h spelled. tt;
  number = λ R h spelled. tt;
  true_number = λ R t lawful. tt;
  refused = λ R h. refused_list meaning old new unspent f refused R h;
  added_true = λ R t lawful. tt;
  refused_true = λ R t. refused_true meaning old new unspent f refused R t;
  survives = λ since needed R t s. tt;
  survives_refused = λ since needed R t s. refused_survives meaning old new unspent f refused since needed R t s;
  stable = λ R h. omega (arith, refused.log.stable);
  loan = read_loan meaning old new refused.read;
  cause = refused_cause meaning old new unspent f refused ℕ;
}

-- after a call that looked
pub taken_after : {D T : Type 0} (meaning : Meaning D) (newer : List Record) (old mid new : Held D) (x : T) (r : Result ℕ StoreFault) → HasLooked {T = T} meaning old mid (Ok x) → HasTaken meaning newer mid new r → HasTaken meaning newer old new r
taken_after meaning newer old mid new x r p q = record {
  added = λ R h spelled. q.added R (p.list R h) spelled;
  number = λ R h spelled. q.number R (p.list R h) spelled;
  true_number = λ R t lawful. q.true_number R (p.stays_true R t) (lawful_at old.shape mid.shape (newer ++ R) p.loan.shape lawful);
  refused = λ R h. q.refused R (p.list R h);
  added_true = λ R t lawful. q.added_true R (p.stays_true R t) (lawful_at old.shape mid.shape (newer ++ R) p.loan.shape lawful);
  refused_true = λ R t. q.refused_true R (p.stays_true R t);
  survives = λ since needed R t s. q.survives since needed R (p.stays_true R t) (p.survives since needed R t s);
  survives_refused = λ since needed R t s. q.survives_refused since needed R (p.stays_true R t) (p.survives since needed R t s);
  stable = λ R h. le_trans (p.stable R h) (q.stable R (p.list R h));
  loan = loan_on meaning old mid new p.list p.loan q.loan;
  cause = cause_on meaning old mid new x r p.loan p.cause q.cause;
}

-- that call was refused
pub taken_none : {D T : Type 0} (meaning : Meaning D) (newer : List Record) (old new : Held D) (f : StoreFault) → HasLooked {T = T} meaning old new (Err f) → HasTaken meaning newer old new (Err f)
taken_none meaning newer old new f p = record {
  added = λ R h spelled. tt;
  number = λ R h spelled. tt;
  true_number = λ R t lawful. tt;
  refused = p.list;
  added_true = λ R t lawful. tt;
  refused_true = p.stays_true;
  survives = λ since needed R t s. tt;
  survives_refused = p.survives;
  stable = p.stable;
  loan = p.loan;
  cause = cause_err meaning old new f p.cause;
}

-- ---- the pages of a record are put in

-- over a data file that stays, the frames show the pages after the records
pub pages_put : {D : Type 0} (meaning : Meaning D) (disk : D) (log R Q : List Record) (m : ℕ) (mid new : Pool) → Extends log Q → new.shape ≡ mid.shape
    → ((file : ℕ → List ℕ) → ShowsAfter file R mid → ShowsAfter file Q new) → HasPages meaning disk log m R mid → HasPages meaning disk log m Q new
pages_put meaning disk log R Q m mid new part same shows h = record {
  part = part;
  marked = h.marked;
  over = record {
    file = h.over.file;
    base = subst (λ (sh : Shape). IsStore meaning disk sh h.over.file) (sym same) h.over.base;
    folded = subst (λ (sh : Shape). AreFolded sh log m h.over.file) (sym same) h.over.folded;
    shown = shows h.over.file h.over.shown;
  };
}

pub pages_of : {D T : Type 0} (meaning : Meaning D) (disk : D) (log R Q : List Record) (m : ℕ) (mid new : Pool) (r : Result T StoreFault) → Extends log Q → new.shape ≡ mid.shape
    → ((file : ℕ → List ℕ) → ShowsAfter file R mid → OnOk r (ShowsAfter file Q new)) → HasPages meaning disk log m R mid → OnOk r (HasPages meaning disk log m Q new)
pages_of meaning disk log R Q m mid new (Ok x) part same shows h = pages_put meaning disk log R Q m mid new part same shows h
pages_of meaning disk log R Q m mid new (Err f) part same shows h = tt

pub pages_left : {D T : Type 0} (meaning : Meaning D) (disk : D) (log R : List Record) (m : ℕ) (mid new : Pool) (r : Result T StoreFault) → OnErr r (new ≡ mid) → HasPages meaning disk log m R mid → OnErr r (HasPages meaning disk log m R new)
pages_left meaning disk log R m mid new (Ok x) same h = tt
pages_left meaning disk log R m mid new (Err f) same h = subst (λ (p : Pool). HasPages meaning disk log m R p) (sym same) h

-- what leads from the pages of one shape to others
pub leads_at : (sh other : Shape) (R Q : List Record) (changed : List NewPage) → other ≡ sh → Leads sh R Q changed → Leads other R Q changed
leads_at sh other R Q changed same h = subst (λ (x : Shape). Leads x R Q changed) (sym same) h

-- a fault of the pages is the store's
pub device_of_page : {A B : Type 0} (f : PageFault) (g : StoreFault) → (g ≡ DeviceFault → f ≡ pages.DeviceFault) → IsErrOf {T = A} {E = StoreFault} (Err g) DeviceFault → IsErrOf {T = B} {E = PageFault} (Err f) pages.DeviceFault
device_of_page f g h is = ap (λ (e : PageFault). Err e) (h (cc is))

-- ---- what waits, and room in the frames

-- after the flush of too much, room was made or not
pub full_after : {D : Type 0} (meaning : Meaning D) (R : List Record) (mid new : Held D) (r : Result (Unit {0}) StoreFault) → HasLooked meaning mid new r → HasList meaning R mid → mid.log.stable ≡ length R → new.log.stable ≡ length R
full_after meaning R mid new r looked h full = omega (arith, full, looked.stable R h, stable_within R new.log (looked.list R h).list.has)

-- the flush failed, which it does with the disk alone
pub full_failed : {T P : Type 0} (f : StoreFault) → f ≡ DeviceFault → (IsErrOf {T = T} {E = StoreFault} (Err f) DeviceFault → ⊥) → P
full_failed f only not = absurd (not (ap (λ (e : StoreFault). Err e) only))

-- it didn't fail where nothing was to be written
pub not_failed : {D T P : Type 0} (meaning : Meaning D) (old new : Held D) (f : StoreFault) → HasLooked {T = T} meaning old new (Err f) → f ≡ DeviceFault → old.fault ≡ None → new ≡ old → P
not_failed {D} meaning old new f looked only unspent same =
    absurd (cc (ap (λ (s : Held D). s.fault) same, unspent, looked.cause.kept unspent, only))

pub room_none : {D : Type 0} (old mid new : Held D) (r : Result (Unit {0}) StoreFault) → mid ≡ old → (mid.fault ≡ None → mid.pages.dirty ≤ MOST_DIRTY → IsOk r × (new ≡ mid)) → old.fault ≡ None → old.pages.dirty ≤ MOST_DIRTY → IsOk r × (new ≡ old)
room_none {D} old mid new r same none unspent few =
    let h = none (ap (λ (s : Held D). s.fault) same ∙ unspent) (omega (arith, few, ap (λ (s : Held D). s.pages.dirty) same)) in
    (h.0, h.1 ∙ same)

-- ---- what is written first

pub record SameFiles {D : Type 0} (meaning : Meaning D) (old new : Held D) : Type 0 where
  pub disk : Untouched meaning old.disk new.disk
  pub stable : new.log.stable ≡ old.log.stable

pub put_same : {D : Type 0} (meaning : Meaning D) (newer : List Record) (old new : Held D) (r : Result ℕ StoreFault) → IfOk r (HasPut meaning old new newer) → IfErr r (Refused meaning old new) → SameFiles meaning old new
put_same meaning newer old new (Ok lsn) put refused = record { disk = put.read.disk; stable = put.taken.stable }
put_same meaning newer old new (Err f) put refused = record { disk = refused.read.disk; stable = refused.log.stable }

pub first_then : {D : Type 0} (meaning : Meaning D) (most : ℕ) (old mid new : Held D) (r : Result ℕ StoreFault) → old.fault ≡ None → ((R : List Record) → HasList meaning R old → old.fault ≡ None → most < waits old → mid.log.stable ≡ length R)
    → (waits old ≤ most → old.pages.dirty ≤ MOST_DIRTY → mid ≡ old) → SameFiles meaning mid new → FlushesFirst meaning most old new r
first_then {D} meaning most old mid new r unspent full none same = record {
  full = λ R h _ lt not. same.stable ∙ full R h unspent lt;
  unchanged = λ le few. subst (λ (s : Held D). Untouched meaning s.disk new.disk) (none le few) same.disk;
  stays = λ le few. same.stable ∙ ap (λ (s : Held D). s.log.stable) (none le few);
}

-- no room was made
pub first_none : {D : Type 0} (meaning : Meaning D) (most : ℕ) (old new : Held D) (f : StoreFault) → HasLooked {T = Unit {0}} meaning old new (Err f)
    → ((R : List Record) → HasList meaning R old → old.fault ≡ None → most < waits old → (IsErrOf {T = Unit {0}} {E = StoreFault} (Err f) DeviceFault → ⊥) → new.log.stable ≡ length R)
    → (old.fault ≡ None → waits old ≤ most → old.pages.dirty ≤ MOST_DIRTY → IsOk {T = Unit {0}} {E = StoreFault} (Err f) × (new ≡ old)) → FlushesFirst {T = ℕ} meaning most old new (Err f)
first_none {D} meaning most old new f looked full none = record {
  full = λ R h unspent lt not. full R h unspent lt (λ is. not (ap (λ (g : StoreFault). Err g) (cc is)));
  unchanged = λ le few. subst (λ (s : Held D). Untouched meaning old.disk s.disk) (sym (same le few old.fault refl)) (untouched_start meaning old.disk);
  stays = λ le few. ap (λ (s : Held D). s.log.stable) (same le few old.fault refl);
}
  where
    same : waits old ≤ most → old.pages.dirty ≤ MOST_DIRTY → (o : Option StoreFault) → old.fault ≡ o → new ≡ old
    same le few None e = (none e le few).1
    same le few (Some g) e = looked.cause.stays g e

-- ---- whether it fits

-- what holds of the disk, the list and the pages that a call is given holds of the store
pub as_true : {D : Type 0} (meaning : Meaning D) (R : List Record) (s : Held D) (disk : D) (log : Kept) (ps : Pool) (P : Shape → Type 0) → s.disk ≡ disk → s.log ≡ log → s.pages ≡ ps → s.fault ≡ None
    → ((logged : List Record) (m : ℕ) → log.count ≡ length R → HasPages meaning disk logged m R ps → P ps.shape) → IsTrue meaning R s → P s.shape
as_true {D} meaning R s disk log ps P there same pages unspent says h =
    let count : log.count ≡ length R = ap (λ (k : Kept). k.count) (sym same) ∙ count_is R s.log h.list.list.has h.list.few in
    let held : HasPages meaning disk (prefix R s.log.stable) 0 R ps =
    subst (λ (x : D). HasPages meaning x (prefix R s.log.stable) 0 R ps) there (subst (λ (x : Pool). HasPages meaning s.disk (prefix R s.log.stable) 0 R x) pages (h.pages unspent)) in
    subst P (ap (λ (x : Pool). x.shape) (sym pages) ∙ h.same) (says (prefix R s.log.stable) 0 count held)

pub not_taken : (sh : Shape) (R : List Record) (r : Record) (e : PageFault) (f : StoreFault) → f ≡ page_fault e → WhyNotAdded sh R r e → WhyNotTaken sh R r f
not_taken sh R r pages.DeviceFault f same why = subst (WhyNotTaken sh R r) (sym same) tt
not_taken sh R r (pages.BadPage d) f same why = subst (WhyNotTaken sh R r) (sym same) why
not_taken sh R r pages.NoMemory f same why = subst (WhyNotTaken sh R r) (sym same) tt

pub not_both : (sh : Shape) (R : List Record) (a b : Record) (e : PageFault) (f : StoreFault) → f ≡ page_fault e → WhyNotBoth sh R a b e → WhyNotBothTaken sh R a b f
not_both sh R a b pages.DeviceFault f same why = subst (WhyNotBothTaken sh R a b) (sym same) tt
not_both sh R a b (pages.BadPage d) f same why = subst (WhyNotBothTaken sh R a b) (sym same) why
not_both sh R a b pages.NoMemory f same why = subst (WhyNotBothTaken sh R a b) (sym same) tt

-- where memory alone can be wanting
pub memory_not_taken : {T : Type 0} (sh : Shape) (R : List Record) (r : Record) (result : Result T StoreFault) → IfErr result (λ e. e ≡ NoMemory) → IfErr result (WhyNotTaken sh R r)
memory_not_taken sh R r (Ok x) only = tt
memory_not_taken sh R r (Err f) only = subst (WhyNotTaken sh R r) (sym only) tt

pub memory_not_both : {T : Type 0} (sh : Shape) (R : List Record) (a b : Record) (result : Result T StoreFault) → IfErr result (λ e. e ≡ NoMemory) → IfErr result (WhyNotBothTaken sh R a b)
memory_not_both sh R a b (Ok x) only = tt
memory_not_both sh R a b (Err f) only = subst (WhyNotBothTaken sh R a b) (sym only) tt

-- memory alone, and not the device
pub memory_not_device : {T P : Type 0} (result : Result T StoreFault) → IfErr result (λ e. e ≡ NoMemory) → IsErrOf result DeviceFault → P
memory_not_device (Ok x) only is = absurd (cc is)
memory_not_device (Err f) only is = absurd (cc (is, only))

-- and where disk and memory alone fail
pub sound_not_taken : (sh : Shape) (R : List Record) (r : Record) (f : StoreFault) → IsSoundFault f → WhyNotTaken sh R r f
sound_not_taken sh R r DeviceFault sound = tt
sound_not_taken sh R r (BadPage d) sound = absurd sound
sound_not_taken sh R r NoMemory sound = tt

pub sound_not_both : (sh : Shape) (R : List Record) (a b : Record) (f : StoreFault) → IsSoundFault f → WhyNotBothTaken sh R a b f
sound_not_both sh R a b DeviceFault sound = tt
sound_not_both sh R a b (BadPage d) sound = absurd sound
sound_not_both sh R a b NoMemory sound = tt
