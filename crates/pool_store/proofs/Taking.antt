-- Records that are added, or refused.
use Rattle.std.proofs.Common.{◌≡◌, true, false, ℕ, ◌^◌, ◌<◌, ◌≤◌, List, [], ◌∷◌, ◌++◌, length, sym, ap, subst, ◌∙◌, length-append, arith}
use Rattle.std.specs.Prelude.{None, Ok, Err, IsErrOf}
use Rattle.std.proofs.lemmas.Bool.{true≢false}
use Rattle.seg_words.specs.Types.{Rose, Shape, is_shape}
use Rattle.disk_model.specs.Types.{Meaning, Untouched}
use Rattle.redo_model.specs.Records.{Record, Reuse}
use Rattle.redo_model.specs.Model.{AreAllowed, IsLawful, is_whole}
use Rattle.redo_model.specs.Lists.{prefix}
use Rattle.redo_laws.proofs.lists.Prefixes.{prefix_longer}
use Rattle.redo_laws.proofs.spelled.SpelledLaw.{records_are_spelled}
use Rattle.redo_log.specs.Kept.{Kept, Stays, AreSpelled, HasRecords}
use Rattle.page_fit.specs.FitPages.{IsTabled}
use Rattle.buffer_pool.specs.Frames.{Pool}
use Rattle.store_pages.specs.Pages.{HasPages}
use Rattle.store_pages.specs.Fitting.{AreBothFit, FitsAll}
use Rattle.pool_fit.proofs.FitsLaw.{records_fit, pairs_fit}
use Rattle.pool_store.specs.Store.{Held, HasList, IsTrue, SameLoan}
use Rattle.pool_store.specs.Survives.{Survives}
use Rattle.pool_store.specs.Putting.{HasPut, OnlyRead, Refused, Taken}
use Rattle.pool_store.specs.Adding.{WhyNotTaken, WhyNotBothTaken}
use Rattle.pool_store.specs.Causes.{HasCause, IsSoundFault}
use Rattle.pool_store.specs.declared.fault.StoreFault.{StoreFault}
use Rattle.pool_store.specs.declared.fault.StoreFault.TheVariants.{DeviceFault, BadPage, NoMemory}
use Rattle.pool_store.proofs.Lookups.{none_some}
use Rattle.pool_store.proofs.Looking.{list_read, ready_shape, ready_stays, true_read}
use Rattle.pool_store.proofs.Surviving.{begins_with, stable_within, survives_more}

-- each record of a lawful list can be written
pub all_spelled : (sh : Shape) (newer R : List Record) → is_shape sh ≡ true → length (newer ++ R) < 2 ^ 64 → AreAllowed sh (newer ++ R) → AreSpelled newer
all_spelled sh [] R within few h = tt
all_spelled sh (r ∷ newer) R within few h = (all_spelled sh newer R within (omega (arith, few)) h.0, records_are_spelled sh (newer ++ R) r within few h)

pub count_is : (R : List Record) (log : Kept) → HasRecords R log → length R < 2 ^ 64 → log.count ≡ length R
count_is R log h few = omega (arith, h.count, few)

-- ---- what is told of the parts of a store holds of the store

pub taken_at : (before k after : Kept) (commits m more : ℕ) (newer : List Record) (lsn : ℕ) → before ≡ k → commits ≡ m → Taken k after m more newer lsn → Taken before after commits more newer lsn
taken_at before k after commits m more newer lsn a b h =
    subst (λ (x : Kept). Taken x after commits more newer lsn) (sym a) (subst (λ (x : ℕ). Taken k after x more newer lsn) (sym b) h)

-- the disk was only read, and the pages have their shape
pub record PartsRead {D : Type 0} (meaning : Meaning D) (d d2 : D) (ps qs : Pool) : Type 0 where
  pub disk : Untouched meaning d d2
  pub faults : meaning.fault_count d ≤ meaning.fault_count d2
  pub reads : meaning.told d → meaning.log_reads d2 ≡ meaning.log_reads d
  pub same : qs.shape ≡ ps.shape

-- the store is otherwise as before
pub record SamePlace {D : Type 0} (old new : Held D) : Type 0 where
  pub loan : new.loan ≡ old.loan
  pub first : new.first ≡ old.first
  pub shape : new.shape ≡ old.shape

pub read_at : {D : Type 0} (meaning : Meaning D) (old new : Held D) (d : D) (ps : Pool) → old.disk ≡ d → old.pages ≡ ps → SamePlace old new → PartsRead meaning d new.disk ps new.pages → OnlyRead meaning old new
read_at {D} meaning old new d ps disk pages place read =
    let here : PartsRead meaning old.disk new.disk old.pages new.pages =
    subst (λ (x : D). PartsRead meaning x new.disk old.pages new.pages) (sym disk) (subst (λ (x : Pool). PartsRead meaning d new.disk x new.pages) (sym pages) read) in
    record { disk = here.disk; faults = here.faults; reads = here.reads; loan = place.loan; first = place.first; shape = place.shape; same = here.same }

-- what holds of the pages after the records, of each log that the data file may stand at
abbrev pub PagesPut : {D : Type 0} → Meaning D → D → D → Kept → Pool → Pool → List Record → Type 0
PagesPut meaning d d2 k ps qs newer = (log R : List Record) (m : ℕ) → k.count ≡ length R → HasPages meaning d log m R ps → HasPages meaning d2 log m (newer ++ R) qs

pub put_at : {D : Type 0} (meaning : Meaning D) (old d d2 : D) (before k : Kept) (os ps qs : Pool) (newer : List Record) → old ≡ d → before ≡ k → os ≡ ps → PagesPut meaning d d2 k ps qs newer → PagesPut meaning old d2 before os qs newer
put_at {D} meaning old d d2 before k os ps qs newer disk log pages h =
    subst (λ (x : D). PagesPut meaning x d2 before os qs newer) (sym disk)
    (subst (λ (x : Kept). PagesPut meaning d d2 x os qs newer) (sym log) (subst (λ (x : Pool). PagesPut meaning d d2 k x qs newer) (sym pages) h))

abbrev pub PagesKept : {D : Type 0} → Meaning D → D → D → Pool → Pool → Type 0
PagesKept meaning d d2 ps qs = (log R : List Record) (m : ℕ) → HasPages meaning d log m R ps → HasPages meaning d2 log m R qs

pub kept_at : {D : Type 0} (meaning : Meaning D) (old d d2 : D) (os ps qs : Pool) → old ≡ d → os ≡ ps → PagesKept meaning d d2 ps qs → PagesKept meaning old d2 os qs
kept_at {D} meaning old d d2 os ps qs disk pages h =
    subst (λ (x : D). PagesKept meaning x d2 os qs) (sym disk) (subst (λ (x : Pool). PagesKept meaning d d2 x qs) (sym pages) h)

pub device_at : {D : Type 0} (meaning : Meaning D) (old d d2 : D) (f : StoreFault) → old ≡ d → (IsErrOf {T = ℕ} {E = StoreFault} (Err f) DeviceFault → Rose (meaning.fault_count d) (meaning.fault_count d2)) → f ≡ DeviceFault → Rose (meaning.fault_count old) (meaning.fault_count d2)
device_at {D} meaning old d d2 f disk h e = subst (λ (x : D). Rose (meaning.fault_count x) (meaning.fault_count d2)) (sym disk) (h (ap (λ (g : StoreFault). Err g) e))

-- ---- a store that was only read

pub read_loan : {D : Type 0} (meaning : Meaning D) (old new : Held D) → OnlyRead meaning old new → SameLoan meaning old new
read_loan meaning old new r = record {
  loan = r.loan;
  first = r.first;
  shape = r.shape;
  told = r.disk.told;
  time = λ R h. r.disk.leaves.later;
  faults = r.faults;
  reads = r.reads;
}

-- the stable records are the first of the longer list too
first_stay : (newer R : List Record) (n more : ℕ) → more ≡ n → n ≤ length R → prefix R n ≡ prefix (newer ++ R) more
first_stay newer R n more e le = sym (prefix_longer R (newer ++ R) n (begins_with newer R) le) ∙ ap (prefix (newer ++ R)) (sym e)

-- the number of the last of the records
module _ {D : Type 0} (meaning : Meaning D) (old : Held D) (after : Kept) (is : ℕ) (newer : List Record) (lsn : ℕ) (t : Taken old.log after old.commits is newer lsn) where
  size_of : (R : List Record) → HasList meaning R old → length (newer ++ R) < 2 ^ 64
  size_of R h = omega (arith, length-append newer R, t.few, count_is R old.log h.list.has h.few)

  pub number_is : (R : List Record) → HasList meaning R old → AreSpelled newer → lsn ≡ length (newer ++ R)
  number_is R h spelled = t.number ∙ count_is (newer ++ R) after (t.list h.groups R h.list spelled).has (size_of R h)

  pub number_of_true : (R : List Record) → IsTrue meaning R old → IsLawful old.shape (newer ++ R) → lsn ≡ length (newer ++ R)
  number_of_true R h lawful = number_is R h.list (all_spelled old.shape newer R h.list.within (size_of R h.list) lawful.allowed)

-- ---- the records were added

module _ {D : Type 0} (meaning : Meaning D) (old new : Held D) (unspent : old.fault ≡ None) (newer : List Record) (lsn : ℕ) (p : HasPut meaning old new newer lsn) where
  size : (R : List Record) → HasList meaning R old → length (newer ++ R) < 2 ^ 64
  size R h = omega (arith, length-append newer R, p.taken.few, count_is R old.log h.list.has h.few)

  pub added_list : (R : List Record) → HasList meaning R old → AreSpelled newer → HasList meaning (newer ++ R) new
  added_list R h spelled = record {
    within = subst (λ (s : Shape). is_shape s ≡ true) (sym p.read.shape) h.within;
    few = size R h;
    groups = h.groups;
    list = p.taken.list h.groups R h.list spelled;
    commits = p.taken.commits R h.commits (size R h);
    ready = λ _. ready_shape meaning new.disk old.shape new.shape h.groups new.log.end p.read.shape (ready_stays meaning old.disk new.disk old.shape h.groups old.log.end new.log.end p.taken.end (h.ready unspent) p.read.disk);
  }

  spelled_by : (R : List Record) (h : IsTrue meaning R old) → IsLawful old.shape (newer ++ R) → AreSpelled newer
  spelled_by R h lawful = all_spelled old.shape newer R h.list.within (size R h.list) lawful.allowed

  pages_by : (R : List Record) → IsTrue meaning R old → HasPages meaning new.disk (prefix (newer ++ R) new.log.stable) 0 (newer ++ R) new.pages
  pages_by R h =
      subst (λ (log : List Record). HasPages meaning new.disk log 0 (newer ++ R) new.pages) (first_stay newer R old.log.stable new.log.stable p.taken.stable (stable_within R old.log h.list.list.has))
      (p.pages (prefix R old.log.stable) R 0 (count_is R old.log h.list.list.has h.list.few) (h.pages unspent))

  pub added_true : (R : List Record) → IsTrue meaning R old → IsLawful old.shape (newer ++ R) → IsTrue meaning (newer ++ R) new
  unfolding added_list
  added_true R h lawful = record {
    list = added_list R h.list (spelled_by R h lawful);
    lawful = subst (λ (s : Shape). IsLawful s (newer ++ R)) (sym p.read.shape) lawful;
    stable = h.stable;
    same = p.read.same ∙ h.same ∙ sym p.read.shape;
    pages = λ _. pages_by R h;
  }

  pub added_survives : (since : ℕ) (needed : ℕ → ℕ) (R : List Record) → IsTrue meaning R old → Survives meaning since needed R old → Survives meaning since needed (newer ++ R) new
  added_survives since needed R t h = survives_more meaning since needed R old t unspent h newer new p.read.disk p.read.shape p.read.first (omega (arith, p.taken.stable))

  pub added_cause : HasCause {D = D} {T = ℕ} meaning old new (Ok lsn)
  added_cause = record {
    device = λ _ no. absurd (cc no);
    kept = λ _. p.going;
    goes_on = unspent;
    answers = λ fault some. absurd (none_some fault old.fault unspent some);
    stays = λ fault some. absurd (none_some fault old.fault unspent some);
  }

-- ---- a refusal

module _ {D : Type 0} (meaning : Meaning D) (old new : Held D) (unspent : old.fault ≡ None) (f : StoreFault) (r : Refused meaning old new f) where
  pub refused_list : (R : List Record) → HasList meaning R old → HasList meaning R new
  refused_list = list_read meaning old new r.read r.log r.commits unspent

  pub refused_true : (R : List Record) → IsTrue meaning R old → IsTrue meaning R new
  refused_true = true_read meaning old new r.read r.log r.commits unspent r.pages

  pub refused_survives : (since : ℕ) (needed : ℕ → ℕ) (R : List Record) → IsTrue meaning R old → Survives meaning since needed R old → Survives meaning since needed R new
  refused_survives since needed R t h = survives_more meaning since needed R old t unspent h [] new r.read.disk r.read.shape r.read.first (omega (arith, r.log.stable))

  pub refused_cause : (T : Type 0) → HasCause {D = D} {T = T} meaning old new (Err f)
  refused_cause T = record {
    device = λ _ e. r.device (cc e);
    kept = λ _. r.fault;
    goes_on = tt;
    answers = λ fault some. absurd (none_some fault old.fault unspent some);
    stays = λ fault some. absurd (none_some fault old.fault unspent some);
  }

pub refused_log : (before k after : Kept) → before ≡ k → Stays k after → Stays before after
refused_log before k after same h = subst (λ (x : Kept). Stays x after) (sym same) h

-- ---- what is allowed fits

tabled : (R : List Record) (r : Record) → is_whole (r ∷ R) ≡ true → IsTabled R r
tabled R (Reuse q) h = absurd (true≢false (sym h))
tabled R _ h = tt

pub one_fits : {D : Type 0} (meaning : Meaning D) (R : List Record) (r : Record) (s : Held D) → IsTrue meaning R s → IsLawful s.shape (r ∷ R) → FitsAll s.shape R r
one_fits meaning R r s h lawful = records_fit s.shape R r h.list.within lawful.allowed (tabled R r lawful.whole)

-- the two that stand in one group
pub two_fit : {D : Type 0} (meaning : Meaning D) (R : List Record) (a b : Record) (s : Held D) → IsTrue meaning R s → IsLawful s.shape (b ∷ a ∷ R) → is_whole (a ∷ R) ≡ false → AreBothFit s.shape R a b
two_fit meaning R a b s h lawful calls = pairs_fit s.shape R a b h.list.within lawful.allowed calls

-- a record that fits is refused by disk or memory alone
pub sound_of_fit : (sh : Shape) (R : List Record) (r : Record) (f : StoreFault) → FitsAll sh R r → WhyNotTaken sh R r f → IsSoundFault f
sound_of_fit sh R r DeviceFault fit why = tt
sound_of_fit sh R r (BadPage d) fit why = why.unfit (fit d why.touches)
sound_of_fit sh R r NoMemory fit why = tt

pub sound_of_both : (sh : Shape) (R : List Record) (a b : Record) (f : StoreFault) → AreBothFit sh R a b → WhyNotBothTaken sh R a b f → IsSoundFault f
sound_of_both sh R a b DeviceFault fit why = tt
sound_of_both sh R a b (BadPage d) fit why = why.unfit (λ y. fit.first_fits d y) (λ y. fit.second_fits d y)
sound_of_both sh R a b NoMemory fit why = tt

pub lawful_at : (sh other : Shape) (R : List Record) → other ≡ sh → IsLawful sh R → IsLawful other R
lawful_at sh other R same h = subst (λ (s : Shape). IsLawful s R) (sym same) h

pub device_sound : (f : StoreFault) → f ≡ DeviceFault → IsSoundFault f
device_sound f e = subst IsSoundFault (sym e) tt
