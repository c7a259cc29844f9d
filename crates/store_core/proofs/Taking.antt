-- Records that are added, or refused.
use Rattle.std.proofs.Common.{◌≡◌, true, false, Bool, ◌&&◌, ◌||◌, not, eqb, nat_lt, ℕ, suc, ◌+◌, ◌^◌, ◌<◌, List, [], ◌∷◌, ◌++◌, length, refl, sym, ap, subst, ◌∙◌, length-append, arith}
use Rattle.std.specs.Prelude.{None, Ok, Err, IsErrOf, ◌↔◌}
use Rattle.std.proofs.lemmas.Bool.{true≢false}
use Rattle.std.proofs.lemmas.Bool.Decides.{nat_tests}
use Rattle.seg_words.specs.Types.{Shape, is_shape}
use Rattle.disk_model.specs.Crash.{Meaning}
use Rattle.log_frame.specs.Ready.{IsReady}
use Rattle.redo_model.specs.Records.{Record, Reuse}
use Rattle.redo_model.specs.Model.{AreAllowed, IsLawful, is_whole, commit_count}
use Rattle.redo_laws.proofs.spelled.SpelledLaw.{records_are_spelled}
use Rattle.redo_log.specs.Kept.{Kept, Stays, AreSpelled, HasRecords, HasList as HasLogList}
use Rattle.page_set.specs.declared.page.Page.{Page}
use Rattle.page_set.specs.Folded.{touched_once}
use Rattle.page_map.specs.Pages.{HasPages, AreFit, made}
use Rattle.page_fit.specs.FitPages.{IsTabled}
use Rattle.store_laws.proofs.PuttingLaw.{records_fit, pairs_fit}
use Rattle.store_core.specs.Store.{Held, HasList, IsTrue, SameLoan, has_page}
use Rattle.store_core.specs.Survives.{Survives}
use Rattle.store_core.specs.Putting.{SameDisk, Taken, Refused}
use Rattle.store_core.specs.Causes.{HasCause, HasLooked, IsSoundFault}
use Rattle.store_core.specs.declared.fault.StoreFault.{StoreFault}
use Rattle.store_core.specs.declared.fault.StoreFault.TheVariants.{DeviceFault, NoMemory}
use Rattle.store_core.proofs.Lookups.{none_some}
use Rattle.store_core.proofs.Looking.{stays_list}
use Rattle.store_core.proofs.Surviving.{survives_more}

-- each record of a lawful list can be written
pub all_spelled : (sh : Shape) (newer R : List Record) → is_shape sh ≡ true → length (newer ++ R) < 2 ^ 64 → AreAllowed sh (newer ++ R) → AreSpelled newer
all_spelled sh [] R within few h = tt
all_spelled sh (r ∷ newer) R within few h = (all_spelled sh newer R within (omega (arith, few)) h.0, records_are_spelled sh (newer ++ R) r within few h)

pub count_is : (R : List Record) (log : Kept) → HasRecords R log → length R < 2 ^ 64 → log.count ≡ length R
count_is R log h few = omega (arith, h.count, few)

pub taken_at : (sh other : Shape) (before k after : Kept) (ps os qs : List Page) (commits m more : ℕ) (newer : List Record) (lsn : ℕ) → sh ≡ other → before ≡ k → ps ≡ os → commits ≡ m
    → Taken other k after os qs m more newer lsn → Taken sh before after ps qs commits more newer lsn
taken_at sh other before k after ps os qs commits m more newer lsn a b c d h =
    subst (λ (x : Shape). Taken x before after ps qs commits more newer lsn) (sym a)
    (subst (λ (x : Kept). Taken other x after ps qs commits more newer lsn) (sym b)
    (subst (λ (x : List Page). Taken other k after x qs commits more newer lsn) (sym c) (subst (λ (x : ℕ). Taken other k after os qs x more newer lsn) (sym d) h)))

-- the number of the last of the records
module _ {D : Type 0} (meaning : Meaning D) (old : Held D) (after : Kept) (qs : List Page) (is : ℕ) (newer : List Record) (lsn : ℕ) (t : Taken old.shape old.log after old.pages qs old.commits is newer lsn) where
  size_of : (R : List Record) → HasList meaning R old → length (newer ++ R) < 2 ^ 64
  size_of R h = omega (arith, length-append newer R, t.few, count_is R old.log h.list.has h.few)

  pub number_is : (R : List Record) → HasList meaning R old → AreSpelled newer → lsn ≡ length (newer ++ R)
  number_is R h spelled = t.number ∙ count_is (newer ++ R) after (t.list h.groups R h.list spelled).has (size_of R h)

  pub number_of_true : (R : List Record) → IsTrue meaning R old → IsLawful old.shape (newer ++ R) → lsn ≡ length (newer ++ R)
  number_of_true R h lawful = number_is R h.list (all_spelled old.shape newer R h.list.within (size_of R h.list) lawful.allowed)

pub same_disk_loan : {D : Type 0} (meaning : Meaning D) (old new : Held D) → SameDisk old new → SameLoan meaning old new
same_disk_loan {D = D} meaning old new same = record {
  loan = same.loan;
  first = same.first;
  shape = same.shape;
  told = subst (λ (d : D). meaning.told d ↔ meaning.told old.disk) (sym same.disk) (λ h. h, λ h. h);
  time = λ R h. omega (arith, ap meaning.clock same.disk);
  faults = omega (arith, ap meaning.fault_count same.disk);
  reads = ap meaning.log_reads same.disk;
}

ready_at : {D : Type 0} (meaning : Meaning D) (old new : Held D) (groups : List (List ℕ)) → SameDisk old new → new.log.end ≡ old.log.end → IsReady meaning old.disk old.shape groups old.log.end → IsReady meaning new.disk new.shape groups new.log.end
ready_at {D = D} meaning old new groups same end h =
    subst (λ (s : Shape). IsReady meaning new.disk s groups new.log.end) (sym same.shape)
    (subst (λ (e : ℕ). IsReady meaning new.disk old.shape groups e) (sym end) (subst (λ (d : D). IsReady meaning d old.shape groups old.log.end) (sym same.disk) h))

module _ {D : Type 0} (meaning : Meaning D) (old new : Held D) (same : SameDisk old new) (unspent : old.fault ≡ None) (going : new.fault ≡ None) (newer : List Record) (lsn : ℕ)
    (t : Taken old.shape old.log new.log old.pages new.pages old.commits new.commits newer lsn) where
  size : (R : List Record) → HasList meaning R old → length (newer ++ R) < 2 ^ 64
  size R h = omega (arith, length-append newer R, t.few, count_is R old.log h.list.has h.few)

  pub added_list : (R : List Record) → HasList meaning R old → AreSpelled newer → HasList meaning (newer ++ R) new
  added_list R h spelled = record {
    within = subst (λ (s : Shape). is_shape s ≡ true) (sym same.shape) h.within;
    few = size R h;
    groups = h.groups;
    list = t.list h.groups R h.list spelled;
    pages = subst (λ (s : Shape). HasPages s (newer ++ R) new.pages) (sym same.shape) (t.pages R (count_is R old.log h.list.has h.few) h.pages);
    commits = t.commits R h.commits (size R h);
    ready = λ _. ready_at meaning old new h.groups same t.end (h.ready unspent);
  }

  spelled_by : (R : List Record) (h : IsTrue meaning R old) → IsLawful old.shape (newer ++ R) → AreSpelled newer
  spelled_by R h lawful = all_spelled old.shape newer R h.list.within (size R h.list) lawful.allowed

  pub added_true : (R : List Record) → IsTrue meaning R old → IsLawful old.shape (newer ++ R) → IsTrue meaning (newer ++ R) new
  unfolding added_list
  added_true R h lawful = record {
    list = added_list R h.list (spelled_by R h lawful);
    lawful = subst (λ (s : Shape). IsLawful s (newer ++ R)) (sym same.shape) lawful;
    stable = h.stable;
  }

  pub added_survives : (since : ℕ) (needed : ℕ → ℕ) (R : List Record) → Survives meaning since needed R old → Survives meaning since needed (newer ++ R) new
  added_survives since needed R h = survives_more meaning since needed newer R old new same.disk same.shape same.first t.stable h

  pub added_cause : HasCause {D = D} {T = ℕ} meaning old new (Ok lsn)
  added_cause = record {
    device = λ _ no. absurd (cc no);
    kept = λ _. going;
    goes_on = unspent;
    answers = λ fault some. absurd (none_some fault old.fault unspent some);
    stays = λ fault some. absurd (none_some fault old.fault unspent some);
  }

-- ---- a refusal

module _ {D : Type 0} (meaning : Meaning D) (old new : Held D) (unspent : old.fault ≡ None) (f : StoreFault) (r : Refused old new f) where
  pub refused_list : (R : List Record) → HasList meaning R old → HasList meaning R new
  refused_list R h = record {
    within = subst (λ (s : Shape). is_shape s ≡ true) (sym r.same.shape) h.within;
    few = h.few;
    groups = h.groups;
    list = stays_list h.groups R old.log new.log r.log h.list;
    pages = subst (λ (s : Shape). HasPages s R new.pages) (sym r.same.shape) (subst (HasPages old.shape R) (sym r.pages) h.pages);
    commits = r.commits ∙ h.commits;
    ready = λ _. ready_at meaning old new h.groups r.same r.log.end (h.ready unspent);
  }

  pub refused_true : (R : List Record) → IsTrue meaning R old → IsTrue meaning R new
  unfolding refused_list
  refused_true R h = record {
    list = refused_list R h.list;
    lawful = subst (λ (s : Shape). IsLawful s R) (sym r.same.shape) h.lawful;
    stable = h.stable;
  }

  pub refused_survives : (since : ℕ) (needed : ℕ → ℕ) (R : List Record) → Survives meaning since needed R old → Survives meaning since needed R new
  refused_survives since needed R h = survives_more meaning since needed [] R old new r.same.disk r.same.shape r.same.first r.log.stable h

  pub refused_cause : (T : Type 0) → HasCause {D = D} {T = T} meaning old new (Err f)
  refused_cause T = record {
    device = λ _ e. absurd (r.device (cc e));
    kept = λ _. r.fault;
    goes_on = tt;
    answers = λ fault some. absurd (none_some fault old.fault unspent some);
    stays = λ fault some. absurd (none_some fault old.fault unspent some);
  }

pub stays_same : (before after : Kept) → after ≡ before → Stays before after
stays_same before after same = subst (λ (x : Kept). Stays before x) (sym same) (record { end = refl; stable = refl; count = refl; bytes = refl; room = omega arith })

pub refused_looked : {D : Type 0} (T : Type 0) (meaning : Meaning D) (old new : Held D) → old.fault ≡ None → (f : StoreFault) → Refused old new f → HasLooked {D = D} {T = T} meaning old new (Err f)
refused_looked T meaning old new unspent f r = record {
  loan = same_disk_loan meaning old new r.same;
  cause = refused_cause meaning old new unspent f r T;
  list = refused_list meaning old new unspent f r;
  stays_true = refused_true meaning old new unspent f r;
  stable = λ R h. omega (arith, r.log.stable);
  survives = λ since needed R t h. refused_survives meaning old new unspent f r since needed R h;
}

pub refused_log : (before k after : Kept) → before ≡ k → Stays k after → Stays before after
refused_log before k after same h = subst (λ (x : Kept). Stays x after) (sym same) h

pub not_device : {T : Type 0} (f : StoreFault) → (IsErrOf {T = T} {E = StoreFault} (Err f) DeviceFault → ⊥) → f ≡ DeviceFault → ⊥
not_device f never e = never (ap Err e)

pub sound_memory : (f : StoreFault) → f ≡ NoMemory → IsSoundFault f
sound_memory f e = subst IsSoundFault (sym e) tt

-- ---- what is allowed fits

tabled : (R : List Record) (r : Record) → is_whole (r ∷ R) ≡ true → IsTabled R r
tabled R (Reuse q) h = absurd (true≢false (sym h))
tabled R _ h = tt

pub one_fits : {D : Type 0} (meaning : Meaning D) (R : List Record) (r : Record) (s : Held D) (sh : Shape) (log : Kept) (ps : List Page) → s.shape ≡ sh → s.log ≡ log → s.pages ≡ ps
    → IsTrue meaning R s → IsLawful s.shape (r ∷ R) → AreFit r (suc log.count) [] ps (touched_once sh r)
one_fits meaning R r s sh log ps shape same pages h lawful =
    let fit = records_fit s.shape R r s.pages h.list.within lawful.allowed (tabled R r lawful.whole) h.list.pages in
    let n : length R ≡ log.count = sym (count_is R s.log h.list.list.has h.list.few) ∙ ap (λ (k : Kept). k.count) same in
    subst (λ (x : Shape). AreFit r (suc log.count) [] ps (touched_once x r)) shape
    (subst (λ (x : List Page). AreFit r (suc log.count) [] x (touched_once s.shape r)) pages (subst (λ (x : ℕ). AreFit r (suc x) [] s.pages (touched_once s.shape r)) n fit))

-- the two that stand in one group
pub record TwoFit (sh : Shape) (n : ℕ) (a b : Record) (ps : List Page) : Type 0 where
  pub first : AreFit a n [] ps (touched_once sh a)
  pub second : AreFit b (n + 1) (made a n [] ps (touched_once sh a)) ps (touched_once sh b)

pub two_fit : {D : Type 0} (meaning : Meaning D) (R : List Record) (a b : Record) (s : Held D) (sh : Shape) (log : Kept) (ps : List Page) → s.shape ≡ sh → s.log ≡ log → s.pages ≡ ps
    → IsTrue meaning R s → IsLawful s.shape (b ∷ a ∷ R) → is_whole (a ∷ R) ≡ false → TwoFit sh (suc log.count) a b ps
two_fit meaning R a b s sh log ps shape same pages h lawful calls =
    let fit = pairs_fit s.shape R a b s.pages h.list.within lawful.allowed calls h.list.pages in
    let n : length R ≡ log.count = sym (count_is R s.log h.list.list.has h.list.few) ∙ ap (λ (k : Kept). k.count) same in
    let both : TwoFit s.shape (suc (length R)) a b s.pages = record { first = fit.first; second = fit.second } in
    subst (λ (x : Shape). TwoFit x (suc log.count) a b ps) shape (subst (λ (x : List Page). TwoFit s.shape (suc log.count) a b x) pages (subst (λ (x : ℕ). TwoFit s.shape (suc x) a b s.pages) n both))

pub lawful_at : (sh other : Shape) (R : List Record) → other ≡ sh → IsLawful sh R → IsLawful other R
lawful_at sh other R same h = subst (λ (s : Shape). IsLawful s R) (sym same) h

pub device_sound : (f : StoreFault) → f ≡ DeviceFault → IsSoundFault f
device_sound f e = subst IsSoundFault (sym e) tt

and_left : (a b : Bool) → (a && b) ≡ true → a ≡ true
and_left true b h = refl
and_left false b h = h

less : (a b : ℕ) → nat_lt a b ≡ true → a < b
less a b h = grind (arith, nat_tests)

pub page_within : (sh : Shape) (d : ℕ) → has_page sh d ≡ true → d < sh.blocks
page_within sh d h = less d sh.blocks (and_left (nat_lt d sh.blocks) (not (eqb d 0)) (and_left (nat_lt d sh.blocks && not (eqb d 0)) (nat_lt d 4 || nat_lt 36 d) h))

pub page_is_there : {D : Type 0} (meaning : Meaning D) (R : List Record) (s : Held D) (sh : Shape) (ps : List Page) (d : ℕ) → s.shape ≡ sh → s.pages ≡ ps → HasList meaning R s → has_page s.shape d ≡ true → (has_page sh d ≡ true) × (d < length ps)
page_is_there meaning R s sh ps d shape pages h has =
    let small = page_within s.shape d has in
    let many : d < length s.pages = omega (arith, h.pages.count, small) in
    (subst (λ (x : Shape). has_page x d ≡ true) shape has, subst (λ (x : List Page). d < length x) pages many)
