-- A batch of pages that is put into the data file.
use Rattle.std.proofs.Common.{◌≡◌, ◌-◌, ◌^◌, ◌<◌, ◌≤◌, true, ℕ, List, [], length, refl, sym, ap, subst, ◌∙◌, ⊎_elim, min, arith}
use Rattle.std.specs.Prelude.{None, Result, Ok, Err, OnOk, IsErrOf, ◌↔◌}
use Rattle.std.proofs.lemmas.Bool.{cases_lt}
use Rattle.seg_words.specs.Types.{Shape, is_shape}
use Rattle.disk_model.specs.Types.{Meaning, Causes}
use Rattle.redo_model.specs.Records.{Record}
use Rattle.redo_model.specs.Model.{IsLawful}
use Rattle.redo_model.specs.Lists.{prefix}
use Rattle.redo_laws.proofs.lists.Prefixes.{prefix_size}
use Rattle.redo_log.specs.Kept.{Kept, HasList as HasLogList}
use Rattle.page_store.specs.Types.{LeavesLog}
use Rattle.page_store.specs.declared.fault.PageFault.{PageFault}
use Rattle.page_store.specs.declared.fault.PageFault.TheVariants as pages
use Rattle.page_set.specs.Folded.{page_of}
use Rattle.buffer_pool.specs.Frames.{Pool}
use Rattle.buffer_pool.specs.Batches.{ReadBack}
use Rattle.frame_laws.proofs.SoFar.{pages_read_back}
use Rattle.store_pages.specs.Pages.{HasPages, LeavesFolds, ShowsAfter}
use Rattle.store_pages.specs.Fitting.{IsSoundFault as IsSoundPageFault}
use Rattle.pool_store.specs.Store.{Held, HasList, IsTrue, SameLoan}
use Rattle.pool_store.specs.Survives.{Survives}
use Rattle.pool_store.specs.Causes.{HasLooked, IsSoundFault, lasting_fault, page_fault}
use Rattle.pool_store.specs.declared.fault.StoreFault.{StoreFault}
use Rattle.pool_store.specs.declared.fault.StoreFault.TheVariants.{DeviceFault, BadPage}
use Rattle.pool_store.proofs.Lookups.{none_some}
use Rattle.pool_store.proofs.Looking.{all_count, ready_shape, ready_beside}
use Rattle.pool_store.proofs.Surviving.{stable_within, survives_batch_of}

-- what a batch left of disk and pages
pub record Spared {D T : Type 0} (meaning : Meaning D) (old new : D) (upto : ℕ) (before after : Pool) (result : Result T PageFault) : Type 0 where
  pub any_moment : (log R : List Record) (m : ℕ) → HasPages meaning old log m R before → upto ≤ length log → ReadBack before.shape (page_of before.shape R) → LeavesFolds meaning old new before.shape log m
  pub done : (log R : List Record) (m : ℕ) → HasPages meaning old log m R before → upto ≤ length log → ReadBack before.shape (page_of before.shape R) → OnOk result (HasPages meaning new log m R after)
  pub memory : IsErrOf result pages.NoMemory → (after ≡ before) × (new ≡ old)
  pub shape : after.shape ≡ before.shape
  pub log : LeavesLog meaning old new
  pub cause : Causes meaning old new (IsErrOf result pages.DeviceFault)
  pub told : meaning.told new ↔ meaning.told old
  pub reads : meaning.log_reads new ≡ meaning.log_reads old

-- the same of equal disks, numbers and pages
pub spared_at : {D T : Type 0} (meaning : Meaning D) (old d new : D) (upto n : ℕ) (before p after : Pool) (result : Result T PageFault) → old ≡ d → upto ≡ n → before ≡ p → Spared meaning d new n p after result → Spared meaning old new upto before after result
spared_at {D} meaning old d new upto n before p after result a b c h =
    subst (λ (x : D). Spared meaning x new upto before after result) (sym a)
    (subst (λ (x : ℕ). Spared meaning d new x before after result) (sym b) (subst (λ (x : Pool). Spared meaning d new n x after result) (sym c) h))

-- the store is otherwise as before
pub record SameButPages {D : Type 0} (old new : Held D) : Type 0 where
  pub loan : new.loan ≡ old.loan
  pub first : new.first ≡ old.first
  pub shape : new.shape ≡ old.shape
  pub log : new.log ≡ old.log
  pub commits : new.commits ≡ old.commits

pub only_device : (e : PageFault) → page_fault e ≡ DeviceFault → e ≡ pages.DeviceFault
only_device pages.DeviceFault is = refl
only_device (pages.BadPage b) is = absurd (cc is)
only_device pages.NoMemory is = absurd (cc is)

-- a number that isn't the greatest of 64 bits
pub below_last : (n m k : ℕ) → n < 2 ^ 64 → (m ≡ 18446744073709551615 → ⊥) → m ≡ n → k ≡ n → k < 2 ^ 64 - 1
below_last n m k small last same is = ⊎_elim (λ (below : n < 2 ^ 64 - 1). omega (arith, below, is)) (λ (above : 2 ^ 64 - 1 ≤ n). absurd (last (omega (arith, above, small, same)))) (cases_lt n (2 ^ 64 - 1))

-- a fault of the pages that may come is one of the store's
pub sound_page : (e : PageFault) → IsSoundPageFault e → IsSoundFault (page_fault e)
sound_page pages.DeviceFault h = tt
sound_page (pages.BadPage b) h = h
sound_page pages.NoMemory h = tt

module _ {D : Type 0} (meaning : Meaning D) (old : Held D) (unspent : old.fault ≡ None) where
  -- what a batch needs to know of the pages
  pub reads_back : old.log.count < 2 ^ 64 - 1 → (R : List Record) → IsTrue meaning R old → ReadBack old.pages.shape (page_of old.pages.shape R)
  reads_back small R t =
      subst (λ (sh : Shape). ReadBack sh (page_of sh R)) (sym t.same)
      (pages_read_back old.shape R t.list.within (omega (arith, small, all_count R old.log t.list.list.has t.list.few)) t.lawful.allowed)

  pub log_has : (R : List Record) → IsTrue meaning R old → old.log.stable ≤ length (prefix R old.log.stable)
  log_has R t = omega (arith, prefix_size R old.log.stable (stable_within R old.log t.list.list.has))

  module _ {T : Type 0} (new : Held D) (rest : SameButPages old new) (small : old.log.count < 2 ^ 64 - 1) (result : Result T PageFault) (s : Spared meaning old.disk new.disk old.log.stable old.pages new.pages result) where
    loan_spared : SameLoan meaning old new
    loan_spared = record {
      loan = rest.loan;
      first = rest.first;
      shape = rest.shape;
      told = s.told;
      time = λ R h. (s.log.leaves (h.ready unspent).settled.told).later;
      faults = s.cause.later;
      reads = λ _. s.reads;
    }

    list_spared : (R : List Record) → HasList meaning R old → HasList meaning R new
    list_spared R h = record {
      within = subst (λ (sh : Shape). is_shape sh ≡ true) (sym rest.shape) h.within;
      few = h.few;
      groups = h.groups;
      list = subst (λ (k : Kept). HasLogList h.groups [] R k) (sym rest.log) h.list;
      commits = rest.commits ∙ h.commits;
      ready = λ _. ready_shape meaning new.disk old.shape new.shape h.groups new.log.end rest.shape (ready_beside meaning old.disk new.disk old.shape h.groups old.log.end new.log.end (ap (λ (k : Kept). k.end) rest.log) (h.ready unspent) s.log);
    }

    true_spared : ((R : List Record) → IsTrue meaning R old → new.fault ≡ None → HasPages meaning new.disk (prefix R old.log.stable) 0 R new.pages) → (R : List Record) → IsTrue meaning R old → IsTrue meaning R new
    unfolding list_spared
    true_spared has R t = record {
      list = list_spared R t.list;
      lawful = subst (λ (sh : Shape). IsLawful sh R) (sym rest.shape) t.lawful;
      stable = t.stable;
      same = s.shape ∙ t.same ∙ sym rest.shape;
      pages = λ none. subst (λ (k : Kept). HasPages meaning new.disk (prefix R k.stable) 0 R new.pages) (sym rest.log) (has R t none);
    }

    survives_spared : (since : ℕ) (needed : ℕ → ℕ) (R : List Record) → IsTrue meaning R old → Survives meaning since needed R old → Survives meaning since needed R new
    survives_spared since needed R t h =
        survives_batch_of meaning since needed R old t unspent h new rest.shape rest.first (omega (arith, ap (λ (k : Kept). k.stable) rest.log))
        (s.any_moment (prefix R old.log.stable) R 0 (t.pages unspent) (log_has R t) (reads_back small R t))

  module _ {T : Type 0} (new : Held D) (rest : SameButPages old new) (small : old.log.count < 2 ^ 64 - 1) where
    -- the batch is in the file, or none was needed
    pub spared_done : (answer : T) → Spared meaning old.disk new.disk old.log.stable old.pages new.pages (Ok answer) → new.fault ≡ None → HasLooked {D = D} {T = T} meaning old new (Ok answer)
    spared_done answer s none = record {
      loan = loan_spared new rest small (Ok answer) s;
      cause = record {
        device = λ _ no. absurd (cc no);
        kept = λ _. none;
        goes_on = unspent;
        answers = λ fault some. absurd (none_some fault old.fault unspent some);
        stays = λ fault some. absurd (none_some fault old.fault unspent some);
      };
      list = list_spared new rest small (Ok answer) s;
      stays_true = true_spared new rest small (Ok answer) s (λ R t _. s.done (prefix R old.log.stable) R 0 (t.pages unspent) (log_has R t) (reads_back small R t));
      stable = λ R h. omega (arith, ap (λ (k : Kept). k.stable) rest.log);
      survives = survives_spared new rest small (Ok answer) s;
    }

    -- after a fault nothing is said of the pages, but without memory all is as it was
    kept_pages : (e : PageFault) → Spared {T = T} meaning old.disk new.disk old.log.stable old.pages new.pages (Err e) → new.fault ≡ lasting_fault (page_fault e) → (R : List Record) → IsTrue meaning R old → new.fault ≡ None → HasPages meaning new.disk (prefix R old.log.stable) 0 R new.pages
    kept_pages pages.DeviceFault s kept R t none = absurd (none_some DeviceFault new.fault none kept)
    kept_pages (pages.BadPage b) s kept R t none = absurd (none_some (BadPage b) new.fault none kept)
    kept_pages pages.NoMemory s kept R t none =
        let same = s.memory refl in
        subst (λ (d : D). HasPages meaning d (prefix R old.log.stable) 0 R new.pages) (sym same.1)
        (subst (λ (p : Pool). HasPages meaning old.disk (prefix R old.log.stable) 0 R p) (sym same.0) (t.pages unspent))

    pub spared_failed : (e : PageFault) → Spared {T = T} meaning old.disk new.disk old.log.stable old.pages new.pages (Err e) → new.fault ≡ lasting_fault (page_fault e) → HasLooked {D = D} {T = T} meaning old new (Err (page_fault e))
    spared_failed e s kept = record {
      loan = loan_spared new rest small (Err e) s;
      cause = record {
        device = λ _ is. s.cause.rose (ap (λ (f : PageFault). Err f) (only_device e (cc is)));
        kept = λ _. kept;
        goes_on = tt;
        answers = λ fault some. absurd (none_some fault old.fault unspent some);
        stays = λ fault some. absurd (none_some fault old.fault unspent some);
      };
      list = list_spared new rest small (Err e) s;
      stays_true = true_spared new rest small (Err e) s (kept_pages e s kept);
      stable = λ R h. omega (arith, ap (λ (k : Kept). k.stable) rest.log);
      survives = survives_spared new rest small (Err e) s;
    }

    pub spared_failed_as : (e : PageFault) (f : StoreFault) → f ≡ page_fault e → Spared {T = T} meaning old.disk new.disk old.log.stable old.pages new.pages (Err e) → new.fault ≡ lasting_fault f → HasLooked {D = D} {T = T} meaning old new (Err f)
    spared_failed_as e f is s kept = subst (λ (x : StoreFault). HasLooked {D = D} {T = T} meaning old new (Err x)) (sym is) (spared_failed e s (kept ∙ ap lasting_fault is))

-- why a batch that the log covers failed
pub spared_soundly : {D : Type 0} (meaning : Meaning D) (R : List Record) (s : Held D) (e : PageFault) (f : StoreFault) (upto : ℕ) (p : Pool) → s.pages ≡ p → upto ≡ s.log.stable → s.fault ≡ None → f ≡ page_fault e
    → ((file : ℕ → List ℕ) (Q : List Record) → ShowsAfter file Q p → length Q ≤ upto → IsSoundPageFault e) → IsTrue meaning R s → s.log.stable ≡ length R → IsSoundFault f
spared_soundly meaning R s e f upto p same number unspent is sound t all =
    let over = (t.pages unspent).over in
    subst IsSoundFault (sym is) (sound_page e (sound over.file R (subst (λ (x : Pool). ShowsAfter over.file R x) same over.shown) (omega (arith, number, all))))

-- how many pages a batch that the log covers has
pub spared_many : {D : Type 0} (meaning : Meaning D) (R : List Record) (s : Held D) (upto most n : ℕ) (p : Pool) → s.pages ≡ p → upto ≡ s.log.stable → s.fault ≡ None
    → ((file : ℕ → List ℕ) (Q : List Record) → ShowsAfter file Q p → length Q ≤ upto → n ≡ min most p.dirty) → IsTrue meaning R s → s.log.stable ≡ length R → n ≡ min most s.pages.dirty
spared_many meaning R s upto most n p same number unspent many t all =
    let over = (t.pages unspent).over in
    many over.file R (subst (λ (x : Pool). ShowsAfter over.file R x) same over.shown) (omega (arith, number, all)) ∙ ap (λ (x : Pool). min most x.dirty) (sym same)
