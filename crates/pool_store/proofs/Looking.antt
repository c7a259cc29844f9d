-- Calls that add no record.
use Rattle.std.proofs.Common.{◌≡◌, true, ℕ, ◌^◌, ◌<◌, List, [], length, refl, sym, ap, subst, ◌∙◌, arith, inl, inr}
use Rattle.std.specs.Prelude.{Some, None, Result, Ok, Err, OnOk, OnErr, IsErr, IsErrOf, ◌↔◌}
use Rattle.seg_words.specs.Types.{Shape, Rose, is_shape}
use Rattle.disk_model.specs.Types.{Files, Meaning, Now, Causes, Leaves, Untouched, OnlyFile}
use Rattle.disk_model.specs.declared.disk.File.TheVariants.{Log}
use Rattle.log_frame.specs.Ready.{IsReady}
use Rattle.log_frame.specs.Spelling.{IsLog}
use Rattle.redo_model.specs.Records.{Record}
use Rattle.redo_model.specs.Model.{is_whole, IsLawful}
use Rattle.redo_model.specs.Lists.{Extends, same as all_of, prefix}
use Rattle.redo_laws.proofs.lists.Prefixes.{prefix_all}
use Rattle.redo_log.specs.Kept.{Kept, Holds, HasRecords, Stays, HasList as HasLogList, with_group}
use Rattle.redo_log.specs.Lasting.{GroupOrNone}
use Rattle.redo_log.proofs.Once.{holds_once}
use Rattle.page_store.specs.Types.{IsShut, IsStore, LeavesLog}
use Rattle.buffer_pool.specs.Frames.{Pool}
use Rattle.pool_laws.proofs.Folds.{folds_stay}
use Rattle.store_pages.specs.Pages.{HasPages}
use Rattle.pool_store.specs.Store.{Held, HasList, IsTrue, SameLoan}
use Rattle.pool_store.specs.Putting.{OnlyRead}
use Rattle.pool_store.specs.Causes.{HasLooked, kept_fault, lasting_fault}
use Rattle.pool_store.specs.declared.fault.StoreFault.{StoreFault}
use Rattle.pool_store.specs.declared.fault.StoreFault.TheVariants.{DeviceFault}
use Rattle.pool_store.proofs.Lookups.{none_some}
use Rattle.pool_store.proofs.Surviving.{data_stays, log_stays, holds_all, stable_below, survives_read, survives_run}

-- what a flush left of disk and log
pub record Flushed {D : Type 0} (meaning : Meaning D) (old new : D) (before after : Kept) (result : Result (Unit {0}) StoreFault) : Type 0 where
  pub any_moment : (shape : Shape) (groups : List (List ℕ)) → IsReady meaning old shape groups before.end → Leaves meaning old new (OnlyFile meaning old Log (GroupOrNone shape groups before.waiting.bytes))
  pub ready : (shape : Shape) (groups : List (List ℕ)) → IsReady meaning old shape groups before.end → OnOk result (IsReady meaning new shape (with_group groups before.waiting.bytes) after.end)
  pub list : (groups : List (List ℕ)) (R : List Record) → HasLogList groups [] R before → OnOk result (HasLogList (with_group groups before.waiting.bytes) [] R after)
  pub stable : OnOk result (after.stable ≡ before.count)
  pub refused : OnErr result (Stays before after)
  pub cause : Causes meaning old new (IsErr result)
  pub told : meaning.told new ↔ meaning.told old
  pub reads : meaning.log_reads new ≡ meaning.log_reads old

-- the store is otherwise as before
pub record SameRest {D : Type 0} (old new : Held D) : Type 0 where
  pub loan : new.loan ≡ old.loan
  pub first : new.first ≡ old.first
  pub shape : new.shape ≡ old.shape
  pub pages : new.pages ≡ old.pages
  pub commits : new.commits ≡ old.commits

pub stays_list : (groups : List (List ℕ)) (R : List Record) (old new : Kept) → Stays old new → HasLogList groups [] R old → HasLogList groups [] R new
stays_list groups R old new s h = record {
  has = record {
    newer = h.has.newer;
    older = h.has.older;
    split = h.has.split;
    stable = s.stable ∙ h.has.stable;
    count = s.count ∙ h.has.count;
    bytes = s.bytes ∙ h.has.bytes;
    spelled = h.has.spelled;
  };
  holds = h.holds;
}

-- the number of the last record
pub all_count : (R : List Record) (log : Kept) → HasRecords R log → length R < 2 ^ 64 → log.count ≡ length R
all_count R log h few = omega (arith, few, h.count)

pub ready_shape : {D : Type 0} (meaning : Meaning D) (disk : D) (sh new_sh : Shape) (groups : List (List ℕ)) (end : ℕ) → new_sh ≡ sh → IsReady meaning disk sh groups end → IsReady meaning disk new_sh groups end
ready_shape meaning disk sh new_sh groups end same h = subst (λ (s : Shape). IsReady meaning disk s groups end) (sym same) h

module _ {D : Type 0} (meaning : Meaning D) (old new : D) where
  -- a log whose disk was only read
  pub ready_stays : (sh : Shape) (groups : List (List ℕ)) (end end2 : ℕ) → end2 ≡ end → IsReady meaning old sh groups end → Untouched meaning old new → IsReady meaning new sh groups end2
  ready_stays sh groups end end2 at h u =
      let same = u.files h.settled.told in
      record {
        settled = record {
          told = u.told.1 h.settled.told;
          durable = λ image now. h.settled.durable image ((u.images image).0 now) ∙ ap (λ (f : Files). f.log_bytes) (sym same);
        };
        log = subst (λ (f : Files). IsLog sh groups f.log_bytes) (sym same) h.log;
        at_end = h.at_end ∙ sym at;
      }

  -- a log beside a data file that was written
  pub ready_beside : (sh : Shape) (groups : List (List ℕ)) (end end2 : ℕ) → end2 ≡ end → IsReady meaning old sh groups end → LeavesLog meaning old new → IsReady meaning new sh groups end2
  ready_beside sh groups end end2 at h l =
      let told = h.settled.told in
      let same = l.log_stays told in
      let leaves = l.leaves told in
      record {
        settled = record {
          told = l.told.1 told;
          durable = λ image now. elim (leaves.each (meaning.clock new) image (omega arith) now) [
            | inl was ↦ absurd (omega (arith, was.0, leaves.later))
            | inr run ↦ log_stays meaning old (λ (bytes : List ℕ). Unit {0}) image h.settled run.1 ∙ sym same
          ];
        };
        log = subst (IsLog sh groups) (sym same) h.log;
        at_end = h.at_end ∙ sym at;
      }

  -- a data file beside a log that was written
  module _ (P : List ℕ → Type 0) (leaves : Leaves meaning old new (OnlyFile meaning old Log P)) (told : meaning.told new ↔ meaning.told old) (as_read : (disk : D) → meaning.told disk → meaning.crash_at disk (meaning.clock disk) (meaning.files disk)) where
    data_now : (sh : Shape) (pages : ℕ → List ℕ) → IsStore meaning old sh pages → (image : Files) → Now meaning new image → image.data_bytes ≡ (meaning.files old).data_bytes
    data_now sh pages h image now = elim (leaves.each (meaning.clock new) image (omega arith) now) [
      | inl was ↦ absurd (omega (arith, was.0, leaves.later))
      | inr run ↦ data_stays meaning old P image h.settled run.1
    ]

    pub store_beside : (sh : Shape) (pages : ℕ → List ℕ) → IsStore meaning old sh pages → IsStore meaning new sh pages
    store_beside sh pages h =
        let is : meaning.told new = told.1 h.settled.told in
        let read : (meaning.files new).data_bytes ≡ (meaning.files old).data_bytes = data_now sh pages h (meaning.files new) (as_read new is) in
        record {
          settled = record { told = is; durable = λ image now. data_now sh pages h image now ∙ sym read };
          file = subst (IsShut sh pages) (sym read) h.file;
        }

    -- the pages, where the log has more records than before
    pub pages_beside : (log log2 R : List Record) (p : Pool) → Extends log log2 → Extends log2 R → HasPages meaning old log 0 R p → HasPages meaning new log2 0 R p
    pages_beside log log2 R p first part h = record {
      part = part;
      marked = omega arith;
      over = record {
        file = h.over.file;
        base = store_beside p.shape h.over.file h.over.base;
        folded = folds_stay p.shape log log2 0 h.over.file first (omega arith) h.over.folded;
        shown = h.over.shown;
      };
    }

-- a true store's pages after a flush of its log
pub pages_flushed : {D : Type 0} (meaning : Meaning D) (old new : Held D) (R : List Record) (P : List ℕ → Type 0) → Leaves meaning old.disk new.disk (OnlyFile meaning old.disk Log P) → (meaning.told new.disk ↔ meaning.told old.disk)
    → ((disk : D) → meaning.told disk → meaning.crash_at disk (meaning.clock disk) (meaning.files disk)) → new.pages ≡ old.pages → new.log.stable ≡ length R → IsTrue meaning R old → old.fault ≡ None → HasPages meaning new.disk (prefix R new.log.stable) 0 R new.pages
pages_flushed {D} meaning old new R P leaves told as_read pages stable t unspent =
    let h = t.pages unspent in
    let all : prefix R new.log.stable ≡ R = ap (prefix R) stable ∙ prefix_all R (length R) (omega arith) in
    subst (λ (p : Pool). HasPages meaning new.disk (prefix R new.log.stable) 0 R p) (sym pages)
    (subst (λ (Q : List Record). HasPages meaning new.disk Q 0 R old.pages) (sym all)
    (pages_beside meaning old.disk new.disk P leaves told as_read (prefix R old.log.stable) R R old.pages h.part all_of h))

module _ {D : Type 0} (meaning : Meaning D) (old new : Held D) (as_read : (disk : D) → meaning.told disk → meaning.crash_at disk (meaning.clock disk) (meaning.files disk)) (rest : SameRest old new) (unspent : old.fault ≡ None) where
  -- after a flush
  done_list : Flushed meaning old.disk new.disk old.log new.log (Ok tt) → (R : List Record) → HasList meaning R old → HasList meaning R new
  done_list f R h = record {
    within = subst (λ (s : Shape). is_shape s ≡ true) (sym rest.shape) h.within;
    few = h.few;
    groups = with_group h.groups old.log.waiting.bytes;
    list = f.list h.groups R h.list;
    commits = rest.commits ∙ h.commits;
    ready = λ _. ready_shape meaning new.disk old.shape new.shape (with_group h.groups old.log.waiting.bytes) new.log.end rest.shape (f.ready old.shape h.groups (h.ready unspent));
  }

  done_stable : (R : List Record) (t : IsTrue meaning R old) (Q : List Record) → Holds (with_group t.list.groups old.log.waiting.bytes) [] Q → is_whole Q ≡ true
  done_stable R t Q holds =
      let all = holds_all t.list.groups R old.log t.list.list in
      ap is_whole (holds_once (with_group t.list.groups old.log.waiting.bytes) [] Q R holds all) ∙ t.lawful.whole

  same_shape : (R : List Record) → IsTrue meaning R old → new.pages.shape ≡ new.shape
  same_shape R t = ap (λ (p : Pool). p.shape) rest.pages ∙ t.same ∙ sym rest.shape

  done_true : (f : Flushed meaning old.disk new.disk old.log new.log (Ok tt)) (R : List Record) → IsTrue meaning R old → IsTrue meaning R new
  unfolding done_list
  done_true f R t = record {
    list = done_list f R t.list;
    lawful = subst (λ (s : Shape). IsLawful s R) (sym rest.shape) t.lawful;
    stable = done_stable R t;
    same = same_shape R t;
    pages = λ _. pages_flushed meaning old new R (GroupOrNone old.shape t.list.groups old.log.waiting.bytes) (f.any_moment old.shape t.list.groups (t.list.ready unspent)) f.told as_read rest.pages (f.stable ∙ all_count R old.log t.list.list.has t.list.few) t unspent;
  }

  failed_list : (f : Flushed meaning old.disk new.disk old.log new.log (Err DeviceFault)) → new.fault ≡ Some DeviceFault → (R : List Record) → HasList meaning R old → HasList meaning R new
  failed_list f spent R h = record {
    within = subst (λ (s : Shape). is_shape s ≡ true) (sym rest.shape) h.within;
    few = h.few;
    groups = h.groups;
    list = stays_list h.groups R old.log new.log f.refused h.list;
    commits = rest.commits ∙ h.commits;
    ready = λ none. absurd (none_some DeviceFault new.fault none spent);
  }

  failed_true : (f : Flushed meaning old.disk new.disk old.log new.log (Err DeviceFault)) → new.fault ≡ Some DeviceFault → (R : List Record) → IsTrue meaning R old → IsTrue meaning R new
  unfolding failed_list
  failed_true f spent R t = record {
    list = failed_list f spent R t.list;
    lawful = subst (λ (s : Shape). IsLawful s R) (sym rest.shape) t.lawful;
    stable = t.stable;
    same = same_shape R t;
    pages = λ none. absurd (none_some DeviceFault new.fault none spent);
  }

  same_after : (result : Result (Unit {0}) StoreFault) → Flushed meaning old.disk new.disk old.log new.log result → SameLoan meaning old new
  same_after result f = record {
    loan = rest.loan;
    first = rest.first;
    shape = rest.shape;
    told = f.told;
    time = λ R h. (f.any_moment old.shape h.groups (h.ready unspent)).later;
    faults = f.cause.later;
    reads = λ _. f.reads;
  }

  pub flush_done : Flushed meaning old.disk new.disk old.log new.log (Ok tt) → new.fault ≡ None → HasLooked {D = D} {T = Unit {0}} meaning old new (Ok tt)
  flush_done f none = record {
    loan = same_after (Ok tt) f;
    cause = record {
      device = λ _ no. absurd (cc no);
      kept = λ _. none;
      goes_on = unspent;
      answers = λ fault some. absurd (none_some fault old.fault unspent some);
      stays = λ fault some. absurd (none_some fault old.fault unspent some);
    };
    list = done_list f;
    stays_true = done_true f;
    stable = λ R h. omega (arith, f.stable, stable_below R old.log h.list.has);
    survives = λ since needed R t h. survives_run meaning since needed R old t unspent h new rest.shape rest.first (omega (arith, f.stable, stable_below R old.log t.list.list.has)) (f.any_moment old.shape t.list.groups (t.list.ready unspent));
  }

  pub flush_failed : Flushed meaning old.disk new.disk old.log new.log (Err DeviceFault) → new.fault ≡ Some DeviceFault → HasLooked {D = D} {T = Unit {0}} meaning old new (Err DeviceFault)
  flush_failed f spent = record {
    loan = same_after (Err DeviceFault) f;
    cause = record {
      device = λ _ _. f.cause.rose refl;
      kept = λ _. spent;
      goes_on = tt;
      answers = λ fault some. absurd (none_some fault old.fault unspent some);
      stays = λ fault some. absurd (none_some fault old.fault unspent some);
    };
    list = failed_list f spent;
    stays_true = failed_true f spent;
    stable = λ R h. omega (arith, f.refused.stable);
    survives = λ since needed R t h. survives_run meaning since needed R old t unspent h new rest.shape rest.first (omega (arith, f.refused.stable)) (f.any_moment old.shape t.list.groups (t.list.ready unspent));
  }

  pub flush_failed_as : (f : StoreFault) → f ≡ DeviceFault → Flushed meaning old.disk new.disk old.log new.log (Err f) → new.fault ≡ lasting_fault f → HasLooked {D = D} {T = Unit {0}} meaning old new (Err f)
  flush_failed_as f device flushed kept =
      subst (λ (x : StoreFault). HasLooked {D = D} {T = Unit {0}} meaning old new (Err x)) (sym device)
      (flush_failed (subst (λ (x : StoreFault). Flushed meaning old.disk new.disk old.log new.log (Err x)) device flushed) (kept ∙ ap lasting_fault device))

-- the same of equal disks and logs
pub flushed_at : {D : Type 0} (meaning : Meaning D) (old d new : D) (before k after : Kept) (result : Result (Unit {0}) StoreFault) → old ≡ d → before ≡ k → Flushed meaning d new k after result → Flushed meaning old new before after result
flushed_at {D = D} meaning old d new before k after result same alike f =
    subst (λ (x : D). Flushed meaning x new before after result) (sym same) (subst (λ (y : Kept). Flushed meaning d new y after result) (sym alike) f)

-- a store that keeps a fault, with a list as before
module _ {D : Type 0} (meaning : Meaning D) (old new : Held D) (fault : StoreFault) (spent : new.fault ≡ Some fault) (shape : new.shape ≡ old.shape) (log : Stays old.log new.log) (commits : new.commits ≡ old.commits) where
  pub list_refused : (R : List Record) → HasList meaning R old → HasList meaning R new
  list_refused R h = record {
    within = subst (λ (s : Shape). is_shape s ≡ true) (sym shape) h.within;
    few = h.few;
    groups = h.groups;
    list = stays_list h.groups R old.log new.log log h.list;
    commits = commits ∙ h.commits;
    ready = λ none. absurd (none_some fault new.fault none spent);
  }

  pub true_refused : new.pages.shape ≡ old.pages.shape → (R : List Record) → IsTrue meaning R old → IsTrue meaning R new
  unfolding list_refused
  true_refused pages R t = record {
    list = list_refused R t.list;
    lawful = subst (λ (s : Shape). IsLawful s R) (sym shape) t.lawful;
    stable = t.stable;
    same = pages ∙ t.same ∙ sym shape;
    pages = λ none. absurd (none_some fault new.fault none spent);
  }

-- a call that only read the disk
module _ {D : Type 0} (meaning : Meaning D) (old new : Held D) (read : OnlyRead meaning old new) (log : Stays old.log new.log) (commits : new.commits ≡ old.commits) (unspent : old.fault ≡ None) where
  pub list_read : (R : List Record) → HasList meaning R old → HasList meaning R new
  list_read R h = record {
    within = subst (λ (s : Shape). is_shape s ≡ true) (sym read.shape) h.within;
    few = h.few;
    groups = h.groups;
    list = stays_list h.groups R old.log new.log log h.list;
    commits = commits ∙ h.commits;
    ready = λ _. ready_shape meaning new.disk old.shape new.shape h.groups new.log.end read.shape (ready_stays meaning old.disk new.disk old.shape h.groups old.log.end new.log.end log.end (h.ready unspent) read.disk);
  }

  pub true_read : ((logged R : List Record) (m : ℕ) → HasPages meaning old.disk logged m R old.pages → HasPages meaning new.disk logged m R new.pages) → (R : List Record) → IsTrue meaning R old → IsTrue meaning R new
  unfolding list_read
  true_read pages R t = record {
    list = list_read R t.list;
    lawful = subst (λ (s : Shape). IsLawful s R) (sym read.shape) t.lawful;
    stable = t.stable;
    same = read.same ∙ t.same ∙ sym read.shape;
    pages = λ _. subst (λ (n : ℕ). HasPages meaning new.disk (prefix R n) 0 R new.pages) (sym log.stable) (pages (prefix R old.log.stable) R 0 (t.pages unspent));
  }

  pub loan_read : SameLoan meaning old new
  loan_read = record {
    loan = read.loan;
    first = read.first;
    shape = read.shape;
    told = read.disk.told;
    time = λ R h. read.disk.leaves.later;
    faults = read.faults;
    reads = read.reads;
  }

  pub looked_read : {T : Type 0} (result : Result T StoreFault) → ((logged R : List Record) (m : ℕ) → HasPages meaning old.disk logged m R old.pages → HasPages meaning new.disk logged m R new.pages)
      → new.fault ≡ kept_fault result → (IsErrOf result DeviceFault → Rose (meaning.fault_count old.disk) (meaning.fault_count new.disk)) → HasLooked {D = D} {T = T} meaning old new result
  looked_read {T} result pages fault device = record {
    loan = loan_read;
    cause = record {
      device = λ _. device;
      kept = λ _. fault;
      goes_on = went result;
      answers = λ f some. absurd (none_some f old.fault unspent some);
      stays = λ f some. absurd (none_some f old.fault unspent some);
    };
    list = list_read;
    stays_true = true_read pages;
    stable = λ R h. omega (arith, log.stable);
    survives = λ since needed R t h. survives_read meaning since needed R old t unspent h new read.disk read.shape read.first (omega (arith, log.stable));
  }
    where
      went : (r : Result T StoreFault) → OnOk r (old.fault ≡ None)
      went (Ok x) = unspent
      went (Err f) = tt
