-- Calls that add no record.
use Rattle.std.proofs.Common.{◌≡◌, true, ℕ, List, [], refl, sym, ap, subst, ◌∙◌, arith}
use Rattle.std.specs.Prelude.{Some, None, Option, Result, Ok, Err, OnOk, OnErr, IsErr, ◌↔◌}
use Rattle.seg_words.specs.Types.{Shape, is_shape}
use Rattle.disk_model.specs.Crash.{Meaning, Causes, Leaves}
use Rattle.disk_model.specs.Only.{OnlyFile}
use Rattle.disk_model.specs.declared.disk.File.TheVariants.{Log}
use Rattle.log_frame.specs.Ready.{IsReady}
use Rattle.redo_model.specs.Records.{Record}
use Rattle.redo_model.specs.Model.{is_whole, IsLawful}
use Rattle.redo_log.specs.Kept.{Kept, Holds, Stays, HasList as HasLogList, with_group}
use Rattle.redo_log.specs.Lasting.{GroupOrNone}
use Rattle.redo_log.proofs.Once.{holds_once}
use Rattle.page_set.specs.declared.page.Page.{Page}
use Rattle.page_map.specs.Pages.{HasPages}
use Rattle.store_core.specs.Store.{Held, HasList, IsTrue, SameLoan}
use Rattle.store_core.specs.Causes.{HasCause, HasLooked, lasting_fault}
use Rattle.store_core.specs.declared.fault.StoreFault.{StoreFault}
use Rattle.store_core.specs.declared.fault.StoreFault.TheVariants.{DeviceFault}
use Rattle.store_core.proofs.Lookups.{none_some}
use Rattle.store_core.proofs.Surviving.{holds_all, stable_below, survives_run}

-- what a flush left of disk and log
pub record Flushed {D : Type 0} (meaning : Meaning D) (old new : D) (before after : Kept) (result : Result (Unit {0}) StoreFault) : Type 0 where
  pub any_moment : (shape : Shape) (groups : List (List ℕ)) → IsReady meaning old shape groups before.end → Leaves meaning old new (OnlyFile meaning old Log (GroupOrNone shape groups before.waiting.bytes))
  pub ready : (shape : Shape) (groups : List (List ℕ)) → IsReady meaning old shape groups before.end → OnOk result (IsReady meaning new shape (with_group groups before.waiting.bytes) after.end)
  pub list : (groups : List (List ℕ)) (R : List Record) → HasLogList groups [] R before → OnOk result (HasLogList (with_group groups before.waiting.bytes) [] R after)
  pub stable : OnOk result (after.stable ≡ before.count)
  pub refused : OnErr result (Stays before after)
  pub cause : Causes meaning old new (IsErr result)
  pub told : meaning.told new ↔ meaning.told old
  pub reads : meaning.log_reads new ≡ meaning.log_reads old

-- the store is otherwise as before
pub record SameRest {D : Type 0} (old new : Held D) : Type 0 where
  pub loan : new.loan ≡ old.loan
  pub first : new.first ≡ old.first
  pub shape : new.shape ≡ old.shape
  pub pages : new.pages ≡ old.pages
  pub commits : new.commits ≡ old.commits

pub stays_list : (groups : List (List ℕ)) (R : List Record) (old new : Kept) → Stays old new → HasLogList groups [] R old → HasLogList groups [] R new
stays_list groups R old new s h = record {
  has = record {
    newer = h.has.newer;
    older = h.has.older;
    split = h.has.split;
    stable = s.stable ∙ h.has.stable;
    count = s.count ∙ h.has.count;
    bytes = s.bytes ∙ h.has.bytes;
    spelled = h.has.spelled;
  };
  holds = h.holds;
}

pub pages_same : (sh new_sh : Shape) (R : List Record) (old new : List Page) → new_sh ≡ sh → new ≡ old → HasPages sh R old → HasPages new_sh R new
pages_same sh new_sh R old new shape same h = subst (λ (s : Shape). HasPages s R new) (sym shape) (subst (HasPages sh R) (sym same) h)

ready_shape : {D : Type 0} (meaning : Meaning D) (disk : D) (sh new_sh : Shape) (groups : List (List ℕ)) (end : ℕ) → new_sh ≡ sh → IsReady meaning disk sh groups end → IsReady meaning disk new_sh groups end
ready_shape meaning disk sh new_sh groups end same h = subst (λ (s : Shape). IsReady meaning disk s groups end) (sym same) h

module _ {D : Type 0} (meaning : Meaning D) (old new : Held D) (rest : SameRest old new) (unspent : old.fault ≡ None) where
  -- after a flush
  done_list : Flushed meaning old.disk new.disk old.log new.log (Ok tt) → (R : List Record) → HasList meaning R old → HasList meaning R new
  done_list f R h = record {
    within = subst (λ (s : Shape). is_shape s ≡ true) (sym rest.shape) h.within;
    few = h.few;
    groups = with_group h.groups old.log.waiting.bytes;
    list = f.list h.groups R h.list;
    pages = pages_same old.shape new.shape R old.pages new.pages rest.shape rest.pages h.pages;
    commits = rest.commits ∙ h.commits;
    ready = λ _. ready_shape meaning new.disk old.shape new.shape (with_group h.groups old.log.waiting.bytes) new.log.end rest.shape (f.ready old.shape h.groups (h.ready unspent));
  }

  done_stable : (R : List Record) (t : IsTrue meaning R old) (Q : List Record) → Holds (with_group t.list.groups old.log.waiting.bytes) [] Q → is_whole Q ≡ true
  done_stable R t Q holds =
      let all = holds_all t.list.groups R old.log t.list.list in
      ap is_whole (holds_once (with_group t.list.groups old.log.waiting.bytes) [] Q R holds all) ∙ t.lawful.whole

  done_true : (f : Flushed meaning old.disk new.disk old.log new.log (Ok tt)) (R : List Record) → IsTrue meaning R old → IsTrue meaning R new
  unfolding done_list
  done_true f R t = record {
    list = done_list f R t.list;
    lawful = subst (λ (s : Shape). IsLawful s R) (sym rest.shape) t.lawful;
    stable = done_stable R t;
  }

  failed_list : (f : Flushed meaning old.disk new.disk old.log new.log (Err DeviceFault)) → new.fault ≡ Some DeviceFault → (R : List Record) → HasList meaning R old → HasList meaning R new
  failed_list f spent R h = record {
    within = subst (λ (s : Shape). is_shape s ≡ true) (sym rest.shape) h.within;
    few = h.few;
    groups = h.groups;
    list = stays_list h.groups R old.log new.log f.refused h.list;
    pages = pages_same old.shape new.shape R old.pages new.pages rest.shape rest.pages h.pages;
    commits = rest.commits ∙ h.commits;
    ready = λ none. absurd (none_some DeviceFault new.fault none spent);
  }

  failed_true : (f : Flushed meaning old.disk new.disk old.log new.log (Err DeviceFault)) → new.fault ≡ Some DeviceFault → (R : List Record) → IsTrue meaning R old → IsTrue meaning R new
  unfolding failed_list
  failed_true f spent R t = record {
    list = failed_list f spent R t.list;
    lawful = subst (λ (s : Shape). IsLawful s R) (sym rest.shape) t.lawful;
    stable = t.stable;
  }

  same_after : (result : Result (Unit {0}) StoreFault) → Flushed meaning old.disk new.disk old.log new.log result → SameLoan meaning old new
  same_after result f = record {
    loan = rest.loan;
    first = rest.first;
    shape = rest.shape;
    told = f.told;
    time = λ R h. (f.any_moment old.shape h.groups (h.ready unspent)).later;
    faults = f.cause.later;
    reads = f.reads;
  }

  pub flush_done : Flushed meaning old.disk new.disk old.log new.log (Ok tt) → new.fault ≡ None → HasLooked {D = D} {T = Unit {0}} meaning old new (Ok tt)
  flush_done f none = record {
    loan = same_after (Ok tt) f;
    cause = record {
      device = λ _ no. absurd (cc no);
      kept = λ _. none;
      goes_on = unspent;
      answers = λ fault some. absurd (none_some fault old.fault unspent some);
      stays = λ fault some. absurd (none_some fault old.fault unspent some);
    };
    list = done_list f;
    stays_true = done_true f;
    stable = λ R h. omega (arith, f.stable, stable_below R old.log h.list.has);
    survives = λ since needed R t h. survives_run meaning since needed R old t unspent h new rest.shape rest.first (omega (arith, f.stable, stable_below R old.log t.list.list.has)) (f.any_moment old.shape t.list.groups (t.list.ready unspent));
  }

  pub flush_failed : Flushed meaning old.disk new.disk old.log new.log (Err DeviceFault) → new.fault ≡ Some DeviceFault → HasLooked {D = D} {T = Unit {0}} meaning old new (Err DeviceFault)
  flush_failed f spent = record {
    loan = same_after (Err DeviceFault) f;
    cause = record {
      device = λ _ _. f.cause.rose refl;
      kept = λ _. spent;
      goes_on = tt;
      answers = λ fault some. absurd (none_some fault old.fault unspent some);
      stays = λ fault some. absurd (none_some fault old.fault unspent some);
    };
    list = failed_list f spent;
    stays_true = failed_true f spent;
    stable = λ R h. omega (arith, f.refused.stable);
    survives = λ since needed R t h. survives_run meaning since needed R old t unspent h new rest.shape rest.first (omega (arith, f.refused.stable)) (f.any_moment old.shape t.list.groups (t.list.ready unspent));
  }

  pub flush_failed_as : (f : StoreFault) → f ≡ DeviceFault → Flushed meaning old.disk new.disk old.log new.log (Err f) → new.fault ≡ lasting_fault f → HasLooked {D = D} {T = Unit {0}} meaning old new (Err f)
  flush_failed_as f device flushed kept =
      subst (λ (x : StoreFault). HasLooked {D = D} {T = Unit {0}} meaning old new (Err x)) (sym device)
      (flush_failed (subst (λ (x : StoreFault). Flushed meaning old.disk new.disk old.log new.log (Err x)) device flushed) (kept ∙ ap lasting_fault device))

-- the same of equal disks and logs
pub flushed_at : {D : Type 0} (meaning : Meaning D) (old d new : D) (before k after : Kept) (result : Result (Unit {0}) StoreFault) → old ≡ d → before ≡ k → Flushed meaning d new k after result → Flushed meaning old new before after result
flushed_at {D = D} meaning old d new before k after result same alike f =
    subst (λ (x : D). Flushed meaning x new before after result) (sym same) (subst (λ (y : Kept). Flushed meaning d new y after result) (sym alike) f)
