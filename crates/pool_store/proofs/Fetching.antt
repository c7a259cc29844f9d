-- A page that is brought into a frame.
use Rattle.std.proofs.Common.{◌≡◌, true, ℕ, List, refl, sym, ap, subst, ◌∙◌, arith}
use Rattle.std.specs.Prelude.{None, Result, Ok, Err, IsErrOf}
use Rattle.std.proofs.lemmas.Bool.{true≢false}
use Rattle.seg_words.specs.Types.{Shape}
use Rattle.disk_model.specs.Types.{Meaning, Causes}
use Rattle.redo_model.specs.Records.{Record}
use Rattle.redo_model.specs.Lists.{prefix}
use Rattle.redo_log.specs.Kept.{Kept, Stays}
use Rattle.page_store.specs.declared.fault.PageFault.{PageFault}
use Rattle.page_store.specs.declared.fault.PageFault.TheVariants as pages
use Rattle.page_set.specs.declared.page.Page.{Page}
use Rattle.page_set.specs.Folded.{page_of}
use Rattle.buffer_pool.specs.Frames.{Pool, has_page}
use Rattle.buffer_pool.specs.Looks.{Looks}
use Rattle.store_pages.specs.Pages.{HasPages, ShowsAfter}
use Rattle.store_pages.specs.Fitting.{WhyNotFetched}
use Rattle.pool_store.specs.Store.{Held, IsTrue}
use Rattle.pool_store.specs.Putting.{OnlyRead}
use Rattle.pool_store.specs.Causes.{HasLooked, IsSoundFault, lasting_fault, page_fault}
use Rattle.pool_store.specs.declared.fault.StoreFault.{StoreFault}
use Rattle.pool_store.specs.declared.fault.StoreFault.TheVariants.{DeviceFault}
use Rattle.pool_store.proofs.Looking.{looked_read}
use Rattle.pool_store.proofs.Batching.{SameButPages, only_device}

-- what it left of disk and pages
pub record Brought {D : Type 0} (meaning : Meaning D) (old new : D) (before after : Pool) (result : Result (Unit {0}) PageFault) : Type 0 where
  pub looks : Looks meaning old new before after
  pub stays : (log R : List Record) (m : ℕ) → HasPages meaning old log m R before → HasPages meaning new log m R after
  pub cause : Causes meaning old new (IsErrOf result pages.DeviceFault)

pub brought_at : {D : Type 0} (meaning : Meaning D) (old d new : D) (before p after : Pool) (result : Result (Unit {0}) PageFault) → old ≡ d → before ≡ p → Brought meaning d new p after result → Brought meaning old new before after result
brought_at {D} meaning old d new before p after result a b h =
    subst (λ (x : D). Brought meaning x new before after result) (sym a) (subst (λ (x : Pool). Brought meaning d new x after result) (sym b) h)

log_same : (old new : Kept) → new ≡ old → Stays old new
log_same old new same = subst (λ (k : Kept). Stays old k) (sym same) (record { end = refl; stable = refl; count = refl; bytes = refl; room = omega arith })

inside : (f g : StoreFault) → ◌≡◌ {A = Result (Unit {0}) StoreFault} (Err f) (Err g) → f ≡ g
inside f g is = cc is

module _ {D : Type 0} (meaning : Meaning D) (old new : Held D) (rest : SameButPages old new) (unspent : old.fault ≡ None) where
  read_brought : (result : Result (Unit {0}) PageFault) → Brought meaning old.disk new.disk old.pages new.pages result → OnlyRead meaning old new
  read_brought result b = record {
    disk = b.looks.untouched;
    faults = b.cause.later;
    reads = b.looks.reads;
    loan = rest.loan;
    first = rest.first;
    shape = rest.shape;
    same = b.looks.shape;
  }

  pub brought : Brought meaning old.disk new.disk old.pages new.pages (Ok tt) → new.fault ≡ None → HasLooked {D = D} {T = Unit {0}} meaning old new (Ok tt)
  brought b none = looked_read meaning old new (read_brought (Ok tt) b) (log_same old.log new.log rest.log) rest.commits unspent (Ok tt) b.stays none (λ (is : IsErrOf {T = Unit {0}} {E = StoreFault} (Ok tt) DeviceFault). absurd (cc is))

  pub not_brought : (e : PageFault) (f : StoreFault) → f ≡ page_fault e → Brought meaning old.disk new.disk old.pages new.pages (Err e) → new.fault ≡ lasting_fault f → HasLooked {D = D} {T = Unit {0}} meaning old new (Err f)
  not_brought e f is b kept =
      looked_read meaning old new (read_brought (Err e) b) (log_same old.log new.log rest.log) rest.commits unspent (Err f) b.stays kept
      (λ (device : IsErrOf {T = Unit {0}} {E = StoreFault} (Err f) DeviceFault). b.cause.rose (ap (λ (x : PageFault). Err x) (only_device e (sym is ∙ inside f DeviceFault device))))

-- a block that has a page is fetched, unless disk or memory fails
sound_fetch : (sh : Shape) (d : ℕ) (e : PageFault) → has_page sh d ≡ true → WhyNotFetched sh d e → IsSoundFault (page_fault e)
sound_fetch sh d pages.DeviceFault has why = tt
sound_fetch sh d (pages.BadPage b) has why = absurd (true≢false (sym has ∙ why.1))
sound_fetch sh d pages.NoMemory has why = tt

pub brought_soundly : {D : Type 0} (meaning : Meaning D) (R : List Record) (s : Held D) (d : D) (p : Pool) (b : ℕ) (e : PageFault) (f : StoreFault) → s.disk ≡ d → s.pages ≡ p → s.fault ≡ None → f ≡ page_fault e
    → ((log Q : List Record) (m : ℕ) → HasPages meaning d log m Q p → WhyNotFetched p.shape b e) → IsTrue meaning R s → has_page s.shape b ≡ true → IsSoundFault f
brought_soundly {D} meaning R s d p b e f disk same unspent is why t has =
    let here : has_page p.shape b ≡ true = subst (λ (sh : Shape). has_page sh b ≡ true) (sym t.same ∙ ap (λ (x : Pool). x.shape) same) has in
    let pages = subst (λ (x : D). HasPages meaning x (prefix R s.log.stable) 0 R p) disk (subst (λ (x : Pool). HasPages meaning s.disk (prefix R s.log.stable) 0 R x) same (t.pages unspent)) in
    subst IsSoundFault (sym is) (sound_fetch p.shape b e here (why (prefix R s.log.stable) R 0 pages))

-- the page that is lent is the fold of the records
pub lent : {D : Type 0} (meaning : Meaning D) (R : List Record) (s : Held D) (p : Pool) (b : ℕ) (page : Page) → s.pages ≡ p → s.fault ≡ None → ((file : ℕ → List ℕ) (Q : List Record) → ShowsAfter file Q p → page ≡ page_of p.shape Q b) → IsTrue meaning R s → page ≡ page_of s.shape R b
lent meaning R s p b page same unspent tells t =
    let over = (t.pages unspent).over in
    tells over.file R (subst (λ (x : Pool). ShowsAfter over.file R x) same over.shown) ∙ ap (λ (sh : Shape). page_of sh R b) (sym (ap (λ (x : Pool). x.shape) same) ∙ t.same)
