-- The entry of a transaction that commits, as the page of the transaction table tells it, and its Commit.
use Rattle.std.proofs.Common.{◌≡◌, ℕ, suc, ◌+◌, ◌-◌, ◌^◌, ◌<◌, ◌≤◌, min, List, [], ◌∷◌, length, refl, sym, ap, subst, ◌∙◌, position, arith}
use Rattle.std.specs.Prelude.{Option, Some, None, Result, Ok, Err}
use Rattle.seg_words.specs.Types.{Shape, Rose}
use Rattle.disk_model.specs.Types.{Meaning}
use Rattle.disk_model.proofs.Going.{untouched_start}
use Rattle.log_frame.specs.Ready.{IsReady}
use Rattle.redo_model.specs.Records.{Record, Commit, CommitRecord}
use Rattle.redo_model.specs.Model.{IsLawful}
use Rattle.redo_model.specs.Lists.{prefix, more}
use Rattle.redo_laws.proofs.lists.Prefixes.{prefix_more}
use Rattle.redo_log.specs.Kept.{Kept, HasList as HasLogList}
use Rattle.page_set.specs.declared.page.Page.TheVariants.{Txns}
use Rattle.page_set.specs.Changes.{Fits}
use Rattle.page_set.specs.Folded.{page_of}
use Rattle.page_store.specs.Types.{IsStore}
use Rattle.buffer_pool.specs.Frames.{Pool}
use Rattle.pool_laws.specs.Folds.{AreFolded}
use Rattle.store_pages.specs.Pages.{HasPages, ShowsAfter}
use Rattle.pool_fit.proofs.FitsLaw.{commits_fit}
use Rattle.store_laws.proofs.FoundLaw.{active_have_table, entries_are_found}
use Rattle.txn_block.specs.Entries.{names}
use Rattle.txn_block.specs.Tables.{TxnTable}
use Rattle.pool_store.specs.Store.{Held, HasList, IsTrue, SameLoan}
use Rattle.pool_store.specs.Survives.{Survives}
use Rattle.pool_store.specs.Causes.{HasCause, HasLooked, lasting_fault}
use Rattle.pool_store.specs.declared.fault.StoreFault.{StoreFault}
use Rattle.pool_store.proofs.Counting.{within}
use Rattle.pool_store.proofs.Looking.{Flushed, all_count}
use Rattle.pool_store.proofs.Lookups.{none_some}
use Rattle.pool_store.proofs.Surviving.{stable_below, stable_within, survives_more}

some_same : {A : Type 0} (a b : A) → Some a ≡ Some b → a ≡ b
some_same a b e = cc e

pub same_table : (a b : TxnTable) → Txns a ≡ Txns b → a ≡ b
same_table a b e = cc e

same_commit : (c : CommitRecord) (txn number entry : ℕ) → c.txn ≡ txn → c.number ≡ number → c.entry ≡ entry → c ≡ record { txn = txn; number = number; entry = entry }
same_commit c txn number entry a b d =
    ap (λ (x : ℕ). record { txn = x; number = c.number; entry = c.entry }) a
    ∙ ap (λ (x : ℕ). record { txn = txn; number = x; entry = c.entry }) b
    ∙ ap (λ (x : ℕ). record { txn = txn; number = number; entry = x }) d

-- the store between a Commit and the flush
abbrev pub between : {D : Type 0} → Held D → Kept → Pool → ℕ → Held D
between s log pages number = record { disk = s.disk; loan = s.loan; first = s.first; shape = s.shape; log = log; pages = pages; commits = number; fault = None }

-- what a Commit left of log and pages
pub record Added (k l : Kept) (p q : Pool) (c : CommitRecord) : Type 0 where
  pub list : (groups : List (List ℕ)) (R : List Record) → HasLogList groups [] R k → HasLogList groups [] (Commit c ∷ R) l
  pub pages : (file : ℕ → List ℕ) (R : List Record) → k.count ≡ length R → suc (length R) < 2 ^ 64 → ShowsAfter file R p → ShowsAfter file (Commit c ∷ R) q
  pub shape : q.shape ≡ p.shape
  pub end : l.end ≡ k.end
  pub stable : l.stable ≡ k.stable

pub added_at : (k other l : Kept) (p o q : Pool) (c : CommitRecord) → k ≡ other → p ≡ o → Added other l o q c → Added k l p q c
added_at k other l p o q c a b h = subst (λ (x : Kept). Added x l p q c) (sym a) (subst (λ (x : Pool). Added other l x q c) (sym b) h)

-- pages with a record more, over the same data file
pages_with : {D : Type 0} (meaning : Meaning D) (disk : D) (R : List Record) (r : Record) (n k : ℕ) (p q : Pool) → n ≤ length R → k ≡ n → q.shape ≡ p.shape → ((file : ℕ → List ℕ) → ShowsAfter file R p → ShowsAfter file (r ∷ R) q)
    → HasPages meaning disk (prefix R n) 0 R p → HasPages meaning disk (prefix (r ∷ R) k) 0 (r ∷ R) q
pages_with meaning disk R r n k p q le same shape shows h =
    let first : prefix (r ∷ R) k ≡ prefix R n = ap (prefix (r ∷ R)) same ∙ prefix_more R r n le in
    subst (λ (log : List Record). HasPages meaning disk log 0 (r ∷ R) q) (sym first) (record {
      part = more r h.part;
      marked = omega arith;
      over = record {
        file = h.over.file;
        base = subst (λ (sh : Shape). IsStore meaning disk sh h.over.file) (sym shape) h.over.base;
        folded = subst (λ (sh : Shape). AreFolded sh (prefix R n) 0 h.over.file) (sym shape) h.over.folded;
        shown = shows h.over.file h.over.shown;
      };
    })

module _ {D : Type 0} (meaning : Meaning D) (old : Held D) (l : Kept) (q : Pool) (c : CommitRecord) (unspent : old.fault ≡ None) (a : Added old.log l old.pages q c) where
  module _ (R : List Record) (h : IsTrue meaning R old) (lawful : IsLawful old.shape (Commit c ∷ R)) (small : suc (length R) < 2 ^ 64) where
    mid_list : HasList meaning (Commit c ∷ R) (between old l q c.number)
    mid_list = record {
      within = h.list.within;
      few = small;
      groups = h.list.groups;
      list = a.list h.list.groups R h.list.list;
      commits = lawful.allowed.1.kind.number;
      ready = λ _. subst (λ (e : ℕ). IsReady meaning old.disk old.shape h.list.groups e) (sym a.end) (h.list.ready unspent);
    }

    pub mid_true : IsTrue meaning (Commit c ∷ R) (between old l q c.number)
    unfolding mid_list
    mid_true = record {
      list = mid_list;
      lawful = lawful;
      stable = h.stable;
      same = a.shape ∙ h.same;
      pages = λ _. pages_with meaning old.disk R (Commit c) old.log.stable l.stable old.pages q (stable_within R old.log h.list.list.has) a.stable a.shape
          (λ file. a.pages file R (all_count R old.log h.list.list.has h.list.few) small) (h.pages unspent);
    }

    pub mid_survives : (since : ℕ) (needed : ℕ → ℕ) → Survives meaning since needed R old → Survives meaning since needed (Commit c ∷ R) (between old l q c.number)
    mid_survives since needed s = survives_more meaning since needed R old h unspent s (Commit c ∷ []) (between old l q c.number) (untouched_start meaning old.disk) refl refl (omega (arith, a.stable))

  pub mid_count : (R : List Record) → HasList meaning R old → suc (length R) < 2 ^ 64 → l.count ≡ suc (length R)
  mid_count R h small = all_count (Commit c ∷ R) l (a.list h.groups R h.list).has small

  pub mid_stable : (R : List Record) → HasList meaning R old → old.log.stable ≤ l.count
  mid_stable R h = omega (arith, a.stable, stable_below (Commit c ∷ R) l (a.list h.groups R h.list).has)

  pub mid_ready : (R : List Record) (h : HasList meaning R old) → IsReady meaning old.disk old.shape h.groups l.end
  mid_ready R h = subst (λ (e : ℕ). IsReady meaning old.disk old.shape h.groups e) (sym a.end) (h.ready unspent)

-- the store as a flush then leaves it
pub commit_loan : {D : Type 0} (meaning : Meaning D) (old new : Held D) (l k : Kept) (q : Pool) (c : CommitRecord) (result : Result (Unit {0}) StoreFault) → old.fault ≡ None → Added old.log l old.pages q c → Flushed meaning old.disk new.disk l k result
    → new.loan ≡ old.loan → new.first ≡ old.first → new.shape ≡ old.shape → SameLoan meaning old new
commit_loan meaning old new l k q c result unspent a f loan first shape = record {
  loan = loan;
  first = first;
  shape = shape;
  told = f.told;
  time = λ R h. (f.any_moment old.shape h.groups (mid_ready meaning old l q c unspent a R h)).later;
  faults = f.cause.later;
  reads = λ _. f.reads;
}

-- a Commit that may stand there fits
pub record CommitFits (log : Kept) (p : Pool) (R : List Record) (c : CommitRecord) : Type 0 where
  pub file : ℕ → List ℕ
  pub small : suc log.count < 2 ^ 64
  pub shows : ShowsAfter file R p
  pub fits : Fits (Commit c) (suc log.count) (page_of p.shape R 1)

pub commit_fits : {D : Type 0} (meaning : Meaning D) (R : List Record) (c : CommitRecord) (s : Held D) (log : Kept) (p : Pool) → s.log ≡ log → s.pages ≡ p → s.fault ≡ None → IsTrue meaning R s → IsLawful s.shape (Commit c ∷ R) → suc (length R) < 2 ^ 64 → CommitFits log p R c
commit_fits meaning R c s log p same alike unspent h lawful small =
    let over = (h.pages unspent).over in
    let n : length R ≡ log.count = sym (all_count R s.log h.list.list.has h.list.few) ∙ ap (λ (k : Kept). k.count) same in
    let shape : s.shape ≡ p.shape = sym h.same ∙ ap (λ (x : Pool). x.shape) alike in
    record {
      file = over.file;
      small = omega (arith, n, small);
      shows = subst (λ (x : Pool). ShowsAfter over.file R x) alike over.shown;
      fits = subst (λ (sh : Shape). Fits (Commit c) (suc log.count) (page_of sh R 1)) shape (subst (λ (m : ℕ). Fits (Commit c) (suc m) (page_of s.shape R 1)) n (commits_fit s.shape R c h.list.within lawful.allowed));
    }

-- the entry that the page tells
pub told_entry : {D : Type 0} (meaning : Meaning D) (R : List Record) (c : CommitRecord) (txn : ℕ) (s : Held D) (p : Pool) (result : Option ℕ) → s.pages ≡ p → s.fault ≡ None → c.txn ≡ txn → IsTrue meaning R s → IsLawful s.shape (Commit c ∷ R)
    → ((file : ℕ → List ℕ) (Q : List Record) (table : TxnTable) → ShowsAfter file Q p → page_of p.shape Q 1 ≡ Txns table → result ≡ position (names txn) table.entries) → result ≡ Some c.entry
told_entry meaning R c txn s p result alike unspent by h lawful tells =
    let allowed = lawful.allowed.1.kind in
    let stands = active_have_table s.shape R c.txn h.list.within h.lawful.allowed allowed.active in
    let over = (h.pages unspent).over in
    let shape : p.shape ≡ s.shape = sym (ap (λ (x : Pool). x.shape) alike) ∙ h.same in
    tells over.file R stands.table (subst (λ (x : Pool). ShowsAfter over.file R x) alike over.shown) (ap (λ (sh : Shape). page_of sh R 1) shape ∙ stands.page)
    ∙ ap (λ (t : ℕ). position (names t) stands.table.entries) (sym by)
    ∙ entries_are_found s.shape R c.txn c.entry stands.table h.list.within h.lawful.allowed stands.page allowed.active allowed.entry

-- and so the Commit that is made is this one
pub told_commit : {D : Type 0} (meaning : Meaning D) (R : List Record) (c : CommitRecord) (s : Held D) (commits txn number entry : ℕ) → s.commits ≡ commits → IsTrue meaning R s → IsLawful s.shape (Commit c ∷ R) → suc (length R) < 2 ^ 64
    → c.txn ≡ txn → Some entry ≡ Some c.entry → number ≡ min (commits + 1) (2 ^ 64 - 1) → c ≡ record { txn = txn; number = number; entry = entry }
told_commit meaning R c s commits txn number entry same h lawful small by told is =
    let n : c.number ≡ number = omega (arith, lawful.allowed.1.kind.number, sym same, h.list.commits, within R, small, is) in
    same_commit c txn number entry by n (some_same c.entry entry (sym told))

-- ---- what the answers say

pub commit_true : {D : Type 0} (meaning : Meaning D) (old new : Held D) (l : Kept) (q : Pool) (c : CommitRecord) (result : Result (Unit {0}) StoreFault) → old.fault ≡ None → Added old.log l old.pages q c → HasLooked meaning (between old l q c.number) new result
    → (R : List Record) → IsTrue meaning R old → IsLawful old.shape (Commit c ∷ R) → suc (length R) < 2 ^ 64 → IsTrue meaning (Commit c ∷ R) new
commit_true meaning old new l q c result unspent a looked R h lawful small = looked.stays_true (Commit c ∷ R) (mid_true meaning old l q c unspent a R h lawful small)

pub commit_survives : {D : Type 0} (meaning : Meaning D) (old new : Held D) (l : Kept) (q : Pool) (c : CommitRecord) (result : Result (Unit {0}) StoreFault) → old.fault ≡ None → Added old.log l old.pages q c → HasLooked meaning (between old l q c.number) new result
    → (since : ℕ) (needed : ℕ → ℕ) (R : List Record) → IsTrue meaning R old → IsLawful old.shape (Commit c ∷ R) → suc (length R) < 2 ^ 64 → Survives meaning since needed R old → Survives meaning since needed (Commit c ∷ R) new
commit_survives meaning old new l q c result unspent a looked since needed R h lawful small s =
    looked.survives since needed (Commit c ∷ R) (mid_true meaning old l q c unspent a R h lawful small) (mid_survives meaning old l q c unspent a R h lawful small since needed s)

pub done_cause : {D T : Type 0} (meaning : Meaning D) (old new : Held D) (answer : T) → old.fault ≡ None → new.fault ≡ None → HasCause {D = D} {T = T} meaning old new (Ok answer)
done_cause meaning old new answer unspent going = record {
  device = λ _ e. absurd (cc e);
  kept = λ _. going;
  goes_on = unspent;
  answers = λ fault some. absurd (none_some fault old.fault unspent some);
  stays = λ fault some. absurd (none_some fault old.fault unspent some);
}

pub failed_cause : {D T : Type 0} (meaning : Meaning D) (old new : Held D) (f : StoreFault) → old.fault ≡ None → new.fault ≡ lasting_fault f → Rose (meaning.fault_count old.disk) (meaning.fault_count new.disk) → HasCause {D = D} {T = T} meaning old new (Err f)
failed_cause meaning old new f unspent kept rose = record {
  device = λ _ _. rose;
  kept = λ _. kept;
  goes_on = tt;
  answers = λ fault some. absurd (none_some fault old.fault unspent some);
  stays = λ fault some. absurd (none_some fault old.fault unspent some);
}
