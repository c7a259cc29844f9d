-- The entry of a transaction that commits, as the page of the transaction table tells it.
use Rattle.std.proofs.Common.{◌≡◌, ℕ, suc, ◌+◌, ◌-◌, ◌^◌, ◌<◌, ◌≤◌, min, Bool, true, List, [], ◌∷◌, length, get_or, refl, sym, ap, subst, ◌∙◌, ⊎_elim, position, arith}
use Rattle.std.specs.Prelude.{Option, Some, None, Result, Ok, Err}
use Rattle.std.specs.List.{position_or_len}
use Rattle.std.proofs.lemmas.Bool.{cases_lt, true≢false}
use Rattle.std.proofs.lemmas.Grind.{common_steps}
use Rattle.std.proofs.lemmas.List.Quantifiers.{position-Some}
use Rattle.std.proofs.lemmas.List.Sums.{fails_before_first}
use Rattle.seg_words.specs.Types.{Shape, Rose, is_shape}
use Rattle.log_frame.proofs.Laws.{limits}
use Rattle.disk_model.specs.Crash.{Meaning}
use Rattle.log_frame.specs.Ready.{IsReady}
use Rattle.redo_model.specs.Records.{Record, Commit, CommitRecord}
use Rattle.redo_model.specs.Model.{is_active, entry_of, user_of, AreAllowed, IsLawful}
use Rattle.redo_log.specs.Kept.{Kept, HasList as HasLogList}
use Rattle.sort_laws.proofs.MeetsLaw.{table_counts}
use Rattle.page_set.specs.declared.page.Page.{Page}
use Rattle.page_set.specs.declared.page.Page.TheVariants.{Txns}
use Rattle.page_set.specs.Changes.{Fits}
use Rattle.page_map.specs.Pages.{HasPages, page_at}
use Rattle.store_laws.proofs.KindsLaw.{tables_stand}
use Rattle.store_core.specs.Store.{Held, HasList, IsTrue, SameLoan}
use Rattle.store_core.specs.Survives.{Survives}
use Rattle.store_core.specs.declared.fault.StoreFault.{StoreFault}
use Rattle.store_core.proofs.Counting.{within}
use Rattle.store_core.specs.Causes.{HasCause, HasLooked, lasting_fault}
use Rattle.store_core.proofs.Looking.{Flushed}
use Rattle.store_core.proofs.Lookups.{none_some}
use Rattle.store_core.proofs.Surviving.{stable_below}
use Rattle.store_core.specs.Putting.{SameDisk, Taken}
use Rattle.store_core.proofs.Taking.{count_is, added_true, added_survives, one_fits}
use Rattle.txn_block.specs.declared.entry.TableEntry.{TableEntry}
use Rattle.txn_block.specs.declared.entry.TableEntry.TheVariants.{Unused}
use Rattle.txn_block.specs.Entries.{names}
use Rattle.txn_block.specs.Tables.{TxnTable}
use Rattle.version_laws.specs.Pages.{HoldsTable, entry_used_by}
use Rattle.page_laws.proofs.TxnsLaw.{txns_are_in_table}

-- some place passes, so one is found
found_one : (p : TableEntry → Bool) (xs : List TableEntry) (i : ℕ) → i < length xs → p (get_or xs i Unused) ≡ true → position p xs ≡ Some (position_or_len p xs)
found_one p xs i lt passes = ⊎_elim
    (λ (below : position_or_len p xs < length xs). grind (arith, common_steps))
    (λ (past : length xs ≤ position_or_len p xs). absurd (true≢false (sym passes ∙ fails_before_first p xs i Unused (omega (arith, lt, past)))))
    (cases_lt (position_or_len p xs) (length xs))

-- whom an entry names
named_user : (R : List Record) (t : ℕ) (o : Option ℕ) → names t (entry_used_by R o) ≡ true → o ≡ Some t
named_user R t None h = absurd (true≢false (sym h))
named_user R t (Some u) h = ap Some (grind (arith, common_steps))

user_named : (R : List Record) (t : ℕ) → names t (entry_used_by R (Some t)) ≡ true
user_named R t = grind (arith, common_steps)

some_same : {A : Type 0} (a b : A) → Some a ≡ Some b → a ≡ b
some_same a b e = cc e

-- the entry that names an active transaction is its entry
pub entry_is_found : (sh : Shape) (R : List Record) (t i : ℕ) (table : TxnTable) → is_shape sh ≡ true → AreAllowed sh R → HoldsTable R table → is_active R t ≡ true → entry_of R t ≡ Some i → position (names t) table.entries ≡ Some i
entry_is_found sh R t i table shape h holds active entry =
    let law = txns_are_in_table sh R (limits sh shape).undo.0 h in
    let own = law.active t active in
    let k = own.entry.0 in
    let used : user_of R k ≡ Some t = own.entry.2 in
    let few : k < length table.entries = omega (arith, own.entry.3, holds.count) in
    let here : names t (get_or table.entries k Unused) ≡ true = ap (names t) (holds.entries k own.entry.3 ∙ ap (entry_used_by R) used) ∙ user_named R t in
    let found = found_one (names t) table.entries k few here in
    let j = position_or_len (names t) table.entries in
    let at = position-Some (names t) table.entries j Unused found in
    let small : j < 96 = omega (arith, at.0, holds.count) in
    let user : user_of R j ≡ Some t = named_user R t (user_of R j) (sym (ap (names t) (holds.entries j small)) ∙ at.1) in
    let same : j ≡ i = some_same j i (sym ((law.entries j t).used user).0 ∙ entry) in
    found ∙ ap Some same

-- ---- a Commit, and then the flush

same_commit : (c : CommitRecord) (txn number entry : ℕ) → c.txn ≡ txn → c.number ≡ number → c.entry ≡ entry → c ≡ record { txn = txn; number = number; entry = entry }
same_commit c txn number entry a b d =
    ap (λ (x : ℕ). record { txn = x; number = c.number; entry = c.entry }) a
    ∙ ap (λ (x : ℕ). record { txn = txn; number = x; entry = c.entry }) b
    ∙ ap (λ (x : ℕ). record { txn = txn; number = number; entry = x }) d

-- the store between the two
abbrev pub between : {D : Type 0} → Held D → Kept → List Page → ℕ → Held D
between s log pages number = record { disk = s.disk; loan = s.loan; first = s.first; shape = s.shape; log = log; pages = pages; commits = number; fault = None }

-- what a Commit left of log and pages
pub record Added (k l : Kept) (ps qs : List Page) (c : CommitRecord) : Type 0 where
  pub list : (groups : List (List ℕ)) (R : List Record) → HasLogList groups [] R k → HasLogList groups [] (Commit c ∷ R) l
  pub pages : (sh : Shape) (R : List Record) → k.count ≡ length R → suc (length R) < 2 ^ 64 → HasPages sh R ps → HasPages sh (Commit c ∷ R) qs
  pub end : l.end ≡ k.end
  pub stable : l.stable ≡ k.stable

pub added_at : (k other l : Kept) (ps os qs : List Page) (c : CommitRecord) → k ≡ other → ps ≡ os → Added other l os qs c → Added k l ps qs c
added_at k other l ps os qs c a b h = subst (λ (x : Kept). Added x l ps qs c) (sym a) (subst (λ (x : List Page). Added other l x qs c) (sym b) h)

module _ {D : Type 0} (meaning : Meaning D) (old : Held D) (l : Kept) (qs : List Page) (c : CommitRecord) (unspent : old.fault ≡ None) (a : Added old.log l old.pages qs c) where
  same_mid : SameDisk old (between old l qs c.number)
  same_mid = record { disk = refl; loan = refl; first = refl; shape = refl }

  module _ (R : List Record) (h : IsTrue meaning R old) (lawful : IsLawful old.shape (Commit c ∷ R)) (small : suc (length R) < 2 ^ 64) where
    taken : Taken old.shape old.log l old.pages qs old.commits c.number (Commit c ∷ []) l.count
    taken = record {
      list = λ groups Q list spelled. a.list groups Q list;
      pages = λ Q is pages. a.pages old.shape Q is (omega (arith, is, count_is R old.log h.list.list.has h.list.few, small)) pages;
      commits = λ Q is few. lawful.allowed.1.kind.number ∙ ap suc (sym h.list.commits ∙ is);
      few = omega (arith, count_is R old.log h.list.list.has h.list.few, small);
      number = refl;
      end = a.end;
      stable = a.stable;
    }

    pub mid_true : IsTrue meaning (Commit c ∷ R) (between old l qs c.number)
    mid_true = added_true meaning old (between old l qs c.number) same_mid unspent refl (Commit c ∷ []) l.count taken R h lawful

    pub mid_survives : (since : ℕ) (needed : ℕ → ℕ) → Survives meaning since needed R old → Survives meaning since needed (Commit c ∷ R) (between old l qs c.number)
    mid_survives since needed s = added_survives meaning old (between old l qs c.number) same_mid unspent refl (Commit c ∷ []) l.count taken since needed R s

  pub mid_count : (R : List Record) → HasList meaning R old → suc (length R) < 2 ^ 64 → l.count ≡ suc (length R)
  mid_count R h small = count_is (Commit c ∷ R) l (a.list h.groups R h.list).has small

  pub mid_stable : (R : List Record) → HasList meaning R old → old.log.stable ≤ l.count
  mid_stable R h = omega (arith, a.stable, stable_below (Commit c ∷ R) l (a.list h.groups R h.list).has)

  pub mid_ready : (R : List Record) (h : HasList meaning R old) → IsReady meaning old.disk old.shape h.groups l.end
  mid_ready R h = subst (λ (e : ℕ). IsReady meaning old.disk old.shape h.groups e) (sym a.end) (h.ready unspent)

-- the store as a flush then leaves it
pub commit_loan : {D : Type 0} (meaning : Meaning D) (old new : Held D) (l k : Kept) (qs : List Page) (c : CommitRecord) (result : Result (Unit {0}) StoreFault) → old.fault ≡ None → Added old.log l old.pages qs c → Flushed meaning old.disk new.disk l k result
    → new.loan ≡ old.loan → new.first ≡ old.first → new.shape ≡ old.shape → SameLoan meaning old new
commit_loan meaning old new l k qs c result unspent a f loan first shape = record {
  loan = loan;
  first = first;
  shape = shape;
  told = f.told;
  time = λ R h. (f.any_moment old.shape h.groups (mid_ready meaning old l qs c unspent a R h)).later;
  faults = f.cause.later;
  reads = f.reads;
}

-- a Commit that may stand there fits
pub record CommitFits (log : Kept) (ps : List Page) (c : CommitRecord) : Type 0 where
  pub there : 1 < length ps
  pub small : suc log.count < 2 ^ 64
  pub fits : Fits (Commit c) (suc log.count) (page_at ps 1)

pub commit_fits : {D : Type 0} (meaning : Meaning D) (R : List Record) (c : CommitRecord) (s : Held D) (log : Kept) (ps : List Page) → s.log ≡ log → s.pages ≡ ps → IsTrue meaning R s → IsLawful s.shape (Commit c ∷ R) → suc (length R) < 2 ^ 64 → CommitFits log ps c
commit_fits meaning R c s log ps same pages h lawful small =
    let fit = one_fits meaning R (Commit c) s s.shape log ps refl same pages h lawful in
    record { there = fit.0; small = omega (arith, ap (λ (k : Kept). k.count) same, count_is R s.log h.list.list.has h.list.few, small); fits = fit.1 }

-- the entry that the page tells
pub told_entry : {D : Type 0} (meaning : Meaning D) (R : List Record) (c : CommitRecord) (txn : ℕ) (s : Held D) (ps : List Page) (result : Option ℕ) → s.pages ≡ ps → c.txn ≡ txn → IsTrue meaning R s → IsLawful s.shape (Commit c ∷ R)
    → ((table : TxnTable) → 1 < length ps → page_at ps 1 ≡ Txns table → result ≡ position (names txn) table.entries) → result ≡ Some c.entry
told_entry meaning R c txn s ps result pages by h lawful tells =
    let allowed = lawful.allowed.1.kind in
    let begun = table_counts s.shape R (Commit c) lawful.allowed allowed refl in
    let stands = tables_stand s.shape R h.list.within h.lawful.allowed begun in
    let blocks = (limits s.shape h.list.within).blocks.0 in
    let many : 1 < length s.pages = omega (arith, h.list.pages.count, blocks) in
    let page : page_at s.pages 1 ≡ Txns stands.table = h.list.pages.each 1 (omega (arith, blocks)) ∙ stands.page in
    tells stands.table (subst (λ (x : List Page). 1 < length x) pages many) (ap (λ (x : List Page). page_at x 1) (sym pages) ∙ page)
    ∙ ap (λ (t : ℕ). position (names t) stands.table.entries) (sym by)
    ∙ entry_is_found s.shape R c.txn c.entry stands.table h.list.within h.lawful.allowed stands.holds allowed.active allowed.entry

-- and so the Commit that is made is this one
pub told_commit : {D : Type 0} (meaning : Meaning D) (R : List Record) (c : CommitRecord) (s : Held D) (commits txn number entry : ℕ) → s.commits ≡ commits → IsTrue meaning R s → IsLawful s.shape (Commit c ∷ R) → suc (length R) < 2 ^ 64
    → c.txn ≡ txn → Some entry ≡ Some c.entry → number ≡ min (commits + 1) (2 ^ 64 - 1) → c ≡ record { txn = txn; number = number; entry = entry }
told_commit meaning R c s commits txn number entry same h lawful small by told is =
    let n : c.number ≡ number = omega (arith, lawful.allowed.1.kind.number, sym same, h.list.commits, within R, small, is) in
    same_commit c txn number entry by n (some_same c.entry entry (sym told))

-- ---- what the answers say

pub commit_true : {D : Type 0} (meaning : Meaning D) (old new : Held D) (l : Kept) (qs : List Page) (c : CommitRecord) (result : Result (Unit {0}) StoreFault) → old.fault ≡ None → Added old.log l old.pages qs c → HasLooked meaning (between old l qs c.number) new result
    → (R : List Record) → IsTrue meaning R old → IsLawful old.shape (Commit c ∷ R) → suc (length R) < 2 ^ 64 → IsTrue meaning (Commit c ∷ R) new
commit_true meaning old new l qs c result unspent a looked R h lawful small = looked.stays_true (Commit c ∷ R) (mid_true meaning old l qs c unspent a R h lawful small)

pub commit_survives : {D : Type 0} (meaning : Meaning D) (old new : Held D) (l : Kept) (qs : List Page) (c : CommitRecord) (result : Result (Unit {0}) StoreFault) → old.fault ≡ None → Added old.log l old.pages qs c → HasLooked meaning (between old l qs c.number) new result
    → (since : ℕ) (needed : ℕ → ℕ) (R : List Record) → IsTrue meaning R old → IsLawful old.shape (Commit c ∷ R) → suc (length R) < 2 ^ 64 → Survives meaning since needed R old → Survives meaning since needed (Commit c ∷ R) new
commit_survives meaning old new l qs c result unspent a looked since needed R h lawful small s =
    looked.survives since needed (Commit c ∷ R) (mid_true meaning old l qs c unspent a R h lawful small) (mid_survives meaning old l qs c unspent a R h lawful small since needed s)

pub done_cause : {D T : Type 0} (meaning : Meaning D) (old new : Held D) (answer : T) → old.fault ≡ None → new.fault ≡ None → HasCause {D = D} {T = T} meaning old new (Ok answer)
done_cause meaning old new answer unspent going = record {
  device = λ _ e. absurd (cc e);
  kept = λ _. going;
  goes_on = unspent;
  answers = λ fault some. absurd (none_some fault old.fault unspent some);
  stays = λ fault some. absurd (none_some fault old.fault unspent some);
}

pub failed_cause : {D T : Type 0} (meaning : Meaning D) (old new : Held D) (f : StoreFault) → old.fault ≡ None → new.fault ≡ lasting_fault f → Rose (meaning.fault_count old.disk) (meaning.fault_count new.disk) → HasCause {D = D} {T = T} meaning old new (Err f)
failed_cause meaning old new f unspent kept rose = record {
  device = λ _ _. rose;
  kept = λ _. kept;
  goes_on = tt;
  answers = λ fault some. absurd (none_some fault old.fault unspent some);
  stays = λ fault some. absurd (none_some fault old.fault unspent some);
}
