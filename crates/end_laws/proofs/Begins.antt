-- The entry that the transaction table uses next is the one that a Begin takes.
use Rattle.std.proofs.Common.{◌≡◌, ◌⊎◌, ℕ, suc, ◌<◌, ◌≤◌, Bool, true, false, cond, List, [], ◌∷◌, length, Option, Some, None, refl, sym, ◌∙◌, ap, subst, arith, inl, inr, true≢false}
use Rattle.seg_words.specs.Types.{Shape, TXN_ENTRIES}
use Rattle.redo_model.specs.Records.{Record, Begin}
use Rattle.redo_model.specs.Model.{txn_count, is_active, user_of, commit_number, control_number, last_undo, EntryState, state_of_user, entry_state, state_when_over, TakesEntry}
use Rattle.redo_model.specs.AllowedTransactions.{Unused, InUse, Committed, RolledBack, takes_unused, takes_rolled_back, takes_committed}
use Rattle.redo_model.specs.AllowedTransactions as model
use Rattle.txn_block.specs.declared.entry.TableEntry.{TableEntry}
use Rattle.txn_block.specs.declared.entry.TableEntry.TheVariants.{Used}
use Rattle.txn_block.specs.declared.entry.Outcome.TheVariants.{Active}
use Rattle.txn_block.specs.Entries.{is_unused, is_rolled_back, committed, number_of}
use Rattle.txn_block.specs.Types.{TxnTable, NoneBelow, TakesNext}
use Rattle.version_laws.specs.Types.{begin_of, HoldsTable, entry_used_by, outcome_when_over}
use Rattle.end_laws.specs.Beginning.{BeginsAreTold}
use Rattle.end_laws.proofs.Allowed.{called}

-- entries of the table as the model's states

abbrev state_in_model : TableEntry → EntryState → Type 0
state_in_model e s = (is_unused e ≡ model.is_unused s) × (is_rolled_back e ≡ model.is_rolled_back s)

abbrev entry_with : List Record → ℕ → Bool → TableEntry
entry_with R t v = Used (record { txn = t; outcome = cond v Active (outcome_when_over (commit_number R t)); last_undo = last_undo R t })

both : (R : List Record) (o : Option ℕ) → state_in_model (entry_used_by R o) (state_of_user R o)
both R None = (refl, refl)
both R (Some t) = elim (is_active R t) as (λ v. state_in_model (entry_with R t v) (cond v InUse (state_when_over (commit_number R t)))) [ true ↦ (refl, refl) | false ↦ over (commit_number R t) ]
  where
    over : (o : Option ℕ) → state_in_model (Used (record { txn = t; outcome = outcome_when_over o; last_undo = last_undo R t })) (state_when_over o)
    over None = (refl, refl)
    over (Some c) = (refl, refl)

-- an unused entry has no user; the number of a committed one is its user's
unused_is : (s : EntryState) → model.is_unused s ≡ true → s ≡ Unused
unused_is Unused h = refl
unused_is InUse h = absurd (true≢false (sym h))
unused_is (Committed c) h = absurd (true≢false (sym h))
unused_is RolledBack h = absurd (true≢false (sym h))

rolled_is : (s : EntryState) → model.is_rolled_back s ≡ true → s ≡ RolledBack
rolled_is RolledBack h = refl
rolled_is InUse h = absurd (true≢false (sym h))
rolled_is (Committed c) h = absurd (true≢false (sym h))
rolled_is Unused h = absurd (true≢false (sym h))

committed_to : (R : List Record) (o : Option ℕ) (c : ℕ) → committed (entry_used_by R o) ≡ Some c → state_of_user R o ≡ Committed c
committed_to R None c e = absurd (let z : ◌≡◌ {A = Option ℕ} None (Some c) = e in cc)
committed_to R (Some t) c e =
    (elim (is_active R t) as (λ v. number_of (cond v Active (outcome_when_over (commit_number R t))) ≡ Some c → cond v InUse (state_when_over (commit_number R t)) ≡ Committed c) [
      | true ↦ λ x. absurd (let z : ◌≡◌ {A = Option ℕ} None (Some c) = x in cc)
      | false ↦ λ x. over (commit_number R t) x
    ]) e
  where
    over : (o : Option ℕ) → number_of (outcome_when_over o) ≡ Some c → state_when_over o ≡ Committed c
    over None x = absurd (let z : ◌≡◌ {A = Option ℕ} None (Some c) = x in cc)
    over (Some d) x = let z : d ≡ c = (let y : ◌≡◌ {A = Option ℕ} (Some d) (Some c) = x in cc) in ap Committed z

committed_from : (R : List Record) (o : Option ℕ) (c : ℕ) → state_of_user R o ≡ Committed c → committed (entry_used_by R o) ≡ Some c
committed_from R None c e = absurd (let z : Unused ≡ Committed c = e in cc)
committed_from R (Some t) c e =
    (elim (is_active R t) as (λ v. cond v InUse (state_when_over (commit_number R t)) ≡ Committed c → number_of (cond v Active (outcome_when_over (commit_number R t))) ≡ Some c) [
      | true ↦ λ x. absurd (let z : InUse ≡ Committed c = x in cc)
      | false ↦ λ x. over (commit_number R t) x
    ]) e
  where
    over : (o : Option ℕ) → state_when_over o ≡ Committed c → number_of (outcome_when_over o) ≡ Some c
    over None x = absurd (let z : RolledBack ≡ Committed c = x in cc)
    over (Some d) x = let z : d ≡ c = (let y : Committed d ≡ Committed c = x in cc) in ap (λ (n : ℕ). Some n) z

none_unused : (R : List Record) (p : TxnTable) (n : ℕ) → HoldsTable R p → n ≤ TXN_ENTRIES → NoneBelow is_unused p.entries n → model.NoneBelow R n model.is_unused
none_unused R p n h l f = λ j m. sym (both R (user_of R j)).0 ∙ ap is_unused (sym (h.entries j (omega arith))) ∙ f j m

none_rolled : (R : List Record) (p : TxnTable) (n : ℕ) → HoldsTable R p → n ≤ TXN_ENTRIES → NoneBelow is_rolled_back p.entries n → model.NoneBelow R n model.is_rolled_back
none_rolled R p n h l f = λ j m. sym (both R (user_of R j)).1 ∙ ap is_rolled_back (sym (h.entries j (omega arith))) ∙ f j m

-- the entry that the table tells is the one that a Begin takes
pub takes_next : (R : List Record) (p : TxnTable) (i control : ℕ) → HoldsTable R p → TakesNext p.entries p.control (Some (i, control)) → TakesEntry R i control
takes_next R p i control h (inl u) =
    let w : i < TXN_ENTRIES = (let c = h.count in let x = u.within in omega (arith, c, x)) in
    takes_unused (record {
      within = w;
      unused = unused_is _ (sym (both R (user_of R i)).0 ∙ ap is_unused (sym (h.entries i w)) ∙ u.unused);
      least = none_unused R p i h (omega (arith, w)) u.least;
      control_stays = u.control_stays ∙ h.control;
    })
takes_next R p i control h (inr (inl u)) =
    let w : i < TXN_ENTRIES = (let c = h.count in let x = u.within in omega (arith, c, x)) in
    takes_rolled_back (record {
      within = w;
      no_unused = none_unused R p TXN_ENTRIES h (omega arith) (subst (λ n. NoneBelow is_unused p.entries n) h.count u.no_unused);
      rolled_back = rolled_is _ (sym (both R (user_of R i)).1 ∙ ap is_rolled_back (sym (h.entries i w)) ∙ u.rolled_back);
      least = none_rolled R p i h (omega (arith, w)) u.least;
      control_stays = u.control_stays ∙ h.control;
    })
takes_next R p i control h (inr (inr u)) =
    let w : i < TXN_ENTRIES = (let c = h.count in let x = u.within in omega (arith, c, x)) in
    takes_committed (record {
      within = w;
      no_unused = none_unused R p TXN_ENTRIES h (omega arith) (subst (λ n. NoneBelow is_unused p.entries n) h.count u.no_unused);
      no_rolled_back = none_rolled R p TXN_ENTRIES h (omega arith) (subst (λ n. NoneBelow is_rolled_back p.entries n) h.count u.no_rolled_back);
      committed = committed_to R (user_of R i) control (ap committed (sym (h.entries i w)) ∙ u.number);
      least = λ j c m e. u.least j c (subst (λ n. j < n) (sym h.count) m) (ap committed (h.entries j m) ∙ committed_from R (user_of R j) c e);
    })

pub begins_are_told : BeginsAreTold
begins_are_told sh R p who i control l h m x = record {
  allowed = (
    l.allowed,
    record {
      called_for = called R _ l.whole;
      kind = record { number = refl; session_from = m.least; session_to = m.most; none_open = m.none_open; entry = takes_next R p i control h x };
    },
  );
  whole = refl;
}
