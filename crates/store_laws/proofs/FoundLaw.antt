-- Where the transaction table has the entry of an active transaction.
use Rattle.std.proofs.Common.{◌≡◌, ◌⊎◌, ℕ, zero, suc, ◌<◌, ◌≤◌, Bool, true, false, cond, List, length, get_or, Option, Some, None, refl, sym, ◌∙◌, ap, subst, inl, inr, arith}
use Rattle.std.specs.Prelude.{position, nat_lt}
use Rattle.std.proofs.lemmas.Bool.{true≢false, cases_Bool, eqb-true, eq-eqb, cond-true, lt-ltb}
use Rattle.std.proofs.lemmas.List.Sums.{position_or_len_is}
use Rattle.txn_block.specs.declared.entry.TableEntry.{TableEntry}
use Rattle.txn_block.specs.declared.entry.TableEntry.TheVariants.{Unused}
use Rattle.txn_block.specs.Entries.{names}
use Rattle.redo_record.specs.declared.record.Record.{Record}
use Rattle.redo_model.specs.Ordinals.{txn_count}
use Rattle.redo_model.specs.Transactions.{is_active, entry_of, user_of}
use Rattle.redo_laws.proofs.numbers.TxnTable.{TxnTable as Known, txn_table}
use Rattle.page_model.specs.Types.{entry_used_by}
use Rattle.page_fit.proofs.TableLaw.{no_user, tables_say}
use Rattle.store_laws.specs.Kinds.{ActiveHaveTable, EntriesAreFound}
use Rattle.store_laws.proofs.KindsLaw.{tables_stand}

same_number : (a b : ℕ) → ◌≡◌ {A = Option ℕ} (Some a) (Some b) → a ≡ b
same_number a b e = cc

-- some transaction has begun where one is active
begun : (R : List Record) (u : ℕ) → Known R → is_active R u ≡ true → (n : ℕ) → txn_count R ≡ n → 1 ≤ n
begun R u k on zero e =
    let w = k.entered u (k.begun u on) in
    absurd (let z : ◌≡◌ {A = Option ℕ} None (Some u) = sym (no_user R w.0 e) ∙ k.user u w.0 w.1 (k.kept u on) in cc)
begun R u k on (suc n) e = omega arith

pub active_have_table : ActiveHaveTable
active_have_table sh R u s h on = tables_stand sh R s h (begun R u (txn_table sh R h) on (txn_count R) refl)

named_user : (R : List Record) (u : ℕ) (o : Option ℕ) → names u (entry_used_by R o) ≡ true → o ≡ Some u
named_user R u None y = absurd (true≢false (sym y))
named_user R u (Some v) y = ap (λ (x : ℕ). Some x) (eqb-true v u y)

place_is : (p : TableEntry → Bool) (es : List TableEntry) (i : ℕ) → i < length es → p (get_or es i Unused) ≡ true → ((j : ℕ) → j < i → p (get_or es j Unused) ≡ false) → position p es ≡ Some i
place_is p es i lt y below =
    let e = position_or_len_is p es i Unused (omega (arith, lt)) below (λ z. y) in
    ap (λ (n : ℕ). cond (nat_lt n (length es)) (Some n) None) e ∙ cond-true _ _ _ (lt-ltb i (length es) lt)

pub entries_are_found : EntriesAreFound
entries_are_found sh R u i t s h page on e =
    let says = (tables_say sh R t s h page).says in
    let k = txn_table sh R h in
    let n = says.count in
    let w = k.entered u (k.begun u on) in
    let few : i < 96 = subst (λ m. m < 96) (same_number w.0 i (sym w.1 ∙ e)) w.2 in
    let here : names u (get_or t.entries i Unused) ≡ true = ap (names u) (says.entries i few ∙ ap (entry_used_by R) (k.user u i e (k.kept u on))) ∙ eq-eqb u u refl in
    place_is (names u) t.entries i (omega (arith, n, few)) here (λ j lt. elim (cases_Bool (names u (get_or t.entries j Unused))) [
      | inl y ↦
          let less : j < 96 = omega (arith, lt, few) in
          let user : user_of R j ≡ Some u = named_user R u (user_of R j) (ap (names u) (sym (says.entries j less)) ∙ y) in
          let same : j ≡ i = same_number j i (sym (k.last u j user).0 ∙ e) in
          absurd (omega (arith, same, lt))
      | inr f ↦ f
    ])
