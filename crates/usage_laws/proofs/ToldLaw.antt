-- What pages tell of a settling.
use Rattle.std.proofs.Common.{◌≡◌, ℕ, suc, ◌<◌, Bool, true, false, cond, nat_le, List, [], ◌∷◌, length, get_or, find, Option, Some, None, refl, sym, ◌∙◌, ap, ap₂, arith, inl, inr, true≢false, eqb-true}
use Rattle.seg_words.proofs.Lemmas.{cond-true, cond-false, cases_Bool}
use Rattle.seg_words.specs.Types.{Shape, Block, class_of_block}
use mathlib.Core.Path.{fun_ext}
use Rattle.redo_model.specs.Records.{Record}
use Rattle.redo_model.specs.Model.{has_begun, is_active, ended_in, commit_number, user_of, is_forgotten, number_or_zero, stated_number, pctfree_of, AreAllowed}
use Rattle.redo_laws.proofs.lists.Bools.{off, clash}
use Rattle.redo_laws.proofs.numbers.TxnTable.{txn_table}
use Rattle.txn_block.specs.declared.entry.TableEntry.TheVariants.{Unused}
use Rattle.txn_block.specs.declared.entry.State.TheVariants.{Forgotten}
use Rattle.txn_block.specs.declared.entry.Outcome.TheVariants.{Active}
use Rattle.txn_block.specs.Types.{names, state_told, state_in, state_of_outcome, TxnTable, entry_at}
use Rattle.version_laws.specs.Types.{state_known, ended_by, HoldsTable, entry_used_by, outcome_of, outcome_when_over}
use Rattle.version_laws.proofs.TableLaw.{tables_tell}
use Rattle.usage_laws.specs.Named.{ended_named, names_known}
use Rattle.usage_laws.specs.Told.{number_in, stated_by, SettlingsAreTold}

-- of one that has begun

number_when_over : (o : Option ℕ) → number_in (state_of_outcome (outcome_when_over o)) ≡ number_or_zero o
number_when_over None = refl
number_when_over (Some c) = refl

-- an active transaction has no number
no_number : (sh : Shape) (R : List Record) (t : ℕ) → AreAllowed sh R → is_active R t ≡ true → commit_number R t ≡ None
no_number sh R t h on = go (commit_number R t) refl
  where
    go : (o : Option ℕ) → commit_number R t ≡ o → o ≡ None
    go None e = refl
    go (Some c) e = absurd (clash (is_active R t) on ((txn_table sh R h).done t c e).0)

number_of_outcome : (sh : Shape) (R : List Record) (t : ℕ) → AreAllowed sh R → number_in (state_of_outcome (outcome_of R t)) ≡ number_or_zero (commit_number R t)
number_of_outcome sh R t h = elim (cases_Bool (is_active R t)) [
  | inl on ↦ ap (λ x. number_in (state_of_outcome x)) (cond-true (is_active R t) Active (outcome_when_over (commit_number R t)) on) ∙ sym (ap number_or_zero (no_number sh R t h on))
  | inr n ↦ ap (λ x. number_in (state_of_outcome x)) (cond-false (is_active R t) Active (outcome_when_over (commit_number R t)) n) ∙ number_when_over (commit_number R t)
]

number_known : (sh : Shape) (R : List Record) (t : ℕ) → AreAllowed sh R → number_in (state_known R t) ≡ stated_number R t
number_known sh R t h =
    elim (is_forgotten R t) as (λ v. number_in (cond v Forgotten (state_of_outcome (outcome_of R t))) ≡ cond v 0 (number_or_zero (commit_number R t))) [ true ↦ refl | false ↦ number_of_outcome sh R t h ]

-- of another one: no entry names it

find_none : {A : Type 0} (p : A → Bool) (xs : List A) (d : A) → ((j : ℕ) → j < length xs → p (get_or xs j d) ≡ false) → find p xs ≡ None
find_none p [] d n = refl
find_none p (x ∷ xs) d n = cond-false _ _ _ (n 0 (omega arith)) ∙ find_none p xs d (λ j m. n (suc j) (omega (arith, m)))

used_names : (R : List Record) (o : Option ℕ) (t : ℕ) → names t (entry_used_by R o) ≡ true → o ≡ Some t
used_names R None t h = absurd (true≢false (sym h))
used_names R (Some u) t h = ap (λ (n : ℕ). Some n) (eqb-true u t h)

not_found : (sh : Shape) (R : List Record) (q : TxnTable) (t : ℕ) → AreAllowed sh R → HoldsTable R q → has_begun R t ≡ false → find (names t) q.entries ≡ None
not_found sh R q t h k n = find_none (names t) q.entries Unused (λ j l. off (names t (entry_at q.entries j)) (λ y. named j l y))
  where
    named : (j : ℕ) → j < length q.entries → names t (entry_at q.entries j) ≡ true → ⊥
    named j l y =
        let count = k.count in
        let table = txn_table sh R h in
        let user = used_names R (user_of R j) t (sym (ap (names t) (k.entries j (omega (arith, l, count)))) ∙ y) in
        clash (has_begun R t) (table.entry_begun t j (table.last t j user).0) n

none_stated : (sh : Shape) (R : List Record) (t : ℕ) → AreAllowed sh R → has_begun R t ≡ false → stated_number R t ≡ 0
none_stated sh R t h n = go (commit_number R t) refl
  where
    go : (o : Option ℕ) → commit_number R t ≡ o → stated_number R t ≡ 0
    go None e = ap (λ x. cond (is_forgotten R t) 0 (number_or_zero x)) e ∙ elim (is_forgotten R t) as (λ v. ◌≡◌ {A = ℕ} (cond v 0 0) 0) [ true ↦ refl | false ↦ refl ]
    go (Some c) e = absurd (clash (has_begun R t) ((txn_table sh R h).done t c e).1 n)

stated_one : (sh : Shape) (R : List Record) (q : TxnTable) (t : ℕ) → AreAllowed sh R → HoldsTable R q → stated_by q t ≡ stated_number R t
stated_one sh R q t h k = elim (cases_Bool (has_begun R t)) [
  | inl b ↦ ap number_in ((tables_tell sh R q h k).state t b) ∙ number_known sh R t h
  | inr n ↦ forgotten n ∙ sym (none_stated sh R t h n)
]
  where
    forgotten : has_begun R t ≡ false → stated_by q t ≡ 0
    forgotten n = elim (nat_le t q.last_txn) as (λ v. number_in (cond v (state_in q.entries t) Forgotten) ≡ 0) [ true ↦ ap (λ x. number_in (state_told x)) (not_found sh R q t h k n) | false ↦ refl ]

pub stated_is : (sh : Shape) (R : List Record) (q : TxnTable) → AreAllowed sh R → HoldsTable R q → stated_by q ≡ stated_number R
stated_is sh R q h k = fun_ext (λ t. stated_one sh R q t h k)

pub settlings_are_told : SettlingsAreTold
settlings_are_told sh R b p q h rows table =
    let e : ended_by q ≡ ended_in R = (tables_tell sh R q h table).ended in
    let s : stated_by q ≡ stated_number R = stated_is sh R q h table in
    record {
      stated = s;
      clean = ap₂ (λ (f : ℕ → Bool) (g : ℕ → ℕ). ended_named f g p.block) e s ∙ ap (ended_named (ended_in R) (stated_number R)) rows.block;
      calls = ap₂ (λ (g : ℕ → ℕ) (x : Block). names_known g x.slots) s rows.block;
      class = λ o. ap₂ (λ (f : ℕ → Bool) (x : Block). class_of_block f (pctfree_of R o) x) e rows.block;
    }
