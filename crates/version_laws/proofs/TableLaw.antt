-- What block 1 tells of a transaction that has begun.
use Rattle.std.proofs.Common.{◌≡◌, ◌⊎◌, ℕ, zero, suc, ◌<◌, ◌≤◌, Bool, true, false, cond, not, nat_le, List, [], ◌∷◌, length, get_or, find, position, nat_lt, Option, Some, None, refl, sym, ◌∙◌, ap, arith, inl, inr, lt-ltb, le-leb, true≢false, eqb-true, eq-eqb}
use Rattle.seg_words.specs.Types.{position_or_len, Shape, TXN_ENTRIES}
use Rattle.seg_words.proofs.Lemmas.{cases_Bool, cond-true, cond-false}
use Rattle.std.proofs.lemmas.List.Sums.{position_or_len_is}
use mathlib.Core.Path.{fun_ext}
use Rattle.redo_model.specs.Records.{Record}
use Rattle.redo_model.specs.Model.{is_active, has_begun, commit_number, ended_in, entry_of, user_of, is_forgotten, last_undo, AreAllowed}
use Rattle.redo_laws.proofs.numbers.TxnTable.{txn_table}
use Rattle.txn_block.specs.declared.entry.TableEntry.{TableEntry}
use Rattle.txn_block.specs.declared.entry.TableEntry.TheVariants.{Unused}
use Rattle.txn_block.specs.declared.entry.State.TheVariants.{Forgotten}
use Rattle.txn_block.specs.declared.entry.Outcome.TheVariants.{Active}
use Rattle.txn_block.specs.Types.{names, state_told, state_in, undo_told, last_undo_in, state_of_outcome, TxnTable, entry_at}
use Rattle.version_laws.specs.Types.{TablesTell, state_known, is_over, ended_by, HoldsTable, entry_used_by, outcome_of, outcome_when_over}

-- lists

find_first : {A : Type 0} (p : A → Bool) (xs : List A) (i : ℕ) (d : A) → i < length xs → ((j : ℕ) → j < i → p (get_or xs j d) ≡ false) → p (get_or xs i d) ≡ true → find p xs ≡ Some (get_or xs i d)
find_first p [] i d l n h = absurd (omega arith)
find_first p (x ∷ xs) zero d l n h = cond-true _ _ _ h
find_first p (x ∷ xs) (suc i) d l n h = cond-false _ _ _ (n 0 (omega arith)) ∙ find_first p xs i d (omega arith) (λ j m. n (suc j) (omega arith)) h

find_none : {A : Type 0} (p : A → Bool) (xs : List A) (d : A) → ((j : ℕ) → j < length xs → p (get_or xs j d) ≡ false) → find p xs ≡ None
find_none p [] d n = refl
find_none p (x ∷ xs) d n = cond-false _ _ _ (n 0 (omega arith)) ∙ find_none p xs d (λ j m. n (suc j) (omega arith))

-- entries

used_names : (R : List Record) (o : Option ℕ) (t : ℕ) → names t (entry_used_by R o) ≡ true → o ≡ Some t
used_names R None t h = absurd (true≢false (sym h))
used_names R (Some u) t h = ap (λ (n : ℕ). Some n) (eqb-true u t h)

-- only the transaction's own entry names it
others : (R : List Record) (p : TxnTable) (t j : ℕ) → HoldsTable R p → j < TXN_ENTRIES → names t (entry_at p.entries j) ≡ true → user_of R j ≡ Some t
others R p t j h l e = used_names R (user_of R j) t (sym (ap (names t) (h.entries j l)) ∙ e)

record Named (R : List Record) (p : TxnTable) (t : ℕ) : Type 0 where
  entry : ℕ
  is : entry_of R t ≡ Some entry
  within : entry < TXN_ENTRIES
  at : entry_at p.entries entry ≡ entry_used_by R (Some t)
  first : (j : ℕ) → j < entry → names t (entry_at p.entries j) ≡ false

named : (sh : Shape) (R : List Record) (p : TxnTable) (t : ℕ) → AreAllowed sh R → HoldsTable R p → has_begun R t ≡ true → is_forgotten R t ≡ false → Named R p t
named sh R p t a h b f =
    let table = txn_table sh R a in
    let i = table.entered t b in
    record {
      entry = i.0;
      is = i.1;
      within = i.2;
      at = h.entries i.0 i.2 ∙ ap (entry_used_by R) (table.user t i.0 i.1 f);
      first = λ j l. not_named j l (cases_Bool (names t (entry_at p.entries j)));
    }
  where
    not_named : (j : ℕ) → j < ((txn_table sh R a).entered t b).0 → (names t (entry_at p.entries j) ≡ true) ⊎ (names t (entry_at p.entries j) ≡ false) → names t (entry_at p.entries j) ≡ false
    not_named j l (inl y) =
        let table = txn_table sh R a in
        let i = table.entered t b in
        let e : ◌≡◌ {A = Option ℕ} (Some i.0) (Some j) = sym i.1 ∙ (table.last t j (others R p t j h (let k = i.2 in omega (arith, k, l)) y)).0 in
        let same : i.0 ≡ j = cc in
        absurd (omega (arith, l, same))
    not_named j l (inr n) = n

found : (sh : Shape) (R : List Record) (p : TxnTable) (t : ℕ) → AreAllowed sh R → HoldsTable R p → has_begun R t ≡ true → is_forgotten R t ≡ false → find (names t) p.entries ≡ Some (entry_used_by R (Some t))
found sh R p t a h b f =
    let n = named sh R p t a h b f in
    let within : n.entry < length p.entries = (let c = h.count in let w = n.within in omega (arith, c, w)) in
    find_first (names t) p.entries n.entry Unused within n.first (ap (names t) n.at ∙ eq-eqb t t refl) ∙ ap (λ (x : TableEntry). Some x) n.at

found_none : (sh : Shape) (R : List Record) (p : TxnTable) (t : ℕ) → AreAllowed sh R → HoldsTable R p → is_forgotten R t ≡ true → find (names t) p.entries ≡ None
found_none sh R p t a h f = find_none (names t) p.entries Unused (λ j l. not_named j (let c = h.count in omega (arith, c, l)) (cases_Bool (names t (entry_at p.entries j))))
  where
    not_named : (j : ℕ) → j < TXN_ENTRIES → (names t (entry_at p.entries j) ≡ true) ⊎ (names t (entry_at p.entries j) ≡ false) → names t (entry_at p.entries j) ≡ false
    not_named j l (inl y) = absurd (true≢false (sym f ∙ ((txn_table sh R a).last t j (others R p t j h l y)).1))
    not_named j l (inr n) = n

pub state_is : (sh : Shape) (R : List Record) (p : TxnTable) (t : ℕ) → AreAllowed sh R → HoldsTable R p → has_begun R t ≡ true → state_in p.entries t ≡ state_known R t
state_is sh R p t a h b = elim (cases_Bool (is_forgotten R t)) [
  | inl f ↦ ap state_told (found_none sh R p t a h f) ∙ sym (cond-true _ _ _ f)
  | inr f ↦ ap state_told (found sh R p t a h b f) ∙ sym (cond-false _ _ _ f)
]

pub begun_within : (sh : Shape) (R : List Record) (p : TxnTable) (t : ℕ) → AreAllowed sh R → HoldsTable R p → has_begun R t ≡ true → t ≤ p.last_txn
begun_within sh R p t a h b = let m = (txn_table sh R a).most t b in let e = h.last_txn in omega (arith, m, e)

-- of an active transaction

pub undo_is : (sh : Shape) (R : List Record) (p : TxnTable) (t : ℕ) → AreAllowed sh R → HoldsTable R p → is_active R t ≡ true → last_undo_in p.entries t ≡ last_undo R t
undo_is sh R p t a h on = let table = txn_table sh R a in ap undo_told (found sh R p t a h (table.begun t on) (table.kept t on))

pub entry_is : (sh : Shape) (R : List Record) (p : TxnTable) (t : ℕ) → AreAllowed sh R → HoldsTable R p → is_active R t ≡ true → position (names t) p.entries ≡ entry_of R t
entry_is sh R p t a h on =
    let table = txn_table sh R a in
    let n = named sh R p t a h (table.begun t on) (table.kept t on) in
    let within : n.entry < length p.entries = (let c = h.count in let w = n.within in omega (arith, c, w)) in
    let first : position_or_len (names t) p.entries ≡ n.entry = position_or_len_is (names t) p.entries n.entry Unused (omega (arith, within)) n.first (λ _. ap (names t) n.at ∙ eq-eqb t t refl) in
    ap (λ (m : ℕ). cond (nat_lt m (length p.entries)) (Some m) None) first ∙ cond-true _ _ _ (lt-ltb n.entry (length p.entries) within) ∙ sym n.is

-- who has ended

over_outcome : (R : List Record) (t : ℕ) → is_over (state_of_outcome (outcome_of R t)) ≡ not (is_active R t)
over_outcome R t = elim (is_active R t) as (λ v. is_over (state_of_outcome (cond v Active (outcome_when_over (commit_number R t)))) ≡ not v) [ true ↦ refl | false ↦ over (commit_number R t) ]
  where
    over : (o : Option ℕ) → is_over (state_of_outcome (outcome_when_over o)) ≡ true
    over None = refl
    over (Some c) = refl

over_known : (sh : Shape) (R : List Record) (t : ℕ) → AreAllowed sh R → is_over (state_known R t) ≡ not (is_active R t)
over_known sh R t a = (elim (is_forgotten R t) as (λ v. is_forgotten R t ≡ v → is_over (cond v Forgotten (state_of_outcome (outcome_of R t))) ≡ not (is_active R t)) [
  | true ↦ λ f. sym (ap not (inactive f (cases_Bool (is_active R t))))
  | false ↦ λ f. over_outcome R t
]) refl
  where
    inactive : is_forgotten R t ≡ true → (is_active R t ≡ true) ⊎ (is_active R t ≡ false) → is_active R t ≡ false
    inactive f (inl on) = absurd (true≢false (sym f ∙ (txn_table sh R a).kept t on))
    inactive f (inr n) = n

not_begun : (sh : Shape) (R : List Record) (t : ℕ) → AreAllowed sh R → has_begun R t ≡ false → is_active R t ≡ false
not_begun sh R t a n = go (cases_Bool (is_active R t))
  where
    go : (is_active R t ≡ true) ⊎ (is_active R t ≡ false) → is_active R t ≡ false
    go (inl on) = absurd (true≢false (sym ((txn_table sh R a).begun t on) ∙ n))
    go (inr x) = x

not_named : (sh : Shape) (R : List Record) (p : TxnTable) (t : ℕ) → AreAllowed sh R → HoldsTable R p → has_begun R t ≡ false → find (names t) p.entries ≡ None
not_named sh R p t a h n = find_none (names t) p.entries Unused (λ j l. go j (let c = h.count in omega (arith, c, l)) (cases_Bool (names t (entry_at p.entries j))))
  where
    go : (j : ℕ) → j < TXN_ENTRIES → (names t (entry_at p.entries j) ≡ true) ⊎ (names t (entry_at p.entries j) ≡ false) → names t (entry_at p.entries j) ≡ false
    go j l (inl y) = let table = txn_table sh R a in absurd (true≢false (sym (table.entry_begun t j (table.last t j (others R p t j h l y)).0) ∙ n))
    go j l (inr x) = x

ended_one : (sh : Shape) (R : List Record) (p : TxnTable) (t : ℕ) → AreAllowed sh R → HoldsTable R p → ended_by p t ≡ not (is_active R t)
ended_one sh R p t a h = elim (cases_Bool (has_begun R t)) [
  | inl b ↦ ap is_over (cond-true _ _ _ (le-leb t p.last_txn (begun_within sh R p t a h b)) ∙ state_is sh R p t a h b) ∙ over_known sh R t a
  | inr n ↦ forgotten n ∙ sym (ap not (not_begun sh R t a n))
]
  where
    forgotten : has_begun R t ≡ false → ended_by p t ≡ true
    forgotten n = elim (nat_le t p.last_txn) as (λ v. is_over (cond v (state_in p.entries t) Forgotten) ≡ true) [ true ↦ ap (λ o. is_over (state_told o)) (not_named sh R p t a h n) | false ↦ refl ]

-- as one equation of functions, by which all that is asked of blocks goes over to the list
pub ended_is : (sh : Shape) (R : List Record) (p : TxnTable) → AreAllowed sh R → HoldsTable R p → ended_by p ≡ ended_in R
ended_is sh R p a h = fun_ext (λ t. ended_one sh R p t a h)

pub tables_tell : TablesTell
tables_tell sh R p a h = record {
  entry_state = λ t b. state_is sh R p t a h b;
  state = λ t b. cond-true _ _ _ (le-leb t p.last_txn (begun_within sh R p t a h b)) ∙ state_is sh R p t a h b;
  undo = λ t on. undo_is sh R p t a h on;
  entry = λ t on. entry_is sh R p t a h on;
  ended = ended_is sh R p a h;
}
