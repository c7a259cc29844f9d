-- What is known of transactions in a lawful list.
use Rattle.std.proofs.Common.{◌≡◌, ℕ, suc, ◌<◌, ◌≤◌, Bool, true, false, not, ◌&&◌, ◌||◌, eqb, ltb, List, [], ◌∷◌, refl, sym, subst, arith, ◌⊎◌, inl, inr, le_refl, eqb-true, true≢false}
use Rattle.seg_words.proofs.Lemmas.{and_parts, or_cases}
use Rattle.seg_words.specs.Types.{Shape}
use Rattle.redo_model.specs.Records.{Record, Begin, Commit, Ended}
use Rattle.redo_model.specs.Model.{commit_count, txn_count, is_active, is_committed_by, IsKindAllowed, AreAllowed}

-- what is known of a transaction number in a lawful list: whether it is active and has committed, and how many have begun
pub record Known (active committed : Bool) (t begun : ℕ) : Type 0 where
  pub begins : active ≡ true → t ≤ begun
  pub done : committed ≡ true → t ≤ begun
  pub open' : active ≡ true → committed ≡ false

known_step : (sh : Shape) (R : List Record) (r : Record) (s t : ℕ) → ((u : ℕ) → Known (is_active R u) (is_committed_by R s u) u (txn_count R)) → IsKindAllowed sh R r → Known (is_active (r ∷ R) t) (is_committed_by (r ∷ R) s t) t (txn_count (r ∷ R))
known_step sh R (Begin g) s t h a =
    (elim (eqb g.txn t) as (λ v. eqb g.txn t ≡ v → Known (v || is_active R t) (is_committed_by R s t) t (suc (txn_count R))) [
      | true ↦ λ e. let same : g.txn ≡ t = eqb-true _ _ e in let new : g.txn ≡ suc (txn_count R) = a.number in
          record { begins = λ _. omega arith; done = λ c. le_suc t (txn_count R) ((h t).done c); open' = λ _. uncommitted t (txn_count R) _ (omega arith) (h t).done }
      | false ↦ λ e. record { begins = λ x. le_suc t (txn_count R) ((h t).begins x); done = λ x. le_suc t (txn_count R) ((h t).done x); open' = (h t).open' }
    ]) refl
  where
    le_suc : (m n : ℕ) → m ≤ n → m ≤ suc n
    le_suc m n l = omega arith

    uncommitted : (m n : ℕ) (c : Bool) → n < m → (c ≡ true → m ≤ n) → c ≡ false
    uncommitted m n true l f = absurd (let x : m ≤ n = f refl in omega arith)
    uncommitted m n false l f = refl
known_step sh R (Commit c) s t h a =
    (elim (eqb c.txn t) as (λ v. eqb c.txn t ≡ v → Known (not v && is_active R t) (v && ltb (commit_count R) s || is_committed_by R s t) t (txn_count R)) [
      | true ↦ λ e. let same : c.txn ≡ t = eqb-true _ _ e in
          record { begins = λ x. absurd (true≢false (sym x)); done = λ _. subst (λ k. k ≤ txn_count R) same ((h c.txn).begins a.active); open' = λ x. absurd (true≢false (sym x)) }
      | false ↦ λ e. h t
    ]) refl
known_step sh R (Ended e) s t h a =
    elim (eqb e.txn t) as (λ v. Known (not v && is_active R t) (is_committed_by R s t) t (txn_count R)) [
      | true ↦ record { begins = λ x. absurd (true≢false (sym x)); done = (h t).done; open' = λ x. absurd (true≢false (sym x)) }
      | false ↦ h t
    ]
known_step sh R _ s t h a = h t

pub known : (sh : Shape) (R : List Record) (s t : ℕ) → AreAllowed sh R → Known (is_active R t) (is_committed_by R s t) t (txn_count R)
known sh [] s t h = record { begins = λ x. absurd (true≢false (sym x)); done = λ x. absurd (true≢false (sym x)); open' = λ x. refl }
known sh (r ∷ R) s t h = known_step sh R r s t (λ u. known sh R s u h.0) h.1.kind

-- who is active after a record

pub record Turn (R : List Record) (r : Record) : Type 0 where
  pub more : txn_count R ≤ txn_count (r ∷ R)
  pub live : (u : ℕ) → is_active (r ∷ R) u ≡ true → (is_active R u ≡ true) ⊎ (txn_count R < u)

pub turn : (sh : Shape) (R : List Record) (r : Record) → IsKindAllowed sh R r → Turn R r
turn sh R (Begin g) a = record {
  more = omega arith;
  live = λ u h. elim (or_cases (eqb g.txn u) (is_active R u) h) [ inl y ↦ inr (let e : g.txn ≡ u = eqb-true _ _ y in let n : g.txn ≡ suc (txn_count R) = a.number in omega arith) | inr z ↦ inl z ];
}
turn sh R (Commit c) a = record { more = le_refl _; live = λ u h. inl (and_parts (not (eqb c.txn u)) (is_active R u) h).1 }
turn sh R (Ended e) a = record { more = le_refl _; live = λ u h. inl (and_parts (not (eqb e.txn u)) (is_active R u) h).1 }
turn sh R _ a = record { more = le_refl _; live = λ u h. inl h }
